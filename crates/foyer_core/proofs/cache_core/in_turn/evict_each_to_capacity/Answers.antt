use Rattle.std.proofs.Common.{◌∙◌, ◌+◌, arith, vec_len}
use Rattle.std.specs.Prelude.{OnErr, map, slice_set}
use Rattle.foyer_core.specs.Bulk.{GoesOn}
use Rattle.foyer_core.specs.CoreBulk.{InTurn, InTurnUntil, EvictsToCapacity, EvictingToCapacity}
use Rattle.foyer_core.specs.Shards.{opens_of, state_of}
use Rattle.foyer_core.specs.State.{at_moment}
use Rattle.foyer_core.specs.Stored.{meaning}
use Rattle.foyer_core.proofs.InTurn.{InFirst, over-more, over-until, over-all}
use Rattle.foyer_core.proofs.StoredLemmas.{err_is}
use Rattle.foyer_core.proofs.Told.{goes_on, goes_so}
use Rattle.foyer_core.proofs.Zips.{map-write}
use Rattle.foyer_core.proofs.cache_core.in_turn.evict_each_to_capacity.Goals as goal

pub returns-in_err-evict_to_capacity-clause-refused : goal.returns-in_err-evict_to_capacity-clause-refused
returns-in_err-evict_to_capacity-clause-refused g c =
    let m = at_moment c.args.now
    (meaning g.K.PartialEq.eq g.E.Eviction.model g.P.Properties.hint_of g.P.Properties.phantom_of g.P.Properties.expiry_of) in
    let ss = map state_of c.args.shards.now.items in
    let now = c.loop-place.shards in
    let n = c.loop-place.place in
    let x = c.index_mut.result.now in
    let y = c.evict_to_capacity.new.self in
    err_is c.from_residual.result c.in_err-evict_to_capacity.field-0.0
    (λ r. OnErr r
    (GoesOn c.args.leaves.now.items c.evict_to_capacity.new.leaves.items
    (λ ls. InTurnUntil (EvictsToCapacity m) (EvictingToCapacity m) ss ls
    (map state_of (slice_set now.items n y)))))
    c.from_residual.ensures.1
    (goes_on c.args.leaves.now.items c.loop-place.leaves.items c.evict_to_capacity.new.leaves.items
    (λ ls. InFirst (EvictsToCapacity m) n ss ls (map state_of now.items))
    (λ ls. EvictingToCapacity m (state_of x) ls (state_of y))
    (λ ls. InTurnUntil (EvictsToCapacity m) (EvictingToCapacity m) ss ls (map state_of (slice_set now.items n y)))
    (λ ls more h did. over-until state_of (EvictsToCapacity m) ss ls now.items (vec_len now) n x y more now.ok.0
    (omega arith) c.index_mut.ensures.value (EvictingToCapacity m) h did)
    c.loop-place.invariant.begun c.in_err-evict_to_capacity.ensures.refused)

pub returns-in_err-evict_to_capacity-clause-opens : goal.returns-in_err-evict_to_capacity-clause-opens
returns-in_err-evict_to_capacity-clause-opens g c =
    let now = c.loop-place.shards in
    map-write opens_of now.items (vec_len now) c.loop-place.place c.index_mut.result.now c.evict_to_capacity.new.self
    now.ok.0 (omega arith) c.index_mut.ensures.value c.evict_to_capacity.ensures.opens
    ∙ c.loop-place.invariant.opens

pub loop-place-preserved : goal.loop-place-preserved
loop-place-preserved g c =
    let m = at_moment c.args.now
    (meaning g.K.PartialEq.eq g.E.Eviction.model g.P.Properties.hint_of g.P.Properties.phantom_of g.P.Properties.expiry_of) in
    let ss = map state_of c.args.shards.now.items in
    let now = c.loop-place.shards in
    let n = c.loop-place.place in
    let x = c.index_mut.result.now in
    let y = c.evict_to_capacity.new.self in
    record {
      begun = goes_on c.args.leaves.now.items c.loop-place.leaves.items c.evict_to_capacity.new.leaves.items
          (λ ls. InFirst (EvictsToCapacity m) n ss ls (map state_of now.items))
          (λ ls. EvictsToCapacity m (state_of x) ls (state_of y))
          (λ ls. InFirst (EvictsToCapacity m) (n + 1) ss ls (map state_of (slice_set now.items n y)))
          (λ ls more h did. over-more state_of (EvictsToCapacity m) ss ls now.items (vec_len now) n x y more now.ok.0
          (omega arith) c.index_mut.ensures.value h did)
          c.loop-place.invariant.begun c.in_ok-evict_to_capacity.ensures.done;
      opens = map-write opens_of c.loop-place.shards.items (vec_len c.loop-place.shards) c.loop-place.place
          c.index_mut.result.now c.evict_to_capacity.new.self c.loop-place.shards.ok.0 (omega arith)
          c.index_mut.ensures.value c.evict_to_capacity.ensures.opens ∙ c.loop-place.invariant.opens;
      len = c.loop-place.invariant.len;
    }

pub returns-clause-done : goal.returns-clause-done
returns-clause-done g c =
    let m = at_moment c.args.now
    (meaning g.K.PartialEq.eq g.E.Eviction.model g.P.Properties.hint_of g.P.Properties.phantom_of g.P.Properties.expiry_of) in
    let old = c.args.shards.now in
    let ss = map state_of c.loop-place.shards.items in
    goes_so c.args.leaves.now.items c.loop-place.leaves.items
    (λ ls. InFirst (EvictsToCapacity m) c.loop-place.place (map state_of old.items) ls ss)
    (λ ls. InTurn (EvictsToCapacity m) (map state_of old.items) ls ss)
    (λ ls h. over-all state_of (EvictsToCapacity m) old.items ls ss c.loop-place.place (omega arith) h)
    c.loop-place.invariant.begun
