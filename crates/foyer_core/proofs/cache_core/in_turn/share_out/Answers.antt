use Rattle.std.proofs.Common.{◌∙◌, None, map, vec_len, arith}
use Rattle.foyer_core.specs.Core.{share_of}
use Rattle.foyer_core.specs.Shards.{opens_of, state_of}
use Rattle.foyer_core.specs.Stored.{meaning}
use Rattle.foyer_core.proofs.SharingOut.{updated-over, over-shared}
use Rattle.foyer_core.proofs.Zips.{map-write}
use Rattle.foyer_core.proofs.cache_core.in_turn.share_out.Goals as goal

pub loop-place-preserved : goal.loop-place-preserved
loop-place-preserved g c =
    let m = meaning g.K.PartialEq.eq g.E.Eviction.model g.P.Properties.hint_of g.P.Properties.phantom_of g.P.Properties.expiry_of in
    let now = c.loop-place.shards in
    record {
      begun = updated-over m (λ i s. share_of c.args.capacity c.len-count.result i) None state_of
          (map state_of c.args.shards.now.items) now.items c.loop-place.place c.index_mut.result.now
          c.set_capacity.new.self (vec_len now) c.shard_capacity.result
          now.ok.0 (omega arith) c.index_mut.ensures.value c.loop-place.invariant.begun c.set_capacity.ensures.set
          c.shard_capacity.ensures;
      opens = map-write opens_of c.loop-place.shards.items (vec_len c.loop-place.shards) c.loop-place.place
          c.index_mut.result.now c.set_capacity.new.self c.loop-place.shards.ok.0 (omega arith)
          c.index_mut.ensures.value c.set_capacity.ensures.opens ∙ c.loop-place.invariant.opens;
      len = c.loop-place.invariant.len;
    }

pub returns-clause-shares : goal.returns-clause-shares
returns-clause-shares g c =
    let m = meaning g.K.PartialEq.eq g.E.Eviction.model g.P.Properties.hint_of g.P.Properties.phantom_of g.P.Properties.expiry_of in
    let old = c.args.shards.now in
    over-shared m state_of old.items (map state_of c.loop-place.shards.items) c.loop-place.place (omega arith)
    c.args.capacity c.len-count.result (omega arith) c.loop-place.invariant.begun
