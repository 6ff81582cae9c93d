use Rattle.std.proofs.Common.{◌∙◌, ◌+◌, ◌<◌, length, map, vec_len, refl, arith}
use Rattle.std.proofs.lemmas.List.{drop-set-lt}
use Rattle.std.proofs.lemmas.Slice.Zip.{AllZip-long}
use Rattle.foyer_policy.specs.Items.{IsWithin}
use Rattle.foyer_core.specs.Bulk.{EvictsIf, Picks, Says}
use Rattle.foyer_core.specs.Shards.{opens_of, state_of}
use Rattle.foyer_core.specs.Stored.{meaning}
use Rattle.foyer_core.proofs.InTurn.{over-more, over-all}
use Rattle.foyer_core.proofs.Zips.{zip-next, sum-next, map-write}
use Rattle.foyer_core.proofs.cache_core.in_turn.evict_each_if.Goals as goal

pub loop-place-init : goal.loop-place-init
loop-place-init g c =
    let m = meaning g.K.PartialEq.eq g.E.Eviction.model g.P.Properties.hint_of g.P.Properties.phantom_of g.P.Properties.expiry_of in
    let says = Says g.F.Fn c.args.predicate.now in
    let shards = c.args.shards.now in
    let lists = c.in_ok-picked.picked in
    let picked = rw c.deref.ensures.value at c.in_ok-picked.ensures.picks in
    let long = AllZip-long
    (λ s list. Picks m says (state_of s) list.items
    × IsWithin list.items (g.E.Eviction.model.order (g.E.Eviction.view s.store.eviction))) shards.items
    lists.items picked in
    record {
      begun = (c.in_ok-leaves.ensures.empty, refl);
      opens = refl;
      len = refl;
      picked = picked;
      long = omega (arith, long, shards.ok.0, lists.ok.0);
      room = omega (arith, c.in_ok-leaves.ensures.none, rw c.deref-2.ensures.value at c.in_ok-leaves.ensures.room);
    }

pub evict_picked-requires-clause-within : goal.evict_picked-requires-clause-within
evict_picked-requires-clause-within g c κs within =
    let m = meaning g.K.PartialEq.eq g.E.Eviction.model g.P.Properties.hint_of g.P.Properties.phantom_of g.P.Properties.expiry_of in
    let says = Says g.F.Fn c.args.predicate.now in
    let now = c.loop-place.shards in
    let lists = c.in_ok-picked.picked in
    let n = c.loop-place.place in
    let less : n < length now.items = omega (arith, now.ok.0) in
    let less' : n < length lists.items = omega (arith, lists.ok.0, c.loop-place.invariant.long) in
    let next = zip-next
    (λ s l. Picks m says (state_of s) l.items
    × IsWithin l.items (g.E.Eviction.model.order (g.E.Eviction.view s.store.eviction))) now.items lists.items
    n c.index_mut.result.now c.index.result.now less less'
    c.index_mut.ensures.value c.index.ensures c.loop-place.invariant.picked in
    rw c.deref-in-loop-place.ensures.value next.0.1

pub loop-place-preserved : goal.loop-place-preserved
loop-place-preserved g c =
    let m = meaning g.K.PartialEq.eq g.E.Eviction.model g.P.Properties.hint_of g.P.Properties.phantom_of g.P.Properties.expiry_of in
    let says = Says g.F.Fn c.args.predicate.now in
    let ss = map state_of c.args.shards.now.items in
    let now = c.loop-place.shards in
    let lists = c.in_ok-picked.picked in
    let n = c.loop-place.place in
    let x = c.index_mut.result.now in
    let y = c.evict_picked.new.self in
    let list = c.index.result.now in
    let told = c.evict_picked.ensures.told in
    let less : n < length now.items = omega (arith, now.ok.0) in
    let less' : n < length lists.items = omega (arith, lists.ok.0, c.loop-place.invariant.long) in
    let next = zip-next
    (λ s l. Picks m says (state_of s) l.items
    × IsWithin l.items (g.E.Eviction.model.order (g.E.Eviction.view s.store.eviction))) now.items lists.items
    n x list less less'
    c.index_mut.ensures.value c.index.ensures c.loop-place.invariant.picked in
    record {
      begun = rw told.told
          (over-more state_of (EvictsIf m says) ss c.loop-place.leaves.items now.items (vec_len now) n x y told.more
          now.ok.0 (omega arith) c.index_mut.ensures.value c.loop-place.invariant.begun
          (record {
            picked = list.items;
            picks = next.0.0;
            leave =
                rw c.deref-in-loop-place.ensures.value at told.so;
          }));
      opens = map-write opens_of c.loop-place.shards.items (vec_len c.loop-place.shards) c.loop-place.place
          c.index_mut.result.now c.evict_picked.new.self c.loop-place.shards.ok.0 (omega arith)
          c.index_mut.ensures.value c.evict_picked.ensures.opens ∙ c.loop-place.invariant.opens;
      len = c.loop-place.invariant.len;
      picked = rw (drop-set-lt (n + 1) now.items n y (omega arith)) next.1;
      long = c.loop-place.invariant.long;
      room = omega (
        arith,
        sum-next (λ l. vec_len l) lists.items n list less' c.index.ensures,
        c.evict_picked.ensures.len,
        c.evict_picked.ensures.capacity,
        c.loop-place.invariant.room,
      );
    }

pub returns-clause-done : goal.returns-clause-done
returns-clause-done g c =
    let m = meaning g.K.PartialEq.eq g.E.Eviction.model g.P.Properties.hint_of g.P.Properties.phantom_of g.P.Properties.expiry_of in
    let says = Says g.F.Fn c.args.predicate.now in
    over-all state_of (EvictsIf m says) c.args.shards.now.items c.loop-place.leaves.items
    (map state_of c.loop-place.shards.items) c.loop-place.place (omega arith) c.loop-place.invariant.begun
