use Rattle.std.proofs.Common.{◌≡◌, ◌<◌, ◌∙◌, length, vec_len, arith}
use Rattle.foyer_core.specs.Shards.{opens_of, state_of}
use Rattle.foyer_core.proofs.Zips.{zip-write, map-write}
use Rattle.foyer_core.proofs.cache_core.in_turn.reserve_each.Goals as goal

pub returns-in_err-reserve_clear-clause-same : goal.returns-in_err-reserve_clear-clause-same
returns-in_err-reserve_clear-clause-same g c =
    let now = c.loop-place.shards in
    map-write state_of now.items (vec_len now) c.loop-place.place c.index_mut.result.now c.reserve_clear.new.self
    now.ok.0 (omega arith) c.index_mut.ensures.value c.reserve_clear.ensures.same
    ∙ c.loop-place.invariant.same

pub returns-in_err-reserve_clear-clause-opens : goal.returns-in_err-reserve_clear-clause-opens
returns-in_err-reserve_clear-clause-opens g c =
    let now = c.loop-place.shards in
    map-write opens_of now.items (vec_len now) c.loop-place.place c.index_mut.result.now c.reserve_clear.new.self
    now.ok.0 (omega arith) c.index_mut.ensures.value c.reserve_clear.ensures.opens
    ∙ c.loop-place.invariant.opens

pub loop-place-preserved : goal.loop-place-preserved
loop-place-preserved g c =
    let now = c.loop-place.shards in
    let n = c.loop-place.place in
    let y = c.reserve_clear.new.self in
    let less : n < length now.items = omega (arith, now.ok.0) in
    record {
      same = map-write state_of now.items (vec_len now) n c.index_mut.result.now y now.ok.0 (omega arith)
          c.index_mut.ensures.value c.reserve_clear.ensures.same ∙ c.loop-place.invariant.same;
      opens = map-write opens_of now.items (vec_len now) n c.index_mut.result.now y now.ok.0 (omega arith)
          c.index_mut.ensures.value c.reserve_clear.ensures.opens ∙ c.loop-place.invariant.opens;
      len = c.loop-place.invariant.len;
      ready = rw c.push_reserved.ensures.items
          (zip-write
          (λ s list. g.E.Eviction.can_clear s.store.eviction
          × (list.items ≡ g.E.Eviction.model.order (g.E.Eviction.view s.store.eviction))) now.items
          c.loop-place.lists.items n y c.in_ok-reserve_clear.field-0 less
          c.loop-place.invariant.ready (c.in_ok-reserve_clear.ensures.can_clear, c.in_ok-reserve_clear.ensures.items));
      many = omega (arith, c.push_reserved.ensures.len, c.loop-place.invariant.many);
      room = c.push_reserved.ensures.capacity ∙ c.loop-place.invariant.room;
    }
