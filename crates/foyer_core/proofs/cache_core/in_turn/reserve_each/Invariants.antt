use Rattle.std.proofs.Common.{◌≡◌, map, take, vec_len, vec_capacity}
use Rattle.std.specs.List.{AllZip}
use Rattle.foyer_core.specs.Shards.{opens_of, state_of}
use Rattle.foyer_core.proofs.cache_core.in_turn.reserve_each.Given as goal

-- the shards so far are ready, and nothing else changed
abbrev pub invariant-loop-place : goal.invariant-loop-place
invariant-loop-place g l = record {
  same : map state_of l.shards.items ≡ map state_of l.fn.shards.items;
  opens : map opens_of l.shards.items ≡ map opens_of l.fn.shards.items;
  len : vec_len l.shards ≡ vec_len l.fn.shards;
  ready : AllZip
      (λ s list. g.E.Eviction.can_clear s.store.eviction
      × (list.items ≡ g.E.Eviction.model.order (g.E.Eviction.view s.store.eviction)))
      (take l.place l.shards.items) l.lists.items;
  many : vec_len l.lists ≡ l.place;
  room : vec_capacity l.lists ≡ vec_len l.fn.shards;
}
