use Rattle.std.proofs.Common.{◌≡◌, Some, map, vec_len}
use Rattle.foyer_core.specs.Shards.{opens_of, state_of}
use Rattle.foyer_core.specs.Stored.{meaning}
use Rattle.foyer_core.proofs.SharingOut.{UpdatedFirst}
use Rattle.foyer_core.proofs.cache_core.in_turn.configure_each.Given as goal

-- the shards so far have the configuration
abbrev pub invariant-loop-place : goal.invariant-loop-place
invariant-loop-place g l = record {
  begun : UpdatedFirst (meaning g.K.PartialEq.eq g.E.Eviction.model g.P.Properties.hint_of g.P.Properties.phantom_of g.P.Properties.expiry_of)
      (λ i s. s.capacity) (Some l.config) l.place (map state_of l.fn.shards.items) (map state_of l.shards.items);
  opens : map opens_of l.shards.items ≡ map opens_of l.fn.shards.items;
  len : vec_len l.shards ≡ vec_len l.fn.shards;
}
