use Rattle.std.proofs.Common.{◌≡◌, ◌+◌, ◌≤◌, map, drop, sum_by, vec_len, vec_capacity}
use Rattle.std.specs.List.{AllZip}
use Rattle.foyer_policy.specs.Items.{IsWithin}
use Rattle.foyer_core.specs.Bulk.{EvictsIf, Picks, Says}
use Rattle.foyer_core.specs.Shards.{opens_of, state_of}
use Rattle.foyer_core.specs.Stored.{meaning}
use Rattle.foyer_core.proofs.InTurn.{InFirst}
use Rattle.foyer_core.proofs.cache_core.in_turn.evict_each_if.Given as goal

-- of the shards so far what was picked has left, and of the others it is picked
abbrev pub invariant-loop-place : goal.invariant-loop-place
invariant-loop-place g l = record {
  begun : InFirst
      (EvictsIf (meaning g.K.PartialEq.eq g.E.Eviction.model g.P.Properties.hint_of g.P.Properties.phantom_of g.P.Properties.expiry_of)
      (Says g.F.Fn l.predicate)) l.place (map state_of l.fn.shards.items) l.leaves.items
      (map state_of l.shards.items);
  opens : map opens_of l.shards.items ≡ map opens_of l.fn.shards.items;
  len : vec_len l.shards ≡ vec_len l.fn.shards;
  picked : AllZip
      (λ s list. Picks (meaning g.K.PartialEq.eq g.E.Eviction.model g.P.Properties.hint_of g.P.Properties.phantom_of g.P.Properties.expiry_of)
      (Says g.F.Fn l.predicate) (state_of s) list.items
      × IsWithin list.items (g.E.Eviction.model.order (g.E.Eviction.view s.store.eviction)))
      (drop l.place l.shards.items) (drop l.place l.picked.items);
  long : vec_len l.picked ≡ vec_len l.fn.shards;
  room : vec_len l.leaves + sum_by (λ list. vec_len list) (drop l.place l.picked.items) ≤ vec_capacity l.leaves;
}
