use Rattle.std.proofs.Common.{ℕ, ◌+◌, ◌≤◌, length, take, drop, vec_len, vec_capacity}
use Rattle.foyer_policy.specs.Items.{count_of}
use Rattle.foyer_core.specs.Stores.{state_of}
use Rattle.foyer_core.specs.Bulk.{Says}
use Rattle.foyer_core.proofs.Picking.{PickedSoFar}
use Rattle.foyer_core.proofs.store.Store.pick.Given as goal

abbrev pub invariant-loop-item : goal.invariant-loop-item
invariant-loop-item g l = record {
  picked : PickedSoFar (Says g.F.Fn l.predicate) (state_of l.self) (take l.item-index l.item-items) l.picked.items;
  rest : (id : ℕ) → count_of id (drop l.item-index l.item-items) ≤ count_of id
      (g.E.Eviction.model.order (g.E.Eviction.view l.self.eviction));
  room : vec_len l.picked + length (drop l.item-index l.item-items) ≤ vec_capacity l.picked;
}
