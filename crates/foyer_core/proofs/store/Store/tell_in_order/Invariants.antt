use Rattle.std.proofs.Common.{◌≡◌, ℕ, ◌<◌, ◌≤◌, Some, drop, take}
use Rattle.foyer_policy.specs.Items.{count_of}
use Rattle.foyer_core.specs.Questions.{IsTold}
use Rattle.foyer_core.specs.Stores.{state_of}
use Rattle.foyer_core.specs.Values.{Rec}
use Rattle.foyer_core.proofs.store.Store.tell_in_order.Given as goal

-- the records of the items so far were told, and the others are in
abbrev pub invariant-loop-item : goal.invariant-loop-item
invariant-loop-item g l = record {
  told : (id : ℕ) (r : Rec g.row.K.Denot g.row.V.Denot g.row.P.Denot) → 0 < count_of id (take l.item-index l.items) →
      (state_of l.self).records id ≡ Some r → IsTold g.F.Fn l.tell r.kept.key r.kept.value;
  rest : (id : ℕ) → count_of id (drop l.item-index l.items) ≤ count_of id
      (g.E.Eviction.model.order (g.E.Eviction.view l.self.eviction));
}
