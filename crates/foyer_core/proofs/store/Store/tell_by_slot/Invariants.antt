use Rattle.std.proofs.Common.{◌≡◌, ℕ, Some, true, ◌⊎◌, Contains}
use Rattle.foyer_core.specs.Questions.{IsTold}
use Rattle.foyer_core.specs.Records.{slot_in}
use Rattle.foyer_core.specs.Values.{Kept}
use Rattle.foyer_core.proofs.store.Store.tell_by_slot.Given as goal

-- a slot's record that is in the index was told, or is still to come
abbrev pub invariant-loop-slot : goal.invariant-loop-slot
invariant-loop-slot g l = (n : ℕ) (x : Kept g.row.K.Denot g.row.V.Denot g.row.P.Denot) → slot_in l.self.records n
    ≡ Some x → x.resident ≡ true
    → IsTold g.F.Fn l.tell x.kept.key x.kept.value ⊎ Contains l.slot-iterator (n, x)
