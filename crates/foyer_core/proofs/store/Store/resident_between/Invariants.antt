use Rattle.std.proofs.Common.{◌≡◌, ℕ, ◌≤◌, ◌<◌, Some, false}
use Rattle.foyer_core.specs.Records.{slot_in}
use Rattle.foyer_core.specs.Values.{Kept}
use Rattle.foyer_core.proofs.store.Store.resident_between.Given as goal

-- no record of the slots so far is in the index
abbrev pub invariant-loop-slot : goal.invariant-loop-slot
invariant-loop-slot g l = (n : ℕ) (x : Kept g.row.K.Denot g.row.V.Denot g.row.P.Denot) → l.fn.first ≤ n → n < l.slot
    → slot_in l.self.records n ≡ Some x → x.resident ≡ false
