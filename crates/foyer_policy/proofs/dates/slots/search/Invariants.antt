use Rattle.std.proofs.Common.{◌≡◌, ◌≢◌, ◌<◌, ℕ, Some}
use Rattle.std.specs.Prelude.{slice_get}
use Rattle.foyer_policy.proofs.dates.slots.search.Given as goal

-- no slot so far is that of the place
abbrev pub invariant-loop-index : goal.invariant-loop-index
invariant-loop-index l =
    (j : ℕ) (e : ℕ × ℕ) → slice_get l.row.slots j ≡ Some (Some e) → j < l.index → e.0 ≢ l.place
