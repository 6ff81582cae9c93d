use Rattle.std.proofs.Common.{◌≡◌, ◌≤◌, ◌<◌, ℕ, Some}
use Rattle.std.specs.Prelude.{slice_get}
use Rattle.foyer_policy.proofs.dates.slots.first_between.Given as goal

-- no slot so far has such a date
abbrev pub invariant-loop-index : goal.invariant-loop-index
invariant-loop-index l =
    (j : ℕ) (e : ℕ × ℕ) → slice_get l.row.slots j ≡ Some (Some e) → l.start ≤ j → j < l.index → l.now < e.1
