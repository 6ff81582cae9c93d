use Rattle.std.proofs.Common.{◌≡◌, ◌≤◌, ◌<◌, ◌/◌, ℕ, Some, length, slice_index}
use Rattle.std.specs.Prelude.{slice_get}
use Rattle.foyer_policy.proofs.dates.slots.leaves.refresh_all.Given as goal

-- the leaves of the blocks so far are not above their dates
abbrev pub invariant-loop-block : goal.invariant-loop-block
invariant-loop-block l = record {
  length : length l.tree ≡ length l.fn.tree;
  above : (j : ℕ) (e : ℕ × ℕ) → slice_get l.row.slots j ≡ Some (Some e) → j / 32 < l.block
      → slice_index l.tree (j / 32) ≤ e.1;
}
