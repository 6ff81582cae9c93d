use Rattle.std.proofs.Common.{ℕ, ◌<◌, ◌≤◌, slice_index}
use Rattle.foyer_policy.proofs.min_tree.first_in.Given as goal

abbrev pub invariant-loop-node : goal.invariant-loop-node
invariant-loop-node l = (j : ℕ) → l.start ≤ j → j < l.node → l.limit < slice_index l.nodes j
