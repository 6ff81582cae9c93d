use Rattle.std.proofs.Common.{◌≡◌, ℕ, ◌-◌, ◌*◌, ◌^◌, ◌<◌, ◌≤◌, ◌+◌}
use Rattle.foyer_policy.specs.MinTree.{leftmost}
use Rattle.foyer_policy.proofs.min_tree.first_for.Given as goal

abbrev pub invariant-loop-first : goal.invariant-loop-first
invariant-loop-first l = (4 * l.first < 2 ^ 64) × (0 < l.first) × (3 * l.first ≤ 4 * l.count + 3)
    × ((height : ℕ) × (l.first ≡ leftmost 1 height))

abbrev pub decreases-loop-first : goal.decreases-loop-first
decreases-loop-first l = l.count + 2 - 3 * l.first
