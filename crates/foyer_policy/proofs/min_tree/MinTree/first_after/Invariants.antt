use Rattle.std.proofs.Common.{◌+◌}
use Rattle.foyer_policy.proofs.MinTreeLemmas.{Behind}
use Rattle.foyer_policy.proofs.min_tree.MinTree.first_after.Given as goal

abbrev pub invariant-loop-node : goal.invariant-loop-node
invariant-loop-node l = Behind l.self-inside.first_leaf l.self-inside.nodes.items l.limit (l.self-inside.first_leaf + l.index) l.node

abbrev pub decreases-loop-node : goal.decreases-loop-node
decreases-loop-node l = l.node
