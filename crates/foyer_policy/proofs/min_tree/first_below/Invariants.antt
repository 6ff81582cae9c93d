use Rattle.std.proofs.Common.{◌-◌, ◌*◌}
use Rattle.foyer_policy.proofs.MinTreeLemmas.{Down}
use Rattle.foyer_policy.proofs.min_tree.first_below.Given as goal

abbrev pub invariant-loop-node : goal.invariant-loop-node
invariant-loop-node l = Down l.first_leaf l.nodes l.limit l.top l.node

abbrev pub decreases-loop-node : goal.decreases-loop-node
decreases-loop-node l = 4 * l.first_leaf - l.node
