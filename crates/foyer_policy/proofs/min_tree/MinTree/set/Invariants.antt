use Rattle.std.proofs.Common.{◌≡◌, slice_set}
use Rattle.foyer_policy.proofs.MinTreeLemmas.{Up}
use Rattle.foyer_policy.proofs.min_tree.MinTree.set.Given as goal

abbrev pub invariant-loop-node : goal.invariant-loop-node
invariant-loop-node l = (l.self-inside.first_leaf ≡ l.initial.self-inside.first_leaf)
    × (l.self-inside.marked ≡ l.initial.self-inside.marked)
    × Up l.self-inside.first_leaf (slice_set l.fn.self l.index l.number) l.self-inside.nodes.items l.node

abbrev pub decreases-loop-node : goal.decreases-loop-node
decreases-loop-node l = l.node
