use Rattle.foyer_policy.proofs.MinTreeLemmas.{Down-next, Down-behind, Down-first}
use Rattle.std.proofs.Common.{◌≡◌, ◌+◌, ◌-◌, arith}
use Rattle.foyer_policy.proofs.min_tree.first_below.Goals as goal

pub loop-node-preserved : goal.loop-node-preserved
loop-node-preserved c =
    let found = c.first_of-node.ensures in
    Down-next c.args.first_leaf c.args.nodes.now c.args.limit c.args.top c.loop-node.node c.first_of-node.result
    c.requires.tree c.loop-node.invariant c.loop-node-test.true found.from found.to found.within found.first

pub returns-clause-behind : goal.returns-clause-behind
returns-clause-behind c height over =
    let e : c.args.first_leaf + (c.loop-node.node - c.args.first_leaf) ≡ c.loop-node.node = omega arith in
    rw e (Down-behind c.args.first_leaf c.args.nodes.now c.args.limit c.args.top c.loop-node.node
    c.loop-node.invariant c.loop-node-test.false height over)

pub returns-clause-first : goal.returns-clause-first
returns-clause-first c height over l from to =
    Down-first c.args.first_leaf c.args.nodes.now c.args.limit c.args.top c.loop-node.node c.loop-node.invariant height over l
    from (omega arith)
