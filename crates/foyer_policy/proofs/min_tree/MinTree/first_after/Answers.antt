use Rattle.std.proofs.Common.{◌+◌, ◌*◌, ◌/◌, ◌<◌, ◌≤◌, get_or, inl, inr, ap, arith}
use Rattle.std.proofs.lemmas.Bool.{cases_lt}
use Rattle.foyer_policy.specs.MinTree.{leftmost}
use Rattle.foyer_policy.proofs.MinTreeLemmas.{count, number-at, Behind-leaf, Behind-sibling, Behind-before, Behind-up, Behind-root, leftmost-le}
use Rattle.foyer_policy.proofs.min_tree.MinTree.first_after.Goals as goal

pub loop-node-init : goal.loop-node-init
loop-node-init c =
    let t = c.self.inside in
    let all = count t.first_leaf t.nodes.items c.args.self.now c.self.invariant.0 c.self.view_is in
    Behind-leaf t.first_leaf t.nodes.items c.args.limit c.args.index c.self.invariant.0 (omega arith)

pub returns-in-Some-clause-behind : goal.returns-in-Some-clause-behind
returns-in-Some-clause-behind c =
    let t = c.self.inside in
    let node = c.loop-node.node in
    let sibling = c.in-Some.sibling in
    let b = c.loop-node.invariant in
    let from : node < sibling = omega (arith, c.in-Some.ensures.from) in
    let to : sibling ≤ 4 * ((node + 2) / 4) + 1 = omega (arith, c.in-Some.ensures.to) in
    let over = Behind-sibling t.first_leaf t.nodes.items c.args.limit (t.first_leaf + c.args.index) node sibling b
    c.loop-node-test.true from to in
    let le = leftmost-le (node + 1) sibling b.height (omega arith) (omega arith) in
    omega (arith, b.to, c.first_below.ensures.behind b.height over)

pub returns-in-Some-clause-first : goal.returns-in-Some-clause-first
returns-in-Some-clause-first c j behind before =
    let t = c.self.inside in
    let xs = t.nodes.items in
    let leaf = t.first_leaf + c.args.index in
    let node = c.loop-node.node in
    let sibling = c.in-Some.sibling in
    let b = c.loop-node.invariant in
    let from : node < sibling = omega (arith, c.in-Some.ensures.from) in
    let to : sibling ≤ 4 * ((node + 2) / 4) + 1 = omega (arith, c.in-Some.ensures.to) in
    let over = Behind-sibling t.first_leaf xs c.args.limit leaf node sibling b c.loop-node-test.true from to in
    let read = number-at t.first_leaf xs c.args.self.now c.self.view_is j in
    let same = ap (λ ns. get_or ns (t.first_leaf + j) 0) c.deref-in-Some.ensures.value in
    elim (cases_lt (t.first_leaf + j) (leftmost sibling b.height)) [
      | inl left ↦
          let each = rw c.deref.ensures.value at c.in-Some.ensures.first in
          omega (
            arith,
            Behind-before t.first_leaf xs c.args.limit leaf node sibling c.self.invariant.0.least b
                c.loop-node-test.true from (omega arith) (λ m after until. each m (omega arith) until) (t.first_leaf + j)
                (omega arith) left,
          )
      | inr right ↦ omega (arith, c.first_below.ensures.first b.height over (t.first_leaf + j) right (omega arith))
    ]

pub loop-node-preserved : goal.loop-node-preserved
loop-node-preserved c =
    let t = c.self.inside in
    let each = rw c.deref.ensures.value at c.in_default.ensures.none in
    Behind-up t.first_leaf t.nodes.items c.args.limit (t.first_leaf + c.args.index) c.loop-node.node c.self.invariant.0
    c.loop-node.invariant c.loop-node-test.true (λ m after until. each m (omega arith) (omega arith))

pub returns-clause-none : goal.returns-clause-none
returns-clause-none c j behind there =
    let t = c.self.inside in
    Behind-root t.first_leaf t.nodes.items c.args.self.now c.args.limit (t.first_leaf + c.args.index) c.loop-node.node
    c.self.invariant.0 c.self.view_is c.loop-node.invariant c.loop-node-test.false j (omega arith) there
