use Rattle.std.proofs.Common.{◌+◌, ◌<◌, length, get_or, ap, arith}
use Rattle.std.proofs.lemmas.List.{get_or_read}
use Rattle.foyer_policy.proofs.MinTreeLemmas.{least-all, number-at, root-height, some-first}
use Rattle.foyer_policy.proofs.min_tree.MinTree.first.Goals as goal

pub returns-then-index-limit-clause-none : goal.returns-then-index-limit-clause-none
returns-then-index-limit-clause-none c j there =
    let t = c.self.inside in
    let tree = c.self.invariant.0 in
    let room : 1 < length t.nodes.items = omega (arith, tree.size, some-first t.first_leaf t.nodes.items tree) in
    let read = get_or_read t.nodes.items 1 _ room c.index.ensures 0 in
    omega (arith, least-all t.first_leaf t.nodes.items c.args.self.now tree c.self.view_is j there)

pub returns-clause-first : goal.returns-clause-first
returns-clause-first c j before =
    let t = c.self.inside in
    let tree = c.self.invariant.0 in
    let same = ap (λ xs. get_or xs (t.first_leaf + j) 0) c.deref.ensures.value in
    let read = number-at t.first_leaf t.nodes.items c.args.self.now c.self.view_is j in
    let over = root-height t.first_leaf t.nodes.items tree in
    omega (arith, c.first_below.ensures.first tree.height over (t.first_leaf + j) (omega (arith, tree.lowest)) (omega arith))
