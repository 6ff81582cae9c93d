use Rattle.std.proofs.Common.{◌≡◌, ◌+◌, ◌-◌, ◌<◌, length, get_or, ap, arith}
use Rattle.std.proofs.lemmas.List.{get_or_read}
use Rattle.foyer_policy.proofs.MinTreeLemmas.{count, least-all, least-has, number-at, root-height, some-first}
use Rattle.foyer_policy.proofs.min_tree.MinTree.least.Goals as goal

pub returns-clause-below : goal.returns-clause-below
returns-clause-below c j there =
    let t = c.self.inside in
    let tree = c.self.invariant.0 in
    let room : 1 < length t.nodes.items = omega (arith, tree.size, some-first t.first_leaf t.nodes.items tree) in
    let read = get_or_read t.nodes.items 1 _ room c.index.ensures 0 in
    omega (arith, least-all t.first_leaf t.nodes.items c.args.self.now tree c.self.view_is j there)

pub returns-clause-is : goal.returns-clause-is
returns-clause-is c =
    let t = c.self.inside in
    let tree = c.self.invariant.0 in
    let room : 1 < length t.nodes.items = omega (arith, tree.size, some-first t.first_leaf t.nodes.items tree) in
    let read = get_or_read t.nodes.items 1 _ room c.index.ensures 0 in
    let all = count t.first_leaf t.nodes.items c.args.self.now tree c.self.view_is in
    let over = root-height t.first_leaf t.nodes.items tree in
    let leaf = least-has t.first_leaf t.nodes.items tree.height 1 tree.least (omega arith) over.to in
    let i = leaf.0 - t.first_leaf in
    let at : t.first_leaf + i ≡ leaf.0 = omega (arith, leaf.1, tree.lowest) in (
      i,
      omega (arith, leaf.2, over.to, at),
      omega (arith, number-at t.first_leaf t.nodes.items c.args.self.now c.self.view_is i, ap (λ l. get_or t.nodes.items l 0) at, leaf.3),
    )
