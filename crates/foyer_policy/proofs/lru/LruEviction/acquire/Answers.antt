use Rattle.std.proofs.Common.{◌≡◌, ◌+◌, ◌-◌, cond, arith, refl, rules}
use Rattle.foyer_policy.proofs.LruLemmas.{Node}
use Rattle.foyer_policy.proofs.LruInvariants.{acquired_again, acquired, acquired_is, high_weighs, fits_pinned}
use Rattle.foyer_policy.proofs.lru.LruEviction.acquire.Goals as goal

pub returns-then-state-clause-view : goal.returns-then-state-clause-view
returns-then-state-clause-view c =
    let i = c.self.inside in
    let n : Node = c.get-node.result.now in
    rw (← c.self.view_is, c.get-node.ensures.value)
    (acquired_again i.lists.lists i.limit i.ratio i.high_weight i.pinned_weight c.self.invariant
    c.get-node.ensures.apart c.args.place n c.get-node.ensures.value (rw c.state-state.ensures at c.if-state.true))

pub overflow_add-self : goal.overflow_add-self
overflow_add-self c =
    let i = c.self.inside in
    let n : Node = c.get-node.result.now in
    let less = fits_pinned i.lists.lists i.limit i.ratio i.high_weight i.pinned_weight c.self.invariant
    c.get-node.ensures.apart c.args.place n c.get-node.ensures.value (rw c.state-state.ensures at c.if-state.false) in
    rw c.whole-item.ensures
    (search rules)

pub overflow_sub-self : goal.overflow_sub-self
overflow_sub-self c =
    let i = c.self.inside in
    rw c.whole-item.ensures
    (high_weighs i.lists.lists i.limit i.ratio i.high_weight i.pinned_weight c.self.invariant
    c.get-node.ensures.apart c.args.place c.get-node.result.now c.get-node.ensures.value (rw c.state-state.ensures at c.if-state.false) (rw c.state-state.ensures at c.if-state-2.true))

pub invariant_of-self : goal.invariant_of-self
invariant_of-self c =
    let i = c.self.inside in
    let n : Node = c.get-node.result.now in
    let less = high_weighs i.lists.lists i.limit i.ratio i.high_weight i.pinned_weight c.self.invariant
    c.get-node.ensures.apart c.args.place n c.get-node.ensures.value (rw c.state-state.ensures at c.if-state.false) (rw c.state-state.ensures at c.if-state-2.true) in
    let sum : i.high_weight - n.item.weight + cond n.state.high n.item.weight 0 ≡ i.high_weight =
    rw (rw c.state-state.ensures at c.if-state-2.true) (omega arith) in
    rw c.whole-item.ensures
    (acquired_is i.lists.lists i.limit i.ratio i.high_weight i.pinned_weight c.self.invariant
    c.get-node.ensures.apart c.args.place n c.get-node.ensures.value (rw c.state-state.ensures at c.if-state.false)
    c.relist.new.lists.lists (rw c.state-state.ensures at c.relist.ensures.lists n c.get-node.ensures.value)
    (i.high_weight - n.item.weight) (i.pinned_weight + n.item.weight) sum refl)

pub invariant_of-self-else-state-2 : goal.invariant_of-self-else-state-2
invariant_of-self-else-state-2 c =
    let i = c.self.inside in
    let n : Node = c.get-node.result.now in
    let sum : i.high_weight + cond n.state.high n.item.weight 0 ≡ i.high_weight = rw (rw c.state-state.ensures at c.if-state-2.false) (omega arith) in
    rw c.whole-item.ensures
    (acquired_is i.lists.lists i.limit i.ratio i.high_weight i.pinned_weight c.self.invariant
    c.get-node.ensures.apart c.args.place n c.get-node.ensures.value (rw c.state-state.ensures at c.if-state.false)
    c.relist.new.lists.lists (rw c.state-state.ensures at c.relist.ensures.lists n c.get-node.ensures.value) i.high_weight
    (i.pinned_weight + n.item.weight) sum refl)

pub returns-then-state-2-clause-view : goal.returns-then-state-2-clause-view
returns-then-state-2-clause-view c =
    let i = c.self.inside in
    let n : Node = c.get-node.result.now in
    rw (← c.self.view_is, c.get-node.ensures.value)
    (acquired i.lists.lists i.limit i.ratio i.high_weight i.pinned_weight c.self.invariant
    c.get-node.ensures.apart c.args.place n c.get-node.ensures.value (rw c.state-state.ensures at c.if-state.false)
    c.relist.new.lists.lists (rw c.state-state.ensures at c.relist.ensures.lists n c.get-node.ensures.value))

pub returns-else-state-2-clause-view : goal.returns-else-state-2-clause-view
returns-else-state-2-clause-view c =
    let i = c.self.inside in
    let n : Node = c.get-node.result.now in
    rw (← c.self.view_is, c.get-node.ensures.value)
    (acquired i.lists.lists i.limit i.ratio i.high_weight i.pinned_weight c.self.invariant
    c.get-node.ensures.apart c.args.place n c.get-node.ensures.value (rw c.state-state.ensures at c.if-state.false)
    c.relist.new.lists.lists (rw c.state-state.ensures at c.relist.ensures.lists n c.get-node.ensures.value))
