use Rattle.std.proofs.Common.{◌≡◌, ◌-◌, ◌+◌, cond, arith}
use Rattle.foyer_policy.proofs.LruInvariants.{high_weighs, pinned_weighs}
use Rattle.foyer_policy.proofs.LruReleases.{removed_is, removed_view, removed_member, removed_places}
use Rattle.foyer_policy.proofs.lru.LruEviction.remove.Goals as goal

pub overflow_sub-self : goal.overflow_sub-self
overflow_sub-self c =
    let i = c.self.inside in
    rw c.whole-item.ensures
    (pinned_weighs i.lists.lists i.limit i.ratio i.high_weight i.pinned_weight c.self.invariant
    c.remove-node.ensures.apart c.args.place c.remove-node.result c.remove-node.ensures.value (rw c.state-state.ensures at c.if-state.true))

pub overflow_sub-self-then-state-2 : goal.overflow_sub-self-then-state-2
overflow_sub-self-then-state-2 c =
    let i = c.self.inside in
    rw c.whole-item.ensures
    (high_weighs i.lists.lists i.limit i.ratio i.high_weight i.pinned_weight c.self.invariant
    c.remove-node.ensures.apart c.args.place c.remove-node.result c.remove-node.ensures.value (rw c.state-state.ensures at c.if-state.false) (rw c.state-state.ensures at c.if-state-2.true))

pub invariant_of-self : goal.invariant_of-self
invariant_of-self c =
    let i = c.self.inside in
    let n = c.remove-node.result in
    let less = pinned_weighs i.lists.lists i.limit i.ratio i.high_weight i.pinned_weight c.self.invariant
    c.remove-node.ensures.apart c.args.place c.remove-node.result c.remove-node.ensures.value (rw c.state-state.ensures at c.if-state.true) in
    let high : i.high_weight + cond n.state.pinned 0 (cond n.state.high n.item.weight 0) ≡ i.high_weight =
    rw (rw c.state-state.ensures at c.if-state.true) (omega arith) in
    let pinned : i.pinned_weight - n.item.weight + cond n.state.pinned n.item.weight 0 ≡ i.pinned_weight =
    rw (rw c.state-state.ensures at c.if-state.true) (omega arith) in
    rw c.whole-item.ensures
    (removed_is i.lists.lists i.limit i.ratio i.high_weight i.pinned_weight c.self.invariant
    c.remove-node.ensures.apart c.args.place c.remove-node.result c.remove-node.ensures.value
    c.remove-node.new.self.lists c.remove-node.ensures.lists i.high_weight
    (i.pinned_weight - n.item.weight) high pinned)

pub invariant_of-self-then-state-2 : goal.invariant_of-self-then-state-2
invariant_of-self-then-state-2 c =
    let i = c.self.inside in
    let n = c.remove-node.result in
    let less = high_weighs i.lists.lists i.limit i.ratio i.high_weight i.pinned_weight c.self.invariant
    c.remove-node.ensures.apart c.args.place c.remove-node.result c.remove-node.ensures.value (rw c.state-state.ensures at c.if-state.false) (rw c.state-state.ensures at c.if-state-2.true) in
    let high : i.high_weight - n.item.weight + cond n.state.pinned 0 (cond n.state.high n.item.weight 0)
    ≡ i.high_weight = rw ((rw c.state-state.ensures at c.if-state.false), (rw c.state-state.ensures at c.if-state-2.true)) (omega arith) in
    let pinned : i.pinned_weight + cond n.state.pinned n.item.weight 0 ≡ i.pinned_weight =
    rw (rw c.state-state.ensures at c.if-state.false) (omega arith) in
    rw c.whole-item.ensures
    (removed_is i.lists.lists i.limit i.ratio i.high_weight i.pinned_weight c.self.invariant
    c.remove-node.ensures.apart c.args.place c.remove-node.result c.remove-node.ensures.value
    c.remove-node.new.self.lists c.remove-node.ensures.lists (i.high_weight - n.item.weight)
    i.pinned_weight high pinned)

pub invariant_of-self-else-state-2 : goal.invariant_of-self-else-state-2
invariant_of-self-else-state-2 c =
    let i = c.self.inside in
    let n = c.remove-node.result in
    let high : i.high_weight + cond n.state.pinned 0 (cond n.state.high n.item.weight 0) ≡ i.high_weight =
    rw ((rw c.state-state.ensures at c.if-state.false), (rw c.state-state.ensures at c.if-state-2.false)) (omega arith) in
    let pinned : i.pinned_weight + cond n.state.pinned n.item.weight 0 ≡ i.pinned_weight =
    rw (rw c.state-state.ensures at c.if-state.false) (omega arith) in
    removed_is i.lists.lists i.limit i.ratio i.high_weight i.pinned_weight c.self.invariant
    c.remove-node.ensures.apart c.args.place c.remove-node.result c.remove-node.ensures.value
    c.remove-node.new.self.lists c.remove-node.ensures.lists i.high_weight i.pinned_weight high pinned

pub returns-then-state-clause-member : goal.returns-then-state-clause-member
returns-then-state-clause-member c =
    let i = c.self.inside in
    rw (← c.self.view_is, c.whole-item.ensures)
    (removed_member i.lists.lists i.limit i.ratio i.high_weight i.pinned_weight c.self.invariant
    c.remove-node.ensures.apart c.args.place c.remove-node.result c.remove-node.ensures.value)

pub returns-then-state-clause-view : goal.returns-then-state-clause-view
returns-then-state-clause-view c =
    let i = c.self.inside in
    rw (← c.self.view_is, c.whole-item.ensures)
    (removed_view i.lists.lists i.limit i.ratio i.high_weight i.pinned_weight c.self.invariant
    c.remove-node.ensures.apart c.args.place c.remove-node.result c.remove-node.ensures.value
    c.remove-node.new.self.lists c.remove-node.ensures.lists)

pub returns-then-state-clause-places : goal.returns-then-state-clause-places
returns-then-state-clause-places c =
    let i = c.self.inside in
    rw (← c.self.view_is, c.whole-item.ensures)
    (removed_places i.lists.lists i.limit i.ratio i.high_weight i.pinned_weight c.self.invariant
    c.remove-node.ensures.apart c.args.place c.remove-node.result c.remove-node.ensures.value
    c.remove-node.new.self.lists c.remove-node.ensures.lists)

pub returns-then-state-2-clause-member : goal.returns-then-state-2-clause-member
returns-then-state-2-clause-member c =
    let i = c.self.inside in
    rw (← c.self.view_is, c.whole-item.ensures)
    (removed_member i.lists.lists i.limit i.ratio i.high_weight i.pinned_weight c.self.invariant
    c.remove-node.ensures.apart c.args.place c.remove-node.result c.remove-node.ensures.value)

pub returns-then-state-2-clause-view : goal.returns-then-state-2-clause-view
returns-then-state-2-clause-view c =
    let i = c.self.inside in
    rw (← c.self.view_is, c.whole-item.ensures)
    (removed_view i.lists.lists i.limit i.ratio i.high_weight i.pinned_weight c.self.invariant
    c.remove-node.ensures.apart c.args.place c.remove-node.result c.remove-node.ensures.value
    c.remove-node.new.self.lists c.remove-node.ensures.lists)

pub returns-then-state-2-clause-places : goal.returns-then-state-2-clause-places
returns-then-state-2-clause-places c =
    let i = c.self.inside in
    rw (← c.self.view_is, c.whole-item.ensures)
    (removed_places i.lists.lists i.limit i.ratio i.high_weight i.pinned_weight c.self.invariant
    c.remove-node.ensures.apart c.args.place c.remove-node.result c.remove-node.ensures.value
    c.remove-node.new.self.lists c.remove-node.ensures.lists)

pub returns-else-state-2-clause-member : goal.returns-else-state-2-clause-member
returns-else-state-2-clause-member c =
    let i = c.self.inside in
    rw (← c.self.view_is, c.whole-item.ensures)
    (removed_member i.lists.lists i.limit i.ratio i.high_weight i.pinned_weight c.self.invariant
    c.remove-node.ensures.apart c.args.place c.remove-node.result c.remove-node.ensures.value)

pub returns-else-state-2-clause-view : goal.returns-else-state-2-clause-view
returns-else-state-2-clause-view c =
    let i = c.self.inside in
    rw (← c.self.view_is, c.whole-item.ensures)
    (removed_view i.lists.lists i.limit i.ratio i.high_weight i.pinned_weight c.self.invariant
    c.remove-node.ensures.apart c.args.place c.remove-node.result c.remove-node.ensures.value
    c.remove-node.new.self.lists c.remove-node.ensures.lists)

pub returns-else-state-2-clause-places : goal.returns-else-state-2-clause-places
returns-else-state-2-clause-places c =
    let i = c.self.inside in
    rw (← c.self.view_is, c.whole-item.ensures)
    (removed_places i.lists.lists i.limit i.ratio i.high_weight i.pinned_weight c.self.invariant
    c.remove-node.ensures.apart c.args.place c.remove-node.result c.remove-node.ensures.value
    c.remove-node.new.self.lists c.remove-node.ensures.lists)
