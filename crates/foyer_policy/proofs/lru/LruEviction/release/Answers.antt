use Rattle.std.proofs.Common.{◌≡◌, ◌-◌, ◌+◌, ◌<◌, ◌^◌, Bool, true, false, arith, rules, refl}
use Rattle.std.specs.Prelude.{not}
use Rattle.foyer_policy.proofs.LruLemmas.{Node}
use Rattle.foyer_policy.proofs.LruInvariants.{pinned_weighs, weights}
use Rattle.foyer_policy.proofs.LruReleases.{released_again, released_to_low, released_to_low_is, released_weight, released_to_high, released_to_high_is}
use Rattle.foyer_policy.proofs.lru.LruEviction.release.Goals as goal

is_off : (b : Bool) → not b ≡ true → b ≡ false
is_off true h = absurd cc
is_off false h = refl

is_on : (b : Bool) → not b ≡ false → b ≡ true
is_on true h = refl
is_on false h = absurd cc

pub returns-then-not-state-clause-view : goal.returns-then-not-state-clause-view
returns-then-not-state-clause-view c =
    let i = c.self.inside in
    let n : Node = c.get-node.result.now in
    rw (← c.self.view_is, c.get-node.ensures.value)
    (released_again i.lists.lists i.limit i.ratio i.high_weight i.pinned_weight c.self.invariant
    c.get-node.ensures.apart c.args.place n c.get-node.ensures.value (is_off n.state.pinned (rw c.state-state.ensures at c.if-not-state.true)))

pub overflow_sub-self : goal.overflow_sub-self
overflow_sub-self c =
    let i = c.self.inside in
    let n : Node = c.get-node.result.now in
    rw c.whole-item.ensures
    (pinned_weighs i.lists.lists i.limit i.ratio i.high_weight i.pinned_weight c.self.invariant
    c.get-node.ensures.apart c.args.place n c.get-node.ensures.value (is_on n.state.pinned (rw c.state-state.ensures at c.if-not-state.false)))

pub invariant_of-self : goal.invariant_of-self
invariant_of-self c =
    let i = c.self.inside in
    let n : Node = c.get-node.result.now in
    let w = pinned_weighs i.lists.lists i.limit i.ratio i.high_weight i.pinned_weight c.self.invariant
    c.get-node.ensures.apart c.args.place n c.get-node.ensures.value (is_on n.state.pinned (rw c.state-state.ensures at c.if-not-state.false)) in
    let less : i.pinned_weight - n.item.weight + n.item.weight ≡ i.pinned_weight = omega arith in
    rw c.whole-item.ensures
    (released_to_low_is i.lists.lists i.limit i.ratio i.high_weight i.pinned_weight c.self.invariant
    c.get-node.ensures.apart c.args.place n c.get-node.ensures.value (is_on n.state.pinned (rw c.state-state.ensures at c.if-not-state.false))
    (is_off n.state.high (rw c.state-state.ensures at c.if-not-state-2.true))
    c.relist.new.lists.lists (rw c.state-state.ensures at c.relist.ensures.lists n c.get-node.ensures.value)
    (i.pinned_weight - n.item.weight) less)

pub returns-then-not-state-2-clause-view : goal.returns-then-not-state-2-clause-view
returns-then-not-state-2-clause-view c =
    let i = c.self.inside in
    let n : Node = c.get-node.result.now in
    rw (← c.self.view_is, c.get-node.ensures.value)
    (released_to_low i.lists.lists i.limit i.ratio i.high_weight i.pinned_weight c.self.invariant
    c.get-node.ensures.apart c.args.place n c.get-node.ensures.value (is_on n.state.pinned (rw c.state-state.ensures at c.if-not-state.false))
    (is_off n.state.high (rw c.state-state.ensures at c.if-not-state-2.true))
    c.relist.new.lists.lists (rw c.state-state.ensures at c.relist.ensures.lists n c.get-node.ensures.value))

pub overflow_add-weight : goal.overflow_add-weight
overflow_add-weight c =
    let i = c.self.inside in
    let n : Node = c.get-node.result.now in
    let w = pinned_weighs i.lists.lists i.limit i.ratio i.high_weight i.pinned_weight c.self.invariant
    c.get-node.ensures.apart c.args.place n c.get-node.ensures.value (is_on n.state.pinned (rw c.state-state.ensures at c.if-not-state.false)) in
    let all = weights i.lists.lists i.limit i.ratio i.high_weight i.pinned_weight c.self.invariant
    c.get-node.ensures.apart c.args.place n c.get-node.ensures.value in
    let fits : i.high_weight + n.item.weight < 2 ^ 64 = omega arith in
    rw c.whole-item.ensures
    (search rules)

pub settle-self-inside-requires : goal.settle-self-inside-requires
settle-self-inside-requires c =
    let i = c.self.inside in
    let n : Node = c.get-node.result.now in
    rw c.whole-item.ensures
    (released_weight i.lists.lists i.limit i.ratio i.high_weight i.pinned_weight c.self.invariant
    c.get-node.ensures.apart c.args.place n c.get-node.ensures.value (is_on n.state.pinned (rw c.state-state.ensures at c.if-not-state.false))
    (is_on n.state.high (rw c.state-state.ensures at c.if-not-state-2.false))
    c.relist-2.new.lists.lists (rw c.state-state.ensures at c.relist-2.ensures.lists n c.get-node.ensures.value))

pub invariant_of-self-2 : goal.invariant_of-self-2
invariant_of-self-2 c =
    let i = c.self.inside in
    let n : Node = c.get-node.result.now in
    let w = pinned_weighs i.lists.lists i.limit i.ratio i.high_weight i.pinned_weight c.self.invariant
    c.get-node.ensures.apart c.args.place n c.get-node.ensures.value (is_on n.state.pinned (rw c.state-state.ensures at c.if-not-state.false)) in
    let less : i.pinned_weight - n.item.weight + n.item.weight ≡ i.pinned_weight = omega arith in
    rw c.whole-item.ensures
    (released_to_high_is i.lists.lists i.limit i.ratio i.high_weight i.pinned_weight c.self.invariant
    c.get-node.ensures.apart c.args.place n c.get-node.ensures.value (is_on n.state.pinned (rw c.state-state.ensures at c.if-not-state.false))
    (is_on n.state.high (rw c.state-state.ensures at c.if-not-state-2.false))
    c.relist-2.new.lists.lists (rw c.state-state.ensures at c.relist-2.ensures.lists n c.get-node.ensures.value) c.settle-self-inside.new.lists.lists c.settle-self-inside.ensures.low c.settle-self-inside.ensures.high
    c.settle-self-inside.ensures.pin
    c.settle-self-inside.result (i.pinned_weight - n.item.weight) c.settle-self-inside.ensures.weight less)

pub returns-clause-view : goal.returns-clause-view
returns-clause-view c =
    let i = c.self.inside in
    let n : Node = c.get-node.result.now in
    rw (← c.self.view_is, c.get-node.ensures.value)
    (released_to_high i.lists.lists i.limit i.ratio i.high_weight i.pinned_weight c.self.invariant
    c.get-node.ensures.apart c.args.place n c.get-node.ensures.value (is_on n.state.pinned (rw c.state-state.ensures at c.if-not-state.false))
    (is_on n.state.high (rw c.state-state.ensures at c.if-not-state-2.false))
    c.relist-2.new.lists.lists (rw c.state-state.ensures at c.relist-2.ensures.lists n c.get-node.ensures.value) c.settle-self-inside.new.lists.lists c.settle-self-inside.ensures.low c.settle-self-inside.ensures.high
    c.settle-self-inside.ensures.pin)
