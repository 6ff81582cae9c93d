use Rattle.std.proofs.Common.{◌<◌, ◌+◌, ◌^◌, sym, ◌∙◌, ap, rules}
use Rattle.foyer_policy.specs.Lru.{settle, put, is_high_hint}
use Rattle.foyer_policy.specs.LruLists.{view_of}
use Rattle.foyer_policy.specs.declared.types.Hint.{Hint}
use Rattle.foyer_policy.proofs.LruPushes.{pushed_sum, pushed_low, pushed_low_is, pushed_weight, pushed_high, pushed_high_is}
use Rattle.foyer_policy.proofs.lru.LruEviction.push_at.Goals as goal

pub invariant_of-self : goal.invariant_of-self
invariant_of-self c =
    let i = c.self.inside in
    pushed_low_is i.lists.lists i.limit i.ratio i.high_weight i.pinned_weight c.self.invariant
    c.push_back_at.ensures.apart c.args.place c.args.item (rw (← c.self.view_is) at c.requires.fits)
    c.push_back_at.new.self.lists (rw c.of.ensures at c.push_back_at.ensures.lists)
    (rw (← c.self.view_is) at c.requires.new_id)

pub returns-in-Low-clause-view : goal.returns-in-Low-clause-view
returns-in-Low-clause-view c =
    let i = c.self.inside in
    rw (← c.self.view_is)
    (pushed_low i.lists.lists i.limit i.ratio i.high_weight i.pinned_weight c.self.invariant
    c.push_back_at.ensures.apart c.args.place c.args.item (rw (← c.self.view_is) at c.requires.fits)
    c.push_back_at.new.self.lists (rw c.of.ensures at c.push_back_at.ensures.lists)
    ∙ ap (λ (h : Hint). settle (put (view_of i.lists.lists i.limit i.ratio) c.args.item (is_high_hint h)))
    (sym c.in-Low.is))

pub overflow_add-weight : goal.overflow_add-weight
overflow_add-weight c =
    let i = c.self.inside in
    let fits : i.high_weight + c.args.item.weight < 2 ^ 64 =
    pushed_sum i.lists.lists i.limit i.ratio i.high_weight i.pinned_weight c.self.invariant
    c.push_back_at-in-Normal.ensures.apart c.args.place c.args.item
    (rw (← c.self.view_is) at c.requires.fits) in
    search rules

pub settle-self-inside-requires : goal.settle-self-inside-requires
settle-self-inside-requires c =
    let i = c.self.inside in
    pushed_weight i.lists.lists i.limit i.ratio i.high_weight i.pinned_weight c.self.invariant
    c.push_back_at-in-Normal.ensures.apart c.args.place c.args.item
    (rw (← c.self.view_is) at c.requires.fits) c.push_back_at-in-Normal.new.self.lists
    (rw c.of-in-Normal.ensures at c.push_back_at-in-Normal.ensures.lists)

pub invariant_of-self-in-Normal : goal.invariant_of-self-in-Normal
invariant_of-self-in-Normal c =
    let i = c.self.inside in
    pushed_high_is i.lists.lists i.limit i.ratio i.high_weight i.pinned_weight c.self.invariant
    c.push_back_at-in-Normal.ensures.apart c.args.place c.args.item
    (rw (← c.self.view_is) at c.requires.fits) c.push_back_at-in-Normal.new.self.lists
    (rw c.of-in-Normal.ensures at c.push_back_at-in-Normal.ensures.lists)
    c.settle-self-inside.new.lists.lists c.settle-self-inside.ensures.low
    c.settle-self-inside.ensures.high c.settle-self-inside.ensures.pin
    (rw (← c.self.view_is) at c.requires.new_id) c.settle-self-inside.result c.settle-self-inside.ensures.weight

pub returns-in-Normal-clause-view : goal.returns-in-Normal-clause-view
returns-in-Normal-clause-view c =
    let i = c.self.inside in
    rw (← c.self.view_is)
    (pushed_high i.lists.lists i.limit i.ratio i.high_weight i.pinned_weight c.self.invariant
    c.push_back_at-in-Normal.ensures.apart c.args.place c.args.item
    (rw (← c.self.view_is) at c.requires.fits) c.push_back_at-in-Normal.new.self.lists
    (rw c.of-in-Normal.ensures at c.push_back_at-in-Normal.ensures.lists)
    c.settle-self-inside.new.lists.lists c.settle-self-inside.ensures.low
    c.settle-self-inside.ensures.high c.settle-self-inside.ensures.pin
    ∙ ap (λ (h : Hint). settle (put (view_of i.lists.lists i.limit i.ratio) c.args.item (is_high_hint h)))
    (sym c.in-Normal.is))
