use Rattle.std.proofs.Common.{◌∙◌, refl}
use Rattle.foyer_policy.specs.LfuLists.{lfu_view}
use Rattle.foyer_policy.specs.contracts.lfu.Lfu.{the_view}
use Rattle.foyer_policy.proofs.LfuViews.{IsLfu-removed, dropped-places}
use Rattle.foyer_policy.proofs.ListsLemmas.{entry-value}
use Rattle.foyer_policy.proofs.SegmentLemmas.{popped}
use Rattle.foyer_policy.proofs.lfu.LfuEviction.pop_at.Goals as goal

pub overflow_sub-self : goal.overflow_sub-self
overflow_sub-self c =
    let i = c.self.inside in
    let e = c.in-Some.ensures in
    let p = popped i.lists.lists c.next_list-list.result c.in-Some.found.1 e.apart
    (entry-value _ _ e.entry) in
    (IsLfu-removed (lfu_view (the_view i)) i.lists.lists e.apart c.self.invariant.once p.place c.in-Some.found.1
    c.next_list-list.result _ _ _ _ c.next_list-list.ensures.within p.there c.self.invariant (rw c.whole-item.ensures at c.weight_if.ensures)
    refl).0

pub overflow_sub-self-2 : goal.overflow_sub-self-2
overflow_sub-self-2 c =
    let i = c.self.inside in
    let e = c.in-Some.ensures in
    let p = popped i.lists.lists c.next_list-list.result c.in-Some.found.1 e.apart
    (entry-value _ _ e.entry) in
    (IsLfu-removed (lfu_view (the_view i)) i.lists.lists e.apart c.self.invariant.once p.place c.in-Some.found.1
    c.next_list-list.result _ _ _ _ c.next_list-list.ensures.within p.there c.self.invariant refl
    (rw c.whole-item.ensures at c.weight_if-2.ensures)).1

pub invariant_of-self-2 : goal.invariant_of-self-2
invariant_of-self-2 c =
    let i = c.self.inside in
    let e = c.in-Some.ensures in
    let p = popped i.lists.lists c.next_list-list.result c.in-Some.found.1 e.apart
    (entry-value _ _ e.entry) in
    let kept =
    (IsLfu-removed (lfu_view (the_view i)) i.lists.lists e.apart c.self.invariant.once p.place c.in-Some.found.1
    c.next_list-list.result _ _ _ _ c.next_list-list.ensures.within p.there c.self.invariant (rw c.whole-item.ensures at c.weight_if.ensures)
    (rw c.whole-item.ensures at c.weight_if-2.ensures)).2 in
    rw (e.lists ∙ p.gone) kept

pub returns-clause-places : goal.returns-clause-places
returns-clause-places c =
    let i = c.self.inside in
    let e = c.in-Some.ensures in
    let p = popped i.lists.lists c.next_list-list.result c.in-Some.found.1 e.apart
    (entry-value _ _ e.entry) in
    rw (← c.self.view_is, c.whole-item.ensures, e.lists ∙ p.gone)
    (dropped-places (lfu_view (the_view i)) i.lists.lists e.apart c.self.invariant.once p.place c.in-Some.found.1
    c.next_list-list.result c.next_list-list.ensures.within p.there)
