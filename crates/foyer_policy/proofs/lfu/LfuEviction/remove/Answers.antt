use Rattle.std.proofs.Common.{◌≡◌, Some, ap, ◌∙◌, refl}
use Rattle.foyer_policy.specs.Lfu.{LfuView, lfu}
use Rattle.foyer_policy.specs.LfuLists.{LfuLists, lfu_view}
use Rattle.foyer_policy.specs.Lists.{list_at, find_in}
use Rattle.foyer_policy.proofs.LfuViews.{view_of, IsLfu-removed, removed-view, dropped-places, in_all}
use Rattle.foyer_policy.proofs.lfu.LfuEviction.remove.Goals as goal

pub overflow_sub-self : goal.overflow_sub-self
overflow_sub-self c =
    let i = c.self.inside in
    let b : LfuView = lfu_view
    (record {
      lists = i.lists.lists;
      room = i.lists.room;
      span = i.lists.span;
      window_limit = i.window_limit;
      protected_limit =
          i.protected_limit;
      window_ratio = i.window_ratio;
      protected_ratio = i.protected_ratio;
      sketch =
          i.sketch;
    }) in
    let stands : find_in c.args.place (list_at i.lists.lists c.list_of-list.result) ≡ Some c.remove.result =
    c.list_of-list.ensures.stands ∙ c.remove.ensures.value in
    (IsLfu-removed b i.lists.lists c.remove.ensures.apart c.self.invariant.once c.args.place c.remove.result
    c.list_of-list.result _ _ _ _ c.list_of-list.ensures.within stands c.self.invariant (rw c.whole-item.ensures at c.weight_if.ensures) refl).0

pub overflow_sub-self-2 : goal.overflow_sub-self-2
overflow_sub-self-2 c =
    let i = c.self.inside in
    let b : LfuView = lfu_view
    (record {
      lists = i.lists.lists;
      room = i.lists.room;
      span = i.lists.span;
      window_limit = i.window_limit;
      protected_limit =
          i.protected_limit;
      window_ratio = i.window_ratio;
      protected_ratio = i.protected_ratio;
      sketch =
          i.sketch;
    }) in
    let stands : find_in c.args.place (list_at i.lists.lists c.list_of-list.result) ≡ Some c.remove.result =
    c.list_of-list.ensures.stands ∙ c.remove.ensures.value in
    (IsLfu-removed b i.lists.lists c.remove.ensures.apart c.self.invariant.once c.args.place c.remove.result
    c.list_of-list.result _ _ _ _ c.list_of-list.ensures.within stands c.self.invariant refl
    (rw c.whole-item.ensures at c.weight_if-2.ensures)).1

pub invariant_of-self : goal.invariant_of-self
invariant_of-self c =
    let i = c.self.inside in
    let b : LfuView = lfu_view
    (record {
      lists = i.lists.lists;
      room = i.lists.room;
      span = i.lists.span;
      window_limit = i.window_limit;
      protected_limit =
          i.protected_limit;
      window_ratio = i.window_ratio;
      protected_ratio = i.protected_ratio;
      sketch =
          i.sketch;
    }) in
    let stands : find_in c.args.place (list_at i.lists.lists c.list_of-list.result) ≡ Some c.remove.result =
    c.list_of-list.ensures.stands ∙ c.remove.ensures.value in
    let kept =
    (IsLfu-removed b i.lists.lists c.remove.ensures.apart c.self.invariant.once c.args.place
    c.remove.result c.list_of-list.result _ _ _ _ c.list_of-list.ensures.within stands c.self.invariant
    (rw c.whole-item.ensures at c.weight_if.ensures) (rw c.whole-item.ensures at c.weight_if-2.ensures)).2 in
    rw c.remove.ensures.lists kept

pub returns-clause-view : goal.returns-clause-view
returns-clause-view c =
    let i = c.self.inside in
    let b : LfuView = lfu_view
    (record {
      lists = i.lists.lists;
      room = i.lists.room;
      span = i.lists.span;
      window_limit = i.window_limit;
      protected_limit =
          i.protected_limit;
      window_ratio = i.window_ratio;
      protected_ratio = i.protected_ratio;
      sketch =
          i.sketch;
    }) in
    let stands : find_in c.args.place (list_at i.lists.lists c.list_of-list.result) ≡ Some c.remove.result =
    c.list_of-list.ensures.stands ∙ c.remove.ensures.value in
    let view = removed-view b i.lists.lists c.remove.ensures.apart c.self.invariant.once c.args.place
    c.remove.result c.list_of-list.result c.list_of-list.ensures.within stands in
    rw c.whole-item.ensures
    (ap (view_of b) c.remove.ensures.lists ∙ view
    ∙ ap (λ (l : LfuLists). lfu.remove (lfu_view l) c.remove.result.id) c.self.view_is)

pub returns-clause-member : goal.returns-clause-member
returns-clause-member c =
    let i = c.self.inside in
    let b : LfuView = lfu_view
    (record {
      lists = i.lists.lists;
      room = i.lists.room;
      span = i.lists.span;
      window_limit = i.window_limit;
      protected_limit =
          i.protected_limit;
      window_ratio = i.window_ratio;
      protected_ratio = i.protected_ratio;
      sketch =
          i.sketch;
    }) in
    let stands : find_in c.args.place (list_at i.lists.lists c.list_of-list.result) ≡ Some c.remove.result =
    c.list_of-list.ensures.stands ∙ c.remove.ensures.value in
    rw (← c.self.view_is, c.whole-item.ensures)
    (in_all b i.lists.lists c.remove.ensures.apart c.self.invariant.once c.args.place c.remove.result
    c.list_of-list.result c.list_of-list.ensures.within stands)

pub returns-clause-places : goal.returns-clause-places
returns-clause-places c =
    let i = c.self.inside in
    let b : LfuView = lfu_view
    (record {
      lists = i.lists.lists;
      room = i.lists.room;
      span = i.lists.span;
      window_limit = i.window_limit;
      protected_limit =
          i.protected_limit;
      window_ratio = i.window_ratio;
      protected_ratio = i.protected_ratio;
      sketch =
          i.sketch;
    }) in
    let stands : find_in c.args.place (list_at i.lists.lists c.list_of-list.result) ≡ Some c.remove.result =
    c.list_of-list.ensures.stands ∙ c.remove.ensures.value in
    rw (← c.self.view_is, c.remove.ensures.lists, c.whole-item.ensures)
    (dropped-places b i.lists.lists c.remove.ensures.apart c.self.invariant.once c.args.place
    c.remove.result c.list_of-list.result c.list_of-list.ensures.within stands)
