use Rattle.std.proofs.Common.{◌≡◌, ℕ, Some, arith, ap, sym, ◌∙◌, subst, refl}
use Rattle.std.specs.List.Sorted.{IsPermutation}
use Rattle.foyer_policy.specs.Items.{weight_of}
use Rattle.foyer_policy.specs.Lfu.{LfuView, seen, lfu}
use Rattle.foyer_policy.specs.LfuLaws.{lfu_lawful}
use Rattle.foyer_policy.specs.LfuLists.{LfuLists, lfu_view, items_in}
use Rattle.foyer_policy.specs.Lists.{list_at, find, find_in, moved}
use Rattle.foyer_policy.specs.declared.types.Item.{Item}
use Rattle.foyer_policy.specs.contracts.lfu.Lfu.{the_view}
use Rattle.foyer_policy.proofs.LfuViews.{view_of, IsLfu-rearranged, acquired-own, moved_own-weight, promoted-view, promoted-weight, promoted-window, promoted-fits}
use Rattle.foyer_policy.proofs.lfu.LfuEviction.acquire.Goals as goal

pub invariant_of-self : goal.invariant_of-self
invariant_of-self c =
    let i = c.self.inside in
    let ls = i.lists.lists in
    let k = c.list_of-list.result in
    let item : Item = c.get.result.now in
    let b : LfuView = lfu_view (the_view i) in
    let stands : find_in c.args.place (list_at ls k) ≡ Some item = c.list_of-list.ensures.stands
    ∙ c.get.ensures.value in
    let view : view_of (seen b item.hash) (moved c.args.place k ls) ≡ lfu.acquire b item.id =
    acquired-own b ls c.get.ensures.apart c.self.invariant.once c.args.place item k c.list_of-list.ensures.within
    c.if-list-ne-PROBATION.true stands in
    let weight = moved_own-weight b ls c.get.ensures.apart c.self.invariant.once c.args.place item k
    c.list_of-list.ensures.within stands in
    let perm = subst (λ (v : LfuView). IsPermutation (lfu.order b) (lfu.order v)) (sym view)
    (lfu_lawful.acquire_order b item.id c.self.invariant.once) in
    let kept = IsLfu-rearranged b (view_of (seen b item.hash) (moved c.args.place k ls)) i.window_weight
    i.protected_weight i.window_weight i.protected_weight c.self.invariant perm
    (c.self.invariant.window ∙ sym (weight 0)) (c.self.invariant.protected ∙ sym (weight 2)) refl refl in
    rw ((rw c.whole-item.ensures at c.update.ensures), c.move_back.ensures.lists) kept

pub returns-then-list-ne-PROBATION-clause-view : goal.returns-then-list-ne-PROBATION-clause-view
returns-then-list-ne-PROBATION-clause-view c =
    let i = c.self.inside in
    let ls = i.lists.lists in
    let k = c.list_of-list.result in
    let item : Item = c.get.result.now in
    let b : LfuView = lfu_view (the_view i) in
    let stands : find_in c.args.place (list_at ls k) ≡ Some item = c.list_of-list.ensures.stands
    ∙ c.get.ensures.value in
    let view : view_of (seen b item.hash) (moved c.args.place k ls) ≡ lfu.acquire b item.id =
    acquired-own b ls c.get.ensures.apart c.self.invariant.once c.args.place item k c.list_of-list.ensures.within
    c.if-list-ne-PROBATION.true stands in
    let now : view_of (record b { sketch = c.update.new.self }) c.move_back.new.self.lists ≡ lfu.acquire b item.id =
    rw ((rw c.whole-item.ensures at c.update.ensures), c.move_back.ensures.lists) view in
    let at : find c.args.place c.args.self.now.lists ≡ Some item =
    ap (λ (l : LfuLists). find c.args.place l.lists) (sym c.self.view_is) ∙ c.get.ensures.value in
    rw at (now ∙ ap (λ (l : LfuLists). lfu.acquire (lfu_view l) item.id) c.self.view_is)

pub overflow_add-weight : goal.overflow_add-weight
overflow_add-weight c =
    let i = c.self.inside in
    let ls = i.lists.lists in
    let item : Item = c.get.result.now in
    let stands : find_in c.args.place (list_at ls 1) ≡ Some item =
    ap (λ (n : ℕ). find_in c.args.place (list_at ls n)) (sym c.if-list-ne-PROBATION.false)
    ∙ c.list_of-list.ensures.stands ∙ c.get.ensures.value in
    let b : LfuView = lfu_view (the_view i) in
    let le = promoted-fits b ls c.get.ensures.apart c.self.invariant.once c.args.place item stands in
    rw c.whole-item.ensures
    (omega (arith, c.self.invariant.protected, c.self.invariant.fits))

pub settle-self-inside-requires-clause-weight : goal.settle-self-inside-requires-clause-weight
settle-self-inside-requires-clause-weight c =
    let i = c.self.inside in
    let ls = i.lists.lists in
    let item : Item = c.get.result.now in
    let stands : find_in c.args.place (list_at ls 1) ≡ Some item =
    ap (λ (n : ℕ). find_in c.args.place (list_at ls n)) (sym c.if-list-ne-PROBATION.false)
    ∙ c.list_of-list.ensures.stands ∙ c.get.ensures.value in
    let b : LfuView = lfu_view (the_view i) in
    let more = promoted-weight b ls c.get.ensures.apart c.self.invariant.once c.args.place item stands in
    rw (c.move_back-2.ensures.lists, c.whole-item.ensures) (omega (arith, c.self.invariant.protected))

pub invariant_of-self-2 : goal.invariant_of-self-2
invariant_of-self-2 c =
    let i = c.self.inside in
    let ls = i.lists.lists in
    let item : Item = c.get.result.now in
    let stands : find_in c.args.place (list_at ls 1) ≡ Some item =
    ap (λ (n : ℕ). find_in c.args.place (list_at ls n)) (sym c.if-list-ne-PROBATION.false)
    ∙ c.list_of-list.ensures.stands ∙ c.get.ensures.value in
    let b : LfuView = lfu_view (the_view i) in
    let s = c.settle-self-inside.ensures in
    let new = c.settle-self-inside.new.lists.lists in
    let view : view_of (seen b item.hash) new ≡ lfu.acquire b item.id =
    promoted-view b ls c.get.ensures.apart c.self.invariant.once c.args.place item stands new
    (rw c.move_back-2.ensures.lists at s.from) (rw c.move_back-2.ensures.lists at s.probation)
    (rw c.move_back-2.ensures.lists at (s.others 0 (λ e. omega arith) (λ e. omega arith))) in
    let window : i.window_weight ≡ weight_of (items_in new 0) =
    c.self.invariant.window
    ∙ sym (ap weight_of
    (rw c.move_back-2.ensures.lists at (s.others 0 (λ e. omega arith) (λ e. omega arith))
    ∙ promoted-window b ls c.get.ensures.apart c.self.invariant.once c.args.place item stands)) in
    let perm = subst (λ (v : LfuView). IsPermutation (lfu.order b) (lfu.order v)) (sym view)
    (lfu_lawful.acquire_order b item.id c.self.invariant.once) in
    let kept = IsLfu-rearranged b (view_of (seen b item.hash) new) i.window_weight i.protected_weight i.window_weight
    c.settle-self-inside.result c.self.invariant perm window s.weight refl refl in
    rw (rw c.whole-item.ensures at c.update.ensures) kept

pub returns-clause-view : goal.returns-clause-view
returns-clause-view c =
    let i = c.self.inside in
    let ls = i.lists.lists in
    let item : Item = c.get.result.now in
    let stands : find_in c.args.place (list_at ls 1) ≡ Some item =
    ap (λ (n : ℕ). find_in c.args.place (list_at ls n)) (sym c.if-list-ne-PROBATION.false)
    ∙ c.list_of-list.ensures.stands ∙ c.get.ensures.value in
    let b : LfuView = lfu_view (the_view i) in
    let s = c.settle-self-inside.ensures in
    let new = c.settle-self-inside.new.lists.lists in
    let view : view_of (seen b item.hash) new ≡ lfu.acquire b item.id =
    promoted-view b ls c.get.ensures.apart c.self.invariant.once c.args.place item stands new
    (rw c.move_back-2.ensures.lists at s.from) (rw c.move_back-2.ensures.lists at s.probation)
    (rw c.move_back-2.ensures.lists at (s.others 0 (λ e. omega arith) (λ e. omega arith))) in
    let now : view_of (record b { sketch = c.update.new.self }) new ≡ lfu.acquire b item.id =
    rw (rw c.whole-item.ensures at c.update.ensures) view in
    let at : find c.args.place c.args.self.now.lists ≡ Some item =
    ap (λ (l : LfuLists). find c.args.place l.lists) (sym c.self.view_is) ∙ c.get.ensures.value in
    rw at (now ∙ ap (λ (l : LfuLists). lfu.acquire (lfu_view l) item.id) c.self.view_is)
