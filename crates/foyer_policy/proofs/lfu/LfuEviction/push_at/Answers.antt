use Rattle.std.proofs.Common.{◌≡◌, ◌+◌, ◌^◌, ◌<◌, arith, ap, sym, ◌∙◌, subst}
use Rattle.foyer_policy.specs.Items.{weight_of, IsNewIn}
use Rattle.foyer_policy.specs.Lfu.{LfuView, seen, lfu}
use Rattle.foyer_policy.specs.LfuLists.{LfuLists, lfu_view, IsLfu}
use Rattle.foyer_policy.specs.contracts.lfu.Lfu.{the_view}
use Rattle.foyer_policy.proofs.LfuViews.{view_of, IsLfu-pushed, pushed-view}
use Rattle.foyer_policy.proofs.lfu.LfuEviction.push_at.Goals as goal

pub invariant_of-self : goal.invariant_of-self
invariant_of-self c =
    let i = c.self.inside in
    let item = c.args.item in
    let b : LfuView = lfu_view (the_view i) in
    let s = c.settle-self-inside.ensures in
    let new = c.settle-self-inside.new.lists.lists in
    let view : view_of (seen b item.hash) new ≡ lfu.push b item =
    pushed-view b i.lists.lists c.push_back_at.new.self.lists new c.args.place item
    c.push_back_at.ensures.apart (rw c.of.ensures at c.push_back_at.ensures.lists)
    s.from s.probation (s.others 2 (λ e. omega arith) (λ e. omega arith)) in
    let new_id = subst (λ (l : LfuLists). IsNewIn item.id (lfu.order (lfu_view l))) (sym c.self.view_is)
    c.requires.new_id in
    let fits = subst (λ (l : LfuLists). item.weight + weight_of (lfu.order (lfu_view l)) < 2 ^ 64)
    (sym c.self.view_is) c.requires.fits in
    let kept : IsLfu (view_of (seen b item.hash) new) c.settle-self-inside.result i.protected_weight =
    subst (λ (v : LfuView). IsLfu v c.settle-self-inside.result i.protected_weight) (sym view)
    (IsLfu-pushed b item i.window_weight i.protected_weight c.settle-self-inside.result c.self.invariant new_id fits
    (s.weight ∙ ap (λ (v : LfuView). weight_of v.window) view)) in
    rw c.update.ensures kept
