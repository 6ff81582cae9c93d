use Rattle.std.proofs.Common.{refl, sym, ◌∙◌, ap, append_assoc, List}
use Rattle.std.specs.List.{filter}
use Rattle.foyer_policy.specs.Dues.{first_item}
use Rattle.foyer_policy.specs.Lfu.{LfuView, lfu}
use Rattle.foyer_policy.specs.LfuLists.{items_in, lfu_view}
use Rattle.foyer_policy.specs.Moments.{is_due}
use Rattle.foyer_policy.specs.declared.types.Item.{Item}
use Rattle.foyer_policy.proofs.DueLemmas.{first_due-all, plain-found}
use Rattle.foyer_policy.proofs.lfu.LfuEviction.expired.Goals as goal

pub returns-clause-first : goal.returns-clause-first
returns-clause-first c =
    let i = c.self.inside in
    let ls = i.lists.lists in
    let v : LfuView = lfu_view
    (record {
      lists = ls;
      room = i.lists.room;
      span = i.lists.span;
      window_limit = i.window_limit;
      protected_limit = i.protected_limit;
      window_ratio = i.window_ratio;
      protected_ratio = i.protected_ratio;
      sketch = i.sketch;
    }) in
    rw (← c.self.view_is)
    (sym (plain-found ls c.first_of_lists.result) ∙ c.first_of_lists.ensures.first
    ∙ ap (λ (l : List Item). first_item (filter (is_due c.args.now) l))
    (append_assoc (items_in ls 0) (items_in ls 1) (items_in ls 2))
    ∙ sym (first_due-all (is_due c.args.now) lfu v refl c.self.invariant.once))
