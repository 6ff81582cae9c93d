use Rattle.std.proofs.Common.{◌≡◌, ◌++◌, List, sym, ◌∙◌, ap, append_assoc, rules}
use Rattle.foyer_policy.specs.Queued.{items_of}
use Rattle.foyer_policy.specs.Lists.{list_at}
use Rattle.foyer_policy.specs.declared.types.Item.{Item}
use Rattle.foyer_policy.proofs.LruLemmas.{items_of-pins}
use Rattle.foyer_policy.proofs.lru.LruEviction.order.Goals as goal

pub returns-clause-items : goal.returns-clause-items
returns-clause-items c =
    let ls = c.self.inside.lists.lists in
    let low = items_of (list_at ls 0) in
    let high = items_of (list_at ls 1) in
    let pin = items_of (list_at ls 2) in
    let first : c.append_items.new.items.items ≡ low = search rules in
    let all : c.append_items-3.new.items.items ≡ (low ++ high) ++ pin =
    c.in_ok-append_items-3.ensures.items ∙ ap (λ (l : List Item). l ++ pin)
    (c.in_ok-append_items-2.ensures.items ∙ ap (λ (l : List Item). l ++ high) first) in
    rw (← c.self.view_is)
    (all ∙ append_assoc low high pin ∙ ap (λ (l : List Item). low ++ (high ++ l))
    (sym (items_of-pins (list_at ls 2))))
