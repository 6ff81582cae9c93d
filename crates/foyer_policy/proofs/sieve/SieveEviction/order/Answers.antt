use Rattle.std.proofs.Common.{◌++◌, ap, sym, ◌∙◌}
use Rattle.foyer_policy.specs.Queued.{items_of}
use Rattle.foyer_policy.specs.Lists.{list_at}
use Rattle.foyer_policy.proofs.SieveNodes.{items-entries}
use Rattle.foyer_policy.proofs.sieve.SieveEviction.order.Goals as goal

pub returns-clause-items : goal.returns-clause-items
returns-clause-items c =
    let l = list_at c.self.inside.queue.lists 0 in
    rw (← c.self.view_is)
    (c.in_ok-append_items.ensures.items ∙ ap (λ xs. xs ++ items_of l) c.new-items.ensures.items
    ∙ sym (items-entries l))
