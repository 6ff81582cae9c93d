use Rattle.std.proofs.Common.{◌++◌, ap, sym, refl, ◌∙◌}
use Rattle.foyer_policy.specs.Queued.{items_of}
use Rattle.foyer_policy.specs.Lists.{list_at}
use Rattle.foyer_policy.proofs.S3FifoNodes.{items-entries}
use Rattle.foyer_policy.proofs.s3fifo.S3FifoEviction.order.Goals as goal

pub returns-clause-items : goal.returns-clause-items
returns-clause-items c =
    let small = list_at c.self.inside.queues.lists 0 in
    let main = list_at c.self.inside.queues.lists 1 in
    rw (← c.self.view_is) (c.in_ok-append_items-2.ensures.items
    ∙ ap (λ l. l ++ items_of main)
    (c.in_ok-append_items.ensures.items ∙ ap (λ l. l ++ items_of small) c.new-items.ensures.items)
    ∙ sym (rw (items-entries small, items-entries main) refl))
