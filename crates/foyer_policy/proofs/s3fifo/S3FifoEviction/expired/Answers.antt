use Rattle.std.proofs.Common.{◌≡◌, ◌++◌, refl, sym, ◌∙◌, ap, List}
use Rattle.std.specs.List.{filter}
use Rattle.foyer_policy.specs.Dues.{first_item}
use Rattle.foyer_policy.specs.Lists.{list_at}
use Rattle.foyer_policy.specs.Queued.{items_of}
use Rattle.foyer_policy.specs.S3Fifo.{S3FifoView, s3fifo, items}
use Rattle.foyer_policy.specs.S3FifoQueues.{small_of, main_of, view_of}
use Rattle.foyer_policy.specs.Moments.{is_due}
use Rattle.foyer_policy.specs.declared.types.Item.{Item}
use Rattle.foyer_policy.proofs.DueLemmas.{first_due-all}
use Rattle.foyer_policy.proofs.S3FifoNodes.{items-entries}
use Rattle.foyer_policy.proofs.s3fifo.S3FifoEviction.expired.Goals as goal

pub returns-clause-first : goal.returns-clause-first
returns-clause-first c =
    let i = c.self.inside in
    let ls = i.queues.lists in
    let v : S3FifoView = view_of
    (record {
      nodes = i.queues;
      ghost = i.ghost_queue;
      limit = i.limit;
      small_ratio = i.small_ratio;
      ghost_ratio = i.ghost_ratio;
      threshold = i.threshold;
      looks = i.looks;
    }) in
    let walked : items_of (list_at ls 0) ++ items_of (list_at ls 1) ≡ items (small_of ls) ++ items (main_of ls) =
    sym (rw (items-entries (list_at ls 0), items-entries (list_at ls 1)) refl) in
    rw (← c.self.view_is)
    (c.first_of_lists.ensures.first ∙ ap (λ (l : List Item). first_item (filter (is_due c.args.now) l)) walked
    ∙ sym (first_due-all (is_due c.args.now) s3fifo v refl c.self.invariant.queues.once))
