use Rattle.std.proofs.Common.{refl, sym, ◌∙◌, map}
use Rattle.foyer_policy.specs.Lists.{list_at}
use Rattle.foyer_policy.specs.Fifo.{fifo}
use Rattle.foyer_policy.specs.Moments.{is_due}
use Rattle.foyer_policy.specs.declared.fifo.FifoConfig.{FifoConfig}
use Rattle.foyer_policy.proofs.DueLemmas.{first_due-all, plain-found}
use Rattle.foyer_policy.proofs.fifo.FifoEviction.expired.Goals as goal

pub returns-clause-first : goal.returns-clause-first
returns-clause-first c =
    let ls = c.self.inside.queue.lists in
    rw (← c.self.view_is)
    (sym (plain-found ls c.first_of_lists.result) ∙ c.first_of_lists.ensures.first
    ∙ sym (first_due-all (is_due c.args.now) (fifo FifoConfig) (map (λ e. e.1) (list_at ls 0)) refl c.self.invariant))
