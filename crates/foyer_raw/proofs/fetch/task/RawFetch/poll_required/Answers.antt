use Rattle.std.proofs.Common.{rules, subst}
use Rattle.foyer_raw.specs.Steps.{Leads}
use Rattle.foyer_raw.proofs.Moves.{Leads-then}
use Rattle.foyer_raw.proofs.fetch.task.RawFetch.poll_required.Goals as goal

pub returns-in-Ready-Ok-clause-leads : goal.returns-in-Ready-Ok-clause-leads
returns-in-Ready-Ok-clause-leads g c =
    let first = c.step-in-Ready-Ok.ensures.later (search rules) in
    let second = c.step-in-Ready-Ok-2.ensures.later (search rules) in
    subst (λ s. Leads 2 s c.step-in-Ready-Ok-2.new.self.state) c.take_required.ensures.state
    (Leads-then 1 1 _ _ _ first second)

pub returns-clause-leads : goal.returns-clause-leads
returns-clause-leads g c =
    let first = c.step-in-Ready-Err.ensures.later (search rules) in
    let second = c.step-in-Ready-Err-2.ensures.later (search rules) in
    subst (λ s. Leads 2 s c.step-in-Ready-Err-2.new.self.state) c.take_required.ensures.state
    (Leads-then 1 1 _ _ _ first second)
