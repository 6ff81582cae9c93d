use Rattle.std.proofs.Common.{ap, ◌∙◌}
use Rattle.foyer_raw.specs.Steps.{next_state}
use Rattle.foyer_raw.proofs.Moves.{Leads-start, Leads-later}
use Rattle.foyer_raw.proofs.fetch.task.RawFetch.step.Goals as goal

pub returns-clause-start : goal.returns-clause-start
returns-clause-start g c =
    λ optional is. Leads-start _ _ c.is_some.result optional
    (c.next-self.ensures ∙ ap (λ e. next_state c.args.self.now.state c.is_some.result e) is)

pub returns-clause-later : goal.returns-clause-later
returns-clause-later g c = λ begun. Leads-later _ _ c.is_some.result c.args.event begun c.next-self.ensures
