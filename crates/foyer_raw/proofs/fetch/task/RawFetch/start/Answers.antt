use Rattle.std.proofs.Common.{true, false, refl}
use Rattle.foyer_raw.proofs.fetch.task.RawFetch.start.Goals as goal

pub returns-in-Some-clause-leads : goal.returns-in-Some-clause-leads
returns-in-Some-clause-leads g c = c.step.ensures.start true refl

pub returns-in-None-clause-leads : goal.returns-in-None-clause-leads
returns-in-None-clause-leads g c = c.step-in-None.ensures.start false refl
