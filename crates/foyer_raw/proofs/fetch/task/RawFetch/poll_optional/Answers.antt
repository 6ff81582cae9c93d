use Rattle.std.proofs.Common.{rules}
use Rattle.foyer_raw.proofs.Moves.{Leads-then}
use Rattle.foyer_raw.proofs.fetch.task.RawFetch.poll_optional.Goals as goal

pub returns-in-Ready-Ok-Some-clause-ended : goal.returns-in-Ready-Ok-Some-clause-ended
returns-in-Ready-Ok-Some-clause-ended g c =
    let first = c.step-in-Ready-Ok-Some.ensures.later (search rules) in
    let second = c.step-in-Ready-Ok-Some-2.ensures.later (search rules) in
    Leads-then 1 1 _ _ _ first second
