use Rattle.foyer_raw.proofs.Moves.{Leads-then}
use Rattle.foyer_raw.proofs.fetch.task.polls.RawFetchFuture.poll.Goals as goal

pub returns-in-Init-clause-leads : goal.returns-in-Init-clause-leads
returns-in-Init-clause-leads g c = Leads-then 1 4 _ _ _ c.start.ensures.leads c.go_on.ensures.leads
