use Rattle.foyer_raw.proofs.Moves.{Leads-then}
use Rattle.foyer_raw.proofs.fetch.task.RawFetch.settle.Goals as goal

pub returns-clause-leads : goal.returns-clause-leads
returns-clause-leads g c = Leads-then 1 2 _ _ _ c.take_or_tell.ensures.leads c.poll_required-2.ensures.leads
