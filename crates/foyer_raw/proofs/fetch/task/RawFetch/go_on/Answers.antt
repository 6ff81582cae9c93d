use Rattle.std.proofs.Common.{rules}
use Rattle.foyer_raw.proofs.Moves.{Leads-then}
use Rattle.foyer_raw.proofs.fetch.task.RawFetch.go_on.Goals as goal

pub returns-clause-leads : goal.returns-clause-leads
returns-clause-leads g c = Leads-then 1 3 _ c.poll_optional.new.self.state _ (search rules) c.settle-2.ensures.leads
