use Rattle.foyer_policy.proofs.MomentsClosed.{victims-are-closed}
use Rattle.foyer_policy.proofs.moments.victims_are_closed.Goals as goal

pub returns : goal.returns
returns g c = λ is_due v once. victims-are-closed is_due g.E.Eviction.model g.met.E.Eviction.lawful v once
