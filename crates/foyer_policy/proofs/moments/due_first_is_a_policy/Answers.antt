use Rattle.foyer_policy.proofs.MomentsLaws.{due_first-lawful}
use Rattle.foyer_policy.proofs.moments.due_first_is_a_policy.Goals as goal

pub returns : goal.returns
returns g c = λ is_due. due_first-lawful is_due g.E.Eviction.model g.met.E.Eviction.lawful
