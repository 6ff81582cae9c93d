use Rattle.foyer_policy.proofs.LooksLemmas.{looks-are-paid}
use Rattle.foyer_policy.proofs.looks.looks_are_paid.Goals as goal

pub returns : goal.returns
returns g c = looks-are-paid g.E.Eviction.model g.met.E.Eviction.lawful
