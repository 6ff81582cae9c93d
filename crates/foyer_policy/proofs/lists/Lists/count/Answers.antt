use Rattle.foyer_policy.proofs.HoldsLemmas.{AreLists-told}
use Rattle.foyer_policy.proofs.lists.Lists.count.Goals as goal

pub returns-clause-apart : goal.returns-clause-apart
returns-clause-apart g c = AreLists-told c.self.view_is c.self.invariant c.self.told
