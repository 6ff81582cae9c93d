use Rattle.foyer_policy.specs.Arena.{get}
use Rattle.foyer_policy.specs.Chain.{lists_of}
use Rattle.foyer_policy.proofs.LinkedLemmas.{find-vacant}
use Rattle.foyer_policy.proofs.HoldsLemmas.{AreLists-told}
use Rattle.foyer_policy.proofs.lists.Lists.next_place.Goals as goal

pub returns-clause-free : goal.returns-clause-free
returns-clause-free g c =
    let i = c.self.inside in
    rw (← c.self.view_is)
    (find-vacant (get i.nodes) i.heads i.tails (lists_of i.nodes i.heads) c.first_free.result
    c.self.invariant.linked c.first_free.ensures.vacant)

pub returns-clause-apart : goal.returns-clause-apart
returns-clause-apart g c = AreLists-told c.self.view_is c.self.invariant c.self.told
