use Rattle.foyer_policy.proofs.HoldsLemmas.{Holds-same, Holds-again, lists_of-Holds, AreLists-told}
use Rattle.foyer_policy.proofs.lists.Lists.reserve_to.Goals as goal

pub invariant_of-self : goal.invariant_of-self
invariant_of-self g c =
    let i = c.self.inside in
    Holds-again c.reserve_to.new.self i.heads i.tails _
    (Holds-same i.nodes c.reserve_to.new.self i.heads i.tails c.reserve_to.ensures.arena c.reserve_to.ensures.same
    c.reserve_to.ensures.used c.self.invariant)

pub returns-clause-lists : goal.returns-clause-lists
returns-clause-lists g c =
    let i = c.self.inside in
    rw (← c.self.view_is)
    (lists_of-Holds c.reserve_to.new.self i.heads i.tails _
    (Holds-same i.nodes c.reserve_to.new.self i.heads i.tails c.reserve_to.ensures.arena c.reserve_to.ensures.same
    c.reserve_to.ensures.used c.self.invariant))

pub returns-clause-apart : goal.returns-clause-apart
returns-clause-apart g c = AreLists-told c.self.view_is c.self.invariant c.self.told
