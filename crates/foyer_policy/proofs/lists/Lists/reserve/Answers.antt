use Rattle.foyer_policy.proofs.HoldsLemmas.{Holds-same, Holds-again, lists_of-Holds, AreLists-told}
use Rattle.foyer_policy.proofs.lists.Lists.reserve.Goals as goal

pub invariant_of-self : goal.invariant_of-self
invariant_of-self g c =
    let i = c.self.inside in
    Holds-again c.reserve.new.self i.heads i.tails _
    (Holds-same i.nodes c.reserve.new.self i.heads i.tails c.reserve.ensures.arena c.reserve.ensures.same
    c.reserve.ensures.used c.self.invariant)

pub returns-clause-lists : goal.returns-clause-lists
returns-clause-lists g c =
    let i = c.self.inside in
    rw (← c.self.view_is)
    (lists_of-Holds c.reserve.new.self i.heads i.tails _
    (Holds-same i.nodes c.reserve.new.self i.heads i.tails c.reserve.ensures.arena c.reserve.ensures.same
    c.reserve.ensures.used c.self.invariant))

pub returns-clause-apart : goal.returns-clause-apart
returns-clause-apart g c = AreLists-told c.self.view_is c.self.invariant c.self.told
