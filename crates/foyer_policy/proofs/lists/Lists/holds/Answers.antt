use Rattle.foyer_policy.proofs.NotingLemmas.{found_if_there}
use Rattle.foyer_policy.proofs.lists.Lists.holds.Goals as goal

pub returns : goal.returns
returns g c = λ yes.
    let i = c.self.inside in
    rw (← c.self.view_is, ← c.place.view_is)
    (found_if_there i.nodes i.heads i.tails c.place.inside.node c.self.invariant (c.has_value.ensures yes))
