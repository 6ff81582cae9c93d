use Rattle.foyer_policy.proofs.HoldsLemmas.{within_span}
use Rattle.foyer_policy.proofs.lists.Lists.span.Goals as goal

pub returns-clause-within : goal.returns-clause-within
returns-clause-within g c =
    let i = c.self.inside in
    rw (← c.self.view_is) (λ q there. within_span i.nodes i.heads i.tails q c.self.invariant there)
