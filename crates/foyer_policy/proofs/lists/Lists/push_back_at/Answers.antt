use Rattle.std.proofs.Common.{◌<◌, ◌∙◌, length, arith}
use Rattle.foyer_policy.specs.Chain.{lists_of}
use Rattle.foyer_policy.proofs.FoundLemmas.{find-push_same, find-push_other}
use Rattle.foyer_policy.proofs.HoldsLemmas.{AreLists-told}
use Rattle.foyer_policy.proofs.lists.Lists.push_back_at.Goals as goal

pub returns-clause-here : goal.returns-clause-here
returns-clause-here g c =
    let i = c.self.inside in
    let free = rw (← c.self.view_is, ← c.place.view_is) at c.requires.free in
    let lt : c.args.list < length (lists_of i.nodes i.heads) = omega (arith, c.self.invariant.linked.heads_len) in
    rw (← c.place.view_is, c.link_back.ensures.lists)
    (find-push_same c.place.inside.node c.args.value (lists_of i.nodes i.heads) c.args.list free lt)

pub returns-clause-others : goal.returns-clause-others
returns-clause-others g c = λ q ne.
    let i = c.self.inside in
    let free = rw (← c.self.view_is, ← c.place.view_is) at c.requires.free in
    let lt : c.args.list < length (lists_of i.nodes i.heads) = omega (arith, c.self.invariant.linked.heads_len) in
    rw (← c.self.view_is, c.link_back.ensures.lists)
    (find-push_other c.place.inside.node q c.args.value (lists_of i.nodes i.heads) c.args.list free lt
    (λ e. ne (e ∙ c.place.view_is)))

pub returns-clause-apart : goal.returns-clause-apart
returns-clause-apart g c = AreLists-told c.self.view_is c.self.invariant c.self.told
