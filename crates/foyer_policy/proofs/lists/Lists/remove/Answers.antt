use Rattle.std.proofs.Common.{sym, ◌∙◌}
use Rattle.foyer_policy.specs.Chain.{lists_of}
use Rattle.foyer_policy.proofs.FoundLemmas.{find-drop_same, find-drop_other}
use Rattle.foyer_policy.proofs.HoldsLemmas.{AreLists-told}
use Rattle.foyer_policy.proofs.lists.Lists.remove.Goals as goal

pub returns-clause-gone : goal.returns-clause-gone
returns-clause-gone g c =
    let i = c.self.inside in
    rw (← c.place.view_is, c.take_out.ensures.lists)
    (find-drop_same c.place.inside.node (lists_of i.nodes i.heads) c.self.invariant.linked.distinct)

pub returns-clause-others : goal.returns-clause-others
returns-clause-others g c = λ q ne.
    let i = c.self.inside in
    rw (← c.self.view_is, c.take_out.ensures.lists)
    (find-drop_other c.place.inside.node q (lists_of i.nodes i.heads) (λ e. ne (sym e ∙ c.place.view_is)))

pub returns-clause-apart : goal.returns-clause-apart
returns-clause-apart g c = AreLists-told c.self.view_is c.self.invariant c.self.told
