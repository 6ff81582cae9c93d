use Rattle.foyer_policy.proofs.HoldsLemmas.{AreLists-told}
use Rattle.std.proofs.Common.{arith, rules, sym, ◌∙◌, IsSome}
use Rattle.foyer_policy.specs.Arena.{get}
use Rattle.foyer_policy.specs.Chain.{lists_of}
use Rattle.foyer_policy.specs.Lists.{find}
use Rattle.foyer_policy.proofs.LinkedLemmas.{find-value}
use Rattle.foyer_policy.proofs.HoldsLemmas.{contains_found}
use Rattle.foyer_policy.proofs.lists.Lists.get.Goals as goal

pub get-requires : goal.get-requires
get-requires g c =
    let i = c.self.inside in
    let there : IsSome (find c.place.inside.node (lists_of i.nodes i.heads)) = search rules in (
      omega arith,
      (
        c.self.invariant.arena,
        contains_found i.nodes i.heads i.tails (lists_of i.nodes i.heads) c.place.inside.node
            c.self.invariant.linked there,
      ),
    )

pub returns-clause-value : goal.returns-clause-value
returns-clause-value g c =
    let i = c.self.inside in
    let there : IsSome (find c.place.inside.node (lists_of i.nodes i.heads)) = search rules in
    rw (← c.self.view_is, ← c.place.view_is)
    (sym (find-value (get i.nodes) i.heads i.tails (lists_of i.nodes i.heads) c.place.inside.node
    c.self.invariant.linked there) ∙ c.get.ensures)

pub returns-clause-apart : goal.returns-clause-apart
returns-clause-apart g c = AreLists-told c.self.view_is c.self.invariant c.self.told
