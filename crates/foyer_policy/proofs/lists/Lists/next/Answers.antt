use Rattle.foyer_policy.proofs.HoldsLemmas.{AreLists-told}
use Rattle.std.proofs.Common.{◌≡◌, arith, rules, sym, ◌∙◌, IsSome, ◌++◌, ◌∷◌}
use Rattle.foyer_policy.specs.Nodes.{node_with}
use Rattle.foyer_policy.specs.Arena.{get}
use Rattle.foyer_policy.specs.Chain.{lists_of}
use Rattle.foyer_policy.specs.Lists.{find, list_at}
use Rattle.foyer_policy.proofs.LinkedLemmas.{after-node, after_found}
use Rattle.foyer_policy.proofs.ArenaLemmas.{node_of_links}
use Rattle.foyer_policy.proofs.HoldsLemmas.{contains_found}
use Rattle.foyer_policy.proofs.lists.Lists.next.Goals as goal

pub links-requires : goal.links-requires
links-requires g c =
    let i = c.self.inside in
    let there : IsSome (find c.place.inside.node (lists_of i.nodes i.heads)) = search rules in (
      omega arith,
      (
        c.self.invariant.arena,
        contains_found i.nodes i.heads i.tails (lists_of i.nodes i.heads) c.place.inside.node
            c.self.invariant.linked there,
      ),
    )

pub returns-clause-place : goal.returns-clause-place
returns-clause-place g c = λ k xs ys v h.
    let i = c.self.inside in
    let node = node_of_links (get i.nodes c.place.inside.node) c.links.result c.links.ensures in
    let h' : list_at (lists_of i.nodes i.heads) k ≡ xs ++ (c.place.inside.node, v) ∷ ys =
    rw (← c.self.view_is, ← c.place.view_is) at h in
    sym c.in_ok-node.was ∙ c.place-2.ensures ∙ after-node (get i.nodes) i.heads i.tails (lists_of i.nodes i.heads) k
    c.place.inside.node v xs ys (node_with c.links.result node.0) c.self.invariant.linked h' node.1

pub returns-in_err-node-clause-place : goal.returns-in_err-node-clause-place
returns-in_err-node-clause-place g c = λ k xs ys v h.
    let i = c.self.inside in
    let node = node_of_links (get i.nodes c.place.inside.node) c.links.result c.links.ensures in
    let h' : list_at (lists_of i.nodes i.heads) k ≡ xs ++ (c.place.inside.node, v) ∷ ys =
    rw (← c.self.view_is, ← c.place.view_is) at h in
    c.from_residual.ensures ∙ sym c.in_err-node.was ∙ c.place-2.ensures
    ∙ after-node (get i.nodes) i.heads i.tails (lists_of i.nodes i.heads) k c.place.inside.node v xs ys
    (node_with c.links.result node.0) c.self.invariant.linked h' node.1

pub returns-clause-there : goal.returns-clause-there
returns-clause-there g c =
    let i = c.self.inside in
    let there : IsSome (find c.place.inside.node (lists_of i.nodes i.heads)) = search rules in
    let node = node_of_links (get i.nodes c.place.inside.node) c.links.result c.links.ensures in
    rw (← c.self.view_is)
    (after_found (get i.nodes) i.heads i.tails (lists_of i.nodes i.heads) c.place.inside.node c.in_ok-node.node
    (node_with c.links.result node.0) c.self.invariant.linked there node.1
    (sym c.place-2.ensures ∙ c.in_ok-node.was))

pub returns-clause-apart : goal.returns-clause-apart
returns-clause-apart g c = AreLists-told c.self.view_is c.self.invariant c.self.told

pub returns-in_err-node-clause-apart : goal.returns-in_err-node-clause-apart
returns-in_err-node-clause-apart g c = AreLists-told c.self.view_is c.self.invariant c.self.told
