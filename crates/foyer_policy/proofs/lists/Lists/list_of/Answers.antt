use Rattle.std.proofs.Common.{◌≡◌, ℕ, arith, refl, rules, sym, ◌∙◌, ap, IsSome, length}
use Rattle.foyer_policy.specs.Nodes.{node_with}
use Rattle.foyer_policy.specs.Arena.{get}
use Rattle.foyer_policy.proofs.ArenaLemmas.{node_of_links}
use Rattle.foyer_policy.specs.Chain.{lists_of}
use Rattle.foyer_policy.specs.Lists.{find, find_in, list_at}
use Rattle.foyer_policy.proofs.HoldsLemmas.{AreLists-told, contains_found}
use Rattle.foyer_policy.proofs.LinkedLemmas.{found_node, AreLists-Linked}
use Rattle.foyer_policy.proofs.ListsLemmas.{found_here}
use Rattle.foyer_policy.proofs.lists.Lists.list_of.Goals as goal

pub links-requires : goal.links-requires
links-requires g c =
    let i = c.self.inside in
    let there : IsSome (find c.place.inside.node (lists_of i.nodes i.heads)) = search rules in (
      omega arith,
      (
        c.self.invariant.arena,
        contains_found i.nodes i.heads i.tails (lists_of i.nodes i.heads) c.place.inside.node
            c.self.invariant.linked there,
      ),
    )

pub returns-clause-within : goal.returns-clause-within
returns-clause-within g c =
    let i = c.self.inside in
    let ls = lists_of i.nodes i.heads in
    let there : IsSome (find c.place.inside.node ls) = search rules in
    let node = node_of_links (get i.nodes c.place.inside.node) c.links.result c.links.ensures in
    let f = found_node (get i.nodes) i.heads i.tails ls c.place.inside.node (node_with c.links.result node.0)
    c.self.invariant.linked there node.1 in
    omega (arith, f.list_is, f.at.within, c.self.invariant.linked.heads_len, c.self.told)

pub returns-clause-stands : goal.returns-clause-stands
returns-clause-stands g c =
    let i = c.self.inside in
    let ls = lists_of i.nodes i.heads in
    let there : IsSome (find c.place.inside.node ls) = search rules in
    let node = node_of_links (get i.nodes c.place.inside.node) c.links.result c.links.ensures in
    let f = found_node (get i.nodes) i.heads i.tails ls c.place.inside.node (node_with c.links.result node.0)
    c.self.invariant.linked there node.1 in
    let sound = AreLists-Linked (get i.nodes) i.heads i.tails ls (length i.heads) c.self.invariant.linked refl in
    let here = found_here (length i.heads) ls sound f.at.list c.place.inside.node node.0 f.at.front f.at.back f.at.is in
    let stands : find_in c.place.inside.node (list_at ls c.links.result.list) ≡ find c.place.inside.node ls =
    ap (λ (k : ℕ). find_in c.place.inside.node (list_at ls k)) f.list_is ∙ here ∙ sym f.find_is in
    rw (← c.self.view_is, ← c.place.view_is) stands

pub returns-clause-apart : goal.returns-clause-apart
returns-clause-apart g c = AreLists-told c.self.view_is c.self.invariant c.self.told
