use Rattle.std.proofs.Common.{◌<◌, None, length, rules, arith, sym, ◌∙◌}
use Rattle.std.proofs.lemmas.List.{get_or_default}
use Rattle.foyer_policy.specs.Arena.{get}
use Rattle.foyer_policy.specs.Chain.{lists_of}
use Rattle.foyer_policy.proofs.LinkedLemmas.{front_found}
use Rattle.foyer_policy.proofs.HoldsLemmas.{AreLists-told}
use Rattle.foyer_policy.proofs.lists.Lists.front.Goals as goal

pub returns-clause-there : goal.returns-clause-there
returns-clause-there g c =
    let i = c.self.inside in
    let lt : c.args.list < length (lists_of i.nodes i.heads) = omega (arith, c.self.invariant.linked.heads_len) in
    let lh : c.args.list < length i.heads = omega (arith, c.self.invariant.linked.heads_len) in
    let at_head = get_or_default i.heads c.args.list None c.index-self-list.result lh ∙ sym c.place.ensures in
    let f = front_found (get i.nodes) i.heads i.tails (lists_of i.nodes i.heads) c.args.list c.in_ok-node.node
    c.self.invariant.linked lt (at_head ∙ c.in_ok-node.was) in
    rw (← c.self.view_is, f.there) (search rules)

pub returns-clause-apart : goal.returns-clause-apart
returns-clause-apart g c = AreLists-told c.self.view_is c.self.invariant c.self.told

pub returns-in_err-node-clause-apart : goal.returns-in_err-node-clause-apart
returns-in_err-node-clause-apart g c = AreLists-told c.self.view_is c.self.invariant c.self.told
