use Rattle.foyer_policy.proofs.HoldsLemmas.{AreLists-told}
use Rattle.std.proofs.Common.{◌≡◌, ◌≢◌, Some, None, rules, arith, length, sym, ap, ◌∙◌, ◌<◌}
use Rattle.std.proofs.lemmas.List.{get_or_default}
use Rattle.foyer_policy.specs.Arena.{get}
use Rattle.foyer_policy.specs.Chain.{lists_of}
use Rattle.foyer_policy.specs.Lists.{list_at, first_or}
use Rattle.foyer_policy.proofs.FoundLemmas.{find-drop_same, find-drop_other}
use Rattle.foyer_policy.proofs.LinkedLemmas.{front_found}
use Rattle.foyer_policy.proofs.lists.Lists.pop_front_at.Goals as goal

pub take_out-value-requires : goal.take_out-value-requires
take_out-value-requires g c =
    let i = c.self.inside in
    let lt : c.args.list < length (lists_of i.nodes i.heads) = omega (arith, c.self.invariant.linked.heads_len) in
    let lh : c.args.list < length i.heads = omega (arith, c.self.invariant.linked.heads_len) in
    let at_head = get_or_default i.heads c.args.list None c.index-self-list.result lh ∙ sym c.place.ensures in
    let f = front_found (get i.nodes) i.heads i.tails (lists_of i.nodes i.heads) c.args.list c.in-Some.node
    c.self.invariant.linked lt (at_head ∙ c.in-Some.is) in
    (omega arith, (c.self.invariant, rw f.there (search rules)))

pub returns-in-Some-clause-entry : goal.returns-in-Some-clause-entry
returns-in-Some-clause-entry g c =
    let i = c.self.inside in
    let lt : c.args.list < length (lists_of i.nodes i.heads) = omega (arith, c.self.invariant.linked.heads_len) in
    let lh : c.args.list < length i.heads = omega (arith, c.self.invariant.linked.heads_len) in
    let at_head = get_or_default i.heads c.args.list None c.index-self-list.result lh ∙ sym c.place.ensures in
    let f = front_found (get i.nodes) i.heads i.tails (lists_of i.nodes i.heads) c.args.list c.in-Some.node
    c.self.invariant.linked lt (at_head ∙ c.in-Some.is) in
    let same : c.take_out-value.result ≡ f.value = (let x = sym c.take_out-value.ensures.value ∙ f.there in cc) in
    rw (← c.self.view_is) (ap (λ v. Some (c.in-Some.node, v)) same ∙ sym f.first)

pub returns-in-Some-clause-there : goal.returns-in-Some-clause-there
returns-in-Some-clause-there g c = rw (← c.self.view_is) c.take_out-value.ensures.value

pub returns-in-Some-clause-gone : goal.returns-in-Some-clause-gone
returns-in-Some-clause-gone g c =
    let i = c.self.inside in
    rw c.take_out-value.ensures.lists
    (find-drop_same c.in-Some.node (lists_of i.nodes i.heads) c.self.invariant.linked.distinct)

pub returns-in-Some-clause-lists : goal.returns-in-Some-clause-lists
returns-in-Some-clause-lists g c =
    let i = c.self.inside in
    let lt : c.args.list < length (lists_of i.nodes i.heads) = omega (arith, c.self.invariant.linked.heads_len) in
    let lh : c.args.list < length i.heads = omega (arith, c.self.invariant.linked.heads_len) in
    let at_head = get_or_default i.heads c.args.list None c.index-self-list.result lh ∙ sym c.place.ensures in
    let f = front_found (get i.nodes) i.heads i.tails (lists_of i.nodes i.heads) c.args.list c.in-Some.node
    c.self.invariant.linked lt (at_head ∙ c.in-Some.is) in
    rw (← c.self.view_is) (c.take_out-value.ensures.lists ∙ f.gone)

pub returns-in-Some-clause-others : goal.returns-in-Some-clause-others
returns-in-Some-clause-others g c = λ q ne.
    let i = c.self.inside in
    let ls = lists_of i.nodes i.heads in
    let lt : c.args.list < length ls = omega (arith, c.self.invariant.linked.heads_len) in
    let lh : c.args.list < length i.heads = omega (arith, c.self.invariant.linked.heads_len) in
    let at_head = get_or_default i.heads c.args.list None c.index-self-list.result lh ∙ sym c.place.ensures in
    let head = (c.self.invariant.linked.each c.args.list lt).head in
    let first : first_or (list_at ls c.args.list) None ≡ Some c.in-Some.node = sym head ∙ at_head ∙ c.in-Some.is in
    let ne' : first_or (list_at ls c.args.list) None ≢ Some q = rw (← c.self.view_is) at ne in
    rw (← c.self.view_is, c.take_out-value.ensures.lists) (find-drop_other c.in-Some.node q ls (λ e. ne' (first ∙ ap Some e)))

pub returns-in-Some-clause-apart : goal.returns-in-Some-clause-apart
returns-in-Some-clause-apart g c = AreLists-told c.self.view_is c.self.invariant c.self.told

pub returns-in-None-clause-apart : goal.returns-in-None-clause-apart
returns-in-None-clause-apart g c = AreLists-told c.self.view_is c.self.invariant c.self.told
