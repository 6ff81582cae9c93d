use Rattle.std.proofs.Common.{◌≡◌, ap, ◌∙◌, length, get_or, []}
use Rattle.std.proofs.lemmas.List.{length-map}
use Rattle.std.proofs.Math.ListN.{get_or-map}
use Rattle.foyer_policy.specs.Lists.{list_at, drop_place}
use Rattle.foyer_policy.proofs.FifoLemmas.{remove-member, remove-view, remove-once, remove-places}
use Rattle.foyer_policy.proofs.fifo.FifoEviction.remove.Goals as goal

pub invariant_of-self : goal.invariant_of-self
invariant_of-self c =
    let ls = c.self.inside.queue.lists in
    let d : list_at c.remove.new.self.lists 0 ≡ drop_place c.args.place (list_at ls 0) =
    ap (λ x. get_or x 0 []) c.remove.ensures.lists ∙ get_or-map (drop_place c.args.place) ls 0 [] in
    let n : length c.remove.new.self.lists ≡ 1 = ap length c.remove.ensures.lists
    ∙ length-map ls (drop_place c.args.place) ∙ c.remove.ensures.apart.count in
    remove-once ls c.remove.new.self.lists c.remove.ensures.apart c.args.place c.remove.result c.remove.ensures.value
    d n c.self.invariant

pub returns-clause-view : goal.returns-clause-view
returns-clause-view c =
    let ls = c.self.inside.queue.lists in
    let d : list_at c.remove.new.self.lists 0 ≡ drop_place c.args.place (list_at ls 0) =
    ap (λ x. get_or x 0 []) c.remove.ensures.lists ∙ get_or-map (drop_place c.args.place) ls 0 [] in
    let n : length c.remove.new.self.lists ≡ 1 = ap length c.remove.ensures.lists
    ∙ length-map ls (drop_place c.args.place) ∙ c.remove.ensures.apart.count in
    rw (← c.self.view_is, c.whole.ensures)
    (remove-view ls c.remove.new.self.lists c.remove.ensures.apart c.args.place c.remove.result
    c.remove.ensures.value d n c.self.invariant)

pub returns-clause-places : goal.returns-clause-places
returns-clause-places c =
    let ls = c.self.inside.queue.lists in
    let d : list_at c.remove.new.self.lists 0 ≡ drop_place c.args.place (list_at ls 0) =
    ap (λ x. get_or x 0 []) c.remove.ensures.lists ∙ get_or-map (drop_place c.args.place) ls 0 [] in
    let n : length c.remove.new.self.lists ≡ 1 = ap length c.remove.ensures.lists
    ∙ length-map ls (drop_place c.args.place) ∙ c.remove.ensures.apart.count in
    rw (← c.self.view_is, c.whole.ensures)
    (remove-places ls c.remove.new.self.lists c.remove.ensures.apart c.args.place c.remove.result
    c.remove.ensures.value d n c.self.invariant)

pub returns-clause-member : goal.returns-clause-member
returns-clause-member c =
    let ls = c.self.inside.queue.lists in
    rw (← c.self.view_is, c.whole.ensures)
    (remove-member ls c.remove.ensures.apart c.args.place c.remove.result c.remove.ensures.value c.self.invariant)
