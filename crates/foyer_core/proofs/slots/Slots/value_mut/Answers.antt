use Rattle.std.proofs.Common.{None, refl, sym, ap, ◌∙◌}
use Rattle.std.proofs.lemmas.List.{map-set, get_or-map}
use Rattle.std.proofs.lemmas.Option.{slice_get_within}
use Rattle.foyer_core.specs.Cells.{value_of}
use Rattle.foyer_core.proofs.CellLemmas.{taken_at, AreCells-write}
use Rattle.foyer_core.proofs.slots.Slots.value_mut.Goals as goal

pub invariant_of-self-lent : goal.invariant_of-self-lent
invariant_of-self-lent g c w =
    let there = taken_at c.self.inside.cells.items c.args.slot (rw (← c.self.view_is) at c.requires) in
    AreCells-write _ _ c.args.slot _ there.0 w c.self.invariant there.1

pub returns : goal.returns
returns g c =
    let there = taken_at c.self.inside.cells.items c.args.slot (rw (← c.self.view_is) at c.requires) in
    let within = slice_get_within c.self.inside.cells.items c.args.slot _ there.1 in
    let value = get_or-map value_of c.self.inside.cells.items c.args.slot c.index_mut.result.now None within in
    let lent = value ∙ ap value_of (sym c.index_mut.ensures.value) ∙ c.value_mut.ensures.value in
    ((refl, λ w. rw (← c.self.view_is, map-set)), record { writes_back = tt; value = rw (← c.self.view_is) lent })
