use Rattle.std.proofs.lemmas.Option.{slice_get_within}
use Rattle.foyer_core.proofs.CellLemmas.{taken_at, seen-set, AreCells-free}
use Rattle.foyer_core.proofs.slots.Slots.remove.Goals as goal

pub invariant_of-self : goal.invariant_of-self
invariant_of-self g c =
    let there = taken_at c.self.inside.cells.items c.args.slot (rw (← c.self.view_is) at c.requires) in
    rw (c.replace.ensures.after, c.to-self-inside.ensures)
    (AreCells-free _ _ c.args.slot _ there.0 c.self.invariant there.1)

pub returns-clause-slots : goal.returns-clause-slots
returns-clause-slots g c =
    let there = taken_at c.self.inside.cells.items c.args.slot (rw (← c.self.view_is) at c.requires) in
    let within = slice_get_within c.self.inside.cells.items c.args.slot _ there.1 in
    rw (← c.self.view_is, c.replace.ensures.after) (seen-set c.self.inside.cells.items c.args.slot _ within)
