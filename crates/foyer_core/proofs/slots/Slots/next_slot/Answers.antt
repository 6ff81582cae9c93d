use Rattle.std.proofs.Common.{refl, arith}
use Rattle.foyer_core.proofs.CellLemmas.{next_free}
use Rattle.foyer_core.proofs.slots.Slots.next_slot.Goals as goal

pub returns-in-Some-clause-free : goal.returns-in-Some-clause-free
returns-in-Some-clause-free g c =
    let s = c.self.inside in
    rw (← c.self.view_is)
    (next_free s.cells.items s.vacant s.free c.in-Some.slot c.self.invariant (rw (← c.in-Some.ensures) refl))

pub returns-in-None-clause-free : goal.returns-in-None-clause-free
returns-in-None-clause-free g c =
    let s = c.self.inside in
    rw (← c.self.view_is)
    (next_free s.cells.items s.vacant s.free c.len.result c.self.invariant (rw (← c.in-None.ensures) (omega arith)))
