use Rattle.std.proofs.Common.{Some, arith, refl, sym, ap, ◌∙◌}
use Rattle.foyer_core.specs.declared.slots.Cell.TheVariants.{Taken}
use Rattle.foyer_core.proofs.CellLemmas.{first_free, first_within, first_read, some_vacant, none_vacant, next_free}
use Rattle.foyer_core.proofs.CellLemmas.{seen-set, seen-push, AreCells-push, AreCells-fill}
use Rattle.foyer_core.proofs.slots.Slots.insert.Goals as goal

pub push_reserved-requires : goal.push_reserved-requires
push_reserved-requires g c =
    let s = c.self.inside in
    let sound = rw (← c.in_default.ensures) at c.self.invariant in
    let room = rw (← c.self.view_is) at c.requires in
    omega (arith, none_vacant s.cells.items s.vacant sound, room)

pub invariant_of-self : goal.invariant_of-self
invariant_of-self g c =
    let s = c.self.inside in
    let sound = rw (← c.in_default.ensures) at c.self.invariant in
    rw (c.push_reserved.ensures.items, ← c.in_default.ensures)
    (AreCells-push s.cells.items s.vacant c.args.value sound)

pub returns-in_default-clause-free : goal.returns-in_default-clause-free
returns-in_default-clause-free g c =
    let s = c.self.inside in
    rw (← c.self.view_is)
    (next_free s.cells.items s.vacant s.free c.len-slot.result c.self.invariant
    (rw (← c.in_default.ensures) (omega arith)))

pub returns-in_default-clause-slots : goal.returns-in_default-clause-slots
returns-in_default-clause-slots g c n =
    rw (← c.self.view_is, c.push_reserved.ensures.items)
    (seen-push c.self.inside.cells.items (Taken c.args.value) c.len-slot.result (omega arith) n)

pub index_mut-requires : goal.index_mut-requires
index_mut-requires g c =
    let s = c.self.inside in
    let sound = rw (← c.in-Some.ensures) at c.self.invariant in
    omega (arith, first_within s.cells.items s.vacant c.in-Some.slot sound)

pub overflow_sub-self : goal.overflow_sub-self
overflow_sub-self g c =
    let s = c.self.inside in
    let sound = rw (← c.in-Some.ensures) at c.self.invariant in
    omega (arith, some_vacant s.cells.items s.vacant c.in-Some.slot sound)

pub invariant_of-self-in-Free : goal.invariant_of-self-in-Free
invariant_of-self-in-Free g c =
    let s = c.self.inside in
    let sound = rw (← c.in-Some.ensures) at c.self.invariant in
    let read = first_read s.cells.items s.vacant c.in-Some.slot c.index_mut.result.now sound
    c.index_mut.ensures.value in
    let was = read ∙ ap Some (sym c.replace.ensures.value ∙ c.in-Free.is) in
    rw c.replace.ensures.after
    (AreCells-fill s.cells.items s.vacant c.in-Some.slot c.in-Free.next c.args.value sound was)

pub unreachable-requires : goal.unreachable-requires
unreachable-requires g c =
    let s = c.self.inside in
    let sound = rw (← c.in-Some.ensures) at c.self.invariant in
    let read = first_read s.cells.items s.vacant c.in-Some.slot c.index_mut.result.now sound
    c.index_mut.ensures.value in
    let taken = read ∙ ap Some (sym c.replace.ensures.value ∙ c.in-Taken.is) in
    let there = (first_free s.cells.items s.vacant c.in-Some.slot sound).1 in
    cc

pub returns-clause-free : goal.returns-clause-free
returns-clause-free g c =
    let s = c.self.inside in
    rw (← c.self.view_is)
    (next_free s.cells.items s.vacant s.free c.in-Some.slot c.self.invariant (rw (← c.in-Some.ensures) refl))

pub returns-clause-slots : goal.returns-clause-slots
returns-clause-slots g c =
    let s = c.self.inside in
    let sound = rw (← c.in-Some.ensures) at c.self.invariant in
    let within = first_within s.cells.items s.vacant c.in-Some.slot sound in
    rw (← c.self.view_is, c.replace.ensures.after)
    (seen-set s.cells.items c.in-Some.slot (Taken c.args.value) within)

pub returns-clause-room : goal.returns-clause-room
returns-clause-room g c =
    let s = c.self.inside in
    let sound = rw (← c.in-Some.ensures) at c.self.invariant in
    rw (← c.self.view_is) (omega (arith, some_vacant s.cells.items s.vacant c.in-Some.slot sound))
