use Rattle.std.proofs.Common.{arith}
use Rattle.foyer_policy.proofs.RowLemmas.{is_place, slot_of-full, slots_of-length, slots_of-append}
use Rattle.foyer_policy.proofs.dates.slots.row.Row.push_reserved.Goals as goal

pub push_reserved-requires : goal.push_reserved-requires
push_reserved-requires c =
    let v = c.self.inside in
    let room = rw (← c.self.view_is) at c.requires.room in
    omega (arith, room, slots_of-length v.dates.items v.places.items c.self.invariant, v.dates.ok.0)

pub push_reserved-requires-2 : goal.push_reserved-requires-2
push_reserved-requires-2 c =
    let v = c.self.inside in
    let room = rw (← c.self.view_is) at c.requires.room in
    omega (arith, room, slots_of-length v.dates.items v.places.items c.self.invariant, c.self.invariant, v.places.ok.0)

pub returns-clause-slots : goal.returns-clause-slots
returns-clause-slots c =
    let v = c.self.inside in
    rw (
      ← c.self.view_is,
      c.push_reserved.ensures.items,
      c.push_reserved-2.ensures.items,
      c.number.ensures,
      ← slot_of-full c.args.date c.args.place (is_place c.args.place c.requires.fits),
    )
    (slots_of-append v.dates.items v.places.items c.args.date c.args.place c.self.invariant)
