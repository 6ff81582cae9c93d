use Rattle.std.proofs.Common.{arith}
use Rattle.foyer_policy.proofs.RowLemmas.{is_place, slot_of-full, slots_of-length, slots_of-set}
use Rattle.foyer_policy.proofs.dates.slots.row.Row.set.Goals as goal

pub index_mut-requires : goal.index_mut-requires
index_mut-requires c =
    let v = c.self.inside in
    let within = rw (← c.self.view_is) at c.requires.within in
    omega (arith, within, slots_of-length v.dates.items v.places.items c.self.invariant, v.dates.ok.0)

pub index_mut-requires-2 : goal.index_mut-requires-2
index_mut-requires-2 c =
    let v = c.self.inside in
    let within = rw (← c.self.view_is) at c.requires.within in
    omega (arith, within, slots_of-length v.dates.items v.places.items c.self.invariant, c.self.invariant, v.places.ok.0)

pub returns-clause-slots : goal.returns-clause-slots
returns-clause-slots c =
    let v = c.self.inside in
    rw (
      ← c.self.view_is,
      c.number.ensures,
      ← slot_of-full c.args.date c.args.place (is_place c.args.place c.requires.fits),
    )
    (slots_of-set v.dates.items v.places.items c.args.index c.args.date c.args.place)
