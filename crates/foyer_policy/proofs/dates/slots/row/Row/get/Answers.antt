use Rattle.std.proofs.Common.{◌≡◌, ◌<◌, ◌∙◌, true, Some, length, sym, refl, ap, arith}
use Rattle.std.specs.Prelude.{◌==◌}
use Rattle.std.proofs.lemmas.Option.{slice_get_read}
use Rattle.foyer_policy.proofs.PlaceLemmas.{same_place, other_place}
use Rattle.foyer_policy.proofs.RowLemmas.{slot_of-full, slots_of-length, slots_of-get, slots_of-get_empty}
use Rattle.foyer_policy.proofs.dates.slots.row.Row.get.Goals as goal

pub index-place-requires : goal.index-place-requires
index-place-requires c =
    let v = c.self.inside in
    let within = rw (← c.self.view_is) at c.requires in
    omega (arith, within, slots_of-length v.dates.items v.places.items c.self.invariant, c.self.invariant, v.places.ok.0)

pub returns-then-place-clause-is : goal.returns-then-place-clause-is
returns-then-place-clause-is c =
    let v = c.self.inside in
    let within = rw (← c.self.view_is) at c.requires in
    let count = slots_of-length v.dates.items v.places.items c.self.invariant in
    let below : c.args.index < length v.dates.items = omega (arith, within, count) in
    let p = c.index-place.result.now in
    let place = slice_get_read v.places.items _ c.args.index p (sym c.self.invariant) below c.index-place.ensures in
    let empty : (p == 4294967295) ≡ true = rw c.if-place.true (same_place 4294967295) in
    rw (← c.self.view_is)
    (slots_of-get_empty v.dates.items v.places.items c.args.index p c.self.invariant place empty)

pub index-date-requires : goal.index-date-requires
index-date-requires c =
    let v = c.self.inside in
    let within = rw (← c.self.view_is) at c.requires in
    omega (arith, within, slots_of-length v.dates.items v.places.items c.self.invariant, v.dates.ok.0)

pub returns-clause-is : goal.returns-clause-is
returns-clause-is c =
    let v = c.self.inside in
    let within = rw (← c.self.view_is) at c.requires in
    let count = slots_of-length v.dates.items v.places.items c.self.invariant in
    let below : c.args.index < length v.dates.items = omega (arith, within, count) in
    let date = slice_get_read v.dates.items _ c.args.index c.index-date.result.now refl below c.index-date.ensures in
    let place = slice_get_read v.places.items _ c.args.index c.index-place.result.now (sym c.self.invariant) below
    c.index-place.ensures in
    rw (← c.self.view_is, c.at.ensures)
    (slots_of-get v.dates.items v.places.items c.args.index c.index-date.result.now c.index-place.result.now date place
    ∙ ap Some (slot_of-full c.index-date.result.now c.index-place.result.now
    (other_place c.index-place.result.now 4294967295 c.if-place.false)))
