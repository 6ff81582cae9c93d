use Rattle.std.proofs.Common.{arith}
use Rattle.foyer_policy.proofs.PlaceLemmas.{same_place}
use Rattle.foyer_policy.proofs.RowLemmas.{slots_of-length, slots_of-empty}
use Rattle.foyer_policy.proofs.dates.slots.row.Row.empty.Goals as goal

pub index_mut-requires : goal.index_mut-requires
index_mut-requires c =
    let v = c.self.inside in
    let within = rw (← c.self.view_is) at c.requires in
    omega (arith, within, slots_of-length v.dates.items v.places.items c.self.invariant, c.self.invariant, v.places.ok.0)

pub returns-clause-slots : goal.returns-clause-slots
returns-clause-slots c =
    let v = c.self.inside in
    rw (← c.self.view_is)
    (slots_of-empty v.dates.items v.places.items c.args.index 4294967295 (same_place 4294967295))
