use Rattle.std.proofs.Common.{◌≡◌, ◌++◌, [], List, ℕ, length, ap, sym, ◌∙◌, arith}
use Rattle.foyer_policy.proofs.RowLemmas.{slots_of-length}
use Rattle.foyer_policy.proofs.dates.slots.row.Row.with_room.Goals as goal

-- a column that was copied behind nothing
copied : (new none old slice : List ℕ) → new ≡ none ++ slice → none ≡ [] → slice ≡ old → length new ≡ length old
copied new none old slice e empty is = let same : none ++ slice ≡ old = rw empty is in ap length (e ∙ same)

pub returns-clause-within : goal.returns-clause-within
returns-clause-within c =
    let v = c.self.inside in
    let dates = c.extend_from_slice.new.self in
    let places = c.extend_from_slice-2.new.self in
    let d = copied dates.items c.in_ok-dates.dates.items v.dates.items c.deref.result.now
    c.in_ok-extend_from_slice.ensures.items c.in_ok-dates.ensures.items c.deref.ensures.value in
    let p = copied places.items c.in_ok-places.places.items v.places.items c.deref-2.result.now
    c.in_ok-extend_from_slice-2.ensures.items c.in_ok-places.ensures.items c.deref-2.ensures.value in
    let count = slots_of-length dates.items places.items (p ∙ (c.self.invariant ∙ sym d)) in
    omega (arith, count, p, d, c.self.invariant, dates.ok.0, dates.ok.1, places.ok.0, places.ok.1)
