-- Slots of ids: those of the last ids by their places, and those of others far.
use Rattle.std.specs.Prelude.{◌≡◌, ℕ, ◌-◌, ◌%◌, ◌==◌, ◌&&◌, Bool, List, Option, Some, None, IsSome, length, nat_lt, nat_le, slice_get, if◌then◌else◌}
use Rattle.foyer_core.specs.declared.records.ids.Standing.{Standing}

-- the slot that stands at a place: the greatest number is none
abbrev pub slot_at : Option Standing → Option ℕ
slot_at None = None
slot_at (Some s) = if s.slot == 4294967295 then None else Some s.slot

-- whether an id is one of so many that end before this one
abbrev pub is_recent : ℕ → ℕ → ℕ → Bool
is_recent many end id = nat_lt id end && nat_le (end - id) many

-- the slot of an id, where it is one of the last, by their places
abbrev pub slot_near : ℕ → List Standing → ℕ → Option ℕ
slot_near end near id = if is_recent (length near) end id then slot_at (slice_get near (id % length near)) else None

-- this slot, or else that one
abbrev pub or_slot : Option ℕ → Option ℕ → Option ℕ
or_slot (Some n) other = Some n
or_slot None other = other

-- no id has a slot by both
abbrev pub AreApart : (ℕ → Option ℕ) → (ℕ → Option ℕ) → Type 0
AreApart near far = (id : ℕ) → IsSome (near id) → far id ≡ None
