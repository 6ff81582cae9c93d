-- What a contract sees of a row of slots.
use Rattle.std.specs.Prelude.{◌==◌, ℕ, List, [], ◌∷◌, Option, Some, None, if◌then◌else◌}

-- the slots, each with a place and its date or empty, and how many there may be
pub record Row : Type 0 where
  pub slots : List (Option (ℕ × ℕ))
  pub capacity : ℕ

-- the slot of a date and a place, which is empty for the number 2^32 - 1
abbrev pub slot_of : ℕ → ℕ → Option (ℕ × ℕ)
slot_of date place = if place == 4294967295 then None else Some (place, date)

-- the slots of two columns
abbrev pub slots_of : List ℕ → List ℕ → List (Option (ℕ × ℕ))
slots_of [] places = []
slots_of (date ∷ dates) [] = []
slots_of (date ∷ dates) (place ∷ places) = slot_of date place ∷ slots_of dates places
