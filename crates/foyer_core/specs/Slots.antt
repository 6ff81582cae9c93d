-- What contracts see of slots.
use Rattle.std.specs.Prelude.{◌+◌, ◌≤◌, ℕ, List, [], ◌∷◌, Option, Some, None, slice_index_or, slice_set}

-- what is in each slot from 0 on, the slot that the next value gets, and how many more values fit with no
-- allocation
pub record Slots (T : Type 0) : Type 0 where
  pub slots : List (Option T)
  pub next : ℕ
  pub room : ℕ

module _ {T : Type 0} where
  -- the value in a slot
  abbrev pub get : Slots T → ℕ → Option T
  get s slot = slice_index_or s.slots slot None

  -- so many more values fit with no allocation
  abbrev pub HasRoomFor : Slots T → ℕ → Type 0
  HasRoomFor s more = more ≤ s.room

  -- the slots once another value is written into one that has a value
  abbrev pub with_value : Slots T → ℕ → T → Slots T
  with_value s slot value = record s { slots = slice_set s.slots slot (Some value) }

  -- the slots that have a value, with it, where the first slot has this number
  abbrev pub entries_from : ℕ → List (Option T) → List (ℕ × T)
  entries_from slot [] = []
  entries_from slot (None ∷ rest) = entries_from (slot + 1) rest
  entries_from slot (Some value ∷ rest) = (slot, value) ∷ entries_from (slot + 1) rest

  -- the slots that have a value, with it, by rising number
  abbrev pub entries : Slots T → List (ℕ × T)
  entries s = entries_from 0 s.slots
