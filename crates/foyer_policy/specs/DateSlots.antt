-- How the dates of a list stand in slots.
use Rattle.std.specs.Prelude.{◌≡◌, ℕ, ◌/◌, ◌^◌, ◌<◌, ◌≤◌, List, [], ◌∷◌, Option, Some, None, length, slice_get, slice_index}
use Rattle.foyer_policy.specs.Rows.{Row}

-- the places with their dates, in the order of the slots
abbrev pub on_of : List (Option (ℕ × ℕ)) → List (ℕ × ℕ)
on_of [] = []
on_of (None ∷ slots) = on_of slots
on_of (Some e ∷ slots) = e ∷ on_of slots

-- a slot is that of a place
pub record IsAt (p : ℕ) (slots : List (Option (ℕ × ℕ))) (j : ℕ) : Type 0 where
  pub date : ℕ
  pub is : slice_get slots j ≡ Some (Some (p, date))

-- no two slots have the same place
abbrev pub AreApart : List (Option (ℕ × ℕ)) → Type 0
AreApart slots =
    (i j : ℕ) (d e : ℕ × ℕ) → slice_get slots i ≡ Some (Some d) → slice_get slots j ≡ Some (Some e) → d.0 ≡ e.0 → i ≡ j

-- no date is below the leaf of its block, which has 32 slots
abbrev pub AreAbove : List (Option (ℕ × ℕ)) → List ℕ → Type 0
AreAbove slots tree =
    (j : ℕ) (e : ℕ × ℕ) → slice_get slots j ≡ Some (Some e) → slice_index tree (j / 32) ≤ e.1

-- no slot from this one on is taken
abbrev pub AreEmptyFrom : ℕ → List (Option (ℕ × ℕ)) → Type 0
AreEmptyFrom from slots = (j : ℕ) (e : ℕ × ℕ) → slice_get slots j ≡ Some (Some e) → j < from

-- what is true of slots
pub record AreDates (limit : ℕ) (row : Row) (tree : List ℕ) : Type 0 where
  pub room : limit ≤ row.capacity
  pub few : limit < 2 ^ 32
  pub within : length row.slots ≤ limit
  pub apart : AreApart row.slots
  pub leaves : limit / 32 < length tree
  pub above : AreAbove row.slots tree
