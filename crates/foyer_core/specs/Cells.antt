-- How slots lie in cells. No contract outside of the slots cites this.
use Rattle.std.specs.Prelude.{◌≡◌, ◌+◌, ℕ, zero, suc, List, Option, Some, None}
use Rattle.std.specs.Prelude.{is_some, count_by, length, map, slice_get}
use Rattle.foyer_core.specs.declared.slots.Cell.{Cell}
use Rattle.foyer_core.specs.declared.slots.Cell.TheVariants.{Free, Taken}

module _ {T : Type 0} where
  -- the value in a cell
  abbrev pub value_of : Cell T → Option T
  value_of (Free _) = None
  value_of (Taken value) = Some value

  -- from this link on, so many free cells lead each to the next, and the last one to the end
  abbrev pub IsFreeList : List (Cell T) → ℕ → Option ℕ → Type 0
  IsFreeList cells zero link = link ≡ None
  IsFreeList cells (suc more) link = (first : ℕ) × (next : Option ℕ) × (link ≡ Some first)
      × (slice_get cells first ≡ Some (Free next)) × IsFreeList cells more next

  -- so many cells are free, and the list from this link on has them all
  pub record AreCells (cells : List (Cell T)) (vacant : ℕ) (link : Option ℕ) : Type 0 where
    pub counted : count_by is_some (map value_of cells) + vacant ≡ length cells
    pub linked : IsFreeList cells vacant link
