-- Which items of lists expire, and when.
use Rattle.std.specs.Prelude.{◌==◌, ◌≢◌, ℕ, ◌<◌, IsSome, List, [], ◌∷◌, ◌++◌, Option, Some, None, nat_le, if◌then◌else◌}
use Rattle.foyer_policy.specs.Lists.{find_in, list_at, IsFree}
use Rattle.foyer_policy.specs.declared.types.Item.{Item}

-- the places of each list that have a date, with that, in order; and how many lists there are
pub record Dates : Type 0 where
  pub dated : List (List (ℕ × ℕ))
  pub lists : ℕ

-- of list k the places that have a date, with that, in order
abbrev pub on : Dates → ℕ → List (ℕ × ℕ)
on d k = list_at d.dated k

-- a place has a date in this list, where that is kept, and in no other
pub record StandsIn (list : ℕ) (p : ℕ) (d : Dates) : Type 0 where
  pub there : list < d.lists → IsSome (find_in p (on d list))
  pub others : (k : ℕ) → k < d.lists → k ≢ list → IsFree p (on d k)

-- the dates of list k, once a place with a date came to the end of a list
abbrev pub with_last : ℕ → ℕ → ℕ → (ℕ → List (ℕ × ℕ)) → ℕ → List (ℕ × ℕ)
with_last list place date dates k = if k == list then dates k ++ (place, date) ∷ [] else dates k

-- the first place whose date is not behind a moment
abbrev pub first_by : ℕ → List (ℕ × ℕ) → Option ℕ
first_by now [] = None
first_by now (e ∷ es) = if nat_le e.1 now then Some e.0 else first_by now es

-- an entry in front, where there is a date
abbrev pub before_all : ℕ → Option ℕ → List (ℕ × ℕ) → List (ℕ × ℕ)
before_all p None es = es
before_all p (Some date) es = (p, date) ∷ es

module _ {T : Type 0} (item : T → Item) where
  -- the places of a list whose items expire, and when they do, in order
  abbrev pub dates_of : List (ℕ × T) → List (ℕ × ℕ)
  dates_of [] = []
  dates_of (e ∷ es) = before_all e.0 (item e.1).expires (dates_of es)
