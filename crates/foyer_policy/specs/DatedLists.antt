-- What is known of when the items of lists expire.
use Rattle.std.specs.Prelude.{◌≡◌, ℕ, ◌<◌, ◌≤◌, List, [], None}
use Rattle.foyer_policy.specs.Dates.{Dates, StandsIn, dates_of, on}
use Rattle.foyer_policy.specs.Lists.{find_in, list_at}
use Rattle.foyer_policy.specs.declared.types.Item.{Item}
use Rattle.foyer_policy.specs.declared.dated_lists.tracking.Tracking.{Tracking}
use Rattle.foyer_policy.specs.declared.dated_lists.tracking.Tracking.TheVariants.{Plain, Untracked, Tracked}

-- these are the dates of some of n lists, the first ones, `are k` of list k
pub record KeepsDates (n : ℕ) (are : ℕ → List (ℕ × ℕ)) (d : Dates) : Type 0 where
  pub lists : d.lists ≤ n
  pub same : (k : ℕ) → k < d.lists → on d k ≡ are k

-- what is known agrees with the dates of n lists, `are k` of list k
abbrev pub Knows : ℕ → (ℕ → List (ℕ × ℕ)) → Tracking → Type 0
Knows n are Plain = (k : ℕ) → k < n → are k ≡ []
Knows n are Untracked = Unit {0}
Knows n are (Tracked d) = KeepsDates n are d

-- a place has no date
abbrev pub HasNone : ℕ → Dates → Type 0
HasNone p d = (k : ℕ) → k < d.lists → find_in p (on d k) ≡ None

-- a date may come at this place
abbrev pub CanPush : ℕ → Tracking → Type 0
CanPush p Plain = Unit {0}
CanPush p Untracked = Unit {0}
CanPush p (Tracked d) = HasNone p d

-- a date may go from this list, and this place
abbrev pub CanRemove : ℕ → ℕ → Tracking → Type 0
CanRemove list p Plain = Unit {0}
CanRemove list p Untracked = Unit {0}
CanRemove list p (Tracked d) = StandsIn list p d

module _ {T : Type 0} (item : T → Item) where
  -- when the items of list k expire, of some lists
  abbrev pub dates_at : List (List (ℕ × T)) → ℕ → List (ℕ × ℕ)
  dates_at ls k = dates_of item (list_at ls k)

  -- the dates of the lists before this one, of so many, while those of the others are still to come
  pub record Builds (count : ℕ) (ls : List (List (ℕ × T))) (list : ℕ) (d : Dates) : Type 0 where
    pub lists : d.lists ≡ count
    pub done : (k : ℕ) → k < list → on d k ≡ dates_at ls k
    pub todo : (k : ℕ) → list ≤ k → k < count → on d k ≡ []
