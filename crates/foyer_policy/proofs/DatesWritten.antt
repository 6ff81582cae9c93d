-- Slots of which a front is kept, one is emptied, or one is taken.
use Rattle.std.proofs.Common.{◌≡◌, ◌≢◌, ℕ, ◌/◌, ◌<◌, ◌≤◌, List, [], ◌∷◌, ◌++◌, Option, Some, None, length, set, take, sym, ◌∙◌, ap, arith, ◌⊎◌, inl, inr}
use Rattle.std.specs.Prelude.{slice_get, slice_index}
use Rattle.std.proofs.lemmas.List.{length_push}
use Rattle.foyer_policy.specs.DateSlots.{on_of, AreApart, AreDates, IsAt}
use Rattle.foyer_policy.specs.Lists.{drop_place, find_in}
use Rattle.foyer_policy.specs.Rows.{Row}
use Rattle.foyer_policy.proofs.DatesLemmas.{fronted, not_free, on_of-emptied, pushed}
use Rattle.foyer_policy.proofs.PlaceLemmas.{IsFree-none}

-- a front stays apart
pub AreApart-take : (n : ℕ) (slots : List (Option (ℕ × ℕ))) → AreApart slots → AreApart (take n slots)
AreApart-take n slots h i j d e is at = h i j d e (fronted n slots i (Some d) is) (fronted n slots j (Some e) at)

-- where the slot of a place is emptied, its entry goes
pub entry_gone : (slots : List (Option (ℕ × ℕ))) → AreApart slots → (p j : ℕ) → IsAt p slots j →
    on_of (set slots j None) ≡ drop_place p (on_of slots)
entry_gone slots apart p j at = on_of-emptied p at.date j slots at.is
    (λ i e is place. apart i j e (p, at.date) is at.is place)

-- a slot is taken
module _ (limit : ℕ) (row : Row) (tree : List ℕ) (h : AreDates limit row tree) (e : ℕ × ℕ)
    (free : find_in e.0 (on_of row.slots) ≡ None) where
  abbrev more : List (Option (ℕ × ℕ))
  more = row.slots ++ Some e ∷ []

  -- a slot that is taken then is the last, or stood there
  abbrev Last : ℕ → ℕ × ℕ → Type 0
  Last j d = (j ≡ length row.slots) × (e ≡ d)

  abbrev Stood : ℕ → ℕ × ℕ → Type 0
  Stood j d = slice_get row.slots j ≡ Some (Some d)

  slots_are : (j : ℕ) (d : ℕ × ℕ) → slice_get more j ≡ Some (Some d) → Last j d ⊎ Stood j d
  slots_are j d is = go (pushed row.slots (Some e) j (Some d) is) where
    go : ((j ≡ length row.slots) × (Some e ≡ Some d)) ⊎ Stood j d → Last j d ⊎ Stood j d
    go (inl w) = inl (w.0, (let both = w.1 in cc))
    go (inr w) = inr w

  pub AreDates-pushed : length row.slots < limit → (w : Row) (new : List ℕ) → w.slots ≡ more → w.capacity
      ≡ row.capacity → length new ≡ length tree → slice_index new (length row.slots / 32) ≤ e.1 →
      ((b : ℕ) → slice_index new b ≤ slice_index tree b) → AreDates limit w new
  AreDates-pushed room w new slots capacity long here less = record {
    room = omega (arith, capacity, h.room);
    few = h.few;
    within = rw slots (omega (arith, length_push row.slots (Some e), room));
    apart = rw slots (λ i j c d is at. apart i j c d (slots_are i c is) (slots_are j d at));
    leaves = omega (arith, long, h.leaves);
    above = rw slots (λ j d is. above j d (slots_are j d is));
  } where
    -- no slot had the place
    other : (j : ℕ) (d : ℕ × ℕ) → Stood j d → d.0 ≢ e.0
    other j d = not_free e.0 row.slots (IsFree-none e.0 (on_of row.slots) free) j d

    apart : (i j : ℕ) (c d : ℕ × ℕ) → Last i c ⊎ Stood i c → Last j d ⊎ Stood j d → c.0 ≡ d.0 → i ≡ j
    apart i j c d (inl a) (inl b) same = a.0 ∙ sym b.0
    apart i j c d (inl a) (inr b) same = absurd (other j d b (sym same ∙ ap (λ (w : ℕ × ℕ). w.0) (sym a.1)))
    apart i j c d (inr a) (inl b) same = absurd (other i c a (same ∙ ap (λ (w : ℕ × ℕ). w.0) (sym b.1)))
    apart i j c d (inr a) (inr b) same = h.apart i j c d a b same

    above : (j : ℕ) (d : ℕ × ℕ) → Last j d ⊎ Stood j d → slice_index new (j / 32) ≤ d.1
    above j d (inl w) = rw (← w.1, w.0) here
    above j d (inr w) = omega (arith, less (j / 32), h.above j d w)
