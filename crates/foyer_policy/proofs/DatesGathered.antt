-- The slots that are taken move to the front.
use Rattle.std.proofs.Common.{◌≡◌, ◌≢◌, ℕ, ◌+◌, ◌<◌, ◌≤◌, List, Option, Some, None, length, set, refl, sym, ◌∙◌, ap, arith, ◌⊎◌, inl, inr, length-set}
use Rattle.std.specs.Prelude.{slice_get}
use Rattle.std.proofs.lemmas.Bool.{cases_lt}
use Rattle.std.proofs.lemmas.Option.{slice_get_within}
use Rattle.foyer_policy.specs.DateSlots.{on_of, AreApart, AreEmptyFrom}
use Rattle.foyer_policy.proofs.DatesLemmas.{written, on_of-moved}

-- what is true while slots move: `to` of them did, and the next to look at is `from`
pub record AreGathered (old slots : List (Option (ℕ × ℕ))) (to from : ℕ) : Type 0 where
  pub behind : to ≤ from
  pub apart : AreApart slots
  pub same : on_of slots ≡ on_of old
  pub rest : (j : ℕ) (e : ℕ × ℕ) → slice_get slots j ≡ Some (Some e) → to ≤ j → from ≤ j

pub AreGathered-init : (old : List (Option (ℕ × ℕ))) → AreApart old → AreGathered old old 0 0
AreGathered-init old h = record {
  behind = omega arith;
  apart = h;
  same = refl;
  rest = λ j e is low. low;
}

module _ (old slots : List (Option (ℕ × ℕ))) (to from : ℕ) (h : AreGathered old slots to from) where
  -- an empty slot is passed over
  pub passed : slice_get slots from ≡ Some None → AreGathered old slots to (from + 1)
  passed is = record {
    behind = omega (arith, h.behind);
    apart = h.apart;
    same = h.same;
    rest = λ j e at low. (let far = h.rest j e at low in omega (arith, far, off j e at));
  } where
    off : (j : ℕ) (e : ℕ × ℕ) → slice_get slots j ≡ Some (Some e) → j ≢ from
    off j e at q = let here = rw q at at in cc

  -- once all were looked at, all that are taken moved
  pub all_moved : length slots ≤ from → AreEmptyFrom to slots
  all_moved all j e at = low_or_high (cases_lt j to) where
    low_or_high : (j < to) ⊎ (to ≤ j) → j < to
    low_or_high (inl low) = low
    low_or_high (inr high) = absurd (let far = h.rest j e at high in
        omega (arith, far, all, slice_get_within slots j (Some e) at))

  -- a slot that is taken moves
  module _ (e : ℕ × ℕ) (is : slice_get slots from ≡ Some (Some e)) where
    abbrev moved : List (Option (ℕ × ℕ))
    moved = set (set slots from None) to (Some e)

    within : from < length slots
    within = slice_get_within slots from (Some e) is

    -- a slot is taken then that was the one that moved
    abbrev Moved : ℕ → ℕ × ℕ → Type 0
    Moved j d = (j ≡ to) × (e ≡ d)

    -- or stood elsewhere
    abbrev Stayed : ℕ → ℕ × ℕ → Type 0
    Stayed j d = (j ≢ from) × (slice_get slots j ≡ Some (Some d))

    slots_are : (j : ℕ) (d : ℕ × ℕ) → slice_get moved j ≡ Some (Some d) → Moved j d ⊎ ((j ≢ to) × Stayed j d)
    slots_are j d at = go (written (set slots from None) to (Some e) j (Some d)
        (omega (arith, length-set slots from None, within, h.behind)) at) where
          stayed : (j ≢ to) → ((j ≡ from) × (None ≡ Some d)) ⊎ Stayed j d → Moved j d ⊎ ((j ≢ to) × Stayed j d)
          stayed ne (inl w) = absurd (let no = w.1 in cc)
          stayed ne (inr w) = inr (ne, w)

          go : ((j ≡ to) × (Some e ≡ Some d)) ⊎ ((j ≢ to) × (slice_get (set slots from None) j ≡ Some (Some d))) →
              Moved j d ⊎ ((j ≢ to) × Stayed j d)
          go (inl w) = inl (w.0, (let both = w.1 in cc))
          go (inr w) = stayed w.0 (written slots from None j (Some d) within w.1)

    pub moved_on : AreGathered old moved (to + 1) (from + 1)
    moved_on = record {
      behind = omega (arith, h.behind);
      apart = λ i j c d here there same. apart i j c d (slots_are i c here) (slots_are j d there) same;
      same = on_of-moved to from slots e is h.behind h.rest ∙ h.same;
      rest = λ j d at low. rest j d low (slots_are j d at);
    } where
      -- a slot that stays has another place than the one that moved
      off : (j : ℕ) (d : ℕ × ℕ) → Stayed j d → e.0 ≢ d.0
      off j d w same = w.0 (sym (h.apart from j e d is w.1 same))

      apart : (i j : ℕ) (c d : ℕ × ℕ) → Moved i c ⊎ ((i ≢ to) × Stayed i c) → Moved j d ⊎ ((j ≢ to) × Stayed j d) →
          c.0 ≡ d.0 → i ≡ j
      apart i j c d (inl a) (inl b) same = a.0 ∙ sym b.0
      apart i j c d (inl a) (inr b) same = absurd (off j d b.1 (ap (λ (w : ℕ × ℕ). w.0) a.1 ∙ same))
      apart i j c d (inr a) (inl b) same = absurd (off i c a.1 (ap (λ (w : ℕ × ℕ). w.0) b.1 ∙ sym same))
      apart i j c d (inr a) (inr b) same = h.apart i j c d a.1.1 b.1.1 same

      rest : (j : ℕ) (d : ℕ × ℕ) → to + 1 ≤ j → Moved j d ⊎ ((j ≢ to) × Stayed j d) → from + 1 ≤ j
      rest j d low (inl w) = absurd (omega (arith, w.0, low))
      rest j d low (inr w) = (let far = h.rest j d w.1.1 (omega (arith, low)) in omega (arith, far, w.1.0))
