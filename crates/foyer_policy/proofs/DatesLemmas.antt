-- Slots that are written, and the dates that stand in them.
use Rattle.std.proofs.Common.{◌≡◌, ◌≢◌, ℕ, zero, suc, ◌<◌, ◌≤◌, true, false, List, [], ◌∷◌, ◌++◌, Option, Some, None, length, set, take, refl, sym, ◌∙◌, ap, arith, ◌⊎◌, inl, inr, ⊎_elim}
use Rattle.std.specs.Prelude.{slice_get, nat_eq}
use Rattle.foyer_policy.specs.DateSlots.{on_of, AreEmptyFrom}
use Rattle.foyer_policy.specs.Lists.{drop_place, IsFree}
use Rattle.foyer_policy.proofs.ListsLemmas.{same_or_not}
use Rattle.foyer_policy.proofs.PlaceLemmas.{same_place, other_place}

module _ {X : Type 0} where
  pub slice_get-set_same : (xs : List X) (i : ℕ) (y : X) → i < length xs → slice_get (set xs i y) i ≡ Some y
  slice_get-set_same [] i y h = absurd (omega (arith, h))
  slice_get-set_same (x ∷ xs) zero y h = refl
  slice_get-set_same (x ∷ xs) (suc i) y h = slice_get-set_same xs i y (omega (arith, h))

  pub slice_get-set_other : (xs : List X) (i j : ℕ) (y : X) → j ≢ i → slice_get (set xs i y) j ≡ slice_get xs j
  slice_get-set_other [] i j y h = refl
  slice_get-set_other (x ∷ xs) zero zero y h = absurd (h refl)
  slice_get-set_other (x ∷ xs) zero (suc j) y h = refl
  slice_get-set_other (x ∷ xs) (suc i) zero y h = refl
  slice_get-set_other (x ∷ xs) (suc i) (suc j) y h = slice_get-set_other xs i j y (λ e. h (ap suc e))

  -- what stands in a list that was written is what was written, or stood there
  pub written : (xs : List X) (i : ℕ) (y : X) (j : ℕ) (x : X) → i < length xs → slice_get (set xs i y) j ≡ Some x →
      ((j ≡ i) × (y ≡ x)) ⊎ ((j ≢ i) × (slice_get xs j ≡ Some x))
  written xs i y j x within is = go (same_or_not j i) where
    go : (j ≡ i) ⊎ (j ≢ i) → ((j ≡ i) × (y ≡ x)) ⊎ ((j ≢ i) × (slice_get xs j ≡ Some x))
    go (inl e) = let here : slice_get (set xs i y) j ≡ Some y = rw e (slice_get-set_same xs i y within) in
        let same : y ≡ x = cc in inl (e, same)
    go (inr ne) = inr (ne, sym (slice_get-set_other xs i j y ne) ∙ is)

  -- and in one that got a last element
  pub pushed : (xs : List X) (y : X) (j : ℕ) (x : X) → slice_get (xs ++ y ∷ []) j ≡ Some x →
      ((j ≡ length xs) × (y ≡ x)) ⊎ (slice_get xs j ≡ Some x)
  pushed [] y zero x is = (let same : y ≡ x = cc in inl (refl, same))
  pushed [] y (suc j) x is = absurd cc
  pushed (z ∷ xs) y zero x is = inr is
  pushed (z ∷ xs) y (suc j) x is = ⊎_elim (λ h. inl (ap suc h.0, h.1)) (λ h. inr h) (pushed xs y j x is)

  -- and in a front
  pub fronted : (n : ℕ) (xs : List X) (j : ℕ) (x : X) → slice_get (take n xs) j ≡ Some x → slice_get xs j ≡ Some x
  fronted zero xs j x is = absurd cc
  fronted (suc n) [] j x is = absurd cc
  fronted (suc n) (y ∷ xs) zero x is = is
  fronted (suc n) (y ∷ xs) (suc j) x is = fronted n xs j x is

-- the entries of slots behind others stand behind theirs
pub on_of-append : (ss ts : List (Option (ℕ × ℕ))) → on_of (ss ++ ts) ≡ on_of ss ++ on_of ts
on_of-append [] ts = refl
on_of-append (None ∷ ss) ts = on_of-append ss ts
on_of-append (Some e ∷ ss) ts = ap (λ r. e ∷ r) (on_of-append ss ts)

-- empty slots have no entries
pub on_of-none : (ss : List (Option (ℕ × ℕ))) → AreEmptyFrom 0 ss → on_of ss ≡ []
on_of-none [] h = refl
on_of-none (None ∷ ss) h = on_of-none ss (λ j e is. absurd (let low = h (suc j) e is in omega (arith, low)))
on_of-none (Some x ∷ ss) h = absurd (let low = h 0 x refl in omega (arith, low))

-- a front has all entries, where those behind are empty
pub on_of-take : (n : ℕ) (ss : List (Option (ℕ × ℕ))) → AreEmptyFrom n ss → on_of (take n ss) ≡ on_of ss
on_of-take zero ss h = sym (on_of-none ss h)
on_of-take (suc n) [] h = refl
on_of-take (suc n) (None ∷ ss) h =
    on_of-take n ss (λ j e is. let low = h (suc j) e is in omega (arith, low))
on_of-take (suc n) (Some x ∷ ss) h =
    ap (λ r. x ∷ r) (on_of-take n ss (λ j e is. let low = h (suc j) e is in omega (arith, low)))

-- where the only slot of a place is emptied, its entry goes
pub on_of-emptied : (p date j : ℕ) (ss : List (Option (ℕ × ℕ))) → slice_get ss j ≡ Some (Some (p, date)) →
    ((i : ℕ) (e : ℕ × ℕ) → slice_get ss i ≡ Some (Some e) → e.0 ≡ p → i ≡ j) → on_of (set ss j None)
    ≡ drop_place p (on_of ss)
on_of-emptied p date j [] is once = absurd cc
on_of-emptied p date zero (None ∷ ss) is once = absurd cc
on_of-emptied p date zero (Some x ∷ ss) is once =
    let same : x ≡ (p, date) = cc in
    let place : x.0 ≡ p = ap (λ (e : ℕ × ℕ). e.0) same in
    let b : nat_eq x.0 p ≡ true = rw place (same_place p) in
    rw b refl
on_of-emptied p date (suc j) (None ∷ ss) is once = on_of-emptied p date j ss is
    (λ i e at place. let far = once (suc i) e at place in omega (arith, far))
on_of-emptied p date (suc j) (Some x ∷ ss) is once =
    let ne : x.0 ≢ p = λ q. (let far : 0 ≡ suc j = once 0 x refl q in omega (arith, far)) in
    let b : nat_eq x.0 p ≡ false = other_place x.0 p ne in
    rw b (ap (λ r. x ∷ r) (on_of-emptied p date j ss is
    (λ i e at place. let far = once (suc i) e at place in omega (arith, far))))

-- a slot moves over empty ones in front of it
on_of-led : (j : ℕ) (ss : List (Option (ℕ × ℕ))) (e : ℕ × ℕ) → slice_get ss j ≡ Some (Some e) →
    ((i : ℕ) (d : ℕ × ℕ) → slice_get ss i ≡ Some (Some d) → j ≤ i) → on_of (Some e ∷ set ss j None) ≡ on_of ss
on_of-led j [] e is empty = absurd cc
on_of-led zero (None ∷ ss) e is empty = absurd cc
on_of-led zero (Some x ∷ ss) e is empty = let same : x ≡ e = cc in ap (λ d. d ∷ on_of ss) (sym same)
on_of-led (suc j) (None ∷ ss) e is empty =
    on_of-led j ss e is (λ i d at. let far = empty (suc i) d at in omega (arith, far))
on_of-led (suc j) (Some x ∷ ss) e is empty = absurd (let far = empty 0 x refl in omega (arith, far))

pub on_of-moved : (to from : ℕ) (ss : List (Option (ℕ × ℕ))) (e : ℕ × ℕ) → slice_get ss from ≡ Some (Some e) →
    to ≤ from → ((i : ℕ) (d : ℕ × ℕ) → slice_get ss i ≡ Some (Some d) → to ≤ i → from ≤ i) →
    on_of (set (set ss from None) to (Some e)) ≡ on_of ss
on_of-moved to from [] e is le empty = absurd cc
on_of-moved zero zero (x ∷ ss) e is le empty =
    let same : x ≡ Some e = cc in
    ap (λ (s : Option (ℕ × ℕ)). on_of (s ∷ ss)) (sym same)
on_of-moved zero (suc from) (None ∷ ss) e is le empty =
    on_of-led from ss e is (λ i d at. let far = empty (suc i) d at (omega arith) in omega (arith, far))
on_of-moved zero (suc from) (Some x ∷ ss) e is le empty =
    absurd (let far = empty 0 x refl (omega arith) in omega (arith, far))
on_of-moved (suc to) zero (x ∷ ss) e is le empty = absurd (omega (arith, le))
on_of-moved (suc to) (suc from) (None ∷ ss) e is le empty = on_of-moved to from ss e is (omega (arith, le))
    (λ i d at low. let far = empty (suc i) d at (omega (arith, low)) in omega (arith, far))
on_of-moved (suc to) (suc from) (Some x ∷ ss) e is le empty =
    ap (λ r. x ∷ r) (on_of-moved to from ss e is (omega (arith, le))
    (λ i d at low. let far = empty (suc i) d at (omega (arith, low)) in omega (arith, far)))

-- a slot has no place that is free
pub not_free : (p : ℕ) (ss : List (Option (ℕ × ℕ))) → IsFree p (on_of ss) → (j : ℕ) (e : ℕ × ℕ) → slice_get ss j
    ≡ Some (Some e) → e.0 ≢ p
not_free p [] h j e is = absurd cc
not_free p (None ∷ ss) h zero e is = absurd cc
not_free p (None ∷ ss) h (suc j) e is = not_free p ss h j e is
not_free p (Some x ∷ ss) h zero e is = (let same : x ≡ e = cc in λ q. h.0 (ap (λ (d : ℕ × ℕ). d.0) same ∙ q))
not_free p (Some x ∷ ss) h (suc j) e is = not_free p ss h.1 j e is
