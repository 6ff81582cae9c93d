-- The slots of two columns, and of columns that were written.
use Rattle.std.proofs.Common.{◌≡◌, ℕ, zero, suc, ◌<◌, true, false, List, [], ◌∷◌, ◌++◌, Some, None, length, set, take, refl, ap, arith}
use Rattle.std.specs.Prelude.{◌==◌, slice_get}
use Rattle.foyer_policy.specs.Rows.{slot_of, slots_of}
use Rattle.foyer_policy.proofs.PlaceLemmas.{other_place}

-- a number of a place is not that of an empty slot
pub is_place : (p : ℕ) → p < 4294967295 → (p == 4294967295) ≡ false
is_place p h = other_place p 4294967295 (λ e. omega (arith, e, h))

pub slot_of-full : (d p : ℕ) → (p == 4294967295) ≡ false → slot_of d p ≡ Some (p, d)
slot_of-full d p h = rw h refl

pub slot_of-empty : (d p : ℕ) → (p == 4294967295) ≡ true → slot_of d p ≡ None
slot_of-empty d p h = rw h refl

pub slots_of-length : (ds ps : List ℕ) → length ps ≡ length ds → length (slots_of ds ps) ≡ length ds
slots_of-length [] ps e = refl
slots_of-length (d ∷ ds) [] e = absurd (omega (arith, e))
slots_of-length (d ∷ ds) (p ∷ ps) e = ap suc (slots_of-length ds ps (omega (arith, e)))

pub slots_of-get : (ds ps : List ℕ) (i d p : ℕ) → slice_get ds i ≡ Some d → slice_get ps i ≡ Some p →
    slice_get (slots_of ds ps) i ≡ Some (slot_of d p)
slots_of-get [] ps i d p g h = absurd cc
slots_of-get (x ∷ ds) [] i d p g h = absurd cc
slots_of-get (x ∷ ds) (y ∷ ps) zero d p g h = let a : x ≡ d = cc in let b : y ≡ p = cc in rw (a, b) refl
slots_of-get (x ∷ ds) (y ∷ ps) (suc i) d p g h = slots_of-get ds ps i d p g h

pub slots_of-get_empty : (ds ps : List ℕ) (i p : ℕ) → length ps ≡ length ds → slice_get ps i ≡ Some p →
    (p == 4294967295) ≡ true → slice_get (slots_of ds ps) i ≡ Some None
slots_of-get_empty ds [] i p e g h = absurd cc
slots_of-get_empty [] (y ∷ ps) i p e g h = absurd (omega (arith, e))
slots_of-get_empty (x ∷ ds) (y ∷ ps) zero p e g h = let a : y ≡ p = cc in rw a (ap Some (slot_of-empty x p h))
slots_of-get_empty (x ∷ ds) (y ∷ ps) (suc i) p e g h = slots_of-get_empty ds ps i p (omega (arith, e)) g h

pub slots_of-set : (ds ps : List ℕ) (i d p : ℕ) → slots_of (set ds i d) (set ps i p)
    ≡ set (slots_of ds ps) i (slot_of d p)
slots_of-set [] ps i d p = refl
slots_of-set (x ∷ ds) [] zero d p = refl
slots_of-set (x ∷ ds) [] (suc i) d p = refl
slots_of-set (x ∷ ds) (y ∷ ps) zero d p = refl
slots_of-set (x ∷ ds) (y ∷ ps) (suc i) d p = ap (λ r. slot_of x y ∷ r) (slots_of-set ds ps i d p)

-- the number of no place empties a slot, whatever its date
pub slots_of-empty : (ds ps : List ℕ) (i p : ℕ) → (p == 4294967295) ≡ true → slots_of ds (set ps i p)
    ≡ set (slots_of ds ps) i None
slots_of-empty [] ps i p h = refl
slots_of-empty (x ∷ ds) [] zero p h = refl
slots_of-empty (x ∷ ds) [] (suc i) p h = refl
slots_of-empty (x ∷ ds) (y ∷ ps) zero p h = ap (λ s. s ∷ slots_of ds ps) (slot_of-empty x p h)
slots_of-empty (x ∷ ds) (y ∷ ps) (suc i) p h = ap (λ r. slot_of x y ∷ r) (slots_of-empty ds ps i p h)

pub slots_of-append : (ds ps : List ℕ) (d p : ℕ) → length ps ≡ length ds → slots_of (ds ++ d ∷ []) (ps ++ p ∷ [])
    ≡ slots_of ds ps ++ slot_of d p ∷ []
slots_of-append [] [] d p e = refl
slots_of-append [] (y ∷ ps) d p e = absurd (omega (arith, e))
slots_of-append (x ∷ ds) [] d p e = absurd (omega (arith, e))
slots_of-append (x ∷ ds) (y ∷ ps) d p e = ap (λ r. slot_of x y ∷ r) (slots_of-append ds ps d p (omega (arith, e)))

pub slots_of-take : (n : ℕ) (ds ps : List ℕ) → slots_of (take n ds) (take n ps) ≡ take n (slots_of ds ps)
slots_of-take zero ds ps = refl
slots_of-take (suc n) [] ps = refl
slots_of-take (suc n) (x ∷ ds) [] = refl
slots_of-take (suc n) (x ∷ ds) (y ∷ ps) = ap (λ r. slot_of x y ∷ r) (slots_of-take n ds ps)
