-- Slots as a function from numbers, and as a list of those that have a value.
use Rattle.std.proofs.Common.{
  ◌≡◌,
  ◌≢◌,
  ◌⊎◌,
  ◌↔◌,
  ℕ,
  zero,
  suc,
  ◌+◌,
  ◌<◌,
  List,
  [],
  ◌∷◌,
  ◌++◌,
  length,
  get_or,
  set,
  Option,
  Some,
  None,
  nat_eq,
  refl,
  sym,
  ap,
  ◌∙◌,
  subst,
  inl,
  inr,
  Contains,
  arith,
}
use Rattle.std.specs.Map.{update}
use Rattle.std.proofs.lemmas.Map.{update_here, update_apart}
use Rattle.std.proofs.lemmas.Bool.Decides.{eqb_tells}
use Rattle.std.proofs.lemmas.List.{get_or-set_same, get_or-set_other, get_or_push}
use Rattle.foyer_core.specs.Slots.{Slots, get, with_value, entries, entries_from}

pub Contains-cons : {X : Type 0} (y x : X) (xs : List X) → Contains xs x → Contains (y ∷ xs) x
Contains-cons y x xs there = (suc there.0, omega (arith, there.1), there.2)

pub Contains-cons_cases : {X : Type 0} (y x : X) (xs : List X) → Contains (y ∷ xs) x → (y ≡ x) ⊎ Contains xs x
Contains-cons_cases {X} y x xs there = by_index there.0 there.1 there.2 where
  by_index : (n : ℕ) → n < suc (length xs) → get_or (y ∷ xs) n x ≡ x → (y ≡ x) ⊎ Contains xs x
  by_index zero within is = inl is
  by_index (suc n) within is = inr (n, omega arith, is)

module _ {T : Type 0} where
  -- what is in a slot of this list
  abbrev at : List (Option T) → ℕ → Option T
  at xs n = get_or xs n None

  -- another value in a slot that there is
  pub set_at : (xs : List (Option T)) (slot : ℕ) (o : Option T) → slot < length xs
      → (n : ℕ) → at (set xs slot o) n ≡ update nat_eq (at xs) slot o n
  set_at xs slot o within n = elim (eqb_tells n slot) [
    | inl e ↦ subst (λ (m : ℕ). at (set xs slot o) m ≡ update nat_eq (at xs) slot o m) (sym e.1)
        (get_or-set_same xs slot o None within ∙ sym (update_here (at xs) slot o))
    | inr e ↦ get_or-set_other xs slot n o None e.1 ∙ sym (update_apart (at xs) slot o n e.1)
  ]

  beside_push : (xs : List (Option T)) (o : Option T) (n : ℕ) → n ≢ length xs → at (xs ++ o ∷ []) n ≡ at xs n
  beside_push [] o zero other = absurd (other refl)
  beside_push [] o (suc n) other = refl
  beside_push (x ∷ xs) o zero other = refl
  beside_push (x ∷ xs) o (suc n) other = beside_push xs o n (λ e. other (ap suc e))

  -- one slot more
  pub push_at : (xs : List (Option T)) (o : Option T) (n : ℕ)
      → at (xs ++ o ∷ []) n ≡ update nat_eq (at xs) (length xs) o n
  push_at xs o n = elim (eqb_tells n (length xs)) [
    | inl e ↦ subst (λ (m : ℕ). at (xs ++ o ∷ []) m ≡ update nat_eq (at xs) (length xs) o m) (sym e.1)
        (get_or_push xs o None (length xs) refl ∙ sym (update_here (at xs) (length xs) o))
    | inr e ↦ beside_push xs o n e.1 ∙ sym (update_apart (at xs) (length xs) o n e.1)
  ]

  -- what has a value is within
  pub within_there : (xs : List (Option T)) (slot : ℕ) (x : T) → at xs slot ≡ Some x → slot < length xs
  within_there [] slot x there = absurd cc
  within_there (y ∷ ys) zero x there = omega arith
  within_there (y ∷ ys) (suc slot) x there = omega (arith, within_there ys slot x there)

  -- a value is written over another
  pub write_at : (s : Slots T) (slot : ℕ) (x y : T) → get s slot ≡ Some x
      → (n : ℕ) → get (with_value s slot y) n ≡ update nat_eq (get s) slot (Some y) n
  write_at s slot x y there = set_at s.slots slot (Some y) (within_there s.slots slot x there)

  listed : (first : ℕ) (xs : List (Option T)) (n : ℕ) (x : T) → at xs n ≡ Some x
      → Contains (entries_from first xs) (first + n, x)
  listed first [] n x there = absurd cc
  listed first (None ∷ xs) zero x there = absurd cc
  listed first (Some y ∷ xs) zero x there =
      let number : first ≡ first + 0 = omega arith in
      let same : y ≡ x = cc in
      (0, omega arith, ap (λ (k : ℕ). (k, y)) number ∙ ap (λ (z : T). (first + 0, z)) same)
  listed first (None ∷ xs) (suc n) x there =
      let number : first + suc n ≡ first + 1 + n = omega arith in
      rw number (listed (first + 1) xs n x there)
  listed first (Some y ∷ xs) (suc n) x there =
      let number : first + suc n ≡ first + 1 + n = omega arith in
      rw number (Contains-cons _ _ _ (listed (first + 1) xs n x there))

  found : (first : ℕ) (xs : List (Option T)) (slot : ℕ) (x : T) → Contains (entries_from first xs) (slot, x)
      → (n : ℕ) × (slot ≡ first + n) × (at xs n ≡ Some x)
  found first [] slot x there = absurd (omega (arith, there.1))
  found first (None ∷ xs) slot x there =
      let later = found (first + 1) xs slot x there in
      (suc later.0, omega (arith, later.1), later.2)
  found first (Some y ∷ xs) slot x there = elim (Contains-cons_cases _ _ _ there) [
    | inl here ↦ (0, omega (arith, ap (λ p. p.0) here), ap (λ p. Some p.1) here)
    | inr rest ↦
        let later = found (first + 1) xs slot x rest in
        (suc later.0, omega (arith, later.1), later.2)
  ]

  -- the entries are the slots that have a value
  pub Contains-entries : (s : Slots T) (slot : ℕ) (x : T) → Contains (entries s) (slot, x) ↔ (get s slot ≡ Some x)
  Contains-entries s slot x = (
    λ there.
        let n = found 0 s.slots slot x there in
        let same : slot ≡ n.0 = omega (arith, n.1) in
        ap (at s.slots) same ∙ n.2,
    λ there.
        let number : 0 + slot ≡ slot = omega arith in
        subst (λ (k : ℕ). Contains (entries s) (k, x)) number (listed 0 s.slots slot x there),
  )
