-- How often tokens stand in lists, and whether they wait.
use Rattle.std.proofs.Common.{◌≡◌, ◌≢◌, ℕ, ◌+◌, ◌<◌, ◌≤◌, ◌⊎◌, ◌==◌, ◌||◌, Bool, true, false, cond, nat_eq, List, [], ◌∷◌, ◌++◌, refl, sym, ap, ◌∙◌, arith, inl, inr}
use Rattle.std.proofs.Math.Logic.{∥∥₁_elim, ∥∥₁_map}
use Rattle.std.proofs.Props.{props}
use Rattle.std.specs.List.{IsDistinct, AllByRecursion}
use Rattle.std.proofs.lemmas.Bool.Decides.{eqb_tells, nat_tests}
use Rattle.std.proofs.lemmas.Map.Keys.{IsDistinct-head, IsDistinct-tail}
use Rattle.foyer_core.specs.Chains.{has}
use Rattle.foyer_session.specs.Ledger.{of_shard}
use Rattle.foyer_session.specs.Waits.{is_token, times}

pub times_append : (i t : ℕ) (xs ys : List (ℕ × ℕ)) → times i t (xs ++ ys) ≡ times i t xs + times i t ys
times_append i t [] ys = omega arith
times_append i t (x ∷ xs) ys = omega (arith, times_append i t xs ys)

-- one of the shard
own_token : (i t x : ℕ) → is_token i t (i, x) ≡ nat_eq t x
own_token i t x = (let e : (i == i) ≡ true = grind (arith, nat_tests) in rw e)

-- one of another shard
other_token : (i j t x : ℕ) → j ≢ i → is_token j t (i, x) ≡ false
other_token i j t x apart = elim (eqb_tells j i) [
  | inl e ↦ absurd (apart e.1)
  | inr e ↦ rw e.0
]

pub times_apart : (i j t : ℕ) (ts : List ℕ) → j ≢ i → times j t (of_shard i ts) ≡ 0
times_apart i j t [] apart = refl
times_apart i j t (x ∷ ts) apart =
    let first : ◌≡◌ {A = ℕ} (cond (is_token j t (i, x)) 1 0) 0 =
    ap (λ (b : Bool). cond b 1 0) (other_token i j t x apart) in
    omega (arith, first, times_apart i j t ts apart)

or_false : (a b : Bool) → (a || b) ≡ false → (a ≡ false) × (b ≡ false)
or_false true b h = absurd cc
or_false false b h = (refl, h)

pub times_absent : (i t : ℕ) (ts : List ℕ) → has t ts ≡ false → times i t (of_shard i ts) ≡ 0
times_absent i t [] h = refl
times_absent i t (x ∷ ts) h =
    let both = or_false (nat_eq t x) (has t ts) h in
    let first : ◌≡◌ {A = ℕ} (cond (is_token i t (i, x)) 1 0) 0 =
    ap (λ (b : Bool). cond b 1 0) (own_token i t x ∙ both.0) in
    omega (arith, first, times_absent i t ts both.1)

absent_later : (t : ℕ) (ts : List ℕ) → AllByRecursion (λ y. nat_eq t y ≡ false) ts → has t ts ≡ false
absent_later t [] h = refl
absent_later t (x ∷ ts) h = ap (λ (b : Bool). b || has t ts) h.0 ∙ absent_later t ts h.1

pub times_once : (i t : ℕ) (ts : List ℕ) → IsDistinct nat_eq ts → has t ts ≡ true → times i t (of_shard i ts) ≡ 1
times_once i t [] once h = absurd cc
times_once i t (x ∷ ts) once h = elim (eqb_tells t x) [
  | inl e ↦
      (let first : ◌≡◌ {A = ℕ} (cond (is_token i t (i, x)) 1 0) 1 =
      ap (λ (b : Bool). cond b 1 0) (own_token i t x ∙ e.0) in
      let none : has t ts ≡ false = ap (λ (n : ℕ). has n ts) e.1
      ∙ absent_later x ts (IsDistinct-head nat_eq x ts once) in
      omega (arith, first, times_absent i t ts none))
  | inr e ↦
      (let first : ◌≡◌ {A = ℕ} (cond (is_token i t (i, x)) 1 0) 0 =
      ap (λ (b : Bool). cond b 1 0) (own_token i t x ∙ e.0) in
      let later : has t ts ≡ true = sym (ap (λ (b : Bool). b || has t ts) e.0) ∙ h in
      omega (arith, first, times_once i t ts (IsDistinct-tail nat_eq x ts once) later))
]

-- one token alone
pub times_alone : (i t x : ℕ) → 0 < times i t (of_shard i (x ∷ [])) → t ≡ x
times_alone i t x some = elim (eqb_tells t x) [
  | inl e ↦ e.1
  | inr e ↦
      (let none = times_absent i t (x ∷ []) (ap (λ (b : Bool). b || false) e.0) in absurd (omega (arith, none, some)))
]

pub times_itself : (i t x : ℕ) → nat_eq t x ≡ true → times i t (of_shard i (x ∷ [])) ≡ 1
times_itself i t x h =
    (let first : ◌≡◌ {A = ℕ} (cond (is_token i t (i, x)) 1 0) 1 =
    ap (λ (b : Bool). cond b 1 0) (own_token i t x ∙ h) in omega (arith, first))

-- a token at the end of a list
or_last : (a : Bool) → (a || false) ≡ a
or_last true = refl
or_last false = refl

or_assoc : (a b c : Bool) → (a || (b || c)) ≡ ((a || b) || c)
or_assoc true b c = refl
or_assoc false b c = refl

pub has_end : (s t : ℕ) (ts : List ℕ) → has s (ts ++ t ∷ []) ≡ (has s ts || nat_eq s t)
has_end s t [] = or_last (nat_eq s t)
has_end s t (x ∷ ts) = ap (λ (b : Bool). nat_eq s x || b) (has_end s t ts)
    ∙ or_assoc (nat_eq s x) (has s ts) (nat_eq s t)

-- a fact counts once where it holds, and else not
abbrev pub IsCount : Type 0 → ℕ → Type 0
IsCount W count = (∥ W ∥₁ × (count ≡ 1)) ⊎ ((W → ⊥) × (count ≡ 0))

pub same_count : {V W : Type 0} (n : ℕ) → (V → W) → (W → V) → IsCount V n → IsCount W n
same_count n to from h = elim h [
  | inl e ↦ inl (∥∥₁_map e.0 to, e.1)
  | inr e ↦ inr (λ w. e.0 (from w), e.1)
]

pub count_one : {W : Type 0} (n : ℕ) → IsCount W n → n ≤ 1
count_one n h = elim h [
  | inl e ↦ omega (arith, e.1)
  | inr e ↦ omega (arith, e.1)
]

pub count_there : {W : Type 0} (n : ℕ) → W → IsCount W n → n ≡ 1
count_there n w h = elim h [
  | inl e ↦ e.1
  | inr e ↦ absurd (e.0 w)
]

pub count_none : {W : Type 0} (n : ℕ) → (W → ⊥) → IsCount W n → n ≡ 0
count_none n never h = elim h [
  | inl e ↦ absurd (∥∥₁_elim e.0 (hlevel props) never)
  | inr e ↦ e.1
]
