-- Lists of tokens, out of which some are taken.
use Rattle.std.proofs.Common.{◌≡◌, ℕ, suc, ◌+◌, ◌<◌, ◌≤◌, ◌==◌, ◌&&◌, Bool, true, false, cond, List, [], ◌∷◌, length, refl, sym, ap, ◌∙◌, arith, inl, inr}
use Rattle.std.proofs.lemmas.Bool.Decides.{eqb_tells, nat_tests}
use Rattle.foyer_session.specs.Waits.{is_token, times}

-- a list without a token that stands there
abbrev without : ℕ × ℕ → List (ℕ × ℕ) → List (ℕ × ℕ)
without x [] = []
without x (y ∷ ys) = cond (is_token x.0 x.1 y) ys (y ∷ without x ys)

-- and without several
abbrev pub without_all : List (ℕ × ℕ) → List (ℕ × ℕ) → List (ℕ × ℕ)
without_all [] ys = ys
without_all (x ∷ xs) ys = without_all xs (without x ys)

-- a token is the one of these numbers
token_is : (i t : ℕ) (x : ℕ × ℕ) → is_token i t x ≡ true → (i ≡ x.0) × (t ≡ x.1)
token_is i t x h = elim (eqb_tells i x.0) [
  | inl e ↦ elim (eqb_tells t x.1) [
    | inl f ↦ (e.1, f.1)
    | inr f ↦ absurd (let g : false ≡ true = sym (rw (e.0, f.0) refl) ∙ h in cc)
  ]
  | inr e ↦ absurd (let f : false ≡ true = sym (rw e.0 refl) ∙ h in cc)
]

same_token : (x y : ℕ × ℕ) (j s : ℕ) → is_token x.0 x.1 y ≡ true → is_token j s y ≡ is_token j s x
same_token x y j s h = (let e = token_is x.0 x.1 y h in rw (e.0, e.1) refl)

-- once less that one, and the others as often
times_without : (x : ℕ × ℕ) (ys : List (ℕ × ℕ)) (j s : ℕ) → 0 < times x.0 x.1 ys →
    times j s (without x ys) + times j s (x ∷ []) ≡ times j s ys
times_without x [] j s h = absurd (omega arith)
times_without x (y ∷ ys) j s h = go (is_token x.0 x.1 y) refl h (λ more. times_without x ys j s more) where
  go : (b : Bool) → is_token x.0 x.1 y ≡ b → 0 < cond b 1 0 + times x.0 x.1 ys →
      (0 < times x.0 x.1 ys → times j s (without x ys) + times j s (x ∷ []) ≡ times j s ys) →
      times j s (cond b ys (y ∷ without x ys)) + times j s (x ∷ []) ≡ times j s (y ∷ ys)
  go true is h rest =
      let same : ◌≡◌ {A = ℕ} (cond (is_token j s y) 1 0) (cond (is_token j s x) 1 0) =
      ap (λ (b : Bool). cond b 1 0) (same_token x y j s is) in
      omega (arith, same)
  go false is h rest = (let less = rest (omega (arith, h)) in omega (arith, less))

length_without : (x : ℕ × ℕ) (ys : List (ℕ × ℕ)) → 0 < times x.0 x.1 ys → length (without x ys) + 1 ≡ length ys
length_without x [] h = absurd (omega arith)
length_without x (y ∷ ys) h = go (is_token x.0 x.1 y) h (λ more. length_without x ys more) where
  go : (b : Bool) → 0 < cond b 1 0 + times x.0 x.1 ys →
      (0 < times x.0 x.1 ys → length (without x ys) + 1 ≡ length ys) →
      length (cond b ys (y ∷ without x ys)) + 1 ≡ suc (length ys)
  go true h rest = omega arith
  go false h rest = (let less = rest (omega (arith, h)) in omega (arith, less))

-- each token stands in the second list at least as often as in the first
abbrev pub StandIn : List (ℕ × ℕ) → List (ℕ × ℕ) → Type 0
StandIn xs ys = (j s : ℕ) → times j s xs ≤ times j s ys

first_stands : (x : ℕ × ℕ) (xs ys : List (ℕ × ℕ)) → StandIn (x ∷ xs) ys → 0 < times x.0 x.1 ys
first_stands x xs ys stand =
    let a : (x.0 == x.0) ≡ true = grind (arith, nat_tests) in
    let b : (x.1 == x.1) ≡ true = grind (arith, nat_tests) in
    let one : ◌≡◌ {A = ℕ} (cond ((x.0 == x.0) && (x.1 == x.1)) 1 0) 1 = rw (a, b) refl in
    omega (arith, stand x.0 x.1, one)

rest_stand : (x : ℕ × ℕ) (xs ys : List (ℕ × ℕ)) → StandIn (x ∷ xs) ys → StandIn xs (without x ys)
rest_stand x xs ys stand j s =
    let less = times_without x ys j s (first_stands x xs ys stand) in
    omega (arith, stand j s, less)

pub times_without_all : (xs ys : List (ℕ × ℕ)) → StandIn xs ys → (j s : ℕ) →
    times j s (without_all xs ys) + times j s xs ≡ times j s ys
times_without_all [] ys stand j s = omega arith
times_without_all (x ∷ xs) ys stand j s =
    let less = times_without x ys j s (first_stands x xs ys stand) in
    let rest = times_without_all xs (without x ys) (rest_stand x xs ys stand) j s in
    omega (arith, less, rest)

pub length_without_all : (xs ys : List (ℕ × ℕ)) → StandIn xs ys → length (without_all xs ys) + length xs ≡ length ys
length_without_all [] ys stand = omega arith
length_without_all (x ∷ xs) ys stand =
    let less = length_without x ys (first_stands x xs ys stand) in
    let rest = length_without_all xs (without x ys) (rest_stand x xs ys stand) in
    omega (arith, less, rest)
