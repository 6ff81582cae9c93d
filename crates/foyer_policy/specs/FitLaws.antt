-- `fit` is the longest tail within a limit, and `over` what stands before it.
use Rattle.std.proofs.Common.{◌≡◌, ℕ, ◌+◌, ◌<◌, ◌≤◌, Bool, true, false, cond, List, [], ◌∷◌, ◌++◌, length, length-append, map, refl, sym, ◌∙◌, ap, subst, arith, inl, inr}
use Rattle.std.specs.Prelude.{sum_by, nat_le}
use Rattle.std.proofs.lemmas.Bool.{cases_lt}
use Rattle.std.proofs.lemmas.Bool.Decides.{nat_tests}
use Rattle.std.proofs.lemmas.List.Sums.{sum_by-cons}
use Rattle.foyer_policy.specs.Items.{fit, over, IsLongestTail}

-- a sum over other values
pub sum_by-map : {X Y : Type 0} (weight : Y → ℕ) (f : X → Y) (xs : List X) → sum_by weight (map f xs)
    ≡ sum_by (λ x. weight (f x)) xs
sum_by-map weight f [] = refl
sum_by-map weight f (x ∷ xs) = rw (sum_by-cons, sum_by-cons) (ap (λ (n : ℕ). weight (f x) + n) (sum_by-map weight f xs))

-- a list that is parted at one length has one pair of parts
same_parts : {X : Type 0} (xs us ys vs : List X) → xs ++ us ≡ ys ++ vs → length us ≡ length vs → (xs ≡ ys) × (us ≡ vs)
same_parts [] us [] vs e n = (refl, e)
same_parts [] us (y ∷ ys) vs e n = absurd (omega (arith, ap length e, length-append (y ∷ ys) vs))
same_parts (x ∷ xs) us [] vs e n = absurd (omega (arith, ap length e, length-append (x ∷ xs) us))
same_parts (x ∷ xs) us (y ∷ ys) vs e n =
    let head : x ≡ y = cc in
    let rest : xs ++ us ≡ ys ++ vs = cc in
    let r = same_parts xs us ys vs rest n in
    (cc (r.0), r.1)

module _ {X : Type 0} (weight : X → ℕ) where
  -- one step
  pub fit-more : (limit : ℕ) (x : X) (xs : List X) → limit < sum_by weight (x ∷ xs) → fit weight limit (x ∷ xs)
      ≡ fit weight limit xs
  fit-more limit x xs h = (let e = sum_by-cons weight x xs in grind (arith, nat_tests))

  pub over-more : (limit : ℕ) (x : X) (xs : List X) → limit < sum_by weight (x ∷ xs) → over weight limit (x ∷ xs)
      ≡ x ∷ over weight limit xs
  over-more limit x xs h = (let e = sum_by-cons weight x xs in grind (arith, nat_tests))

  pub fit-le : (limit : ℕ) (xs : List X) → sum_by weight xs ≤ limit → fit weight limit xs ≡ xs
  fit-le limit [] h = refl
  fit-le limit (x ∷ xs) h = (let e = sum_by-cons weight x xs in grind (arith, nat_tests))

  pub over-le : (limit : ℕ) (xs : List X) → sum_by weight xs ≤ limit → over weight limit xs ≡ []
  over-le limit [] h = refl
  over-le limit (x ∷ xs) h = (let e = sum_by-cons weight x xs in grind (arith, nat_tests))

  pub over-fit : (limit : ℕ) (xs : List X) → xs ≡ over weight limit xs ++ fit weight limit xs
  over-fit limit [] = refl
  over-fit limit (x ∷ xs) = go (nat_le (weight x + sum_by weight xs) limit) (over-fit limit xs) where
    go : (b : Bool) → xs ≡ over weight limit xs ++ fit weight limit xs → x ∷ xs ≡ cond b [] (x ∷ over weight limit xs)
        ++ cond b (x ∷ xs) (fit weight limit xs)
    go true rec = refl
    go false rec = ap (λ r. x ∷ r) rec

  pub fit_within : (limit : ℕ) (xs : List X) → sum_by weight (fit weight limit xs) ≤ limit
  fit_within limit [] = omega arith
  fit_within limit (x ∷ xs) = go (nat_le (weight x + sum_by weight xs) limit) refl (fit_within limit xs) where
    go : (b : Bool) → nat_le (weight x + sum_by weight xs) limit ≡ b → sum_by weight (fit weight limit xs) ≤ limit →
        sum_by weight (cond b (x ∷ xs) (fit weight limit xs)) ≤ limit
    go true e rec = (let s = sum_by-cons weight x xs in grind (arith, nat_tests))
    go false e rec = rec

  fit_longest : (limit : ℕ) (whole xs ys : List X) → whole ≡ xs ++ ys → length (fit weight limit whole) < length ys →
      limit < sum_by weight ys
  fit_longest limit [] xs ys e n = absurd (omega (arith, ap length e, length-append xs ys))
  fit_longest limit (w ∷ ws) xs ys e n = go (nat_le (weight w + sum_by weight ws) limit) refl n xs e
      (λ us f m. fit_longest limit ws us ys f m) where
        go : (b : Bool) → nat_le (weight w + sum_by weight ws) limit ≡ b →
            length (cond b (w ∷ ws) (fit weight limit ws)) < length ys → (xs : List X) → w ∷ ws ≡ xs ++ ys
            → ((us : List X) → ws ≡ us ++ ys → length (fit weight limit ws) < length ys → limit < sum_by weight ys) →
            limit < sum_by weight ys
        go true is n xs e rec = absurd (omega (arith, ap length e, length-append xs ys))
        go false is n [] e rec = subst (λ (l : List X). limit < sum_by weight l) e
            (let s = sum_by-cons weight w ws in grind (arith, nat_tests))
        go false is n (x ∷ xs) e rec = rec xs (cc) n

  -- the longest tail, for every limit and list
  pub IsLongestTail-fit : (limit : ℕ) (xs : List X) →
      IsLongestTail weight limit (over weight limit xs) (fit weight limit xs) xs
  IsLongestTail-fit limit xs =
      record { parts = over-fit limit xs; within = fit_within limit xs; longest = fit_longest limit xs }

  no_longer : (limit : ℕ) (xs us ys vs whole : List X) → IsLongestTail weight limit xs us whole →
      IsLongestTail weight limit ys vs whole → length vs ≤ length us
  no_longer limit xs us ys vs whole a b = elim (cases_lt (length us) (length vs))
      [ inl h ↦ absurd (omega (arith, a.longest ys vs b.parts h, b.within)) | inr h ↦ h ]

  -- a list has one longest tail
  pub one_longest_tail : (limit : ℕ) (xs us ys vs whole : List X) → IsLongestTail weight limit xs us whole →
      IsLongestTail weight limit ys vs whole → (xs ≡ ys) × (us ≡ vs)
  one_longest_tail limit xs us ys vs whole a b =
      same_parts xs us ys vs (sym a.parts ∙ b.parts)
      (omega (arith, no_longer limit xs us ys vs whole a b, no_longer limit ys vs xs us whole b a))

  -- and so what is a longest tail is `fit`
  pub fit-is : (limit : ℕ) (before tail whole : List X) → IsLongestTail weight limit before tail whole →
      (before ≡ over weight limit whole) × (tail ≡ fit weight limit whole)
  fit-is limit before tail whole h = one_longest_tail limit before tail (over weight limit whole)
      (fit weight limit whole) whole h (IsLongestTail-fit limit whole)

-- what fits of other values is what fits of these, by their weight there
pub fit-map : {X Y : Type 0} (weight : Y → ℕ) (f : X → Y) (limit : ℕ) (xs : List X) → fit weight limit (map f xs)
    ≡ map f (fit (λ x. weight (f x)) limit xs)
fit-map weight f limit [] = refl
fit-map weight f limit (x ∷ xs) = rw (sum_by-map weight f xs)
    (go (nat_le (weight (f x) + sum_by (λ x. weight (f x)) xs) limit) (fit-map weight f limit xs)) where
      go : (b : Bool) → fit weight limit (map f xs) ≡ map f (fit (λ x. weight (f x)) limit xs)
          → cond b (f x ∷ map f xs) (fit weight limit (map f xs))
          ≡ map f (cond b (x ∷ xs) (fit (λ x. weight (f x)) limit xs))
      go true rec = refl
      go false rec = rec

pub over-map : {X Y : Type 0} (weight : Y → ℕ) (f : X → Y) (limit : ℕ) (xs : List X) → over weight limit (map f xs)
    ≡ map f (over (λ x. weight (f x)) limit xs)
over-map weight f limit [] = refl
over-map weight f limit (x ∷ xs) = rw (sum_by-map weight f xs)
    (go (nat_le (weight (f x) + sum_by (λ x. weight (f x)) xs) limit) (over-map weight f limit xs)) where
      go : (b : Bool) → over weight limit (map f xs) ≡ map f (over (λ x. weight (f x)) limit xs)
          → cond b [] (f x ∷ over weight limit (map f xs)) ≡ map f (cond b [] (x ∷ over (λ x. weight (f x)) limit xs))
      go true rec = refl
      go false rec = ap (λ r. f x ∷ r) rec
