-- How many elements pass a test, and elements by numbers that rise.
use Rattle.std.proofs.Common.{◌≡◌, ◌≢◌, ◌↔◌, ◌+◌, ◌<◌, ◌≤◌, ◌==◌, if◌then◌else◌, ℕ, zero, suc, Bool, true, false, IsTrue, is_ok, nat_lt, List, [], ◌∷◌, length, get_or, Result, Ok, Err, All, AllPairs, count_by, cond, arith, refl, sym, ap, ◌∙◌, eq-eqb, ne_eqb, ltb-true, ltb-false}
use Rattle.std.specs.List.{AllAdjacentBelow, IsAllAdjacentAnswer}
use Rattle.std.specs.List.Sorted.{IsBinarySearchResult, IsNonDecreasingBy, IsSearchInRange}
use Rattle.std.specs.Ordering.{nat_cmp, ordering_index}
use Rattle.std.proofs.lemmas.Cmp.{ranked}
use Rattle.std.proofs.Math.Logic.{⊎_elim}
use Rattle.std.proofs.lemmas.Bool.{cases_order}
use Rattle.std.proofs.lemmas.Bool.Decides.{nat_tests}
use Rattle.std.proofs.lemmas.List.Elements.{All-head, All-tail, All-from_get_or}
use Rattle.std.proofs.lemmas.List.Sorted.{IsNonDecreasingBy-from_all_adjacent}
use Rattle.std.proofs.lemmas.List.Sums.{sum_by-cons}

-- the rank of a number beside another one does not fall as the number grows
rank_grows : (a b number : ℕ) → a ≤ b → ordering_index (nat_cmp a number) ≤ ordering_index (nat_cmp b number)
rank_grows a b number le = grind (arith, nat_tests)

-- two elements at different places of numbers that rise are different
apart : (i j a b : ℕ) → j ≢ i → (j < i → a < b) → (i < j → b < a) → a ≢ b
apart i j a b differs below above same = ⊎_elim differs
    (⊎_elim (λ l. let less = below l in omega arith) (λ l. let more = above l in omega arith)) (cases_order j i)

module _ {X : Type 0} (p : X → Bool) where
  -- an element that passes counts one, and one that doesn't counts none
  count_by-cons : (b : Bool) (x : X) (xs : List X) → p x ≡ b → count_by p (x ∷ xs)
      ≡ (if b then 1 else 0) + count_by p xs
  count_by-cons b x xs is = sum_by-cons (λ y. cond (p y) 1 0) x xs
      ∙ ap (λ (t : Bool). (if t then 1 else 0) + count_by p xs) is

  -- where none passes, none is counted
  pub count_by-none : (xs : List X) → All (λ x. p x ≡ false) xs → count_by p xs ≡ 0
  count_by-none [] none = refl
  count_by-none (x ∷ xs) none =
      let first = count_by-cons false x xs (All-head (λ y. p y ≡ false) x xs none) in
      let rest = count_by-none xs (All-tail (λ y. p y ≡ false) x xs none) in
      omega (arith, first, rest)

  -- where one passes and no other does, one is counted
  pub count_by-one : (xs : List X) (i : ℕ) (d : X) → i < length xs → p (get_or xs i d) ≡ true
      → ((j : ℕ) → j < length xs → j ≢ i → p (get_or xs j d) ≡ false) → count_by p xs ≡ 1
  count_by-one [] i d lt passes others = absurd (omega arith)
  count_by-one (x ∷ xs) zero d lt passes others =
      let first = count_by-cons true x xs passes in
      let rest = count_by-none xs (All-from_get_or (λ y. p y ≡ false) xs d
      (λ j below. others (suc j) (omega arith) (λ same. absurd (omega arith)))) in
      omega (arith, first, rest)
  count_by-one (x ∷ xs) (suc i) d lt passes others =
      let first = count_by-cons false x xs (others 0 (omega arith) (λ same. absurd (omega arith))) in
      let rest = count_by-one xs i d (omega arith) passes
      (λ j below differs. others (suc j) (omega arith) (λ same. differs (omega arith))) in
      omega (arith, first, rest)

module _ {X : Type 0} (n : X → ℕ) where
  -- numbers that are each below the next are each below all later ones
  all_pairs_from_adjacent : (xs : List X) → AllAdjacentBelow (λ x y. n x < n y) xs (length xs)
      → AllPairs (λ x y. n x < n y) xs
  all_pairs_from_adjacent xs next i j d lt below =
      let up = IsNonDecreasingBy-from_all_adjacent n xs (λ k e l. let less = next k e l in omega arith) in
      let step = next i d (omega arith) in
      let later = up (i + 1) j d (omega arith) below in
      omega arith

  -- what `is_sorted_by` answers by the numbers' order says whether they rise
  pub rise_by_answer : (xs : List X) (r : Bool) → IsAllAdjacentAnswer (λ x y b. b ≡ nat_lt (n x) (n y)) xs r
      → IsTrue r ↔ AllPairs (λ x y. n x < n y) xs
  rise_by_answer xs true h =
      (λ yes. all_pairs_from_adjacent xs (λ k d l. ltb-true _ _ (sym (h k d l))), λ rise. refl)
  rise_by_answer [] false h = absurd (let l = h.1 in omega arith)
  rise_by_answer (x ∷ xs) false h = (
    λ yes. absurd (cc),
    λ rise. absurd (
        let less = rise h.0 (h.0 + 1) x (omega arith) h.1 in
        let more = ltb-false _ _ (sym (h.2 x)) in omega arith),
  )

  -- where they rise, a binary search for a number finds one just where there is one, and then there is no other
  pub count_by-searched : (xs : List X) (number : ℕ) → AllPairs (λ x y. n x < n y) xs → (r : Result ℕ ℕ)
      → IsSearchInRange r (length xs) → IsBinarySearchResult (λ x. nat_cmp (n x) number) xs r
      → count_by (λ x. n x == number) xs ≡ (if is_ok r then 1 else 0)
  count_by-searched [] number rise (Ok i) within equal = absurd (omega arith)
  count_by-searched (x ∷ xs) number rise (Ok i) within equal =
      let here : n (get_or (x ∷ xs) i x) ≡ number = ranked _ number _ (sym (equal x)) in
      count_by-one (λ y. n y == number) (x ∷ xs) i x within (eq-eqb _ _ here)
      (λ j below differs. ne_eqb _ _
      (λ same. apart i j _ _ differs (λ l. rise j i x l within) (λ l. rise i j x l below) (same ∙ sym here)))
  count_by-searched xs number rise (Err i) within parted =
      let up : IsNonDecreasingBy (λ x. ordering_index (nat_cmp (n x) number)) xs = λ a b d le lt.
      rank_grows _ _ number (grind (arith, rise a b d, λ (same : a ≡ b). ap (λ k. n (get_or xs k d)) same)) in
      count_by-none (λ y. n y == number) xs (λ k d lt. ne_eqb _ _ (λ same.
      let before : k < i → n (get_or xs k d) < number =
      λ l. ranked _ number _ (sym ((parted up).0 k d (omega arith) l)) in
      let after : i ≤ k → number < n (get_or xs k d) = λ l. ranked _ number _ (sym ((parted up).1 k d l lt)) in
      ⊎_elim (λ l. let more = after (omega arith) in omega arith)
      (⊎_elim (λ l. let less = before l in omega arith) (λ l. let more = after (omega arith) in omega arith))
      (cases_order k i)))
