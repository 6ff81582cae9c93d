-- Items that are found by their ids, after a list is put in another order.
use Rattle.std.proofs.Common.{◌≡◌, ◌≢◌, ℕ, ◌<◌, ◌≤◌, Bool, true, false, cond, List, [], ◌∷◌, Some, refl, sym, ap, ◌∙◌, subst, arith}
use Rattle.std.specs.Prelude.{◌==◌, sum_by}
use Rattle.std.specs.List.{AllByRecursion}
use Rattle.std.specs.List.Sorted.{IsPermutation}
use Rattle.std.proofs.lemmas.Bool.Decides.{nat_tests}
use Rattle.std.proofs.lemmas.List.Elements.{All-from_recursion, recursion_from_All}
use Rattle.std.proofs.lemmas.List.Sums.{sum_by-cons}
use Rattle.std.proofs.lemmas.List.Sorted.{All-permutation, sum_by-IsPermutation}
use Rattle.foyer_policy.specs.Items.{count_of, IsNewIn, HasIdsOnce, remove_id, find_id}
use Rattle.foyer_policy.specs.declared.types.Item.{Item}
use Rattle.foyer_policy.proofs.ItemLemmas.{one_if, count-cons, found-id, found-where, once-head, once-tail, sum-remove_id}

-- what is found is counted
pub found-counted : (id : ℕ) (i : Item) (l : List Item) → find_id id l ≡ Some i → 0 < count_of id l
found-counted id i l h =
    let same : i.id ≡ id = found-id id i l h in
    let one : one_if id i ≡ 1 = (let e : (i.id == id) ≡ true = grind (arith, nat_tests) in rw e refl) in
    omega (arith, sum-remove_id (one_if id) id i l h)

-- where an id is not counted, nothing is found
pub found-not : (id : ℕ) (i : Item) (l : List Item) → IsNewIn id l → find_id id l ≢ Some i
found-not id i l new h = absurd (omega (arith, found-counted id i l h))

-- each item of this id is this one
abbrev pub IsOnly : ℕ → Item → Item → Type 0
IsOnly id i x = x.id ≡ id → x ≡ i

only_new : (id : ℕ) (i : Item) (l : List Item) → IsNewIn id l → AllByRecursion (IsOnly id i) l
only_new id i [] h = tt
only_new id i (x ∷ xs) h = (
  λ e. absurd
      (let o : one_if id x ≡ 1 = (let t : (x.id == id) ≡ true = grind (arith, nat_tests) in rw t refl) in
      omega (arith, count-cons id x xs)),
  only_new id i xs (omega (arith, count-cons id x xs)),
)

only_found : (id : ℕ) (i : Item) (l : List Item) → HasIdsOnce l → find_id id l ≡ Some i → AllByRecursion (IsOnly id i) l
only_found id i [] once h = tt
only_found id i (x ∷ xs) once h = go (x.id == id) refl h (only_found id i xs (once-tail x xs once)) where
  go : (b : Bool) → (x.id == id) ≡ b → cond b (Some x) (find_id id xs) ≡ Some i →
      (find_id id xs ≡ Some i → AllByRecursion (IsOnly id i) xs) → IsOnly id i x × AllByRecursion (IsOnly id i) xs
  go true e h rec =
      let s : x ≡ i = cc in
      let n : x.id ≡ id = grind (arith, nat_tests) in
      (λ f. s, only_new id i xs (subst (λ (k : ℕ). IsNewIn k xs) n (once-head x xs once)))
  go false e h rec = (λ f. absurd (let t : (x.id == id) ≡ true = grind (arith, nat_tests) in cc), rec h)

found_only : (id : ℕ) (i j : Item) (l : List Item) → AllByRecursion (IsOnly id i) l → find_id id l ≡ Some j → j ≡ i
found_only id i j [] all h = absurd cc
found_only id i j (x ∷ xs) all h = go (x.id == id) refl h (found_only id i j xs all.1) where
  go : (b : Bool) → (x.id == id) ≡ b → cond b (Some x) (find_id id xs) ≡ Some j → (find_id id xs ≡ Some j → j ≡ i) → j
      ≡ i
  go true e h rec =
      let s : x ≡ j = cc in
      let n : x.id ≡ id = grind (arith, nat_tests) in
      sym s ∙ all.0 n
  go false e h rec = rec h

-- the order of a list with each id once does not tell what is found
pub found-permuted : (id : ℕ) (i : Item) (xs ys : List Item) → HasIdsOnce xs → IsPermutation xs ys → find_id id xs
    ≡ Some i → find_id id ys ≡ Some i
found-permuted id i xs ys once perm h =
    let P : Item → Type 0 = IsOnly id i in
    let all : AllByRecursion P ys = recursion_from_All P ys
    (All-permutation P xs ys perm (All-from_recursion P xs (only_found id i xs once h))) in
    let j = found-where id ys (omega (arith, found-counted id i xs h, sum_by-IsPermutation (one_if id) xs ys perm)) in
    j.1 ∙ ap (λ (x : Item). Some x) (found_only id i j.0 ys all j.1)

pub once-permuted : (xs ys : List Item) → IsPermutation xs ys → HasIdsOnce xs → HasIdsOnce ys
once-permuted xs ys perm once id = omega (arith, once id, sum_by-IsPermutation (one_if id) xs ys perm)

pub found-head : (i : Item) (l : List Item) → find_id i.id (i ∷ l) ≡ Some i
found-head i l = (let e : (i.id == i.id) ≡ true = grind (arith, nat_tests) in rw e refl)

pub found-tail : (id : ℕ) (i j : Item) (l : List Item) → i.id ≢ id → find_id id l ≡ Some j → find_id id (i ∷ l) ≡ Some j
found-tail id i j l apart h = (let e : (i.id == id) ≡ false = grind (arith, nat_tests) in rw e h)

-- what is found after one was taken out was found before
pub found-remove_id : (id : ℕ) (j : Item) (k : ℕ) (l : List Item) → HasIdsOnce l → find_id k (remove_id id l) ≡ Some j
    → find_id k l ≡ Some j
found-remove_id id j k [] once h = h
found-remove_id id j k (x ∷ xs) once h = go (x.id == id) (x.id == k) refl refl h
    (found-remove_id id j k xs (once-tail x xs once)) where
      go : (b c : Bool) → (x.id == id) ≡ b → (x.id == k) ≡ c → find_id k (cond b xs (x ∷ remove_id id xs)) ≡ Some j
          → (find_id k (remove_id id xs) ≡ Some j → find_id k xs ≡ Some j) → cond c (Some x) (find_id k xs) ≡ Some j
      go true true e f h rec =
          let n : x.id ≡ k = grind (arith, nat_tests) in
          absurd (found-not k j xs (subst (λ (a : ℕ). IsNewIn a xs) n (once-head x xs once)) h)
      go true false e f h rec = h
      go false true e f h rec = rw f at h
      go false false e f h rec = rec (rw f at h)

-- whatever is counted, the rest without an item has at most as much
pub sum-removed : (measure : Item → ℕ) (id : ℕ) (l : List Item) → sum_by measure (remove_id id l) ≤ sum_by measure l
sum-removed f id [] = omega arith
sum-removed f id (x ∷ xs) = go (x.id == id) (sum-removed f id xs) where
  go : (b : Bool) → sum_by f (remove_id id xs) ≤ sum_by f xs →
      sum_by f (cond b xs (x ∷ remove_id id xs)) ≤ sum_by f (x ∷ xs)
  go true rec = omega (arith, sum_by-cons f x xs)
  go false rec = omega (arith, sum_by-cons f x xs, sum_by-cons f x (remove_id id xs))
