-- Items in parts, as in an order that joins several lists: which part an id is found in.
use Rattle.std.proofs.Common.{◌≡◌, ℕ, ◌<◌, Bool, true, false, cond, List, [], ◌∷◌, ◌++◌, Option, Some, None, refl, ap, arith}
use Rattle.std.specs.Prelude.{◌==◌}
use Rattle.std.specs.List.Sorted.{IsPermutation}
use Rattle.std.proofs.lemmas.Bool.Decides.{nat_tests}
use Rattle.std.proofs.lemmas.List.Sums.{sum_by-append}
use Rattle.std.proofs.lemmas.List.Sorted.{IsPermutation-refl, IsPermutation-trans, IsPermutation-cons, IsPermutation-middle}
use Rattle.foyer_policy.specs.Items.{count_of, IsNewIn, HasIdsOnce, remove_id, find_id}
use Rattle.foyer_policy.specs.declared.types.Item.{Item}
use Rattle.foyer_policy.specs.ItemLaws.{one_if, found-id, sum-remove_id}

-- what is found, and then the rest, is the list in another order
pub IsPermutation-remove_id : (id : ℕ) (i : Item) (l : List Item) → find_id id l ≡ Some i →
    IsPermutation l (i ∷ remove_id id l)
IsPermutation-remove_id id i [] h = absurd cc
IsPermutation-remove_id id i (x ∷ xs) h = go (x.id == id) h (IsPermutation-remove_id id i xs) where
  go : (b : Bool) → cond b (Some x) (find_id id xs) ≡ Some i →
      (find_id id xs ≡ Some i → IsPermutation xs (i ∷ remove_id id xs)) →
      IsPermutation (x ∷ xs) (i ∷ cond b xs (x ∷ remove_id id xs))
  go true h rec = (let same : x ≡ i = cc in rw same (IsPermutation-refl (i ∷ xs)))
  go false h rec = IsPermutation-trans (x ∷ xs) (x ∷ i ∷ remove_id id xs) (i ∷ x ∷ remove_id id xs)
      (IsPermutation-cons x xs (i ∷ remove_id id xs) (rec h)) (IsPermutation-middle (x ∷ []) i (remove_id id xs))

-- a list stays where the id is not found
pub remove_id-none : (id : ℕ) (l : List Item) → find_id id l ≡ None → remove_id id l ≡ l
remove_id-none id [] h = refl
remove_id-none id (x ∷ xs) h = go (x.id == id) h (remove_id-none id xs) where
  go : (b : Bool) → cond b (Some x) (find_id id xs) ≡ None → (find_id id xs ≡ None → remove_id id xs ≡ xs) →
      cond b xs (x ∷ remove_id id xs) ≡ x ∷ xs
  go true h rec = absurd cc
  go false h rec = ap (λ r. x ∷ r) (rec h)

-- found in the first part
pub find_id-front : (id : ℕ) (i : Item) (xs ys : List Item) → find_id id xs ≡ Some i → find_id id (xs ++ ys) ≡ Some i
find_id-front id i [] ys h = absurd cc
find_id-front id i (x ∷ xs) ys h = go (x.id == id) h (find_id-front id i xs ys) where
  go : (b : Bool) → cond b (Some x) (find_id id xs) ≡ Some i →
      (find_id id xs ≡ Some i → find_id id (xs ++ ys) ≡ Some i) → cond b (Some x) (find_id id (xs ++ ys)) ≡ Some i
  go true h rec = h
  go false h rec = rec h

pub remove_id-front : (id : ℕ) (i : Item) (xs ys : List Item) → find_id id xs ≡ Some i → remove_id id (xs ++ ys)
    ≡ remove_id id xs ++ ys
remove_id-front id i [] ys h = absurd cc
remove_id-front id i (x ∷ xs) ys h = go (x.id == id) h (remove_id-front id i xs ys) where
  go : (b : Bool) → cond b (Some x) (find_id id xs) ≡ Some i →
      (find_id id xs ≡ Some i → remove_id id (xs ++ ys) ≡ remove_id id xs ++ ys) →
      cond b (xs ++ ys) (x ∷ remove_id id (xs ++ ys)) ≡ cond b xs (x ∷ remove_id id xs) ++ ys
  go true h rec = refl
  go false h rec = ap (λ r. x ∷ r) (rec h)

-- not found in the first part
pub find_id-back : (id : ℕ) (xs ys : List Item) → find_id id xs ≡ None → find_id id (xs ++ ys) ≡ find_id id ys
find_id-back id [] ys h = refl
find_id-back id (x ∷ xs) ys h = go (x.id == id) h (find_id-back id xs ys) where
  go : (b : Bool) → cond b (Some x) (find_id id xs) ≡ None →
      (find_id id xs ≡ None → find_id id (xs ++ ys) ≡ find_id id ys) → cond b (Some x) (find_id id (xs ++ ys))
      ≡ find_id id ys
  go true h rec = absurd cc
  go false h rec = rec h

pub remove_id-back : (id : ℕ) (xs ys : List Item) → find_id id xs ≡ None → remove_id id (xs ++ ys) ≡ xs
    ++ remove_id id ys
remove_id-back id [] ys h = refl
remove_id-back id (x ∷ xs) ys h = go (x.id == id) h (remove_id-back id xs ys) where
  go : (b : Bool) → cond b (Some x) (find_id id xs) ≡ None →
      (find_id id xs ≡ None → remove_id id (xs ++ ys) ≡ xs ++ remove_id id ys) →
      cond b (xs ++ ys) (x ∷ remove_id id (xs ++ ys)) ≡ (x ∷ xs) ++ remove_id id ys
  go true h rec = absurd cc
  go false h rec = ap (λ r. x ∷ r) (rec h)

-- what is found is counted
pub found-counted : (id : ℕ) (i : Item) (l : List Item) → find_id id l ≡ Some i → 0 < count_of id l
found-counted id i l h =
    let same : i.id ≡ id = found-id id i l h in
    let one : one_if id i ≡ 1 = grind (arith, nat_tests) in
    omega (arith, sum-remove_id (one_if id) id i l h)

-- a list stays where no item has the id
pub remove_id-new : (id : ℕ) (l : List Item) → IsNewIn id l → remove_id id l ≡ l
remove_id-new id l new = go (find_id id l) refl where
  go : (o : Option Item) → find_id id l ≡ o → remove_id id l ≡ l
  go None is = remove_id-none id l is
  go (Some i) is = absurd (omega (arith, found-counted id i l is))

-- where ids stand once, an id is found in one part alone
pub find_id-one_part : (id : ℕ) (i : Item) (xs ys : List Item) → HasIdsOnce (xs ++ ys) → find_id id xs ≡ Some i →
    find_id id ys ≡ None
find_id-one_part id i xs ys once h = go (find_id id ys) refl where
  go : (o : Option Item) → find_id id ys ≡ o → o ≡ None
  go None is = refl
  go (Some j) is =
      absurd (omega
      (arith, sum_by-append (one_if id) xs ys, found-counted id i xs h, found-counted id j ys is, once id))

pub find_id-other_part : (id : ℕ) (i : Item) (xs ys : List Item) → HasIdsOnce (xs ++ ys) → find_id id ys ≡ Some i →
    find_id id xs ≡ None
find_id-other_part id i xs ys once h = go (find_id id xs) refl where
  go : (o : Option Item) → find_id id xs ≡ o → o ≡ None
  go None is = refl
  go (Some j) is = (let none : find_id id ys ≡ None = find_id-one_part id j xs ys once is in absurd cc)

-- the parts of a list in which ids stand once
pub once-front : (xs ys : List Item) → HasIdsOnce (xs ++ ys) → HasIdsOnce xs
once-front xs ys h id = omega (arith, h id, sum_by-append (one_if id) xs ys)

pub once-back : (xs ys : List Item) → HasIdsOnce (xs ++ ys) → HasIdsOnce ys
once-back xs ys h id = omega (arith, h id, sum_by-append (one_if id) xs ys)
