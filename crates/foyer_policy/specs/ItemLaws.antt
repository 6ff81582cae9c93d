-- Lists of items, by their ids.
use Rattle.std.proofs.Common.{◌≡◌, ◌≢◌, ℕ, ◌+◌, ◌<◌, ◌≤◌, Bool, true, false, cond, List, [], ◌∷◌, ◌++◌, Some, refl, sym, ◌∙◌, ap, subst, arith}
use Rattle.std.specs.Prelude.{◌==◌, sum_by}
use Rattle.std.proofs.lemmas.Bool.Decides.{nat_tests}
use Rattle.std.proofs.lemmas.List.Sums.{sum_by-cons, sum_by-append}
use Rattle.foyer_policy.specs.Items.{count_of, IsNewIn, HasIdsOnce, remove_id, find_id}
use Rattle.foyer_policy.specs.declared.types.Item.{Item}

-- what an item adds to the count of an id
abbrev pub one_if : ℕ → Item → ℕ
one_if id i = cond (i.id == id) 1 0

pub count-cons : (id : ℕ) (i : Item) (is : List Item) → count_of id (i ∷ is) ≡ one_if id i + count_of id is
count-cons id i is = sum_by-cons (one_if id) i is

pub count-same : (i : Item) (is : List Item) → count_of i.id (i ∷ is) ≡ 1 + count_of i.id is
count-same i is = (let e : (i.id == i.id) ≡ true = grind (arith, nat_tests) in count-cons i.id i is ∙ rw e refl)

pub count-other : (id : ℕ) (i : Item) (is : List Item) → i.id ≢ id → count_of id (i ∷ is) ≡ count_of id is
count-other id i is n =
    (let e : (i.id == id) ≡ false = grind (arith, nat_tests) in count-cons id i is ∙ rw e (omega arith))

pub new-head : (id : ℕ) (i : Item) (is : List Item) → IsNewIn id (i ∷ is) → i.id ≢ id
new-head id i is h e =
    (let x : count_of i.id (i ∷ is) ≡ 0 = subst (λ (n : ℕ). count_of n (i ∷ is) ≡ 0) (sym e) h in
    omega (arith, count-same i is))

pub new-tail : (id : ℕ) (i : Item) (is : List Item) → IsNewIn id (i ∷ is) → IsNewIn id is
new-tail id i is h = omega (arith, count-cons id i is)

pub new-cons : (id : ℕ) (i : Item) (is : List Item) → i.id ≢ id → IsNewIn id is → IsNewIn id (i ∷ is)
new-cons id i is n h = count-other id i is n ∙ h

pub once-head : (i : Item) (is : List Item) → HasIdsOnce (i ∷ is) → IsNewIn i.id is
once-head i is h = omega (arith, count-same i is, h i.id)

pub once-tail : (i : Item) (is : List Item) → HasIdsOnce (i ∷ is) → HasIdsOnce is
once-tail i is h id = omega (arith, count-cons id i is, h id)

count-remove_id : (j id : ℕ) (l : List Item) → count_of j (remove_id id l) ≤ count_of j l
count-remove_id j id [] = omega arith
count-remove_id j id (i ∷ is) = go (i.id == id) (count-remove_id j id is) where
  go : (b : Bool) → count_of j (remove_id id is) ≤ count_of j is →
      count_of j (cond b is (i ∷ remove_id id is)) ≤ count_of j (i ∷ is)
  go true rec = omega (arith, count-cons j i is)
  go false rec = omega (arith, count-cons j i is, count-cons j i (remove_id id is))

pub once-remove_id : (id : ℕ) (l : List Item) → HasIdsOnce l → HasIdsOnce (remove_id id l)
once-remove_id id l h j = omega (arith, count-remove_id j id l, h j)

pub once-snoc : (l : List Item) (i : Item) → HasIdsOnce l → IsNewIn i.id l → HasIdsOnce (l ++ i ∷ [])
once-snoc l i h n j =
    (let a : count_of j (l ++ i ∷ []) ≡ count_of j l + count_of j (i ∷ []) = sum_by-append (one_if j) l (i ∷ []) in
    go (i.id == j) refl a) where
      go : (b : Bool) → (i.id == j) ≡ b → count_of j (l ++ i ∷ []) ≡ count_of j l + count_of j (i ∷ []) →
          count_of j (l ++ i ∷ []) ≤ 1
      go true e a =
          (let same : i.id ≡ j = grind (arith, nat_tests) in let none : count_of j l ≡ 0 =
          subst (λ (n : ℕ). count_of n l ≡ 0) same n in let o : one_if j i ≡ 1 = rw e refl in
          omega (arith, count-cons j i []))
      go false e a = (let o : one_if j i ≡ 0 = rw e refl in omega (arith, count-cons j i [], h j))

-- what is found by its id is counted, and has that id
pub found-id : (id : ℕ) (i : Item) (l : List Item) → find_id id l ≡ Some i → i.id ≡ id
found-id id i [] h = absurd cc
found-id id i (x ∷ xs) h = go (x.id == id) refl h (found-id id i xs) where
  go : (b : Bool) → (x.id == id) ≡ b → cond b (Some x) (find_id id xs) ≡ Some i → (find_id id xs ≡ Some i → i.id ≡ id)
      → i.id ≡ id
  go true e h rec = (let s : x ≡ i = cc in let n : x.id ≡ id = grind (arith, nat_tests) in rw (← s) n)
  go false e h rec = rec h

-- the rest without what was found, for whatever is counted
pub sum-remove_id : (measure : Item → ℕ) (id : ℕ) (i : Item) (l : List Item) → find_id id l ≡ Some i →
    sum_by measure (remove_id id l) + measure i ≡ sum_by measure l
sum-remove_id f id i [] h = absurd cc
sum-remove_id f id i (x ∷ xs) h = go (x.id == id) h (sum-remove_id f id i xs) where
  go : (b : Bool) → cond b (Some x) (find_id id xs) ≡ Some i →
      (find_id id xs ≡ Some i → sum_by f (remove_id id xs) + f i ≡ sum_by f xs) →
      sum_by f (cond b xs (x ∷ remove_id id xs)) + f i ≡ sum_by f (x ∷ xs)
  go true h rec = (let s : x ≡ i = cc in let n : f x ≡ f i = ap f s in omega (arith, sum_by-cons f x xs))
  go false h rec = omega (arith, rec h, sum_by-cons f x xs, sum_by-cons f x (remove_id id xs))

-- where an id stands, it is found
pub found-where : (id : ℕ) (l : List Item) → 0 < count_of id l → (i : Item) × (find_id id l ≡ Some i)
found-where id [] h = absurd (omega arith)
found-where id (x ∷ xs) h = go (x.id == id) refl (found-where id xs) where
  go : (b : Bool) → (x.id == id) ≡ b → (0 < count_of id xs → (i : Item) × (find_id id xs ≡ Some i)) → (i : Item)
      × (cond b (Some x) (find_id id xs) ≡ Some i)
  go true e rec = (x, refl)
  go false e rec = rec (let o : one_if id x ≡ 0 = rw e refl in omega (arith, count-cons id x xs))
