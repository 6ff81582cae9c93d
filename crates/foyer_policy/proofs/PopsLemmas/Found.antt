-- Which item has an id, before and after each call of a lawful policy.
use Rattle.std.proofs.Common.{◌≡◌, ◌≢◌, ℕ, zero, suc, ◌<◌, Bool, true, false, cond, List, [], ◌∷◌, Option, Some, None, length, get_or, refl, sym, ◌∙◌, ap, subst, arith}
use Rattle.std.specs.Prelude.{◌==◌}
use Rattle.std.specs.List.{Contains}
use Rattle.std.specs.List.Sorted.{IsPermutation}
use Rattle.std.proofs.lemmas.Bool.Decides.{nat_tests}
use Rattle.std.proofs.lemmas.List.Sorted.{Contains-permutation, sum_by-IsPermutation}
use Rattle.foyer_policy.specs.Items.{count_of, IsNewIn, HasIdsOnce, remove_id, find_id}
use Rattle.foyer_policy.specs.Policy.{Policy, IsPolicy}
use Rattle.foyer_policy.specs.declared.types.Item.{Item}
use Rattle.foyer_policy.proofs.PopsLemmas.{new-remove_id, push_once, push_count}
use Rattle.foyer_policy.specs.ItemLaws.{one_if, count-cons, count-same, found-id, found-where, once-head, once-tail, new-tail, new-head}

-- what is found is in the list
found-contained : (id : ℕ) (i : Item) (l : List Item) → find_id id l ≡ Some i → Contains l i
found-contained id i [] h = absurd cc
found-contained id i (x ∷ xs) h = go (x.id == id) h (found-contained id i xs) where
  go : (b : Bool) → cond b (Some x) (find_id id xs) ≡ Some i → (find_id id xs ≡ Some i → Contains xs i) →
      Contains (x ∷ xs) i
  go true h rec = (let same : x ≡ i = cc in (0, omega arith, same))
  go false h rec = (let r = rec h in (suc r.0, omega (arith, r.1), r.2))

-- an id that is new is not found
pub new-not_found : (id : ℕ) (l : List Item) → IsNewIn id l → find_id id l ≡ None
new-not_found id [] h = refl
new-not_found id (x ∷ xs) h =
    (let apart : x.id ≢ id = new-head id x xs h in let e : (x.id == id) ≡ false = grind (arith, nat_tests) in
    rw e (new-not_found id xs (new-tail id x xs h)))

pub not_found-new : (id : ℕ) (l : List Item) → find_id id l ≡ None → IsNewIn id l
not_found-new id l h = go (count_of id l) refl where
  go : (n : ℕ) → count_of id l ≡ n → count_of id l ≡ 0
  go zero e = e
  go (suc n) e =
      absurd (let there = found-where id l (omega arith) in let bad : Some there.0 ≡ None = sym there.1 ∙ h in cc)

contained-counted : (k : ℕ) (i : Item) (l : List Item) → k < length l → get_or l k i ≡ i → 0 < count_of i.id l
contained-counted k i [] h at = absurd (omega arith)
contained-counted zero i (x ∷ xs) h at =
    (let same : x ≡ i = at in subst (λ (j : Item). 0 < count_of j.id (x ∷ xs)) same (omega (arith, count-same x xs)))
contained-counted (suc k) i (x ∷ xs) h at =
    omega (arith, contained-counted k i xs (omega arith) at, count-cons i.id x xs)

contained-found : (k : ℕ) (i : Item) (l : List Item) → HasIdsOnce l → k < length l → get_or l k i ≡ i → find_id i.id l
    ≡ Some i
contained-found k i [] once h at = absurd (omega arith)
contained-found zero i (x ∷ xs) once h at =
    (let e : (x.id == i.id) ≡ true = rw at (grind (arith, nat_tests)) in rw e (ap (λ (j : Item). Some j) at))
contained-found (suc k) i (x ∷ xs) once h at =
    let counted : 0 < count_of i.id xs = contained-counted k i xs (omega arith) at in
    let apart : x.id ≢ i.id =
    (λ same. let none : count_of i.id xs ≡ 0 = subst (λ (n : ℕ). count_of n xs ≡ 0) same (once-head x xs once) in
    omega arith) in
    let e : (x.id == i.id) ≡ false = grind (arith, nat_tests) in
    rw e (contained-found k i xs (once-tail x xs once) (omega arith) at)

-- in any order, the same item has an id
pub find_id-IsPermutation : (id : ℕ) (xs ys : List Item) → HasIdsOnce xs → IsPermutation xs ys → find_id id ys
    ≡ find_id id xs
find_id-IsPermutation id xs ys once p = go (find_id id xs) refl where
  go : (o : Option Item) → find_id id xs ≡ o → find_id id ys ≡ o
  go None is = new-not_found id ys (omega (arith, sum_by-IsPermutation (one_if id) xs ys p, not_found-new id xs is))
  go (Some i) is =
      let c = Contains-permutation xs ys i p (found-contained id i xs is) in
      let once' : HasIdsOnce ys = (λ j. omega (arith, sum_by-IsPermutation (one_if j) xs ys p, once j)) in
      rw (← found-id id i xs is) (contained-found c.0 i ys once' c.1 c.2)

find-remove_other : (j id : ℕ) (l : List Item) → j ≢ id → find_id j (remove_id id l) ≡ find_id j l
find-remove_other j id [] apart = refl
find-remove_other j id (x ∷ xs) apart = go (x.id == id) refl (find-remove_other j id xs apart) where
  go : (b : Bool) → (x.id == id) ≡ b → find_id j (remove_id id xs) ≡ find_id j xs →
      find_id j (cond b xs (x ∷ remove_id id xs)) ≡ find_id j (x ∷ xs)
  go true e rec = (let other : (x.id == j) ≡ false = grind (arith, nat_tests) in rw other refl)
  go false e rec = ap (λ (o : Option Item). cond (x.id == j) (Some x) o) rec

find-remove_id : (j id : ℕ) (l : List Item) → HasIdsOnce l → find_id j (remove_id id l)
    ≡ cond (id == j) None (find_id j l)
find-remove_id j id l once = go (id == j) refl where
  go : (b : Bool) → (id == j) ≡ b → find_id j (remove_id id l) ≡ cond b None (find_id j l)
  go true e =
      (let same : id ≡ j = grind (arith, nat_tests) in
      subst (λ (n : ℕ). find_id n (remove_id id l) ≡ None) same
      (new-not_found id (remove_id id l) (new-remove_id id l once)))
  go false e = (let apart : j ≢ id = grind (arith, nat_tests) in find-remove_other j id l apart)

module _ {V C : Type 0} (m : Policy V C) (law : IsPolicy m) (v : V) (once : HasIdsOnce (m.order v)) where
  pub push_find : (id : ℕ) (i : Item) → IsNewIn i.id (m.order v) → find_id id (m.order (m.push v i))
      ≡ cond (i.id == id) (Some i) (find_id id (m.order v))
  push_find id i new =
      let pushed = push_once m law v i once new in
      find_id-IsPermutation id (i ∷ m.order v) (m.order (m.push v i))
      (λ j. omega (arith, pushed j, push_count m law v j i, count-cons j i (m.order v))) (law.push_order v i)

  pub pop_find : (id : ℕ) (w : V) (i : Item) → m.pop v ≡ Some (i, w) → find_id id (m.order v)
      ≡ cond (i.id == id) (Some i) (find_id id (m.order w))
  pop_find id w i h = sym (find_id-IsPermutation id (m.order v) (i ∷ m.order w) once (law.pop_order v w i h))

  pub remove_find : (j id : ℕ) → find_id j (m.order (m.remove v id)) ≡ cond (id == j) None (find_id j (m.order v))
  remove_find j id = rw (law.remove_order v id) (find-remove_id j id (m.order v) once)

  pub acquire_find : (j id : ℕ) → find_id j (m.order (m.acquire v id)) ≡ find_id j (m.order v)
  acquire_find j id = find_id-IsPermutation j (m.order v) (m.order (m.acquire v id)) once (law.acquire_order v id once)

  pub release_find : (j id : ℕ) → find_id j (m.order (m.release v id)) ≡ find_id j (m.order v)
  release_find j id = find_id-IsPermutation j (m.order v) (m.order (m.release v id)) once (law.release_order v id once)

  pub update_find : (j capacity : ℕ) (config : Option C) → find_id j (m.order (m.update v capacity config))
      ≡ find_id j (m.order v)
  update_find j capacity config = find_id-IsPermutation j (m.order v) (m.order (m.update v capacity config)) once
      (law.update_order v capacity config once)
