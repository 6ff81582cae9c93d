-- One call of a lawful policy: what it does to sums over the items, to ids, to pins and to the pops.
use Rattle.std.proofs.Common.{◌≡◌, ◌≢◌, ℕ, zero, suc, ◌+◌, ◌-◌, ◌≤◌, Bool, true, false, cond, List, [], ◌∷◌, Option, Some, None, length, refl, sym, ◌∙◌, ap, subst, arith, add-one, inl, inr}
use Rattle.std.specs.Prelude.{◌==◌, sum_by}
use Rattle.std.proofs.lemmas.Bool.Decides.{nat_tests}
use Rattle.std.proofs.lemmas.List.Sorted.{sum_by-IsPermutation, sum_by_popped, sum_by_pushed, length_permutation}
use Rattle.foyer_policy.specs.Items.{weight_of, count_of, IsNewIn, HasIdsOnce, remove_id, find_id}
use Rattle.foyer_policy.specs.Policy.{Policy, IsPolicy, first_pops, pops, view_or, after_pops}
use Rattle.foyer_policy.specs.PopTimes.{after_pop, pop_times}
use Rattle.foyer_policy.specs.declared.types.Item.{Item}
use Rattle.foyer_policy.specs.ItemLaws.{one_if, count-cons, count-other, found-id, sum-remove_id, once-remove_id, once-head, once-tail, new-cons}
pub mod Cleared
pub mod Evicted
pub mod Found
pub mod Repeated

-- once taken out, an id is new
pub new-remove_id : (id : ℕ) (l : List Item) → HasIdsOnce l → IsNewIn id (remove_id id l)
new-remove_id id [] once = refl
new-remove_id id (x ∷ xs) once = go (x.id == id) refl (new-remove_id id xs (once-tail x xs once)) where
  go : (b : Bool) → (x.id == id) ≡ b → IsNewIn id (remove_id id xs) → IsNewIn id (cond b xs (x ∷ remove_id id xs))
  go true e rec =
      (let same : x.id ≡ id = grind (arith, nat_tests) in subst (λ (n : ℕ). IsNewIn n xs) same (once-head x xs once))
  go false e rec = (let apart : x.id ≢ id = grind (arith, nat_tests) in new-cons id x (remove_id id xs) apart rec)

pub count-remove_other : (j id : ℕ) (l : List Item) → j ≢ id → count_of j (remove_id id l) ≡ count_of j l
count-remove_other j id [] apart = refl
count-remove_other j id (x ∷ xs) apart = go (x.id == id) refl (count-remove_other j id xs apart) where
  go : (b : Bool) → (x.id == id) ≡ b → count_of j (remove_id id xs) ≡ count_of j xs →
      count_of j (cond b xs (x ∷ remove_id id xs)) ≡ count_of j (x ∷ xs)
  go true e rec =
      (let same : x.id ≡ id = grind (arith, nat_tests) in let other : x.id ≢ j = (λ f. apart (sym f ∙ same)) in
      sym (count-other j x xs other))
  go false e rec = omega (arith, rec, count-cons j x xs, count-cons j x (remove_id id xs))

module _ {V C : Type 0} (m : Policy V C) where
  pub first_pops-some : (n : ℕ) (v w : V) (i : Item) → m.pop v ≡ Some (i, w) → first_pops m (suc n) v
      ≡ i ∷ first_pops m n w
  first_pops-some n v w i h = rw h

  pub first_pops-none : (n : ℕ) (v : V) → m.pop v ≡ None → first_pops m n v ≡ []
  first_pops-none zero v h = refl
  first_pops-none (suc n) v h = rw h

  pub pops-none : (v : V) → m.pop v ≡ None → pops m v ≡ []
  pops-none v h = first_pops-none (length (m.order v)) v h

  pub after_pops-some : (n : ℕ) (v w : V) (i : Item) → m.pop v ≡ Some (i, w) → after_pops m (suc n) v ≡ after_pops m n w
  after_pops-some n v w i h = rw h

  pub after_pops-none : (n : ℕ) (v : V) → m.pop v ≡ None → after_pops m n v ≡ v
  after_pops-none zero v h = refl
  after_pops-none (suc n) v h = rw h

  -- what leaves next is what pop gives
  pub pop_times-is : (n : ℕ) (v : V) → pop_times m.pop n v ≡ after_pops m n v
  pop_times-is zero v = refl
  pop_times-is (suc n) v = go (m.pop v) (λ w. pop_times-is n w) where
    go : (o : Option (Item × V)) → ((w : V) → pop_times m.pop n w ≡ after_pops m n w) →
        after_pop o v (λ w. pop_times m.pop n w) ≡ view_or m o v (λ w. after_pops m n w)
    go None rec = refl
    go (Some p) rec = rec p.1

  -- one pop more
  pub after_pops-more : (n : ℕ) (v w x : V) (i : Item) → after_pops m n v ≡ w → m.pop w ≡ Some (i, x) →
      after_pops m (suc n) v ≡ x
  after_pops-more zero v w x i e h = rw (e, h) refl
  after_pops-more (suc n) v w x i e h = go (m.pop v) refl e (λ u f. after_pops-more n u w x i f h) where
    go : (o : Option (Item × V)) → m.pop v ≡ o → view_or m o v (λ u. after_pops m n u) ≡ w →
        ((u : V) → after_pops m n u ≡ w → after_pops m (suc n) u ≡ x) → view_or m o v (λ u. after_pops m (suc n) u) ≡ x
    go None is e rec = cc
    go (Some p) is e rec = rec p.1 e

  -- what each pop keeps, all of them do
  pub after_pops-keeps : (P : V → Type 0) → ((v w : V) (i : Item) → m.pop v ≡ Some (i, w) → P v → P w) →
      (n : ℕ) (v : V) → P v → P (after_pops m n v)
  after_pops-keeps P step zero v h = h
  after_pops-keeps P step (suc n) v h = go (m.pop v) refl (after_pops-keeps P step n) where
    go : (o : Option (Item × V)) → m.pop v ≡ o → ((w : V) → P w → P (after_pops m n w)) →
        P (view_or m o v (λ w. after_pops m n w))
    go None e rec = h
    go (Some p) e rec = rec p.1 (step v p.1 p.0 e h)

module _ {V C : Type 0} (m : Policy V C) (law : IsPolicy m) (v w : V) (i : Item) (h : m.pop v ≡ Some (i, w)) where
  -- a pop takes its item out, whatever is counted of the items
  pub pop_sum : (measure : Item → ℕ) → sum_by measure (m.order v) ≡ measure i + sum_by measure (m.order w)
  pop_sum f = omega (arith, sum_by_popped f i (m.order v) (m.order w) (law.pop_order v w i h))

  pub pop_weight : weight_of (m.order v) ≡ i.weight + weight_of (m.order w)
  pop_weight = pop_sum (λ j. j.weight)

  pub pop_count : (id : ℕ) → count_of id (m.order v) ≡ one_if id i + count_of id (m.order w)
  pop_count id = pop_sum (one_if id)

  pub pop_shorter : length (m.order v) ≡ length (m.order w) + 1
  pop_shorter = omega (arith, length_permutation (m.order v) (i ∷ m.order w) (law.pop_order v w i h))

  pub pop_once : HasIdsOnce (m.order v) → HasIdsOnce (m.order w)
  pop_once once id = omega (arith, pop_count id, once id)

  -- once out, the item's id is new
  pub pop_new : HasIdsOnce (m.order v) → IsNewIn i.id (m.order w)
  pop_new once = (let e : one_if i.id i ≡ 1 = grind (arith, nat_tests) in omega (arith, pop_count i.id, once i.id))

  -- no pop gives what is pinned
  pub pop_free : HasIdsOnce (m.order v) → IsNewIn i.id (m.pinned v)
  pop_free once =
      let kept : count_of i.id (m.pinned v) ≤ count_of i.id (m.order w) =
      rw (← law.pop_pinned v w i h) (law.pinned_within w (one_if i.id)) in
      omega (arith, kept, pop_new once)

  pub pops-some : pops m v ≡ i ∷ pops m w
  pops-some = rw (pop_shorter, add-one) (first_pops-some m (length (m.order w)) v w i h)

-- the other calls, whatever is counted of the items
module _ {V C : Type 0} (m : Policy V C) (law : IsPolicy m) (v : V) where
  pub push_sum : (measure : Item → ℕ) (i : Item) → sum_by measure (m.order (m.push v i))
      ≡ measure i + sum_by measure (m.order v)
  push_sum f i = sum_by_pushed f i (m.order v) (m.order (m.push v i)) (law.push_order v i)

  pub push_weight : (i : Item) → weight_of (m.order (m.push v i)) ≡ i.weight + weight_of (m.order v)
  push_weight i = push_sum (λ j. j.weight) i

  pub push_count : (id : ℕ) (i : Item) → count_of id (m.order (m.push v i)) ≡ one_if id i + count_of id (m.order v)
  push_count id i = push_sum (one_if id) i

  pub push_once : (i : Item) → HasIdsOnce (m.order v) → IsNewIn i.id (m.order v) → HasIdsOnce (m.order (m.push v i))
  push_once i once new id = go (i.id == id) refl where
    go : (b : Bool) → (i.id == id) ≡ b → count_of id (m.order (m.push v i)) ≤ 1
    go true e =
        (let same : i.id ≡ id = grind (arith, nat_tests) in let none : count_of id (m.order v) ≡ 0 =
        subst (λ (n : ℕ). count_of n (m.order v) ≡ 0) same new in let o : one_if id i ≡ 1 = rw e refl in
        omega (arith, push_count id i))
    go false e = (let o : one_if id i ≡ 0 = rw e refl in omega (arith, push_count id i, once id))

  pub remove_sum : (measure : Item → ℕ) (id : ℕ) (i : Item) → find_id id (m.order v) ≡ Some i →
      sum_by measure (m.order (m.remove v id)) + measure i ≡ sum_by measure (m.order v)
  remove_sum f id i found = rw (law.remove_order v id) (sum-remove_id f id i (m.order v) found)

  pub remove_weight : (id : ℕ) (i : Item) → find_id id (m.order v) ≡ Some i →
      weight_of (m.order (m.remove v id)) + i.weight ≡ weight_of (m.order v)
  remove_weight id i found = remove_sum (λ j. j.weight) id i found

  pub remove_count : (j id : ℕ) (i : Item) → find_id id (m.order v) ≡ Some i →
      count_of j (m.order (m.remove v id)) + one_if j i ≡ count_of j (m.order v)
  remove_count j id i found = remove_sum (one_if j) id i found

  pub remove_once : (id : ℕ) → HasIdsOnce (m.order v) → HasIdsOnce (m.order (m.remove v id))
  remove_once id once = rw (law.remove_order v id) (once-remove_id id (m.order v) once)

  -- once removed, the id is new
  pub remove_new : (id : ℕ) → HasIdsOnce (m.order v) → IsNewIn id (m.order (m.remove v id))
  remove_new id once = rw (law.remove_order v id) (new-remove_id id (m.order v) once)

  pub acquire_sum : (measure : Item → ℕ) (id : ℕ) → HasIdsOnce (m.order v) → sum_by measure (m.order (m.acquire v id))
      ≡ sum_by measure (m.order v)
  acquire_sum f id once = sum_by-IsPermutation f (m.order v) (m.order (m.acquire v id)) (law.acquire_order v id once)

  pub acquire_once : (id : ℕ) → HasIdsOnce (m.order v) → HasIdsOnce (m.order (m.acquire v id))
  acquire_once id once j = omega (arith, acquire_sum (one_if j) id once, once j)

  pub release_sum : (measure : Item → ℕ) (id : ℕ) → HasIdsOnce (m.order v) → sum_by measure (m.order (m.release v id))
      ≡ sum_by measure (m.order v)
  release_sum f id once = sum_by-IsPermutation f (m.order v) (m.order (m.release v id)) (law.release_order v id once)

  pub release_once : (id : ℕ) → HasIdsOnce (m.order v) → HasIdsOnce (m.order (m.release v id))
  release_once id once j = omega (arith, release_sum (one_if j) id once, once j)

  pub update_sum : (measure : Item → ℕ) (capacity : ℕ) (config : Option C) → HasIdsOnce (m.order v) →
      sum_by measure (m.order (m.update v capacity config)) ≡ sum_by measure (m.order v)
  update_sum f capacity config once = sum_by-IsPermutation f (m.order v) (m.order (m.update v capacity config))
      (law.update_order v capacity config once)

  pub update_once : (capacity : ℕ) (config : Option C) → HasIdsOnce (m.order v) →
      HasIdsOnce (m.order (m.update v capacity config))
  update_once capacity config once j = omega (arith, update_sum (one_if j) capacity config once, once j)

-- pins
module _ {V C : Type 0} (m : Policy V C) (law : IsPolicy m) (v : V) where
  pub pinned_weight : weight_of (m.pinned v) ≤ weight_of (m.order v)
  pinned_weight = law.pinned_within v (λ i. i.weight)

  pub pinned_once : HasIdsOnce (m.order v) → HasIdsOnce (m.pinned v)
  pinned_once once id = omega (arith, law.pinned_within v (one_if id), once id)

  -- where no pop gives an item, what is in is what is pinned, whatever is counted
  pub none_sum : m.pop v ≡ None → (measure : Item → ℕ) → sum_by measure (m.order v) ≡ sum_by measure (m.pinned v)
  none_sum h f = omega (arith, law.pop_none v h f, law.pinned_within v f)

  pub none_weight : m.pop v ≡ None → weight_of (m.order v) ≡ weight_of (m.pinned v)
  none_weight h = none_sum h (λ i. i.weight)

  -- the pins of other ids stay
  pub remove_pins : (j id : ℕ) → j ≢ id → HasIdsOnce (m.order v) → count_of j (m.pinned (m.remove v id))
      ≡ count_of j (m.pinned v)
  remove_pins j id apart once = rw (law.remove_pinned v id once) (count-remove_other j id (m.pinned v) apart)

  pub release_pins : (j id : ℕ) → j ≢ id → HasIdsOnce (m.order v) → count_of j (m.pinned (m.release v id))
      ≡ count_of j (m.pinned v)
  release_pins j id apart once = rw (law.release_pinned v id once) (count-remove_other j id (m.pinned v) apart)

  -- once released, an item is not pinned
  pub release_free : (id : ℕ) → HasIdsOnce (m.order v) → IsNewIn id (m.pinned (m.release v id))
  release_free id once = rw (law.release_pinned v id once) (new-remove_id id (m.pinned v) (pinned_once once))

  pub acquire_pins : (j id : ℕ) → j ≢ id → HasIdsOnce (m.order v) → count_of j (m.pinned (m.acquire v id))
      ≡ count_of j (m.pinned v)
  acquire_pins j id apart once = elim (law.acquire_pinned v id once) [
    | inl same ↦ ap (count_of j) same
    | inr more ↦
        let other : more.0.id ≢ j = (λ e. apart (sym e ∙ found-id id more.0 (m.order v) more.1)) in
        sum_by-IsPermutation (one_if j) (more.0 ∷ m.pinned v) (m.pinned (m.acquire v id)) more.2
        ∙ count-other j more.0 (m.pinned v) other
  ]
