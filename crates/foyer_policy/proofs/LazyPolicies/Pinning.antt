-- A queue beside a pin list is a policy.
use Rattle.std.proofs.Common.{◌≡◌, ℕ, zero, suc, true, List, [], ◌∷◌, ◌++◌, Option, Some, None, length, refl, sym, ap, subst, arith, inl, inr, append_assoc}
use Rattle.std.specs.Prelude.{◌==◌}
use Rattle.std.specs.List.Sorted.{IsPermutation}
use Rattle.std.proofs.lemmas.Bool.Decides.{nat_tests}
use Rattle.std.proofs.lemmas.List.Sums.{sum_by-append}
use Rattle.std.proofs.lemmas.List.Sorted.{IsPermutation-refl, IsPermutation-sym, IsPermutation-trans, IsPermutation-to_front, IsPermutation-middle, IsPermutation-append_left, IsPermutation-append_right}
use Rattle.foyer_policy.specs.Items.{IsNewIn, HasIdsOnce, IsWithin, remove_id, find_id}
use Rattle.foyer_policy.specs.Policy.{IsPolicy, PinsAtMost, removed}
use Rattle.foyer_policy.specs.PopTimes.{pop_times}
use Rattle.foyer_policy.specs.declared.types.Item.{Item}
use Rattle.foyer_policy.specs.ItemLaws.{one_if, count-same}
use Rattle.foyer_policy.specs.PartLaws.{IsPermutation-remove_id, remove_id-none, remove_id-new, find_id-front, remove_id-front, remove_id-back, find_id-one_part}
use Rattle.foyer_policy.proofs.LazyPolicies.{pinning, or_stay}

pop-is : (xs ps : List Item) (w : List Item × List Item) (i : Item) → pinning.pop (xs, ps) ≡ Some (i, w) →
    (xs ≡ i ∷ w.0) × (w.1 ≡ ps)
pop-is [] ps w i h = absurd cc
pop-is (x ∷ xs) ps w i h =
    let e : ◌≡◌ {A = Item × (List Item × List Item)} (x, (xs, ps)) (i, w) = cc in (
      ap (λ (p : Item × (List Item × List Item)). p.0 ∷ p.1.0) e,
      ap (λ (p : Item × (List Item × List Item)). p.1.1) (sym e),
    )

pop-none : (xs ps : List Item) → pinning.pop (xs, ps) ≡ None → IsWithin (xs ++ ps) ps
pop-none [] ps h = λ f. omega arith
pop-none (x ∷ xs) ps h = absurd cc

pop-free : (xs ps : List Item) (w : List Item × List Item) (i : Item) → pinning.pop (xs, ps) ≡ Some (i, w) →
    HasIdsOnce (xs ++ ps) → IsNewIn i.id ps
pop-free [] ps w i h once = absurd cc
pop-free (x ∷ xs) ps w i h once =
    let e : ◌≡◌ {A = Item × (List Item × List Item)} (x, (xs, ps)) (i, w) = cc in
    let same : x ≡ i = ap (λ (p : Item × (List Item × List Item)). p.0) e in
    let new : IsNewIn x.id ps = omega (arith, once x.id, count-same x (xs ++ ps), sum_by-append (one_if x.id) xs ps) in
    subst (λ (j : Item). IsNewIn j.id ps) same new

remove-order : (id : ℕ) (xs ps : List Item) → pinning.order (pinning.remove (xs, ps) id) ≡ remove_id id (xs ++ ps)
remove-order id xs ps = go (find_id id xs) refl where
  go : (o : Option Item) → find_id id xs ≡ o →
      pinning.order (or_stay o (xs, remove_id id ps) (λ i. (remove_id id xs, ps))) ≡ remove_id id (xs ++ ps)
  go None is = sym (remove_id-back id xs ps is)
  go (Some i) is = sym (remove_id-front id i xs ps is)

remove-pinned : (id : ℕ) (xs ps : List Item) → HasIdsOnce (xs ++ ps) → pinning.pinned (pinning.remove (xs, ps) id)
    ≡ remove_id id ps
remove-pinned id xs ps once = go (find_id id xs) refl where
  go : (o : Option Item) → find_id id xs ≡ o →
      pinning.pinned (or_stay o (xs, remove_id id ps) (λ i. (remove_id id xs, ps))) ≡ remove_id id ps
  go None is = refl
  go (Some i) is = sym (remove_id-none id ps (find_id-one_part id i xs ps once is))

remove-unpinned : (id : ℕ) (xs ps : List Item) → IsNewIn id ps → pinning.pinned (pinning.remove (xs, ps) id) ≡ ps
remove-unpinned id xs ps free = go (find_id id xs) where
  go : (o : Option Item) → pinning.pinned (or_stay o (xs, remove_id id ps) (λ i. (remove_id id xs, ps))) ≡ ps
  go None = remove_id-new id ps free
  go (Some i) = refl

acquire-order : (id : ℕ) (xs ps : List Item) → IsPermutation (xs ++ ps) (pinning.order (pinning.acquire (xs, ps) id))
acquire-order id xs ps = go (find_id id xs) refl where
  go : (o : Option Item) → find_id id xs ≡ o →
      IsPermutation (xs ++ ps) (pinning.order (or_stay o (xs, ps) (λ i. (remove_id id xs, ps ++ i ∷ []))))
  go None is = IsPermutation-refl (xs ++ ps)
  go (Some i) is =
      IsPermutation-trans (xs ++ ps) (i ∷ (remove_id id xs ++ ps)) (remove_id id xs ++ (ps ++ i ∷ []))
      (IsPermutation-append_left ps xs (i ∷ remove_id id xs) (IsPermutation-remove_id id i xs is))
      (IsPermutation-sym (remove_id id xs ++ (ps ++ i ∷ [])) (i ∷ (remove_id id xs ++ ps))
      (rw (← append_assoc) (IsPermutation-to_front (remove_id id xs ++ ps) i)))

acquire-pinned : (id : ℕ) (xs ps : List Item) → PinsAtMost pinning (xs, ps) id (pinning.acquire (xs, ps) id)
acquire-pinned id xs ps = go (find_id id xs) refl where
  go : (o : Option Item) → find_id id xs ≡ o →
      PinsAtMost pinning (xs, ps) id (or_stay o (xs, ps) (λ i. (remove_id id xs, ps ++ i ∷ [])))
  go None is = inl refl
  go (Some i) is =
      inr (i, find_id-front id i xs ps is, IsPermutation-sym (ps ++ i ∷ []) (i ∷ ps) (IsPermutation-to_front ps i))

release-order : (id : ℕ) (xs ps : List Item) → IsPermutation (xs ++ ps) (pinning.order (pinning.release (xs, ps) id))
release-order id xs ps = go (find_id id ps) refl where
  go : (o : Option Item) → find_id id ps ≡ o →
      IsPermutation (xs ++ ps) (pinning.order (or_stay o (xs, ps) (λ i. (xs ++ i ∷ [], remove_id id ps))))
  go None is = IsPermutation-refl (xs ++ ps)
  go (Some i) is = rw append_assoc
      (IsPermutation-append_right xs ps (i ∷ remove_id id ps) (IsPermutation-remove_id id i ps is))

release-pinned : (id : ℕ) (xs ps : List Item) → pinning.pinned (pinning.release (xs, ps) id) ≡ remove_id id ps
release-pinned id xs ps = go (find_id id ps) refl where
  go : (o : Option Item) → find_id id ps ≡ o →
      pinning.pinned (or_stay o (xs, ps) (λ i. (xs ++ i ∷ [], remove_id id ps))) ≡ remove_id id ps
  go None is = sym (remove_id-none id ps is)
  go (Some i) is = refl

no_more : (n : ℕ) (ps : List Item) → pop_times pinning.pop n ([], ps) ≡ ([], ps)
no_more zero ps = refl
no_more (suc n) ps = refl

pub all_popped : (xs ps : List Item) → pop_times pinning.pop (length (xs ++ ps)) (xs, ps) ≡ ([], ps)
all_popped [] ps = no_more (length ps) ps
all_popped (x ∷ xs) ps = all_popped xs ps

pub all_removed : (ps : List Item) → removed pinning ps ([], ps) ≡ ([], [])
all_removed [] = refl
all_removed (p ∷ ps) = (let e : (p.id == p.id) ≡ true = grind (arith, nat_tests) in rw e (all_removed ps))

pub pinning_lawful : IsPolicy pinning
pinning_lawful = record {
  opening_order = λ capacity c accepted. refl;
  fault_kind = λ c reason h. absurd cc;
  opening_credit = λ capacity c accepted. refl;
  pinned_within = λ v f. omega (arith, sum_by-append f v.0 v.1);
  push_order = λ v i. rw append_assoc
      (IsPermutation-sym (v.0 ++ (i ∷ v.1)) (i ∷ (v.0 ++ v.1)) (IsPermutation-middle v.0 i v.1));
  push_pinned = λ v i. refl;
  push_credit = λ v i. omega arith;
  pop_order = λ v w i h. (let e = pop-is v.0 v.1 w i h in rw (e.0, e.1) (IsPermutation-refl (i ∷ (w.0 ++ v.1))));
  pop_pinned = λ v w i h. (pop-is v.0 v.1 w i h).1;
  pop_none = λ v h. pop-none v.0 v.1 h;
  pop_looks = λ v w i h. omega arith;
  pop_credit = λ v w i h. omega arith;
  none_looks = λ v h. refl;
  remove_order = λ v id. remove-order id v.0 v.1;
  remove_pinned = λ v id once. remove-pinned id v.0 v.1 once;
  remove_unpinned = λ v id free. remove-unpinned id v.0 v.1 free;
  remove_credit = λ v id. omega arith;
  acquire_order = λ v id once. acquire-order id v.0 v.1;
  acquire_pinned = λ v id once. acquire-pinned id v.0 v.1;
  acquire_credit = λ v id. omega arith;
  release_order = λ v id once. release-order id v.0 v.1;
  release_pinned = λ v id once. release-pinned id v.0 v.1;
  release_credit = λ v id. omega arith;
  update_order = λ v capacity config once. IsPermutation-refl (v.0 ++ v.1);
  update_pinned = λ v capacity config. refl;
  update_credit = λ v capacity config. omega arith;
  clear_is = λ v. rw (all_popped v.0 v.1) (sym (all_removed v.1));
}
