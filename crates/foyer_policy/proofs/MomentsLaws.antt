-- A policy in which due items leave first is a policy.
use Rattle.std.proofs.Common.{◌≡◌, ℕ, ◌+◌, ◌≤◌, Bool, true, false, cond, List, [], ◌∷◌, Option, Some, None, refl, sym, ap, subst, arith}
use Rattle.std.specs.Prelude.{◌==◌, ◌&&◌}
use Rattle.std.specs.List.{filter}
use Rattle.std.specs.List.Sorted.{IsPermutation}
use Rattle.std.proofs.lemmas.Bool.Decides.{nat_tests}
use Rattle.foyer_policy.specs.Items.{count_of, IsNewIn, find_id}
use Rattle.foyer_policy.specs.Policy.{Policy, IsPolicy, removed}
use Rattle.foyer_policy.specs.ItemLaws.{found-id}
use Rattle.foyer_policy.specs.PartLaws.{IsPermutation-remove_id}
use Rattle.foyer_policy.specs.Moments.{is_due_unpinned, first_by_id, due_items, first_due, due_or_pop, due_or_looks, popped_out_due, due_first}
use Rattle.foyer_policy.specs.declared.types.Item.{Item}

-- the first of the due items is not pinned
pub due-unpinned : (is_due : Item → Bool) (pinned is js : List Item) (i : Item) →
    filter (is_due_unpinned is_due pinned) is ≡ i ∷ js → IsNewIn i.id pinned
due-unpinned is_due pinned [] js i h = absurd cc
due-unpinned is_due pinned (x ∷ xs) js i h =
    go (is_due x) (count_of x.id pinned == 0) refl h (due-unpinned is_due pinned xs js i) where
      rest : List Item
      rest = filter (is_due_unpinned is_due pinned) xs

      go : (a b : Bool) → (count_of x.id pinned == 0) ≡ b → cond (a && b) (x ∷ rest) rest ≡ i ∷ js →
          (rest ≡ i ∷ js → IsNewIn i.id pinned) → IsNewIn i.id pinned
      go true true e h rec =
          let same : x ≡ i = cc in
          let free : IsNewIn x.id pinned = grind (arith, nat_tests) in
          subst (λ (j : Item). IsNewIn j.id pinned) same free
      go true false e h rec = rec h
      go false b e h rec = rec h

module _ {V C : Type 0} (is_due : Item → Bool) (m : Policy V C) (law : IsPolicy m) where
  -- what is due is found under its id, and is not pinned
  due-found : (v : V) (i : Item) → first_due is_due m v ≡ Some i → (find_id i.id (m.order v) ≡ Some i)
      × IsNewIn i.id (m.pinned v)
  due-found v i h = go (due_items is_due m v) refl h where
    go : (l : List Item) → due_items is_due m v ≡ l → first_by_id (m.order v) l ≡ Some i →
        (find_id i.id (m.order v) ≡ Some i) × IsNewIn i.id (m.pinned v)
    go [] e h = absurd cc
    go (j ∷ js) e h =
        let same : i.id ≡ j.id = found-id j.id i (m.order v) h in (
          subst (λ (n : ℕ). find_id n (m.order v) ≡ Some i) (sym same) h,
          subst (λ (n : ℕ). IsNewIn n (m.pinned v)) (sym same)
              (due-unpinned is_due (m.pinned v) (m.order v) js j e),
        )

  -- a fact of what a pop gives, by the two ways in which it gives
  by_due : (P : V → Item → V → Type 0) →
      ((v : V) (i : Item) → find_id i.id (m.order v) ≡ Some i → IsNewIn i.id (m.pinned v) → P v i (m.remove v i.id)) →
      ((v w : V) (i : Item) → m.pop v ≡ Some (i, w) → P v i w) → (v w : V) (i : Item) →
      (due_first is_due m).pop v ≡ Some (i, w) → P v i w
  by_due P taken popped v w i h = go (first_due is_due m v) refl h where
    go : (o : Option Item) → first_due is_due m v ≡ o → due_or_pop is_due m v o ≡ Some (i, w) → P v i w
    go None e h = popped v w i h
    go (Some j) e h =
        let q : ◌≡◌ {A = Item × V} (j, m.remove v j.id) (i, w) = cc in
        let found = due-found v j e in
        subst (λ (x : V). P v i x) (ap (λ (p : Item × V). p.1) q)
        (subst (λ (x : Item). P v x (m.remove v j.id)) (ap (λ (p : Item × V). p.0) q) (taken v j found.0 found.1))

  no_pop : (v : V) → (due_first is_due m).pop v ≡ None → m.pop v ≡ None
  no_pop v h = go (first_due is_due m v) h where
    go : (o : Option Item) → due_or_pop is_due m v o ≡ None → m.pop v ≡ None
    go None h = h
    go (Some j) h = absurd cc

  looks_paid : (v w : V) (i : Item) → (due_first is_due m).pop v ≡ Some (i, w) →
      (due_first is_due m).looks v + m.credit w ≤ m.credit v + 1
  looks_paid v w i h = go (first_due is_due m v) h where
    go : (o : Option Item) → due_or_pop is_due m v o ≡ Some (i, w) →
        due_or_looks is_due m v o + m.credit w ≤ m.credit v + 1
    go None h = law.pop_looks v w i h
    go (Some j) h =
        let q : ◌≡◌ {A = Item × V} (j, m.remove v j.id) (i, w) = cc in
        let less : m.credit w ≤ m.credit v = subst (λ (x : V). m.credit x ≤ m.credit v) (ap (λ (p : Item × V). p.1) q)
        (law.remove_credit v j.id) in
        omega (arith, less)

  no_looks : (v : V) → (due_first is_due m).pop v ≡ None → (due_first is_due m).looks v ≡ 0
  no_looks v h = go (first_due is_due m v) h where
    go : (o : Option Item) → due_or_pop is_due m v o ≡ None → due_or_looks is_due m v o ≡ 0
    go None h = law.none_looks v h
    go (Some j) h = absurd cc

  -- removes are those of the policy
  removed-is : (is : List Item) (v : V) → removed m is v ≡ removed (due_first is_due m) is v
  removed-is [] v = refl
  removed-is (i ∷ is) v = removed-is is (m.remove v i.id)

  pub due_first-lawful : IsPolicy (due_first is_due m)
  due_first-lawful = record {
    opening_order = law.opening_order;
    fault_kind = law.fault_kind;
    opening_credit = law.opening_credit;
    pinned_within = law.pinned_within;
    push_order = law.push_order;
    push_pinned = law.push_pinned;
    push_credit = law.push_credit;
    pop_order = by_due (λ v i w. IsPermutation (m.order v) (i ∷ m.order w))
        (λ v i found free. subst (λ (l : List Item). IsPermutation (m.order v) (i ∷ l))
        (sym (law.remove_order v i.id)) (IsPermutation-remove_id i.id i (m.order v) found)) law.pop_order;
    pop_pinned = by_due (λ v i w. m.pinned w ≡ m.pinned v) (λ v i found free. law.remove_unpinned v i.id free)
        law.pop_pinned;
    pop_none = λ v h. law.pop_none v (no_pop v h);
    pop_looks = looks_paid;
    pop_credit = by_due (λ v i w. m.credit w ≤ m.credit v) (λ v i found free. law.remove_credit v i.id) law.pop_credit;
    none_looks = no_looks;
    remove_order = law.remove_order;
    remove_pinned = law.remove_pinned;
    remove_unpinned = law.remove_unpinned;
    remove_credit = law.remove_credit;
    acquire_order = law.acquire_order;
    acquire_pinned = law.acquire_pinned;
    acquire_credit = law.acquire_credit;
    release_order = law.release_order;
    release_pinned = law.release_pinned;
    release_credit = law.release_credit;
    update_order = law.update_order;
    update_pinned = law.update_pinned;
    update_credit = law.update_credit;
    clear_is = λ v. removed-is (m.order (popped_out_due is_due m v)) (popped_out_due is_due m v);
  }
