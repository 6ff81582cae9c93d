-- What leaves at a moment, in closed form: the due items, and then what the policy pops without them.
use Rattle.std.proofs.Common.{◌≡◌, ℕ, zero, suc, ◌≤◌, Bool, true, false, cond, List, [], ◌∷◌, ◌++◌, Option, Some, None, length, refl, sym, ◌∙◌, ap, subst, arith}
use Rattle.std.specs.Prelude.{◌==◌, sum_by}
use Rattle.std.specs.List.{filter, count_by}
use Rattle.std.proofs.lemmas.Bool.Decides.{nat_tests}
use Rattle.std.proofs.lemmas.List.Sums.{length-filter}
use Rattle.foyer_policy.specs.Items.{count_of, IsNewIn, HasIdsOnce, find_id, remove_id}
use Rattle.foyer_policy.specs.Policy.{Policy, IsPolicy, and_then, first_pops, pops, removed}
use Rattle.foyer_policy.specs.ItemLaws.{once-head, once-tail, count-same, count-cons}
use Rattle.foyer_policy.specs.Moments.{is_due_unpinned, due_items, first_due, due_first, victims_due}
use Rattle.foyer_policy.specs.declared.types.Item.{Item}
use Rattle.foyer_policy.proofs.PopsLemmas.{pops-some, pop_sum, remove_once}
use Rattle.foyer_policy.proofs.MomentsLaws.{due-unpinned, due_first-lawful}

-- the first item that passes a test, in a list in which ids stand once
module _ (p : Item → Bool) where
  -- its id stands in the list
  kept-counted : (is js : List Item) (i : Item) → filter p is ≡ i ∷ js → 1 ≤ count_of i.id is
  kept-counted [] js i h = absurd cc
  kept-counted (x ∷ xs) js i h = go (p x) h (kept-counted xs js i) where
    go : (b : Bool) → cond b (x ∷ filter p xs) (filter p xs) ≡ i ∷ js →
        (filter p xs ≡ i ∷ js → 1 ≤ count_of i.id xs) → 1 ≤ count_of i.id (x ∷ xs)
    go true h rec =
        let same : x ≡ i = cc in
        subst (λ (j : Item). 1 ≤ count_of j.id (x ∷ xs)) same (omega (arith, count-same x xs))
    go false h rec = omega (arith, rec h, count-cons i.id x xs)

  -- no earlier item has its id
  apart : (x i : Item) (xs js : List Item) → HasIdsOnce (x ∷ xs) → filter p xs ≡ i ∷ js → (x.id == i.id) ≡ false
  apart x i xs js once h = go (x.id == i.id) refl where
    go : (b : Bool) → (x.id == i.id) ≡ b → b ≡ false
    go true e =
        let same : x.id ≡ i.id = grind (arith, nat_tests) in
        let none : IsNewIn i.id xs = subst (λ (n : ℕ). IsNewIn n xs) same (once-head x xs once) in
        absurd (omega (arith, none, kept-counted xs js i h))
    go false e = refl

  same_id : (x i : Item) → x ≡ i → (x.id == i.id) ≡ true
  same_id x i same = (let e : x.id ≡ i.id = ap (λ (j : Item). j.id) same in grind (arith, nat_tests))

  -- it is found under its id
  pub kept-found : (is js : List Item) (i : Item) → HasIdsOnce is → filter p is ≡ i ∷ js → find_id i.id is ≡ Some i
  kept-found [] js i once h = absurd cc
  kept-found (x ∷ xs) js i once h = go (p x) h (kept-found xs js i (once-tail x xs once)) where
    go : (b : Bool) → cond b (x ∷ filter p xs) (filter p xs) ≡ i ∷ js →
        (filter p xs ≡ i ∷ js → find_id i.id xs ≡ Some i) → find_id i.id (x ∷ xs) ≡ Some i
    go true h rec = (let same : x ≡ i = cc in rw (same_id x i same) (ap (λ (j : Item). Some j) same))
    go false h rec = rw (apart x i xs js once h) (rec h)

  -- without it, the others pass, in their order
  kept-rest : (is js : List Item) (i : Item) → HasIdsOnce is → filter p is ≡ i ∷ js → filter p (remove_id i.id is) ≡ js
  kept-rest [] js i once h = absurd cc
  kept-rest (x ∷ xs) js i once h = go (p x) refl h (kept-rest xs js i (once-tail x xs once)) where
    go : (b : Bool) → p x ≡ b → cond b (x ∷ filter p xs) (filter p xs) ≡ i ∷ js →
        (filter p xs ≡ i ∷ js → filter p (remove_id i.id xs) ≡ js) → filter p (remove_id i.id (x ∷ xs)) ≡ js
    go true e h rec =
        (let same : x ≡ i = cc in let rest : filter p xs ≡ js = cc in rw (same_id x i same) rest)
    go false e h rec = rw (apart x i xs js once h) (rw e (rec h))

  -- where none passes, none does of fewer items
  none-kept : (is js : List Item) → sum_by (λ i. cond (p i) 1 0) js ≤ sum_by (λ i. cond (p i) 1 0) is → filter p is ≡ []
      → filter p js ≡ []
  none-kept is js less h = go (filter p js) refl where
    go : (l : List Item) → filter p js ≡ l → l ≡ []
    go [] e = refl
    go (x ∷ xs) e =
        let nothing : count_by p is ≡ 0 = sym (length-filter p is) ∙ ap length h in
        let something : count_by p js ≡ suc (length xs) = sym (length-filter p js) ∙ ap length e in
        absurd (omega (arith, less, nothing, something))

module _ {V C : Type 0} (is_due : Item → Bool) (m : Policy V C) (law : IsPolicy m) where
  -- where nothing is due, nothing is after a pop
  none_due-pop : (v w : V) (i : Item) → m.pop v ≡ Some (i, w) → due_items is_due m v ≡ [] → due_items is_due m w ≡ []
  none_due-pop v w i h none =
      let p = is_due_unpinned is_due (m.pinned v) in
      rw (law.pop_pinned v w i h)
      (none-kept p (m.order v) (m.order w) (omega (arith, pop_sum m law v w i h (λ j. cond (p j) 1 0))) none)

  -- and the pops are the policy's
  none_due-pops : (n : ℕ) (v : V) → due_items is_due m v ≡ [] → first_pops (due_first is_due m) n v ≡ first_pops m n v
  none_due-pops zero v none = refl
  none_due-pops (suc n) v none = rw none (go (m.pop v) refl (none_due-pops n)) where
    go : (o : Option (Item × V)) → m.pop v ≡ o →
        ((w : V) → due_items is_due m w ≡ [] → first_pops (due_first is_due m) n w ≡ first_pops m n w) →
        and_then (due_first is_due m) o (λ w. first_pops (due_first is_due m) n w) ≡ and_then m o (λ w. first_pops m n w)
    go None e rec = refl
    go (Some q) e rec = ap (λ r. q.0 ∷ r) (rec q.1 (none_due-pop v q.1 q.0 e none))

  closed : (l : List Item) (v : V) → HasIdsOnce (m.order v) → due_items is_due m v ≡ l →
      pops (due_first is_due m) v ≡ l ++ pops m (removed m l v)
  closed [] v once none = none_due-pops (length (m.order v)) v none
  closed (i ∷ js) v once due =
      let p = is_due_unpinned is_due (m.pinned v) in
      let w = m.remove v i.id in
      let found : first_due is_due m v ≡ Some i = rw due (kept-found p (m.order v) js i once due) in
      let popped : (due_first is_due m).pop v ≡ Some (i, w) = rw found refl in
      let pins : m.pinned w ≡ m.pinned v =
      law.remove_unpinned v i.id (due-unpinned is_due (m.pinned v) (m.order v) js i due) in
      let rest : due_items is_due m w ≡ js =
      rw (pins, law.remove_order v i.id) (kept-rest p (m.order v) js i once due) in
      pops-some (due_first is_due m) (due_first-lawful is_due m law) v w i popped
      ∙ ap (λ r. i ∷ r) (closed js w (remove_once m law v i.id once) rest)

  pub victims-are-closed : (v : V) → HasIdsOnce (m.order v) → pops (due_first is_due m) v ≡ victims_due is_due m v
  victims-are-closed v once = closed (due_items is_due m v) v once refl
