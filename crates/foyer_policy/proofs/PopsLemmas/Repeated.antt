-- Pops that are repeated: what they give and what they leave, for every lawful policy.
use Rattle.std.proofs.Common.{◌≡◌, ℕ, zero, suc, ◌+◌, ◌<◌, ◌≤◌, ◌∷◌, ◌++◌, Option, Some, None, length, take, refl, ◌∙◌, ap, arith}
use Rattle.std.specs.Prelude.{sum_by}
use Rattle.std.specs.List.Sorted.{IsPermutation}
use Rattle.std.proofs.lemmas.List.Sums.{sum_by-cons}
use Rattle.std.proofs.lemmas.List.Sorted.{IsPermutation-refl, IsPermutation-cons, IsPermutation-trans}
use Rattle.foyer_policy.specs.Items.{weight_of, count_of, IsNewIn, HasIdsOnce}
use Rattle.foyer_policy.specs.Policy.{Policy, IsPolicy, and_then, first_pops, pops, view_or, after_pops, after_all_pops}
use Rattle.foyer_policy.specs.declared.types.Item.{Item}
use Rattle.foyer_policy.specs.ItemLaws.{one_if}
use Rattle.foyer_policy.proofs.PopsLemmas.{after_pops-keeps, pops-none, pops-some, pop_sum, pop_shorter, none_sum}

module _ {V C : Type 0} (m : Policy V C) (law : IsPolicy m) where
  -- some pops give the beginning of all of them
  pub first_pops-take : (n : ℕ) (v : V) → first_pops m n v ≡ take n (pops m v)
  first_pops-take zero v = refl
  first_pops-take (suc n) v = go (m.pop v) refl (λ w. first_pops-take n w) where
    go : (o : Option (Item × V)) → m.pop v ≡ o → ((w : V) → first_pops m n w ≡ take n (pops m w)) →
        and_then m o (λ w. first_pops m n w) ≡ take (suc n) (pops m v)
    go None is rec = rw (pops-none m v is) refl
    go (Some p) is rec = rw (pops-some m law v p.1 p.0 is) (ap (λ r. p.0 ∷ r) (rec p.1))

  -- what they give and what they leave is what was there
  pub first_pops-order : (n : ℕ) (v : V) → IsPermutation (m.order v) (first_pops m n v ++ m.order (after_pops m n v))
  first_pops-order zero v = IsPermutation-refl (m.order v)
  first_pops-order (suc n) v = go (m.pop v) refl (λ w. first_pops-order n w) where
    go : (o : Option (Item × V)) → m.pop v ≡ o →
        ((w : V) → IsPermutation (m.order w) (first_pops m n w ++ m.order (after_pops m n w)))
        → IsPermutation (m.order v)
        (and_then m o (λ w. first_pops m n w) ++ m.order (view_or m o v (λ w. after_pops m n w)))
    go None is rec = IsPermutation-refl (m.order v)
    go (Some p) is rec =
        IsPermutation-trans (m.order v) (p.0 ∷ m.order p.1)
        (p.0 ∷ (first_pops m n p.1 ++ m.order (after_pops m n p.1))) (law.pop_order v p.1 p.0 is)
        (IsPermutation-cons p.0 (m.order p.1) (first_pops m n p.1 ++ m.order (after_pops m n p.1)) (rec p.1))

  pub first_pops-sum : (measure : Item → ℕ) (n : ℕ) (v : V) →
      sum_by measure (first_pops m n v) + sum_by measure (m.order (after_pops m n v)) ≡ sum_by measure (m.order v)
  first_pops-sum f zero v = omega arith
  first_pops-sum f (suc n) v = go (m.pop v) refl (λ w. first_pops-sum f n w) where
    go : (o : Option (Item × V)) → m.pop v ≡ o →
        ((w : V) → sum_by f (first_pops m n w) + sum_by f (m.order (after_pops m n w)) ≡ sum_by f (m.order w))
        → sum_by f (and_then m o (λ w. first_pops m n w)) + sum_by f (m.order (view_or m o v (λ w. after_pops m n w)))
        ≡ sum_by f (m.order v)
    go None is rec = omega arith
    go (Some p) is rec = omega (arith, sum_by-cons f p.0 (first_pops m n p.1), rec p.1, pop_sum m law v p.1 p.0 is f)

  pub after_pops-weight : (n : ℕ) (v : V) → weight_of (m.order (after_pops m n v)) ≤ weight_of (m.order v)
  after_pops-weight n v = omega (arith, first_pops-sum (λ (i : Item). i.weight) n v)

  pub after_pops-count : (id n : ℕ) (v : V) → count_of id (m.order (after_pops m n v)) ≤ count_of id (m.order v)
  after_pops-count id n v = omega (arith, first_pops-sum (one_if id) n v)

  pub after_pops-new : (id n : ℕ) (v : V) → IsNewIn id (m.order v) → IsNewIn id (m.order (after_pops m n v))
  after_pops-new id n v h = omega (arith, after_pops-count id n v)

  pub after_pops-once : (n : ℕ) (v : V) → HasIdsOnce (m.order v) → HasIdsOnce (m.order (after_pops m n v))
  after_pops-once n v once id = omega (arith, after_pops-count id n v, once id)

  pub first_pops-once : (n : ℕ) (v : V) → HasIdsOnce (m.order v) → HasIdsOnce (first_pops m n v)
  first_pops-once n v once id = omega (arith, first_pops-sum (one_if id) n v, once id)

  -- what a pop gave is not in any more
  pub first_pops-left : (id n : ℕ) (v : V) → HasIdsOnce (m.order v) → 0 < count_of id (first_pops m n v) →
      IsNewIn id (m.order (after_pops m n v))
  first_pops-left id n v once h = omega (arith, first_pops-sum (one_if id) n v, once id)

  -- no pop changes a pin
  pub after_pops-pinned : (n : ℕ) (v : V) → m.pinned (after_pops m n v) ≡ m.pinned v
  after_pops-pinned n v = after_pops-keeps m (λ (u : V). m.pinned u ≡ m.pinned v)
      (λ u w i is same. law.pop_pinned u w i is ∙ same) n v refl

  -- no pop gives what is pinned
  pub first_pops-free : (id n : ℕ) (v : V) → HasIdsOnce (m.order v) → 0 < count_of id (m.pinned v) →
      IsNewIn id (first_pops m n v)
  first_pops-free id n v once h =
      let inside : count_of id (m.pinned v) ≤ count_of id (m.order (after_pops m n v)) =
      rw (← after_pops-pinned n v) (law.pinned_within (after_pops m n v) (one_if id)) in
      omega (arith, first_pops-sum (one_if id) n v, once id)

  -- with enough pops, nothing more leaves
  pub enough_pops : (n : ℕ) (v : V) → length (m.order v) ≤ n → m.pop (after_pops m n v) ≡ None
  enough_pops zero v h = go (m.pop v) refl where
    go : (o : Option (Item × V)) → m.pop v ≡ o → o ≡ None
    go None is = refl
    go (Some p) is = absurd (omega (arith, pop_shorter m law v p.1 p.0 is))
  enough_pops (suc n) v h = go (m.pop v) refl (λ w. enough_pops n w) where
    go : (o : Option (Item × V)) → m.pop v ≡ o → ((w : V) → length (m.order w) ≤ n → m.pop (after_pops m n w) ≡ None)
        → m.pop (view_or m o v (λ w. after_pops m n w)) ≡ None
    go None is rec = is
    go (Some p) is rec = rec p.1 (omega (arith, pop_shorter m law v p.1 p.0 is))

  pub after_all_pops-none : (v : V) → m.pop (after_all_pops m v) ≡ None
  after_all_pops-none v = enough_pops (length (m.order v)) v (omega arith)

  -- and what is left is what is pinned
  pub after_all_pops-sum : (measure : Item → ℕ) (v : V) → sum_by measure (m.order (after_all_pops m v))
      ≡ sum_by measure (m.pinned v)
  after_all_pops-sum f v = none_sum m law (after_all_pops m v) (after_all_pops-none v) f
      ∙ ap (sum_by f) (after_pops-pinned (length (m.order v)) v)

  -- all pops give what is not pinned
  pub pops-sum : (measure : Item → ℕ) (v : V) → sum_by measure (pops m v) + sum_by measure (m.pinned v)
      ≡ sum_by measure (m.order v)
  pops-sum f v = omega (arith, first_pops-sum f (length (m.order v)) v, after_all_pops-sum f v)

  pub pops-weight : (v : V) → weight_of (pops m v) + weight_of (m.pinned v) ≡ weight_of (m.order v)
  pops-weight v = pops-sum (λ (i : Item). i.weight) v

  pub pops-once : (v : V) → HasIdsOnce (m.order v) → HasIdsOnce (pops m v)
  pops-once v once = first_pops-once (length (m.order v)) v once
