-- What a clear leaves, for every lawful policy, and first in first out in its own words.
use Rattle.std.proofs.Common.{◌≡◌, true, ◌==◌, ℕ, zero, suc, ◌≤◌, List, [], ◌∷◌, length, drop, refl, sym, ◌∙◌, ap, subst, arith}
use Rattle.std.proofs.lemmas.List.Sums.{sum_by-cons}
use Rattle.foyer_policy.specs.Items.{remove_id, weight_of, IsWithin}
use Rattle.foyer_policy.specs.Policy.{Policy, IsPolicy, removed, pops, after_pops, after_all_pops, until, evicted}
use Rattle.foyer_policy.specs.Fifo.{fifo}
use Rattle.foyer_policy.specs.declared.types.Item.{Item}
use Rattle.std.proofs.lemmas.Bool.Decides.{nat_tests}
use Rattle.foyer_policy.proofs.PopsLemmas.{pop_times-is, after_pops-keeps, after_pops-none}
use Rattle.foyer_policy.proofs.PopsLemmas.Repeated.{after_all_pops-none, after_pops-pinned}

-- what is within nothing is nothing
pub within_nothing : (xs : List Item) → IsWithin xs [] → xs ≡ []
within_nothing [] h = refl
within_nothing (x ∷ xs) h = absurd (omega (arith, h (λ i. 1), sum_by-cons (λ (i : Item). 1) x xs))

-- a clear, by the pops of an eviction of all
module _ {V C : Type 0} (m : Policy V C) (law : IsPolicy m) where
  clear_is : (v : V) → m.clear v ≡ removed m (m.order (after_all_pops m v)) (after_all_pops m v)
  clear_is v = law.clear_is v ∙ ap (λ (u : V). removed m (m.order u) u) (pop_times-is m (length (m.order v)) v)

module _ {V C : Type 0} (m : Policy V C) (law : IsPolicy m) (v : V) where
  removed-order : (is : List Item) (u : V) → m.order u ≡ is → m.order (removed m is u) ≡ []
  removed-order [] u h = h
  removed-order (i ∷ is) u h =
      let e : (i.id == i.id) ≡ true = grind (arith, nat_tests) in
      let n : remove_id i.id (i ∷ is) ≡ is = rw e refl in
      removed-order is (m.remove u i.id) (law.remove_order u i.id ∙ ap (remove_id i.id) h ∙ n)

  removed-credit : (is : List Item) (u : V) → m.credit (removed m is u) ≤ m.credit u
  removed-credit [] u = omega arith
  removed-credit (i ∷ is) u = omega (arith, removed-credit is (m.remove u i.id), law.remove_credit u i.id)

  pub clear-order : m.order (m.clear v) ≡ []
  clear-order = rw (clear_is m law v) (removed-order (m.order (after_all_pops m v)) (after_all_pops m v) refl)

  pub clear-credit : m.credit (m.clear v) ≤ m.credit v
  clear-credit =
      let popped : m.credit (after_all_pops m v) ≤ m.credit v =
      after_pops-keeps m (λ (u : V). m.credit u ≤ m.credit v)
      (λ u w i is h. omega (arith, law.pop_credit u w i is)) (length (m.order v)) v (omega arith) in
      rw (clear_is m law v) (omega (arith, removed-credit (m.order (after_all_pops m v)) (after_all_pops m v)))

  pub clear-empty : m.order v ≡ [] → m.clear v ≡ v
  clear-empty h =
      let w : after_all_pops m v ≡ v = ap (λ (l : List Item). after_pops m (length l) v) h in
      clear_is m law v ∙ rw w (ap (λ (l : List Item). removed m l v) h)

  pub clear-pops : m.clear v ≡ m.clear (after_all_pops m v)
  clear-pops =
      let w = after_all_pops m v in
      let stays : after_all_pops m w ≡ w = after_pops-none m (length (m.order w)) w (after_all_pops-none m law v) in
      clear_is m law v ∙ sym (clear_is m law w ∙ ap (λ (u : V). removed m (m.order u) u) stays)

  -- a clear leaves no pin
  pub clear-pinned : m.pinned (m.clear v) ≡ []
  clear-pinned = within_nothing (m.pinned (m.clear v))
      (subst (λ (l : List Item). IsWithin (m.pinned (m.clear v)) l) clear-order (law.pinned_within (m.clear v)))

  -- where nothing is pinned, all pops leave nothing
  pub after_all_pops-order : m.pinned v ≡ [] → m.order (after_all_pops m v) ≡ []
  after_all_pops-order none =
      let left : m.pinned (after_all_pops m v) ≡ [] = after_pops-pinned m law (length (m.order v)) v ∙ none in
      within_nothing (m.order (after_all_pops m v))
      (subst (λ (l : List Item). IsWithin (m.order (after_all_pops m v)) l) left
      (law.pop_none (after_all_pops m v) (after_all_pops-none m law v)))

  -- and a clear is all pops
  pub clear-is : m.pinned v ≡ [] → m.clear v ≡ after_all_pops m v
  clear-is none = clear_is m law v ∙ ap (λ (l : List Item). removed m l (after_all_pops m v))
      (after_all_pops-order none)

module _ (C : Type 0) where
  -- a queue is its own pops
  pub pops-fifo : (v : List Item) → pops (fifo C) v ≡ v
  pops-fifo [] = refl
  pops-fifo (i ∷ is) = ap (λ r. i ∷ r) (pops-fifo is)

  pub after_pops-fifo : (n : ℕ) (v : List Item) → after_pops (fifo C) n v ≡ drop n v
  after_pops-fifo zero v = refl
  after_pops-fifo (suc n) [] = refl
  after_pops-fifo (suc n) (i ∷ is) = after_pops-fifo n is

  pub after_all_pops-fifo : (v : List Item) → after_all_pops (fifo C) v ≡ []
  after_all_pops-fifo [] = refl
  after_all_pops-fifo (i ∷ is) = after_all_pops-fifo is

  pub evicted-fifo : (target : ℕ) (v : List Item) → evicted (fifo C) target v ≡ until target (weight_of v) v
  evicted-fifo target v = ap (until target (weight_of v)) (pops-fifo v)
