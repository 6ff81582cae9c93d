-- Repeated pops, and where evictions end.
use Rattle.std.proofs.Common.{◌≡◌, ℕ, zero, suc, ◌+◌, ◌-◌, ◌<◌, ◌≤◌, ◌⊎◌, inl, inr, List, [], ◌∷◌, ◌++◌, Option, Some, None, Bool, true, false, cond, length, refl, sym, ◌∙◌, ap, arith, add-one}
use Rattle.std.specs.Prelude.{nat_le}
use Rattle.std.proofs.lemmas.Bool.Decides.{nat_tests}
use Rattle.std.proofs.lemmas.List.Sorted.{sum_by_popped, length_permutation}
use Rattle.foyer_policy.specs.Items.{weight_of}
use Rattle.foyer_policy.specs.Policy.{Policy, IsPolicy, and_then, first_pops, pops, view_or, after_pops, until, evicted}
use Rattle.foyer_policy.specs.declared.types.Item.{Item}

module _ {V C : Type 0} (m : Policy V C) (good : IsPolicy m) (v w : V) (i : Item) (h : m.pop v ≡ Some (i, w)) where
  pub pop_weight : weight_of (m.order w) + i.weight ≡ weight_of (m.order v)
  pop_weight = sum_by_popped (λ (j : Item). j.weight) i (m.order v) (m.order w) (good.pop_order v w i h)

  pub pop_shorter : length (m.order w) + 1 ≡ length (m.order v)
  pop_shorter = omega (arith, length_permutation (m.order v) (i ∷ m.order w) (good.pop_order v w i h))

  pub pops_some : pops m v ≡ i ∷ pops m w
  pops_some = rw (sym pop_shorter, add-one) (rw h refl)

module _ {V C : Type 0} (m : Policy V C) where
  pub first_pops_none : (n : ℕ) (v : V) → m.pop v ≡ None → first_pops m n v ≡ []
  first_pops_none zero v h = refl
  first_pops_none (suc n) v h = rw h

  -- one pop more
  pub after_pops_more : (n : ℕ) (v w x : V) (i : Item) → w ≡ after_pops m n v → m.pop w ≡ Some (i, x) → x
      ≡ after_pops m (suc n) v
  after_pops_more zero v w x i e h = (let f : m.pop v ≡ Some (i, x) = rw e at h in rw f refl)
  after_pops_more (suc n) v w x i e h = go (m.pop v) refl e (λ u f. after_pops_more n u w x i f h) where
    go : (o : Option (Item × V)) → m.pop v ≡ o → w ≡ view_or m o v (λ u. after_pops m n u) →
        ((u : V) → w ≡ after_pops m n u → x ≡ after_pops m (suc n) u) → x ≡ view_or m o v (λ u. after_pops m (suc n) u)
    go None is e rec =
        absurd (let f : m.pop v ≡ Some (i, x) = rw e at h in let g : ◌≡◌ {A = Option (Item × V)} None (Some (i, x)) =
        sym is ∙ f in cc)
    go (Some p) is e rec = rec p.1 e

-- what stands first in the pops is the first pop, and the rest are the pops after it
pub pops_first : {V C : Type 0} (m : Policy V C) → IsPolicy m → (v : V) (i : Item) (is : List Item) → i ∷ is
    ≡ pops m v → (w : V) × (m.pop v ≡ Some (i, w)) × (is ≡ pops m w)
pops_first {V} m good v i is h = go (m.pop v) refl where
  go : (o : Option (Item × V)) → m.pop v ≡ o → (w : V) × (m.pop v ≡ Some (i, w)) × (is ≡ pops m w)
  go None e = absurd (let f : ◌≡◌ {A = List Item} (i ∷ is) [] = h ∙ first_pops_none m (length (m.order v)) v e in cc)
  go (Some (j, w)) e =
      let f : ◌≡◌ {A = List Item} (i ∷ is) (j ∷ pops m w) = h ∙ pops_some m good v w j e in
      let first : j ≡ i = cc in
      let more : is ≡ pops m w = cc in
      (w, e ∙ ap (λ (x : Item). Some (x, w)) first, more)

pub until_low : (t u : ℕ) (is : List Item) → u ≤ t → until t u is ≡ []
until_low t u [] h = refl
until_low t u (i ∷ is) h = grind (arith, nat_tests)

pub until_more : (t u : ℕ) (i : Item) (is : List Item) → t < u → until t u (i ∷ is) ≡ i ∷ until t (u - i.weight) is
until_more t u i is h = grind (arith, nat_tests)

-- what an eviction takes is a beginning of the list
pub until_begins : (t u : ℕ) (is : List Item) → (rest : List Item) × (until t u is ++ rest ≡ is)
until_begins t u [] = ([], refl)
until_begins t u (i ∷ is) = go (nat_le u t) (until_begins t (u - i.weight) is) where
  go : (b : Bool) → (rest : List Item) × (until t (u - i.weight) is ++ rest ≡ is) → (rest : List Item)
      × (cond b [] (i ∷ until t (u - i.weight) is) ++ rest ≡ i ∷ is)
  go true rec = (i ∷ is, refl)
  go false rec = (rec.0, ap (λ (l : List Item). i ∷ l) rec.1)

module _ {V C : Type 0} (m : Policy V C) (good : IsPolicy m) where
  -- what each pop keeps, all of them do
  pub after_pops_keep : (P : V → Type 0) → ((v w : V) (i : Item) → m.pop v ≡ Some (i, w) → P v → P w) →
      (n : ℕ) (v : V) → P v → P (after_pops m n v)
  after_pops_keep P step zero v h = h
  after_pops_keep P step (suc n) v h = go (m.pop v) refl (after_pops_keep P step n) where
    go : (o : Option (Item × V)) → m.pop v ≡ o → ((w : V) → P w → P (after_pops m n w)) →
        P (view_or m o v (λ w. after_pops m n w))
    go None e rec = h
    go (Some p) e rec = rec p.1 (step v p.1 p.0 e h)

  -- pops change no pin
  pub after_pops_pinned : (n : ℕ) (v : V) → m.pinned (after_pops m n v) ≡ m.pinned v
  after_pops_pinned n v = after_pops_keep (λ (u : V). m.pinned u ≡ m.pinned v)
      (λ u w i h e. good.pop_pinned u w i h ∙ e) n v refl

weight_none : (l : List Item) → length l ≤ 0 → weight_of l ≡ 0
weight_none [] h = refl
weight_none (i ∷ is) h = absurd (omega arith)

-- an eviction ends where the weight is at most the target, or no pop gives anything
abbrev pub Ends : {V C : Type 0} → Policy V C → ℕ → V → Type 0
Ends m t v = (weight_of (m.order v) ≤ t) ⊎ (m.pop v ≡ None)

module _ {V C : Type 0} (m : Policy V C) (good : IsPolicy m) (t : ℕ) where
  ends_from : (n : ℕ) (v : V) → length (m.order v) ≤ n →
      Ends m t (after_pops m (length (until t (weight_of (m.order v)) (first_pops m n v))) v)
  ends_from zero v h = inl (omega (arith, weight_none (m.order v) h))
  ends_from (suc n) v h = go (m.pop v) refl (ends_from n) where
    go : (o : Option (Item × V)) → m.pop v ≡ o →
        ((w : V) → length (m.order w) ≤ n → Ends m t
        (after_pops m (length (until t (weight_of (m.order w)) (first_pops m n w))) w))
        → Ends m t (after_pops m (length (until t (weight_of (m.order v)) (and_then m o (λ w. first_pops m n w)))) v)
    go None e rec = inr e
    go (Some (i, w)) e rec = low (nat_le (weight_of (m.order v)) t) refl where
      low : (b : Bool) → nat_le (weight_of (m.order v)) t ≡ b →
          Ends m t (after_pops m
          (length (cond b [] (i ∷ until t (weight_of (m.order v) - i.weight) (first_pops m n w)))) v)
      low true f = inl (grind (arith, nat_tests))
      low false f =
          let less : weight_of (m.order v) - i.weight ≡ weight_of (m.order w) =
          omega (arith, pop_weight m good v w i e) in
          rw (e, less) (rec w (omega (arith, pop_shorter m good v w i e)))

  pub evicted_ends : (v : V) → Ends m t (after_pops m (length (evicted m t v)) v)
  evicted_ends v = ends_from (length (m.order v)) v (omega arith)
