-- What an eviction to a target takes, and what it leaves.
use Rattle.std.proofs.Common.{◌≡◌, ℕ, zero, suc, ◌+◌, ◌-◌, ◌<◌, ◌≤◌, Bool, true, false, cond, List, [], ◌∷◌, ◌++◌, Option, Some, None, length, take, length-take, refl, sym, ◌∙◌, ap, subst, arith, append_assoc, inl, inr}
use Rattle.std.specs.Prelude.{◌⊎◌, nat_le}
use Rattle.std.proofs.lemmas.Bool.{cases_lt}
use Rattle.std.proofs.lemmas.Bool.Decides.{nat_tests}
use Rattle.std.proofs.lemmas.List.Sums.{sum_by-cons}
use Rattle.foyer_policy.specs.Items.{weight_of, IsWithin}
use Rattle.foyer_policy.specs.Policy.{Policy, IsPolicy, and_then, first_pops, pops, after_pops, until, evicted}
use Rattle.foyer_policy.specs.declared.types.Item.{Item}
use Rattle.foyer_policy.proofs.PopsLemmas.{pops-some, pop_shorter, none_weight}
use Rattle.foyer_policy.proofs.PopsLemmas.Repeated.{first_pops-take, first_pops-sum, after_pops-pinned}

-- the beginning of a list of items that is taken out of a usage to bring it to the target: the shortest
-- that does, or all of them
pub record IsShortestBeginning (target usage : ℕ) (taken all : List Item) : Type 0 where
  pub begins : taken ≡ take (length taken) all
  pub reaches : (usage ≤ target + weight_of taken) ⊎ (taken ≡ all)
  pub shortest : (n : ℕ) → n < length taken → target + weight_of (take n all) < usage

-- one step
pub until-le : (target usage : ℕ) (all : List Item) → usage ≤ target → until target usage all ≡ []
until-le t u [] h = refl
until-le t u (i ∷ is) h = grind (arith, nat_tests)

pub until-more : (target usage : ℕ) (i : Item) (all : List Item) → target < usage → until target usage (i ∷ all)
    ≡ i ∷ until target (usage - i.weight) all
until-more t u i is h = grind (arith, nat_tests)

pub IsShortestBeginning-until : (target usage : ℕ) (all : List Item) →
    IsShortestBeginning target usage (until target usage all) all
IsShortestBeginning-until t u [] = record { begins = refl; reaches = inr refl; shortest = λ n h. absurd (omega arith) }
IsShortestBeginning-until t u (i ∷ is) = go (nat_le u t) refl (IsShortestBeginning-until t (u - i.weight) is) where
  go : (b : Bool) → nat_le u t ≡ b → IsShortestBeginning t (u - i.weight) (until t (u - i.weight) is) is →
      IsShortestBeginning t u (cond b [] (i ∷ until t (u - i.weight) is)) (i ∷ is)
  go true e rec =
      record { begins = refl; reaches = inl (grind (arith, nat_tests)); shortest = λ n h. absurd (omega arith) }
  go false e rec =
      let more : t < u = grind (arith, nat_tests) in
      record {
        begins = ap (λ r. i ∷ r) rec.begins;
        reaches = elim rec.reaches [
          | inl h ↦ inl (omega (arith, sum_by-cons (λ (j : Item). j.weight) i (until t (u - i.weight) is)))
          | inr h ↦ inr (ap (λ r. i ∷ r) h)
        ];
        shortest = later more;
      } where
        later : t < u → (n : ℕ) → n < length (i ∷ until t (u - i.weight) is) → t + weight_of (take n (i ∷ is)) < u
        later more zero h = omega arith
        later more (suc n) h =
            omega (arith, rec.shortest n (omega arith), sum_by-cons (λ (j : Item). j.weight) i (take n is))

no_longer : (target usage : ℕ) (xs ys all : List Item) → IsShortestBeginning target usage xs all →
    IsShortestBeginning target usage ys all → length ys ≤ length xs
no_longer t u xs ys all a b = elim (cases_lt (length xs) (length ys)) [
  | inl h ↦ elim a.reaches [
    | inl done ↦
        (let w : weight_of xs ≡ weight_of (take (length xs) all) = ap weight_of a.begins in
        absurd (omega (arith, w, done, b.shortest (length xs) h)))
    | inr whole ↦ absurd (omega (arith, ap length whole, ap length b.begins, length-take (length ys) all))
  ]
  | inr h ↦ h
]

-- there is one shortest beginning
pub one_shortest_beginning : (target usage : ℕ) (xs ys all : List Item) → IsShortestBeginning target usage xs all →
    IsShortestBeginning target usage ys all → xs ≡ ys
one_shortest_beginning t u xs ys all a b =
    let same : length xs ≡ length ys = omega (arith, no_longer t u xs ys all a b, no_longer t u ys xs all b a) in
    a.begins ∙ ap (λ n. take n all) same ∙ sym b.begins

-- and so what is a shortest beginning is `until`
pub until-is : (target usage : ℕ) (taken all : List Item) → IsShortestBeginning target usage taken all → taken
    ≡ until target usage all
until-is t u taken all h = one_shortest_beginning t u taken (until t u all) all h (IsShortestBeginning-until t u all)

module _ {V C : Type 0} (m : Policy V C) (law : IsPolicy m) (target : ℕ) where
  -- an eviction takes the shortest beginning of the pops
  pub IsShortestBeginning-evicted : (v : V) →
      IsShortestBeginning target (weight_of (m.order v)) (evicted m target v) (pops m v)
  IsShortestBeginning-evicted v = IsShortestBeginning-until target (weight_of (m.order v)) (pops m v)

  -- as many pops as were evicted give what was evicted
  pub evicted-pops : (v : V) → evicted m target v ≡ first_pops m (length (evicted m target v)) v
  evicted-pops v = (IsShortestBeginning-evicted v).begins ∙ sym (first_pops-take m law (length (evicted m target v)) v)

  -- the weights of what was evicted and of what is left make the usage
  pub evicted-weight : (v : V) → weight_of (evicted m target v) + weight_of
      (m.order (after_pops m (length (evicted m target v)) v)) ≡ weight_of (m.order v)
  evicted-weight v =
      omega (
        arith,
        ap weight_of (evicted-pops v),
        first_pops-sum m law (λ (i : Item). i.weight) (length (evicted m target v)) v,
      )

  -- before the last of them the usage passed the target
  pub evicted-needed : (n : ℕ) (v : V) → n < length (evicted m target v) →
      target < weight_of (m.order (after_pops m n v))
  evicted-needed n v h =
      omega (
        arith,
        (IsShortestBeginning-evicted v).shortest n h,
        ap weight_of (first_pops-take m law n v),
        first_pops-sum m law (λ (i : Item). i.weight) n v,
      )

  -- with as many pops as there are, nothing more leaves
  all_gone : (n : ℕ) (v : V) → length (m.order v) ≤ n → m.pop (after_pops m (length (first_pops m n v)) v) ≡ None
  all_gone zero v h = go (m.pop v) refl where
    go : (o : Option (Item × V)) → m.pop v ≡ o → o ≡ None
    go None is = refl
    go (Some p) is = absurd (omega (arith, pop_shorter m law v p.1 p.0 is))
  all_gone (suc n) v h = go (m.pop v) refl (λ w. all_gone n w) where
    go : (o : Option (Item × V)) → m.pop v ≡ o →
        ((w : V) → length (m.order w) ≤ n → m.pop (after_pops m (length (first_pops m n w)) w) ≡ None)
        → m.pop (after_pops m (length (and_then m o (λ w. first_pops m n w))) v) ≡ None
    go None is rec = is
    go (Some p) is rec = rw is (rec p.1 (omega (arith, pop_shorter m law v p.1 p.0 is)))

  pub pops-all : (v : V) → m.pop (after_pops m (length (pops m v)) v) ≡ None
  pops-all v = all_gone (length (m.order v)) v (omega arith)

  -- after them the usage is at most the target, or no pop gives an item
  pub evicted-reaches : (v : V) → (weight_of (m.order (after_pops m (length (evicted m target v)) v)) ≤ target)
      ⊎ (m.pop (after_pops m (length (evicted m target v)) v) ≡ None)
  evicted-reaches v = elim (IsShortestBeginning-evicted v).reaches [
    | inl h ↦ inl (omega (arith, evicted-weight v))
    | inr h ↦ inr (subst (λ (l : List Item). m.pop (after_pops m (length l) v) ≡ None) (sym h) (pops-all v))
  ]

  -- or, in weights: at most the target, or what is pinned
  pub evicted-bound : (v : V) → (weight_of (m.order (after_pops m (length (evicted m target v)) v)) ≤ target)
      ⊎ (weight_of (m.order (after_pops m (length (evicted m target v)) v)) ≡ weight_of (m.pinned v))
  evicted-bound v = elim (evicted-reaches v) [
    | inl h ↦ inl h
    | inr h ↦
        inr (none_weight m law (after_pops m (length (evicted m target v)) v) h
        ∙ ap weight_of (after_pops-pinned m law (length (evicted m target v)) v))
  ]

  -- what is left is then all pinned
  pub evicted-left : (v : V) → target < weight_of (m.order (after_pops m (length (evicted m target v)) v)) →
      IsWithin (m.order (after_pops m (length (evicted m target v)) v)) (m.pinned v)
  evicted-left v more = elim (evicted-reaches v) [
    | inl h ↦ absurd (omega arith)
    | inr h ↦ subst (λ (l : List Item). IsWithin (m.order (after_pops m (length (evicted m target v)) v)) l)
        (after_pops-pinned m law (length (evicted m target v)) v)
        (law.pop_none (after_pops m (length (evicted m target v)) v) h)
  ]

  -- an eviction goes on by one pop
  pub evict_more : (usage : ℕ) (v w : V) (i : Item) (told all : List Item) → target < usage → m.pop v ≡ Some (i, w)
      → told ++ until target usage (pops m v) ≡ all → (told ++ i ∷ []) ++ until target (usage - i.weight) (pops m w)
      ≡ all
  evict_more u v w i told all less h e =
      let p : pops m v ≡ i ∷ pops m w = pops-some m law v w i h in
      let q : until target u (pops m v) ≡ i ∷ until target (u - i.weight) (pops m w) =
      rw p (until-more target u i (pops m w) less) in
      append_assoc told (i ∷ []) (until target (u - i.weight) (pops m w)) ∙ ap (λ x. told ++ x) (sym q) ∙ e
