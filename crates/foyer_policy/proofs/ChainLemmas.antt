-- Chains of nodes: what relinking leaves.
use Rattle.std.proofs.Common.{◌≡◌, ◌≢◌, ℕ, zero, suc, ◌≤◌, true, false, cond, subst, List, [], ◌∷◌, ◌++◌, Option, Some, None, length, refl, sym, ◌∙◌, ap, arith}
use Rattle.std.proofs.lemmas.Bool.Decides.{nat_tests}
use Rattle.foyer_policy.specs.Nodes.{Node, walk, IsChain}
use Rattle.foyer_policy.specs.Lists.{first_or, last_or, IsFree, IsDistinct}
use Rattle.foyer_policy.proofs.PlaceLemmas.{IsFree-append_left, IsFree-append_right}
use Rattle.foyer_policy.specs.Chain.{is_at, after_set, before_set, all_but}
use Rattle.foyer_policy.proofs.PlaceLemmas.{same_place, other_place}

pub is_at-same : (p : ℕ) → is_at (Some p) p ≡ true
is_at-same p = grind (arith, nat_tests)

pub is_at-other : (p q : ℕ) → p ≢ q → is_at (Some p) q ≡ false
is_at-other p q h = grind (arith, nat_tests)

module _ {T : Type 0} where
  -- walking a chain gives its entries
  pub walk-chain : (f : ℕ → Option (Node T)) (k n : ℕ) (b : Option ℕ) (l : List (ℕ × T)) → IsChain f k b l None →
      length l ≤ n → walk f n (first_or l None) ≡ l
  walk-chain f k zero b [] c h = refl
  walk-chain f k (suc n) b [] c h = refl
  walk-chain f k zero b (e ∷ es) c h = absurd (omega arith)
  walk-chain f k (suc n) b (e ∷ es) c h = rw c.0 (ap (λ r. e ∷ r) (walk-chain f k n (Some e.0) es c.1 (omega arith)))

  -- the nodes but one
  pub all_but-same : (p : ℕ) (f : ℕ → Option (Node T)) → all_but p f p ≡ None
  all_but-same p f = rw (same_place p) refl

  pub all_but-other : (p q : ℕ) (f : ℕ → Option (Node T)) → q ≢ p → all_but p f q ≡ f q
  all_but-other p q f ne = rw (other_place q p ne) refl

  -- the list of a node
  abbrev pub owner : Option (Node T) → Option ℕ
  owner None = None
  owner (Some n) = Some n.list

  -- a node that is there belongs to the list
  abbrev pub Owned : (ℕ → Option (Node T)) → ℕ → Option ℕ → Type 0
  Owned f k None = Unit {0}
  Owned f k (Some q) = owner (f q) ≡ Some k

  pub Owned-is_at : (f : ℕ → Option (Node T)) (k q : ℕ) (o : Option ℕ) → Owned f k o → is_at o q ≡ true → owner (f q)
      ≡ Some k
  Owned-is_at f k q None h e = cc
  Owned-is_at f k q (Some p) h e = grind (arith, nat_tests)

  pub Owned-last : (f : ℕ → Option (Node T)) (k : ℕ) (b a : Option ℕ) (l : List (ℕ × T)) → IsChain f k b l a →
      Owned f k b → Owned f k (last_or l b)
  Owned-last f k b a [] c h = h
  Owned-last f k b a (e ∷ es) c h = Owned-last f k (Some e.0) a es c.1 (ap owner c.0)

  pub Owned-first : (f : ℕ → Option (Node T)) (k : ℕ) (b a : Option ℕ) (l : List (ℕ × T)) → IsChain f k b l a →
      Owned f k a → Owned f k (first_or l a)
  Owned-first f k b a [] c h = h
  Owned-first f k b a (e ∷ es) c h = ap owner c.0

  -- a change that leaves the nodes of other lists alone
  abbrev pub Keeps : (ℕ → Option (Node T)) → (ℕ → Option (Node T)) → ℕ → Type 0
  Keeps f g k = (j q : ℕ) → j ≢ k → owner (f q) ≡ Some j → g q ≡ f q

  pub chain-frame : (f g : ℕ → Option (Node T)) (k j : ℕ) (b a : Option ℕ) (l : List (ℕ × T)) → Keeps f g k → j ≢ k →
      IsChain f j b l a → IsChain g j b l a
  chain-frame f g k j b a [] keep ne c = tt
  chain-frame f g k j b a (e ∷ es) keep ne c =
      (keep j e.0 ne (ap owner c.0) ∙ c.0, chain-frame f g k j (Some e.0) a es keep ne c.1)

  pub is_at-last : (p : ℕ) (l : List (ℕ × T)) (d : Option ℕ) → IsFree p l → is_at d p ≡ false → is_at (last_or l d) p
      ≡ false
  is_at-last p [] d h e = e
  is_at-last p (x ∷ xs) d h e = is_at-last p xs (Some x.0) h.1 (grind (arith, nat_tests))

  pub is_at-first : (p : ℕ) (l : List (ℕ × T)) (d : Option ℕ) → IsFree p l → is_at d p ≡ false →
      is_at (first_or l d) p ≡ false
  is_at-first p [] d h e = e
  is_at-first p (x ∷ xs) d h e = grind (arith, nat_tests)

  -- the places of l agree in f and g
  pub chain-same : (f g : ℕ → Option (Node T)) (k : ℕ) (b a : Option ℕ) (l : List (ℕ × T)) →
      ((q : ℕ) → owner (f q) ≡ Some k → (IsFree q l → ⊥) → g q ≡ f q) → IsChain f k b l a → IsChain g k b l a
  chain-same f g k b a [] h c = tt
  chain-same f g k b a (e ∷ es) h c = (
    h e.0 (ap owner c.0) (λ r. r.0 refl) ∙ c.0,
    chain-same f g k (Some e.0) a es (λ q o free. h q o (λ r. free r.1)) c.1,
  )

  -- an optional place that the list does not have
  abbrev pub Off : Option ℕ → List (ℕ × T) → Type 0
  Off None l = Unit {0}
  Off (Some p) l = IsFree p l

  pub Off-rest : (o : Option ℕ) (e : ℕ × T) (l : List (ℕ × T)) → Off o (e ∷ l) → Off o l
  Off-rest None e l h = tt
  Off-rest (Some p) e l h = h.1

  pub Off-is_at : (o : Option ℕ) (e : ℕ × T) (l : List (ℕ × T)) → Off o (e ∷ l) → is_at o e.0 ≡ false
  Off-is_at None e l h = refl
  Off-is_at (Some p) e l h = let ne : p ≡ e.0 → ⊥ = λ r. h.0 (sym r) in grind (arith, nat_tests)

  -- g is f but for p, whose neighbours are joined
  pub record Relinks (f g : ℕ → Option (Node T)) (p : ℕ) (nb na : Option ℕ) : Type 0 where
    pub others : (q : ℕ) → q ≢ p → is_at nb q ≡ false → is_at na q ≡ false → g q ≡ f q
    pub at_before : (q : ℕ) → q ≢ p → is_at nb q ≡ true → is_at na q ≡ false → g q ≡ after_set na (f q)
    pub at_after : (q : ℕ) → q ≢ p → is_at na q ≡ true → is_at nb q ≡ false → g q ≡ before_set nb (f q)

  pub chain-off : (f g : ℕ → Option (Node T)) (k p : ℕ) (nb na b a : Option ℕ) (l : List (ℕ × T)) → Relinks f g p nb na
      → IsFree p l → Off nb l → Off na l → IsChain f k b l a → IsChain g k b l a
  chain-off f g k p nb na b a [] r h u w c = tt
  chain-off f g k p nb na b a (e ∷ es) r h u w c = (
    r.others e.0 h.0 (Off-is_at nb e es u) (Off-is_at na e es w) ∙ c.0,
    chain-off f g k p nb na (Some e.0) a es r h.1 (Off-rest nb e es u) (Off-rest na e es w) c.1,
  )

  -- a chain without one entry
  pub chain-unlink : (f g : ℕ → Option (Node T)) (k p : ℕ) (v : T) (b a : Option ℕ) (xs ys : List (ℕ × T))
      → Relinks f g p (last_or xs b) (first_or ys a) → IsDistinct (xs ++ (p, v) ∷ ys) → Off b (xs ++ (p, v) ∷ ys) →
      Off a (xs ++ (p, v) ∷ ys)
      → IsChain f k b (xs ++ (p, v) ∷ ys) a → IsChain g k b (xs ++ ys) a
  chain-unlink f g k p v b a [] [] r d u w c = tt
  chain-unlink f g k p v b a [] (y ∷ ys) r d u w c = (
    r.at_after y.0 d.0.0 (is_at-same y.0) (Off-is_at b y ys (Off-rest b (p, v) (y ∷ ys) u)) ∙ ap (before_set b) c.1.0,
    chain-off f g k p b (Some y.0) (Some y.0) a ys r d.0.1 (Off-rest b y ys (Off-rest b (p, v) (y ∷ ys) u)) d.1.0 c.1.1,
  )
  chain-unlink f g k p v b a (e ∷ []) ys r d u w c = (
    r.at_before e.0 (λ h. d.0.0 (sym h)) (is_at-same e.0) (is_at-first e.0 ys a d.0.1 (Off-is_at a e ((p, v) ∷ ys) w))
        ∙ ap (after_set (first_or ys a)) c.0,
    chain-unlink f g k p v (Some e.0) a [] ys r d.1 d.0 (Off-rest a e ((p, v) ∷ ys) w) c.1,
  )
  chain-unlink f g k p v b a (e ∷ (x ∷ xs)) ys r d u w c = (
    r.others e.0 (λ h. (IsFree-append_right e.0 (x ∷ xs) ((p, v) ∷ ys) d.0).0 (sym h))
        (is_at-last e.0 xs (Some x.0) (IsFree-append_left e.0 (x ∷ xs) ((p, v) ∷ ys) d.0).1 (is_at-other x.0 e.0 d.0.0))
        (is_at-first e.0 ys a (IsFree-append_right e.0 (x ∷ xs) ((p, v) ∷ ys) d.0).1
        (Off-is_at a e ((x ∷ xs) ++ (p, v) ∷ ys) w)) ∙ c.0,
    chain-unlink f g k p v (Some e.0) a (x ∷ xs) ys r d.1 d.0 (Off-rest a e ((x ∷ xs) ++ (p, v) ∷ ys) w) c.1,
  )

  -- g is f but for p, which stands after nb
  pub record LinksBack (f g : ℕ → Option (Node T)) (p : ℕ) (nb : Option ℕ) : Type 0 where
    pub others : (q : ℕ) → q ≢ p → is_at nb q ≡ false → g q ≡ f q
    pub at_before : (q : ℕ) → q ≢ p → is_at nb q ≡ true → g q ≡ after_set (Some p) (f q)

  -- a chain with one entry more at its end
  pub chain-link : (f g : ℕ → Option (Node T)) (k p : ℕ) (v : T) (b : Option ℕ) (l : List (ℕ × T))
      → LinksBack f g p (last_or l b) → g p ≡ Some (record { value = v; list = k; before = last_or l b; after = None })
      → IsDistinct l → IsFree p l → IsChain f k b l None → IsChain g k b (l ++ (p, v) ∷ []) None
  chain-link f g k p v b [] r n d h c = (n, tt)
  chain-link f g k p v b (e ∷ []) r n d h c =
      (r.at_before e.0 h.0 (is_at-same e.0) ∙ ap (after_set (Some p)) c.0, (n, tt))
  chain-link f g k p v b (e ∷ (x ∷ xs)) r n d h c = (
    r.others e.0 h.0 (is_at-last e.0 xs (Some x.0) d.0.1 (is_at-other x.0 e.0 d.0.0)) ∙ c.0,
    chain-link f g k p v (Some e.0) (x ∷ xs) r n d.1 h.1 c.1,
  )

  -- a chain with one entry more at its front
  pub chain-front : (f g : ℕ → Option (Node T)) (k p : ℕ) (v : T) (l : List (ℕ × T)) → IsChain f k None l None →
      IsDistinct l → IsFree p l
      → ((q : ℕ) → q ≢ p → g q ≡ cond (is_at (first_or l None) q) (before_set (Some p) (f q)) (f q)) → g p
      ≡ Some (record { value = v; list = k; before = None; after = first_or l None })
      → IsChain g k None ((p, v) ∷ l) None
  chain-front f g k p v [] c d h r n = (n, tt)
  chain-front f g k p v (e ∷ es) c d h r n = (
    n,
    (
      r e.0 h.0 ∙ rw (same_place e.0) (ap (before_set (Some p)) c.0),
      chain-same f g k (Some e.0) None es
          (λ q o there. r q (λ x. there (subst (λ (j : ℕ). IsFree j es) (sym x) h.1))
          ∙ rw (other_place e.0 q (λ x. there (subst (λ (j : ℕ). IsFree j es) x d.0))) refl) c.1,
    ),
  )

  pub last_or-append : (xs ys : List (ℕ × T)) (d : Option ℕ) → last_or (xs ++ ys) d ≡ last_or ys (last_or xs d)
  last_or-append [] ys d = refl
  last_or-append (e ∷ es) ys d = last_or-append es ys (Some e.0)
