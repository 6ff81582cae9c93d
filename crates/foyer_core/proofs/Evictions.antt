-- Evictions, one record at a time.
use Rattle.std.proofs.Common.{◌≡◌, ℕ, suc, ◌+◌, ◌-◌, ◌<◌, ◌≤◌, List, [], ◌∷◌, ◌++◌, Some, None, length, refl, sym, ◌∙◌, ap, subst, subst₂, arith, append_assoc, append-nil, length-append}
use Rattle.foyer_policy.specs.Items.{weight_of}
use Rattle.foyer_policy.specs.Policy.{IsPolicy, pops, after_pops, until, evicted}
use Rattle.foyer_policy.specs.declared.types.Item.{Item}
use Rattle.foyer_policy.specs.declared.types.Event.{Event}
use Rattle.foyer_policy.specs.declared.types.Event.TheVariants.{Evict}
use Rattle.foyer_core.specs.Values.{Rec, Gone}
use Rattle.foyer_core.specs.State.{Meaning, State, usage_of}
use Rattle.foyer_core.specs.Steps.{EvictsOne, after_out, gone_of, ids_of, Leave, Evicts}
use Rattle.foyer_core.proofs.Popped.{pop_weight, pop_shorter, pops_some, first_pops_none, after_pops_more, until_low, until_more}

module _ {K V P View C : Type 0} (m : Meaning K P View C) where
  -- one leave more
  pub Leave-snoc : (e : Event) (ids : List ℕ) (old : State K V P View) (ls : List (Event × Gone K V P)) (v : View)
      (mid : State K V P View) (id : ℕ) (r : Rec K V P) (w : View)
      → Leave m e ids old ls v mid → mid.records id ≡ Some r
      → Leave m e (ids ++ id ∷ []) old (ls ++ (e, gone_of mid.number id r) ∷ []) w
      (record (after_out m mid id r) { view = w })
  Leave-snoc e [] old [] v mid id r w h there = (
    r,
    sym (ap (λ (s : State K V P View). s.records id) h) ∙ there,
    ap (λ (s : State K V P View). let l : Event × Gone K V P = (e, gone_of s.number id r) in l) h,
    ap (λ (s : State K V P View). record (after_out m s id r) { view = w }) h,
  )
  Leave-snoc e [] old (l ∷ ls) v mid id r w h there = absurd h
  Leave-snoc e (i ∷ ids) old [] v mid id r w h there = absurd h
  Leave-snoc e (i ∷ ids) old (l ∷ ls) v mid id r w h there =
      (h.0, h.1, h.2, Leave-snoc e ids (after_out m old i h.0) ls v mid id r w h.3 there)

  -- the evictions so far: what left, and what is told of the rest
  pub record Begun (target : ℕ) (old : State K V P View) (ls : List (Event × Gone K V P)) (now : State K V P View) :
      Type 0 where
    pub left : List Item
    pub told : left ++ until target (usage_of m now) (pops m.policy now.view) ≡ evicted m.policy target old.view
    pub leave : Leave m Evict (ids_of left) old ls (after_pops m.policy (length left) old.view) now
    pub view : now.view ≡ after_pops m.policy (length left) old.view

  pub begun-start : (target : ℕ) (old : State K V P View) → Begun target old [] old
  begun-start target old = record { left = []; told = refl; leave = refl; view = refl }

  -- where nothing more is to leave, all left
  begun-all : (target : ℕ) (old : State K V P View) (ls : List (Event × Gone K V P)) (now : State K V P View)
      (h : Begun target old ls now)
      → until target (usage_of m now) (pops m.policy now.view) ≡ [] → Evicts m target old ls now
  begun-all target old ls now h none =
      let all : h.left ≡ evicted m.policy target old.view = sym (append-nil h.left)
      ∙ ap (λ (l : List Item). h.left ++ l) (sym none) ∙ h.told in
      subst (λ (l : List Item). Leave m Evict (ids_of l) old ls (after_pops m.policy (length l) old.view) now) all
      h.leave

  pub begun-low : (target : ℕ) (old : State K V P View) (ls : List (Event × Gone K V P)) (now : State K V P View) →
      Begun target old ls now
      → usage_of m now ≤ target → Evicts m target old ls now
  begun-low target old ls now h low = begun-all target old ls now h
      (until_low target (usage_of m now) (pops m.policy now.view) low)

  pub begun-none : (target : ℕ) (old : State K V P View) (ls : List (Event × Gone K V P)) (now : State K V P View) →
      Begun target old ls now
      → m.policy.pop now.view ≡ None → Evicts m target old ls now
  begun-none target old ls now h none = begun-all target old ls now h
      (ap (until target (usage_of m now)) (first_pops_none m.policy (length (m.policy.order now.view)) now.view none))

  module _ (good : IsPolicy m.policy) where
    -- a pop makes the order shorter
    pub popped_shorter : (s : State K V P View) (i : Item) (v : View) → m.policy.pop s.view ≡ Some (i, v) →
        length (m.policy.order v) + 1 ≡ length (m.policy.order s.view)
    popped_shorter s i v popped = pop_shorter m.policy good s.view v i popped

    module _ (target : ℕ) (old : State K V P View) (ls : List (Event × Gone K V P)) (now : State K V P View)
        (h : Begun target old ls now)
        (above : target < usage_of m now) (i : Item) (v : View) (popped : m.policy.pop now.view ≡ Some (i, v)) where
      more_told : (h.left ++ i ∷ []) ++ until target (weight_of (m.policy.order v)) (pops m.policy v)
          ≡ evicted m.policy target old.view
      more_told =
          let less : usage_of m now - i.weight ≡ weight_of (m.policy.order v) =
          omega (arith, pop_weight m.policy good now.view v i popped) in
          let next : until target (usage_of m now) (pops m.policy now.view)
          ≡ i ∷ until target (weight_of (m.policy.order v)) (pops m.policy v) =
          ap (until target (usage_of m now)) (pops_some m.policy good now.view v i popped)
          ∙ until_more target (usage_of m now) i (pops m.policy v) above
          ∙ ap (λ (n : ℕ). i ∷ until target n (pops m.policy v)) less in
          append_assoc h.left (i ∷ []) (until target (weight_of (m.policy.order v)) (pops m.policy v))
          ∙ ap (λ (l : List Item). h.left ++ l) (sym next) ∙ h.told

      more_view : v ≡ after_pops m.policy (length (h.left ++ i ∷ [])) old.view
      more_view =
          let count : length (h.left ++ i ∷ []) ≡ suc (length h.left) = omega (arith, length-append h.left (i ∷ [])) in
          rw count (after_pops_more m.policy (length h.left) old.view now.view v i h.view popped)

      more_ids : ids_of h.left ++ i.id ∷ [] ≡ ids_of (h.left ++ i ∷ [])
      more_ids = ids_append h.left where
        ids_append : (l : List Item) → ids_of l ++ i.id ∷ [] ≡ ids_of (l ++ i ∷ [])
        ids_append [] = refl
        ids_append (x ∷ xs) = ap (λ (l : List ℕ). x.id ∷ l) (ids_append xs)

      pub begun-more : (r : Rec K V P) → now.records i.id ≡ Some r
          → Begun target old (ls ++ (Evict, gone_of now.number i.id r) ∷ [])
          (record (after_out m now i.id r) { view = v })
      begun-more r there = record {
        left = h.left ++ i ∷ [];
        told = more_told;
        leave = subst₂
            (λ (ids : List ℕ) (w : View). Leave m Evict ids old (ls ++ (Evict, gone_of now.number i.id r) ∷ []) w
            (record (after_out m now i.id r) { view = v })) more_ids more_view
            (Leave-snoc Evict (ids_of h.left) old ls (after_pops m.policy (length h.left) old.view) now i.id r v
            h.leave there);
        view = more_view;
      }

-- one eviction more
pub begun-evicts : {K V P View C : Type 0} (m : Meaning K P View C) (good : IsPolicy m.policy) (target : ℕ)
    (old : State K V P View) (ls : List (Event × Gone K V P)) (now : State K V P View)
    → Begun m target old ls now → target < usage_of m now → (gone : Gone K V P) (new : State K V P View) →
    EvictsOne m now gone new → Begun m target old (ls ++ (Evict, gone) ∷ []) new
begun-evicts {K} {V} {P} {View} m good target old ls now begun above gone new e =
    subst (λ (g : Gone K V P). Begun m target old (ls ++ (Evict, g) ∷ []) new) (sym e.gone_is)
    (subst (λ (s : State K V P View). Begun m target old (ls ++ (Evict, gone_of now.number e.item.id e.rec) ∷ []) s)
    (sym e.after)
    (begun-more m good target old ls now begun above e.item e.view e.popped e.rec e.there))
