-- Pops until none, one record at a time.
use Rattle.std.proofs.Common.{◌≡◌, ℕ, zero, suc, List, [], ◌∷◌, ◌++◌, Option, Some, None, length, refl, sym, ◌∙◌, ap, subst, subst₂, append_assoc, append-nil, length-append, arith}
use Rattle.foyer_policy.specs.Policy.{Policy, IsPolicy, and_then, first_pops, pops, view_or, after_pops}
use Rattle.foyer_policy.specs.declared.types.Item.{Item}
use Rattle.foyer_policy.specs.declared.types.Event.{Event}
use Rattle.foyer_policy.specs.declared.types.Event.TheVariants.{Evict}
use Rattle.foyer_core.specs.Values.{Rec, Gone}
use Rattle.foyer_core.specs.State.{Meaning, State}
use Rattle.foyer_core.specs.Steps.{EvictsOne, after_out, gone_of, ids_of, Leave}
use Rattle.foyer_core.specs.Bulk.{EvictsUnpinned, EvictingUnpinned}
use Rattle.foyer_core.proofs.Evictions.{Leave-snoc}
use Rattle.foyer_core.proofs.Popped.{pops_some, first_pops_none, after_pops_more}

-- what is left after as many pops as give something is what all pops leave
after_first_pops : {V C : Type 0} (m : Policy V C) (n : ℕ) (v : V) → after_pops m (length (first_pops m n v)) v
    ≡ after_pops m n v
after_first_pops m zero v = refl
after_first_pops {V} m (suc n) v = go (m.pop v) refl (after_first_pops m n) where
  go : (o : Option (Item × V)) → m.pop v ≡ o → ((w : V) → after_pops m (length (first_pops m n w)) w ≡ after_pops m n w)
      → after_pops m (length (and_then m o (λ w. first_pops m n w))) v ≡ view_or m o v (λ w. after_pops m n w)
  go None is rec = refl
  go (Some p) is rec = rw is (rec p.1)

ids_more : (l : List Item) (i : Item) → ids_of l ++ i.id ∷ [] ≡ ids_of (l ++ i ∷ [])
ids_more [] i = refl
ids_more (x ∷ xs) i = ap (λ (l : List ℕ). x.id ∷ l) (ids_more xs i)

module _ {K V P View C : Type 0} (m : Meaning K P View C) where
  -- the pops so far
  pub record BegunAll (old : State K V P View) (ls : List (Event × Gone K V P)) (now : State K V P View) : Type 0 where
    pub left : List Item
    pub told : left ++ pops m.policy now.view ≡ pops m.policy old.view
    pub leave : Leave m Evict (ids_of left) old ls (after_pops m.policy (length left) old.view) now
    pub view : now.view ≡ after_pops m.policy (length left) old.view

  pub all-start : (old : State K V P View) → BegunAll old [] old
  all-start old = record { left = []; told = refl; leave = refl; view = refl }

  pub all-refused : (old : State K V P View) (ls : List (Event × Gone K V P)) (now : State K V P View) →
      BegunAll old ls now → EvictingUnpinned m old ls now
  all-refused old ls now h = record { left = h.left; rest = pops m.policy now.view; parts = h.told; leave = h.leave }

  -- where no pop gives anything, all left
  pub all-none : (old : State K V P View) (ls : List (Event × Gone K V P)) (now : State K V P View) →
      BegunAll old ls now → m.policy.pop now.view ≡ None → EvictsUnpinned m old ls now
  all-none old ls now h none =
      let all : h.left ≡ pops m.policy old.view = sym (append-nil h.left)
      ∙ ap (λ (l : List Item). h.left ++ l)
      (sym (first_pops_none m.policy (length (m.policy.order now.view)) now.view none)) ∙ h.told in
      subst (λ (v : View). Leave m Evict (ids_of (pops m.policy old.view)) old ls v now)
      (after_first_pops m.policy (length (m.policy.order old.view)) old.view)
      (subst (λ (l : List Item). Leave m Evict (ids_of l) old ls (after_pops m.policy (length l) old.view) now) all
      h.leave)

  module _ (good : IsPolicy m.policy) (old : State K V P View) (ls : List (Event × Gone K V P))
      (now : State K V P View) (h : BegunAll old ls now)
      (i : Item) (v : View) (popped : m.policy.pop now.view ≡ Some (i, v)) where
    next_view : v ≡ after_pops m.policy (length (h.left ++ i ∷ [])) old.view
    next_view =
        let count : length (h.left ++ i ∷ []) ≡ suc (length h.left) = omega (arith, length-append h.left (i ∷ [])) in
        rw count (after_pops_more m.policy (length h.left) old.view now.view v i h.view popped)

    all-more : (r : Rec K V P) → now.records i.id ≡ Some r →
        BegunAll old (ls ++ (Evict, gone_of now.number i.id r) ∷ []) (record (after_out m now i.id r) { view = v })
    all-more r there = record {
      left = h.left ++ i ∷ [];
      told = append_assoc h.left (i ∷ []) (pops m.policy v)
          ∙ ap (λ (l : List Item). h.left ++ l) (sym (pops_some m.policy good now.view v i popped)) ∙ h.told;
      leave = subst₂
          (λ (ids : List ℕ) (w : View). Leave m Evict ids old (ls ++ (Evict, gone_of now.number i.id r) ∷ []) w
          (record (after_out m now i.id r) { view = v })) (ids_more h.left i) next_view
          (Leave-snoc m Evict (ids_of h.left) old ls (after_pops m.policy (length h.left) old.view) now i.id r v
          h.leave there);
      view = next_view;
    }

-- one pop more
pub all-evicts : {K V P View C : Type 0} (m : Meaning K P View C) (good : IsPolicy m.policy) (old : State K V P View)
    (ls : List (Event × Gone K V P)) (now : State K V P View)
    → BegunAll m old ls now → (gone : Gone K V P) (new : State K V P View) → EvictsOne m now gone new →
    BegunAll m old (ls ++ (Evict, gone) ∷ []) new
all-evicts {K} {V} {P} {View} m good old ls now begun gone new e =
    subst (λ (g : Gone K V P). BegunAll m old (ls ++ (Evict, g) ∷ []) new) (sym e.gone_is)
    (subst (λ (s : State K V P View). BegunAll m old (ls ++ (Evict, gone_of now.number e.item.id e.rec) ∷ []) s)
    (sym e.after)
    (all-more m good old ls now begun e.item e.view e.popped e.rec e.there))
