-- Where steps of all shards in turn end.
use Rattle.std.proofs.Common.{◌≡◌, ℕ, zero, suc, ◌≤◌, ◌⊎◌, inl, inr, List, [], ◌∷◌, Option, Some, None, length, sum_by, refl, ◌∙◌, ap, subst, arith}
use Rattle.std.specs.Prelude.{slice_get}
use Rattle.std.specs.List.{AllZip}
use Rattle.std.proofs.lemmas.List.Sums.{sum_by-cons}
use Rattle.foyer_policy.specs.Items.{weight_of, IsWithin}
use Rattle.foyer_policy.specs.Policy.{Policy, IsPolicy, view_or, after_pops, after_all_pops, pops, evicted}
use Rattle.foyer_policy.specs.declared.types.Item.{Item}
use Rattle.foyer_policy.specs.declared.types.Event.{Event}
use Rattle.foyer_policy.specs.declared.types.Event.TheVariants.{Evict, Clear}
use Rattle.foyer_core.specs.Bulk.{EvictsUnpinned, Clears}
use Rattle.foyer_core.specs.Core.{Core}
use Rattle.foyer_core.specs.CoreBulk.{InTurn, OfShards, EvictsToCapacity, Resizes, NothingPinned, IsEmptied, FitsOrPinned}
use Rattle.foyer_core.specs.State.{Meaning, State, usage_of}
use Rattle.foyer_core.specs.Steps.{ids_of, Leave}
use Rattle.foyer_core.specs.Values.{Gone}
use Rattle.foyer_core.proofs.LeaveLemmas.{leave-rests}
use Rattle.foyer_core.proofs.Popped.{Ends, evicted_ends, pop_shorter, after_pops_pinned}
use Rattle.foyer_core.proofs.TurnLaws.{turn-keeps}
use Rattle.foyer_policy.proofs.PopsLemmas.Cleared.{clear-order}

module _ {S : Type 0} (R : S → S → Type 0) where
  -- a sum of what is nothing after each step
  zip-sum : (Q : S → Type 0) (f : S → ℕ) → ((s t : S) → R s t → Q s → f t ≡ 0) → (ss ts : List S) →
      ((i : ℕ) (s : S) → slice_get ss i ≡ Some s → Q s) → AllZip R ss ts → sum_by f ts ≡ 0
  zip-sum Q f none [] [] q h = refl
  zip-sum Q f none [] (t ∷ ts) q h = absurd h
  zip-sum Q f none (s ∷ ss) [] q h = absurd h
  zip-sum Q f none (s ∷ ss) (t ∷ ts) q h =
      omega (
        arith,
        sum_by-cons f t ts,
        none s t h.0 (q 0 s refl),
        zip-sum Q f none ss ts (λ i a there. q (suc i) a there) h.1,
      )

  -- what stands at a place came of a step
  zip-from : (ss ts : List S) → AllZip R ss ts → (i : ℕ) (t : S) → slice_get ts i ≡ Some t → (s : S) × R s t
  zip-from [] [] h i t there = absurd cc
  zip-from [] (b ∷ ts) h i t there = absurd h
  zip-from (s ∷ ss) [] h i t there = absurd h
  zip-from (s ∷ ss) (b ∷ ts) h zero t there = (let is : b ≡ t = cc in (s, subst (λ (a : S). R s a) is h.0))
  zip-from (s ∷ ss) (b ∷ ts) h (suc i) t there = zip-from ss ts h.1 i t there

none_of : (l : List Item) → sum_by (λ i. 1) l ≤ 0 → l ≡ []
none_of [] h = refl
none_of (i ∷ is) h = absurd (omega (arith, sum_by-cons (λ (j : Item). 1) i is))

module _ {V C : Type 0} (m : Policy V C) (good : IsPolicy m) where
  -- after as many pops as there are items no pop gives anything
  popped_out : (n : ℕ) (v : V) → length (m.order v) ≤ n → m.pop (after_pops m n v) ≡ None
  popped_out zero v less = go (m.pop v) refl where
    go : (o : Option (Item × V)) → m.pop v ≡ o → m.pop v ≡ None
    go None e = e
    go (Some p) e = absurd (omega (arith, pop_shorter m good v p.1 p.0 e))
  popped_out (suc n) v less = go (m.pop v) refl (popped_out n) where
    go : (o : Option (Item × V)) → m.pop v ≡ o → ((w : V) → length (m.order w) ≤ n → m.pop (after_pops m n w) ≡ None)
        → m.pop (view_or m o v (λ w. after_pops m n w)) ≡ None
    go None e rec = e
    go (Some p) e rec = rec p.1 (omega (arith, pop_shorter m good v p.1 p.0 e))

  -- where nothing is pinned, the pops leave nothing
  popped_all : (v : V) → m.pinned v ≡ [] → m.order (after_all_pops m v) ≡ []
  popped_all v none =
      let end : IsWithin (m.order (after_all_pops m v)) (m.pinned (after_all_pops m v)) =
      good.pop_none (after_all_pops m v) (popped_out (length (m.order v)) v (omega arith)) in
      let nothing : m.pinned (after_all_pops m v) ≡ [] = after_pops_pinned m good (length (m.order v)) v ∙ none in
      none_of (m.order (after_all_pops m v))
      (subst (λ (l : List Item). sum_by (λ i. 1) (m.order (after_all_pops m v)) ≤ sum_by (λ i. 1) l) nothing
      (end (λ i. 1)))

module _ {K V P View C : Type 0} (m : Meaning K P View C) (good : IsPolicy m.policy) where
  leave-view : (e : Event) (ids : List ℕ) (old : State K V P View) (ls : List (Event × Gone K V P)) (v : View)
      (new : State K V P View) → Leave m e ids old ls v new → new.view ≡ v
  leave-view e [] old [] v new h = ap (λ (s : State K V P View). s.view) h
  leave-view e [] old (l ∷ ls) v new h = absurd h
  leave-view e (i ∷ ids) old [] v new h = absurd h
  leave-view e (i ∷ ids) old (l ∷ ls) v new h = leave-view e ids _ ls v new h.3

  abbrev IsOut : State K V P View → Type 0
  IsOut t = m.policy.order t.view ≡ []

  cleared-out : (s t : State K V P View) (ls : List (Event × Gone K V P)) → Clears m s ls t → IsOut t
  cleared-out s t ls h = ap m.policy.order
      (leave-view Clear (ids_of (m.policy.order s.view)) s ls (m.policy.clear s.view) t h)
      ∙ clear-order m.policy good s.view

  evicted-out : (s t : State K V P View) (ls : List (Event × Gone K V P)) → EvictsUnpinned m s ls t →
      m.policy.pinned s.view ≡ [] → IsOut t
  evicted-out s t ls h none =
      ap m.policy.order (leave-view Evict (ids_of (pops m.policy s.view)) s ls (after_all_pops m.policy s.view) t h)
      ∙ popped_all m.policy good s.view none

  evicted-fits : (s t : State K V P View) (ls : List (Event × Gone K V P)) → EvictsToCapacity m s ls t →
      (usage_of m t ≤ t.capacity) ⊎ IsWithin (m.policy.order t.view) (m.policy.pinned t.view)
  evicted-fits s t ls h = go (evicted_ends m.policy good s.capacity s.view) where
    at : t.view ≡ after_pops m.policy (length (evicted m.policy s.capacity s.view)) s.view
    at = leave-view Evict (ids_of (evicted m.policy s.capacity s.view)) s ls
        (after_pops m.policy (length (evicted m.policy s.capacity s.view)) s.view) t h

    same : t.capacity ≡ s.capacity
    same = (leave-rests m Evict (ids_of (evicted m.policy s.capacity s.view)) s ls
        (after_pops m.policy (length (evicted m.policy s.capacity s.view)) s.view) t h).capacity

    go : Ends m.policy s.capacity (after_pops m.policy (length (evicted m.policy s.capacity s.view)) s.view) →
        (usage_of m t ≤ t.capacity) ⊎ IsWithin (m.policy.order t.view) (m.policy.pinned t.view)
    go (inl low) = inl (omega (arith, same, ap (λ (v : View). weight_of (m.policy.order v)) at, low))
    go (inr none) = inr (good.pop_none t.view (ap m.policy.pop at ∙ none))

  module _ {S W A : Type 0} (old : Core K V P View S W A) (ls : List (Event × Gone K V P))
      (new : Core K V P View S W A) where
    pub all_cleared : OfShards (InTurn (Clears m)) old ls new → IsEmptied m new
    all_cleared h =
        let all = turn-keeps (λ (s t : State K V P View). IsOut t) (Clears m) cleared-out old.shards ls new.shards
        h.stepped in (
          zip-sum (λ (s t : State K V P View). IsOut t) (λ s. Unit {0}) (usage_of m) (λ s t out q. ap weight_of out)
              old.shards new.shards (λ i s there. tt) all,
          zip-sum (λ (s t : State K V P View). IsOut t) (λ s. Unit {0}) (λ s. length (m.policy.order s.view))
              (λ s t out q. ap length out) old.shards new.shards (λ i s there. tt) all,
        )

    pub all_evicted : OfShards (InTurn (EvictsUnpinned m)) old ls new → NothingPinned m old → IsEmptied m new
    all_evicted h none =
        let all = turn-keeps (λ (s t : State K V P View). m.policy.pinned s.view ≡ [] → IsOut t) (EvictsUnpinned m)
        evicted-out old.shards ls new.shards h.stepped in (
          zip-sum (λ (s t : State K V P View). m.policy.pinned s.view ≡ [] → IsOut t)
              (λ s. m.policy.pinned s.view ≡ []) (usage_of m) (λ s t out q. ap weight_of (out q)) old.shards
              new.shards none all,
          zip-sum (λ (s t : State K V P View). m.policy.pinned s.view ≡ [] → IsOut t)
              (λ s. m.policy.pinned s.view ≡ []) (λ s. length (m.policy.order s.view))
              (λ s t out q. ap length (out q)) old.shards new.shards none all,
        )

    pub all_fit : (capacity : ℕ) → Resizes m (InTurn (EvictsToCapacity m)) capacity old ls new → FitsOrPinned m new
    all_fit capacity h i t there =
        (zip-from
        (λ (s t : State K V P View). (usage_of m t ≤ t.capacity)
        ⊎ IsWithin (m.policy.order t.view) (m.policy.pinned t.view)) h.shared new.shards
        (turn-keeps
        (λ (s t : State K V P View). (usage_of m t ≤ t.capacity)
        ⊎ IsWithin (m.policy.order t.view) (m.policy.pinned t.view)) (EvictsToCapacity m) evicted-fits
        h.shared ls new.shards h.evicted.stepped) i t there).1
