-- What leaves change, and what they do not.
use Rattle.std.proofs.Common.{◌≡◌, ℕ, inl, inr, List, [], ◌∷◌, ◌++◌, Option, Some, None, Bool, true, false, length, refl, sym, ◌∙◌, ap, subst}
use Rattle.std.specs.Cmp.{IsEquivalence}
use Rattle.std.specs.Map.{update}
use Rattle.std.proofs.lemmas.Map.{update_here, update_apart}
use Rattle.std.proofs.lemmas.Bool.Decides.{eqb_tells}
use Rattle.foyer_policy.specs.Items.{weight_of}
use Rattle.foyer_policy.specs.Policy.{IsPolicy, pops, after_pops, evicted}
use Rattle.foyer_policy.specs.declared.types.Item.{Item}
use Rattle.foyer_policy.specs.declared.types.Event.{Event}
use Rattle.foyer_policy.specs.declared.types.Event.TheVariants.{Evict, Replace}
use Rattle.foyer_core.specs.Indexer.{same_key}
use Rattle.foyer_core.specs.Values.{Rec, Gone}
use Rattle.foyer_core.specs.State.{Meaning, State, key_of, IsKept}
use Rattle.foyer_core.specs.Steps.{outside, after_out, ids_of, Leave, GivesWay, Evicts}
use Rattle.foyer_core.proofs.Keeps.{popped_keeps}
use Rattle.foyer_core.proofs.Leaving.{outside_is}
use Rattle.foyer_core.proofs.Popped.{pops_first, until_begins}

-- what a leave leaves in the index was there
pub taken_from : {A : Type 0} (eq : A → A → Bool) (f : A → Option ℕ) (k q : A) (b : ℕ) → update eq f k None q ≡ Some b
    → f q ≡ Some b
taken_from eq f k q b h = go (eq k q) refl where
  go : (t : Bool) → eq k q ≡ t → f q ≡ Some b
  go true is = let e : ◌≡◌ {A = Option ℕ} None (Some b) = rw is at h in absurd cc
  go false is = rw is at h

module _ {K V P View C : Type 0} (m : Meaning K P View C) where
  -- what is under an id after a record left was there with the same data
  pub out_data : (s : State K V P View) (i : ℕ) (r : Rec K V P) → s.records i ≡ Some r → (id : ℕ) (q : Rec K V P) →
      (after_out m s i r).records id ≡ Some q
      → (o : Rec K V P) × (s.records id ≡ Some o) × (q.kept ≡ o.kept)
  out_data s i r there id q h = elim (eqb_tells id i) [
    | inl e ↦
        (let now : outside r ≡ Some q = sym (update_here s.records i (outside r))
        ∙ subst (λ (a : ℕ). (after_out m s i r).records a ≡ Some q) (e.1) h in (
          r,
          subst (λ (a : ℕ). s.records a ≡ Some r) (sym e.1) there,
          ap (λ (x : Rec K V P). x.kept) (outside_is r q now).1,
        ))
    | inr e ↦ (q, sym (update_apart s.records i (outside r) id e.1) ∙ h, refl)
  ]

  -- what any leaves do not change
  pub record Rests (old new : State K V P View) : Type 0 where
    pub number : new.number ≡ old.number
    pub capacity : new.capacity ≡ old.capacity
    pub limits : new.limits ≡ old.limits
    pub next : new.next ≡ old.next
    pub index : (k : ℕ × K) (id : ℕ) → new.index k ≡ Some id → old.index k ≡ Some id
    pub records : (id : ℕ) (q : Rec K V P) → new.records id ≡ Some q → (o : Rec K V P) × (old.records id ≡ Some o)
        × (q.kept ≡ o.kept)

  pub rests-rests : (old mid new : State K V P View) → Rests old mid → Rests mid new → Rests old new
  rests-rests old mid new a b = record {
    number = b.number ∙ a.number;
    capacity = b.capacity ∙ a.capacity;
    limits = b.limits ∙ a.limits;
    next = b.next ∙ a.next;
    index = λ k id h. a.index k id (b.index k id h);
    records = λ id q h. let o = b.records id q h in let p = a.records id o.0 o.1 in (p.0, p.1, o.2 ∙ p.2);
  }

  rests_same : (old new : State K V P View) (v : View) → new ≡ record old { view = v } → Rests old new
  rests_same old new v h = subst (Rests old) (sym h)
      record {
        number = refl;
        capacity = refl;
        limits = refl;
        next = refl;
        index = λ k id e. e;
        records =
            λ id q e. (q, e, refl);
      }

  out_rests : (old : State K V P View) (i : ℕ) (r : Rec K V P) → old.records i ≡ Some r →
      Rests old (after_out m old i r)
  out_rests old i r there = record {
    number = refl;
    capacity = refl;
    limits = refl;
    next = refl;
    index = λ k id f. taken_from (same_key m.same) old.index (key_of r.kept) k id f;
    records = λ id q f. out_data old i r there id q f;
  }

  pub leave-rests : (e : Event) (ids : List ℕ) (old : State K V P View) (ls : List (Event × Gone K V P)) (v : View)
      (new : State K V P View) → Leave m e ids old ls v new → Rests old new
  leave-rests e [] old [] v new h = rests_same old new v h
  leave-rests e [] old (l ∷ ls) v new h = absurd h
  leave-rests e (i ∷ ids) old [] v new h = absurd h
  leave-rests e (i ∷ ids) old (l ∷ ls) v new h =
      rests-rests old (after_out m old i h.0) new (out_rests old i h.0 h.1)
      (leave-rests e ids (after_out m old i h.0) ls v new h.3)

  -- what is not in the index does not come into it
  out_out : (s : State K V P View) (i : ℕ) (r : Rec K V P) (id : ℕ) →
      ((q : Rec K V P) → s.records id ≡ Some q → q.resident ≡ false) → (q : Rec K V P) →
      (after_out m s i r).records id ≡ Some q → q.resident ≡ false
  out_out s i r id out q h = elim (eqb_tells id i) [
    | inl e ↦
        (let now : outside r ≡ Some q = sym (update_here s.records i (outside r))
        ∙ subst (λ (a : ℕ). (after_out m s i r).records a ≡ Some q) (e.1) h in
        ap (λ (x : Rec K V P). x.resident) (outside_is r q now).1)
    | inr e ↦ out q (sym (update_apart s.records i (outside r) id e.1) ∙ h)
  ]

  pub leave-out : (e : Event) (ids : List ℕ) (old : State K V P View) (ls : List (Event × Gone K V P)) (v : View)
      (new : State K V P View) → Leave m e ids old ls v new
      → (id : ℕ) → ((r : Rec K V P) → old.records id ≡ Some r → r.resident ≡ false) → (r : Rec K V P) → new.records id
      ≡ Some r → r.resident ≡ false
  leave-out e [] old [] v new h id out r there = out r (sym (ap (λ (s : State K V P View). s.records id) h) ∙ there)
  leave-out e [] old (l ∷ ls) v new h id out r there = absurd h
  leave-out e (i ∷ ids) old [] v new h id out r there = absurd h
  leave-out e (i ∷ ids) old (l ∷ ls) v new h id out r there =
      leave-out e ids (after_out m old i h.0) ls v new h.3 id (out_out old i h.0 id out) r there

  pub way-out : (o : Option ℕ) (old : State K V P View) (ls : List (Event × Gone K V P)) (new : State K V P View) →
      GivesWay m o old ls new
      → (id : ℕ) → ((r : Rec K V P) → old.records id ≡ Some r → r.resident ≡ false) → (r : Rec K V P) → new.records id
      ≡ Some r → r.resident ≡ false
  way-out None old ls new h id out r there = out r (sym (ap (λ (s : State K V P View). s.records id) h.1) ∙ there)
  way-out (Some i) old ls new h id out r there =
      leave-out Replace (i ∷ []) old ls (m.policy.remove old.view i) new h id out r there

  pub leave-view : (e : Event) (ids : List ℕ) (old : State K V P View) (ls : List (Event × Gone K V P)) (v : View)
      (new : State K V P View) → Leave m e ids old ls v new → new.view ≡ v
  leave-view e [] old [] v new h = ap (λ (s : State K V P View). s.view) h
  leave-view e [] old (l ∷ ls) v new h = absurd h
  leave-view e (i ∷ ids) old [] v new h = absurd h
  leave-view e (i ∷ ids) old (l ∷ ls) v new h = leave-view e ids (after_out m old i h.0) ls v new h.3

  -- the view before does not matter
  leave_any_view : (e : Event) (ids : List ℕ) (old : State K V P View) (u : View) (ls : List (Event × Gone K V P))
      (v : View) (new : State K V P View)
      → Leave m e ids old ls v new → Leave m e ids (record old { view = u }) ls v new
  leave_any_view e [] old u [] v new h = h
  leave_any_view e [] old u (l ∷ ls) v new h = h
  leave_any_view e (i ∷ ids) old u [] v new h = h
  leave_any_view e (i ∷ ids) old u (l ∷ ls) v new h =
      (h.0, h.1, h.2, leave_any_view e ids (after_out m old i h.0) u ls v new h.3)

  module _ (laws : IsEquivalence m.same) (good : IsPolicy m.policy) where
    -- leaves of a beginning of the pops keep what a shard keeps
    leave_pops_keep : (items rest : List Item) (old : State K V P View) (ls : List (Event × Gone K V P))
        (new : State K V P View) → IsKept m old
        → items ++ rest ≡ pops m.policy old.view →
        Leave m Evict (ids_of items) old ls (after_pops m.policy (length items) old.view) new → IsKept m new
    leave_pops_keep [] rest old [] new kept parts h = subst (IsKept m) (sym h) kept
    leave_pops_keep [] rest old (l ∷ ls) new kept parts h = absurd h
    leave_pops_keep (i ∷ is) rest old [] new kept parts h = absurd h
    leave_pops_keep (i ∷ is) rest old (l ∷ ls) new kept parts h =
        let p = pops_first m.policy good old.view i (is ++ rest) parts in
        let onward : Leave m Evict (ids_of is) (after_out m old i.id h.0) ls (after_pops m.policy (length is) p.0)
        new = rw p.1 at h.3 in
        leave_pops_keep is rest (record (after_out m old i.id h.0) { view = p.0 }) ls new
        (popped_keeps m laws good old kept i p.0 p.1 h.0 h.1) p.2
        (leave_any_view Evict (ids_of is) (after_out m old i.id h.0) p.0 ls (after_pops m.policy (length is) p.0) new
        onward)

    pub evicts_keeps : (target : ℕ) (old : State K V P View) (ls : List (Event × Gone K V P)) (new : State K V P View)
        → IsKept m old → Evicts m target old ls new → IsKept m new
    evicts_keeps target old ls new kept h =
        let b = until_begins target (weight_of (m.policy.order old.view)) (pops m.policy old.view) in
        leave_pops_keep (evicted m.policy target old.view) b.0 old ls new kept b.1 h
