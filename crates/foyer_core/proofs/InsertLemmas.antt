-- What an insert leaves: its usage fits, and its key finds it.
use Rattle.std.proofs.Common.{◌≡◌, ℕ, zero, suc, ◌+◌, ◌-◌, ◌<◌, ◌≤◌, ◌^◌, max, ◌⊎◌, inl, inr, List, [], ◌∷◌, Option, Some, None, true, length, refl, sym, ◌∙◌, ap, subst, arith}
use Rattle.std.specs.Cmp.{IsEquivalence}
use Rattle.foyer_policy.specs.Items.{weight_of, count_of, IsNewIn, IsWithin, remove_id}
use Rattle.foyer_policy.specs.Policy.{IsPolicy, after_pops, evicted}
use Rattle.foyer_policy.specs.declared.types.Item.{Item}
use Rattle.foyer_policy.specs.declared.types.Event.{Event}
use Rattle.foyer_policy.specs.declared.types.Source.{Source}
use Rattle.foyer_policy.specs.declared.types.Event.TheVariants.{Evict, Replace}
use Rattle.foyer_policy.proofs.ItemLemmas.{one_if}
use Rattle.foyer_core.specs.declared.record.Data.{Data}
use Rattle.foyer_core.specs.Indexer.{same_key}
use Rattle.foyer_core.specs.Values.{Rec, Gone, Held, Incoming}
use Rattle.foyer_core.specs.State.{Meaning, State, key_of, without_own, usage_of, pinned_beside, IsKept}
use Rattle.foyer_core.specs.Steps.{after_out, ids_of, Evicts, GivesWay, InsertsPlain}
use Rattle.foyer_core.proofs.Found.{sum-removed}
use Rattle.foyer_core.proofs.Keeps.{counted_there, removed_keeps, removed_absent, push_weight}
use Rattle.foyer_core.proofs.LeaveLemmas.{Rests, leave-rests, leave-view, evicts_keeps}
use Rattle.foyer_core.proofs.Popped.{after_pops_pinned, evicted_ends}
use Rattle.foyer_core.proofs.Weights.{removed_within, removed_new}

zero_of : (n : ℕ) → ¬ (0 < n) → n ≡ 0
zero_of zero h = refl
zero_of (suc n) h = absurd (h (omega arith))

module _ {K V P View C : Type 0} (m : Meaning K P View C) (laws : IsEquivalence m.same) (good : IsPolicy m.policy) where
  -- a record that gives way is there, and alone leaves
  gave_way : (id : ℕ) (old : State K V P View) (ls : List (Event × Gone K V P)) (new : State K V P View) →
      GivesWay m (Some id) old ls new
      → (r : Rec K V P) × (old.records id ≡ Some r)
      × (new ≡ record (after_out m old id r) { view = m.policy.remove old.view id })
  gave_way id old [] new h = absurd h
  gave_way id old (l ∷ []) new h = (h.0, h.1, h.3)
  gave_way id old (l ∷ (k ∷ ls)) new h = absurd h.3

  -- after that the key has none, and what a shard keeps is kept
  pub gives_way_keeps : (old : State K V P View) → IsKept m old →
      (k : ℕ × K) (ls : List (Event × Gone K V P)) (new : State K V P View) → GivesWay m (old.index k) old ls new
      → IsKept m new × (new.index k ≡ None)
  gives_way_keeps old kept k ls new h = go (old.index k) refl h where
    go : (o : Option ℕ) → old.index k ≡ o → GivesWay m o old ls new → IsKept m new × (new.index k ≡ None)
    go None e h = (subst (IsKept m) (sym h.1) kept, ap (λ (s : State K V P View). s.index k) h.1 ∙ e)
    go (Some id) e h =
        let g = gave_way id old ls new h in (
          subst (IsKept m) (sym g.2) (removed_keeps m laws good old kept k id e g.0 g.1),
          ap (λ (s : State K V P View). s.index k) g.2 ∙ removed_absent m laws good old kept k id e g.0 g.1,
        )

  pub gives_way_rests : (o : Option ℕ) (old : State K V P View) (ls : List (Event × Gone K V P))
      (new : State K V P View) → GivesWay m o old ls new → Rests m old new
  gives_way_rests None old ls new h = leave-rests m Evict [] old [] old.view new h.1
  gives_way_rests (Some id) old ls new h = leave-rests m Replace (id ∷ []) old ls (m.policy.remove old.view id) new h

  module _ (target : ℕ) (old : State K V P View) (kept : IsKept m old) (evictions : List (Event × Gone K V P))
      (mid : State K V P View) (evicts : Evicts m target old evictions mid) where
    mid_kept : IsKept m mid
    mid_kept = evicts_keeps m laws good target old evictions mid kept evicts

    rests : Rests m old mid
    rests = leave-rests m Evict (ids_of (evicted m.policy target old.view)) old evictions
        (after_pops m.policy (length (evicted m.policy target old.view)) old.view) mid evicts

    mid_view : mid.view ≡ after_pops m.policy (length (evicted m.policy target old.view)) old.view
    mid_view = leave-view m Evict (ids_of (evicted m.policy target old.view)) old evictions
        (after_pops m.policy (length (evicted m.policy target old.view)) old.view) mid evicts

    mid_pinned : m.policy.pinned mid.view ≡ m.policy.pinned old.view
    mid_pinned = ap m.policy.pinned mid_view ∙ after_pops_pinned m.policy good
        (length (evicted m.policy target old.view)) old.view

    -- the target is met, or all that is left was pinned before
    ended : (usage_of m mid ≤ target) ⊎ IsWithin (m.policy.order mid.view) (m.policy.pinned old.view)
    ended = elim (evicted_ends m.policy good target old.view) [
      | inl e ↦ inl (rw mid_view e)
      | inr e ↦
          (let none : m.policy.pop mid.view ≡ None = rw mid_view e in
          inr (subst (IsWithin (m.policy.order mid.view)) mid_pinned (good.pop_none mid.view none)))
    ]

    -- a pinned record is still under its key
    pinned_stays : (k : ℕ × K) (id : ℕ) → old.index k ≡ Some id → mid.index k ≡ None →
        IsNewIn id (m.policy.pinned old.view)
    pinned_stays k id under none = zero_of (count_of id (m.policy.pinned old.view)) (λ pos.
        let same : count_of id (m.policy.pinned mid.view) ≡ count_of id (m.policy.pinned old.view) =
        ap (count_of id) mid_pinned in
        let t = counted_there m laws good mid mid_kept id (omega (arith, good.pinned_within mid.view (one_if id))) in
        let o = rests.records id t.0 t.1 in
        let alike : same_key m.same k (key_of t.0.kept) ≡ true =
        ap (λ (d : Data K V P). same_key m.same k (key_of d)) o.2 ∙ (kept.indexed k id under).1 o.0 o.1 in
        let e : ◌≡◌ {A = Option ℕ} None (Some id) = sym none ∙ mid_kept.respects k (key_of t.0.kept) alike ∙ t.3 in
        absurd cc)

    module _ (k : ℕ × K) (replaced : List (Event × Gone K V P)) (last : State K V P View) where
      -- the target is met, or all that is left but the key's record was pinned before
      pub left_over : GivesWay m (mid.index k) mid replaced last → (usage_of m last ≤ target)
          ⊎ (usage_of m last ≤ pinned_beside m old k)
      left_over h = go (mid.index k) refl h where
        none : mid.index k ≡ None → (o : Option ℕ) → old.index k ≡ o →
            weight_of (m.policy.pinned old.view) ≤ weight_of (without_own o (m.policy.pinned old.view))
        none e None f = omega arith
        none e (Some id) f = removed_new id (m.policy.pinned old.view) (pinned_stays k id f e)

        go : (o : Option ℕ) → mid.index k ≡ o → GivesWay m o mid replaced last → (usage_of m last ≤ target)
            ⊎ (usage_of m last ≤ pinned_beside m old k)
        go None e h =
            let same : usage_of m last ≡ usage_of m mid = ap (usage_of m) h.1 in
            elim ended [
              | inl low ↦ inl (omega arith)
              | inr within ↦ inr (omega (arith, within (λ (i : Item). i.weight), none e (old.index k) refl))
            ]
        go (Some id) e h =
            let g = gave_way id mid replaced last h in
            let same : usage_of m last ≡ weight_of (remove_id id (m.policy.order mid.view)) = ap (usage_of m) g.2
            ∙ ap weight_of (good.remove_order mid.view id) in
            let own : pinned_beside m old k ≡ weight_of (remove_id id (m.policy.pinned old.view)) =
            ap (λ (o : Option ℕ). weight_of (without_own o (m.policy.pinned old.view))) (rests.index k id e) in
            elim ended [
              | inl low ↦ inl (omega (arith, sum-removed (λ (i : Item). i.weight) id (m.policy.order mid.view)))
              | inr within ↦
                  inr (omega (
                    arith,
                    removed_within id (m.policy.order mid.view) (m.policy.pinned old.view) mid_kept.once
                        within,
                  ))
            ]

  -- so the record's weight is within a `usize`
  pub fits_after : (old : State K V P View) → IsKept m old →
      (d : Data K V P) (evictions : List (Event × Gone K V P)) (mid : State K V P View) →
      Evicts m (old.capacity - d.weight) old evictions mid
      → (replaced : List (Event × Gone K V P)) (last : State K V P View) →
      GivesWay m (mid.index (key_of d)) mid replaced last
      → d.weight + pinned_beside m old (key_of d) < 2 ^ 64 → old.capacity < 2 ^ 64 → d.weight < 2 ^ 64 →
      usage_of m last + d.weight < 2 ^ 64
  fits_after old kept d evictions mid evicts replaced last way room capacity weight =
      elim (left_over (old.capacity - d.weight) old kept evictions mid evicts (key_of d) replaced last way) [
        | inl low ↦ omega arith
        | inr low ↦ omega arith
      ]

  module _ (source : Source) (old : State K V P View) (kept : IsKept m old) (inc : Incoming K V P)
      (ls : List (Event × Gone K V P)) (entry : Held K V P) (new : State K V P View)
      (inserts : InsertsPlain m source old inc ls entry new) where
    -- the usage is within the capacity, or is that of the record and of what was pinned
    pub usage_after : usage_of m new ≤ max old.capacity (inc.kept.weight + weight_of (m.policy.pinned old.view))
    usage_after =
        let same : usage_of m new ≡ inc.kept.weight + usage_of m inserts.last = ap (usage_of m) inserts.after
        ∙ push_weight m laws good inserts.last inc in
        elim (left_over (old.capacity - inc.kept.weight) old kept inserts.evictions inserts.mid inserts.evicts
        (key_of inc.kept) inserts.replaced inserts.last inserts.gives_way) [
          | inl low ↦ omega arith
          | inr low ↦ omega (arith, beside (old.index (key_of inc.kept)))
        ]
      where
        beside : (o : Option ℕ) → weight_of (without_own o (m.policy.pinned old.view)) ≤ weight_of
            (m.policy.pinned old.view)
        beside None = omega arith
        beside (Some id) = sum-removed (λ (i : Item). i.weight) id (m.policy.pinned old.view)
