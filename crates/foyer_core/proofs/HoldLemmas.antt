-- A new record that is held and does not come into the index: what the fields stand for then.
use Rattle.std.proofs.Common.{◌≡◌, ◌≢◌, ℕ, ◌+◌, ◌<◌, ◌≤◌, ◌⊎◌, max, inl, inr, Option, Some, None, true, false, true≢false, nat_eq, refl, sym, ◌∙◌, ap, subst, arith}
use Rattle.std.proofs.Math.Logic.{∥∥₁_map}
use Rattle.std.specs.Prelude.{option_map, option_and_then, is_some}
use Rattle.std.specs.Map.{update}
use Rattle.std.proofs.lemmas.Map.{update_here, update_apart}
use Rattle.std.proofs.lemmas.Bool.Decides.{eqb_tells}
use Rattle.foyer_policy.specs.Items.{count_of}
use Rattle.foyer_core.specs.declared.records.Records.{Records}
use Rattle.foyer_core.specs.Values.{Kept, Rec, Incoming}
use Rattle.foyer_core.specs.Table.{rec_of}
use Rattle.foyer_core.specs.Records.{slot_in, record_in, id_in}
use Rattle.foyer_core.specs.State.{Meaning, State, IsKept}
use Rattle.foyer_core.specs.Stored.{IsStored, state}
use Rattle.foyer_core.specs.Steps.{after_hold}
use Rattle.foyer_core.proofs.Pushing.{out_new}
use Rattle.foyer_core.proofs.ShardLemmas.{Holding, now_of}
use Rattle.foyer_core.proofs.States.{same_state}
use Rattle.foyer_core.proofs.StoredLemmas.{items_write, item_outside}

-- it keeps what a shard keeps
module _ {K V P View C : Type 0} (m : Meaning K P View C) (s : State K V P View) (kept : IsKept m s)
    (i : Incoming K V P) (out_of : (r : Rec K V P) → s.records i.id ≡ Some r → r.resident ≡ false) where
  abbrev held_record : Rec K V P
  held_record = record { kept = i.kept; handles = i.handles; resident = false }

  record_was : (id : ℕ) (q : Rec K V P) → (after_hold m s i).records id ≡ Some q → ((id ≡ i.id) × (q ≡ held_record))
      ⊎ ((id ≢ i.id) × (s.records id ≡ Some q))
  record_was id q h = elim (eqb_tells id i.id) [
    | inl e ↦ (let now : ◌≡◌ {A = Option (Rec K V P)} (Some held_record) (Some q) =
        sym (update_here s.records i.id (Some held_record))
        ∙ subst (λ (a : ℕ). (after_hold m s i).records a ≡ Some q) (e.1) h in inl (e.1, cc (now)))
    | inr e ↦ inr (e.1, sym (update_apart s.records i.id (Some held_record) id e.1) ∙ h)
  ]

  out_is : (q : Rec K V P) → q ≡ held_record → q.resident ≡ true → ⊥
  out_is q is res = true≢false (sym res ∙ ap (λ (x : Rec K V P). x.resident) is)

  pub hold_keeps : 0 < i.handles → i.handles ≤ s.limits.handles → IsKept m (after_hold m s i)
  hold_keeps held handles = record {
    once = kept.once;
    placed = λ j h. (let old = kept.placed j h in
        let apart : j.id ≢ i.id =
        (λ e. absurd (true≢false (sym old.2 ∙ out_of old.0 (ap s.records (sym e) ∙ old.1)))) in
        (old.0, update_apart s.records i.id (Some held_record) j.id apart ∙ old.1, old.2, old.3, old.4));
    indexed = λ k id h. (let old = kept.indexed k id h in (
      old.0,
      λ q there. elim (record_was id q there) [
        | inl f ↦
            absurd (let none : count_of id (m.policy.order s.view) ≡ 0 =
            subst (λ (a : ℕ). count_of a (m.policy.order s.view) ≡ 0) (sym f.0) (out_new m s kept i.id out_of) in
            let pos = old.0 in omega arith)
        | inr f ↦ old.1 q f.1
      ],
    ));
    resident = λ id q h res. elim (record_was id q h)
        [ inl f ↦ absurd (out_is q f.1 res) | inr f ↦ kept.resident id q f.1 res ];
    respects = kept.respects;
    needed = λ id q h. elim (record_was id q h) [ inl f ↦ inr (rw (f.1) held) | inr f ↦ kept.needed id q f.1 ];
    limited = λ id q h. elim (record_was id q h) [ inl f ↦ rw (f.1) handles | inr f ↦ kept.limited id q f.1 ];
    pinned = λ id q h pos. elim (record_was id q h) [ inl f ↦ rw (f.1) held | inr f ↦ kept.pinned id q f.1 pos ];
    plain = λ id q h res. elim (record_was id q h)
        [ inl f ↦ absurd (out_is q f.1 res) | inr f ↦ kept.plain id q f.1 res ];
    fresh = λ id q h. elim (record_was id q h)
        [ inl f ↦ omega (arith, f.0) | inr f ↦ omega (arith, kept.fresh id q f.1) ];
    fits = kept.fits;
  }

module _ {K V P View C : Type 0} (m : Meaning K P View C) (o : Holding V m) where
  open o use {at, keys, t, number, capacity, limits, view, next, sound, stored}

  module _ (i : Incoming K V P) (n : ℕ) (unled : (q : ℕ × K) (k : ℕ) → keys q ≡ Some k → k ≢ n)
      (x : Kept K V P)
      (x_is : x ≡ record { id = i.id; kept = i.kept; handles = i.handles; resident = false })
      (t' : Records K V P) (slots : (q : ℕ) → slot_in t' q ≡ update nat_eq (slot_in t) n (Some x) q)
      (records : (id : ℕ) → record_in t' id ≡ update nat_eq (record_in t) x.id (Some (rec_of x)) id) where
    here : slot_in t' n ≡ Some x
    here = slots n ∙ update_here (slot_in t) n (Some x)

    other : (k : ℕ) → k ≢ n → slot_in t' k ≡ slot_in t k
    other k apart = slots k ∙ update_apart (slot_in t) n (Some x) k apart

    pub held_stored : at n ≡ None → IsStored m at keys t'
    held_stored free = record {
      led = λ q k h. ap is_some (other k (unled q k h)) ∙ stored.led q k h;
      placed = items_write m (slot_in t) (slot_in t') n (Some x) slots at at stored.placed
          (free ∙ sym (item_outside m x (ap (λ (z : Kept K V P). z.resident) x_is))) (λ p apart. refl);
    }

    held_hit : (q : ℕ × K) → option_and_then (id_in t') (keys q) ≡ option_and_then (id_in t) (keys q)
    held_hit q = go (keys q) refl where
      go : (w : Option ℕ) → keys q ≡ w → option_and_then (id_in t') w ≡ option_and_then (id_in t) w
      go None led = refl
      go (Some k) led = ap (option_map (λ (s : Kept K V P). s.id)) (other k (unled q k led))

    module _ (next' : ℕ) (nexts : next' ≡ max next (i.id + 1)) where
      pub held_after : state number capacity limits view keys t' next' ≡ after_hold m (now_of o) i
      held_after = same_state (state number capacity limits view keys t' next')
          (after_hold m (now_of o) i) refl refl refl refl held_hit
          (λ id. records id ∙ ap (λ (y : Kept K V P). update nat_eq (record_in t) y.id (Some (rec_of y)) id) x_is) nexts

      pub held_kept : ((r : Rec K V P) → record_in t i.id ≡ Some r → r.resident ≡ false) → 0 < i.handles →
          i.handles ≤ limits.handles → ∥ IsKept m (state number capacity limits view keys t' next') ∥₁
      held_kept out held handles = ∥∥₁_map sound
          (λ k. subst (IsKept m) (sym held_after) (hold_keeps m (now_of o) k i out held handles))
