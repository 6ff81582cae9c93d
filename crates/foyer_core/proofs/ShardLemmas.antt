-- What a shard's fields tell of its state, and its steps on them.
use Rattle.std.proofs.Common.{◌≡◌, ℕ, ◌+◌, ◌<◌, Option, Some, true, length, nat_eq, refl, sym, ◌∙◌, ap, subst}
use Rattle.std.proofs.Math.Logic.{∥∥₁_elim, ∥∥₁_map}
use Rattle.std.proofs.Props.{props}
use Rattle.std.specs.Cmp.{IsEquivalence}
use Rattle.std.specs.Map.{update}
use Rattle.std.proofs.lemmas.List.Sorted.{sum_by-IsPermutation, length_permutation}
use Rattle.foyer_policy.specs.Items.{weight_of}
use Rattle.foyer_policy.specs.Policy.{IsPolicy}
use Rattle.foyer_policy.specs.declared.types.Item.{Item}
use Rattle.foyer_core.specs.declared.record.Limits.{Limits}
use Rattle.foyer_core.specs.declared.records.Records.{Records}
use Rattle.foyer_core.specs.Values.{Kept, Rec}
use Rattle.foyer_core.specs.Table.{rec_of}
use Rattle.foyer_core.specs.Records.{slot_in, number_of}
use Rattle.foyer_core.specs.State.{Meaning, State, IsKept, item_of}
use Rattle.foyer_core.specs.Stored.{IsStored, state}
use Rattle.foyer_core.specs.Steps.{after_get}
use Rattle.foyer_core.proofs.Keeps.{indexed_there, get_keeps}
use Rattle.foyer_core.proofs.States.{same_state}
use Rattle.foyer_core.proofs.StoredLemmas.{index_is, slot_record, item_there, count_index}
use Rattle.foyer_core.proofs.TableLemmas.{with_handles, write_records}

-- a shard's fields, and what they keep
pub record Holding {K P View C : Type 0} (V : Type 0) (m : Meaning K P View C) : Type 0 where
  pub at : ℕ → Option Item
  pub keys : ℕ × K → Option ℕ
  pub t : Records K V P
  pub number : ℕ
  pub capacity : ℕ
  pub limits : Limits
  pub view : View
  pub next : ℕ
  pub sound : ∥ IsKept m (state number capacity limits view keys t next) ∥₁
  pub stored : IsStored m at keys t

-- the state that they stand for
abbrev pub now_of : {K V P View C : Type 0} {m : Meaning K P View C} → Holding V m → State K V P View
now_of o = state o.number o.capacity o.limits o.view o.keys o.t o.next

module _ {K V P View C : Type 0} (m : Meaning K P View C) (laws : IsEquivalence m.same) (good : IsPolicy m.policy)
    (o : Holding V m) where
  open o use {at, keys, t, number, capacity, limits, view, next, sound, stored}

  abbrev pub now : State K V P View
  now = now_of o

  -- a key that leads to a slot hits its record
  module _ (k : ℕ × K) (n : ℕ) (led : keys k ≡ Some n) (x : Kept K V P) (there : slot_in t n ≡ Some x) where
    pub hits : now.index k ≡ Some x.id
    hits = index_is m at keys t k n x led there

    pub found : now.records x.id ≡ Some (rec_of x)
    found = slot_record m at keys t n x there

    same_rec : (a b : Rec K V P) → Some a ≡ Some b → a ≡ b
    same_rec a b h = cc

    resident_by : IsKept m now → x.resident ≡ true
    resident_by k' =
        let r = indexed_there m laws good now k' k x.id hits in
        ap (λ (r : Rec K V P). r.resident) (same_rec (rec_of x) r.0 (sym found ∙ r.1)) ∙ r.2

    pub resident : x.resident ≡ true
    resident = ∥∥₁_elim sound (hlevel props) resident_by

    pub placed : at n ≡ Some (item_of m x.id x.kept)
    placed = item_there m at keys t stored n x there resident

    -- a handle more
    module _ (t' : Records K V P) (view' : View) (viewed : view' ≡ m.policy.acquire view x.id)
        (write : (q : ℕ) → slot_in t' q ≡ update nat_eq (slot_in t) n (Some (with_handles x (x.handles + 1))) q)
        (ids : (q : ℕ) → number_of t' q ≡ number_of t q) where
      pub got_after : state number capacity limits view' keys t' next ≡ after_get m now x.id (rec_of x)
      got_after = same_state (state number capacity limits view' keys t' next)
          (after_get m now x.id (rec_of x)) refl refl refl viewed
          (count_index m at keys t at t' n (x.handles + 1) x there write ids (λ p. refl))
          (write_records (slot_in t) (slot_in t') (number_of t) (number_of t') n t.agree x
          (with_handles x (x.handles + 1)) there refl write ids) refl

      pub got_kept : x.handles < limits.handles → ∥ IsKept m (state number capacity limits view' keys t' next) ∥₁
      got_kept room = ∥∥₁_map sound
          (λ k'. subst (IsKept m) (sym got_after) (get_keeps m laws good now k' x.id (rec_of x) found room))

      got_weight : IsKept m now → weight_of (m.policy.order view') ≡ weight_of (m.policy.order view)
      got_weight k' = ap (λ (v : View). weight_of (m.policy.order v)) viewed
          ∙ sum_by-IsPermutation (λ (i : Item). i.weight) (m.policy.order view)
          (m.policy.order (m.policy.acquire view x.id)) (good.acquire_order view x.id k'.once)

      pub got_counted : (usage : ℕ) → usage ≡ weight_of (m.policy.order view) → usage ≡ weight_of (m.policy.order view')
      got_counted usage h = h ∙ sym (∥∥₁_elim sound (hlevel props) got_weight)

      got_length : IsKept m now → length (m.policy.order view') ≡ length (m.policy.order view)
      got_length k' = ap (λ (v : View). length (m.policy.order v)) viewed
          ∙ length_permutation (m.policy.order view) (m.policy.order (m.policy.acquire view x.id))
          (good.acquire_order view x.id k'.once)

      pub got_entries : (entries : ℕ) → entries ≡ length (m.policy.order view) → entries ≡ length (m.policy.order view')
      got_entries entries h = h ∙ sym (∥∥₁_elim sound (hlevel props) got_length)
