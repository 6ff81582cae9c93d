-- A new shard's fields.
use Rattle.std.proofs.Common.{◌≡◌, ℕ, Option, Some, None, List, [], length, sym, ◌∙◌, ap}
use Rattle.std.specs.Prelude.{option_map, option_and_then}
use Rattle.std.specs.Cmp.{IsEquivalence}
use Rattle.foyer_policy.specs.Items.{weight_of}
use Rattle.foyer_policy.specs.Policy.{IsPolicy}
use Rattle.foyer_policy.specs.declared.types.Item.{Item}
use Rattle.foyer_core.specs.declared.record.Limits.{Limits}
use Rattle.foyer_core.specs.declared.records.Records.{Records}
use Rattle.foyer_core.specs.Table.{rec_of}
use Rattle.foyer_core.specs.Records.{slot_in, number_of, record_in, id_in}
use Rattle.foyer_core.specs.State.{Meaning, IsKept}
use Rattle.foyer_core.specs.Stored.{IsStored, item_in, state}
use Rattle.foyer_core.proofs.Keeps.{opened_keeps}

module _ {K V P View C : Type 0} (m : Meaning K P View C) (keys : ℕ × K → Option ℕ) (t : Records K V P)
    (no_key : (q : ℕ × K) → keys q ≡ None) (no_slot : (n : ℕ) → slot_in t n ≡ None)
    (no_id : (id : ℕ) → number_of t id ≡ None) where
  pub hits_none : (q : ℕ × K) → option_and_then (id_in t) (keys q) ≡ None
  hits_none q = ap (option_and_then (id_in t)) (no_key q)

  pub records_none : (id : ℕ) → record_in t id ≡ None
  records_none id = ap (λ (o : Option ℕ). option_map rec_of (option_and_then (slot_in t) o)) (no_id id)

  pub opened_stored : (at : ℕ → Option Item) → ((n : ℕ) → at n ≡ None) → IsStored m at keys t
  opened_stored at free = record {
    led = λ q n h. absurd (let e : ◌≡◌ {A = Option ℕ} None (Some n) = sym (no_key q) ∙ h in cc);
    placed = λ n. free n ∙ ap (item_in m) (sym (no_slot n));
  }

  module _ (laws : IsEquivalence m.same) (good : IsPolicy m.policy) (capacity : ℕ) (config : C) (view : View)
      (sound : m.policy.fault config ≡ None) (opens : view ≡ m.policy.opening capacity config) where
    pub opened_kept : (number : ℕ) (limits : Limits) → ∥ IsKept m (state number capacity limits view keys t 0) ∥₁
    opened_kept number limits = ∣ opened_keeps m laws good (state number capacity limits view keys t 0) capacity
        config sound opens hits_none records_none ∣₁

    opened_order : m.policy.order view ≡ []
    opened_order = ap m.policy.order opens ∙ good.opening_order capacity config sound

    pub opened_weight : 0 ≡ weight_of (m.policy.order view)
    opened_weight = sym (ap weight_of opened_order)

    pub opened_entries : 0 ≡ length (m.policy.order view)
    opened_entries = sym (ap (λ (l : List Item). length l) opened_order)
