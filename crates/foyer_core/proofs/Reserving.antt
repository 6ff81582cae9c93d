-- A shard with more room is the shard that it was.
use Rattle.std.proofs.Common.{◌≡◌, ℕ, Option, refl, sym, ◌∙◌, ap, subst}
use Rattle.std.proofs.Math.Path.{fun_ext}
use Rattle.std.specs.Prelude.{option_map, option_and_then, is_some}
use Rattle.foyer_policy.specs.declared.types.Item.{Item}
use Rattle.foyer_core.specs.declared.records.Records.{Records}
use Rattle.foyer_core.specs.Values.{Kept}
use Rattle.foyer_core.specs.Table.{rec_of}
use Rattle.foyer_core.specs.Records.{slot_in, number_of, record_in, id_in}
use Rattle.foyer_core.specs.State.{Meaning, State, IsKept}
use Rattle.foyer_core.specs.Stored.{IsStored, item_in, state}
use Rattle.foyer_core.proofs.ShardLemmas.{Holding, now_of}
use Rattle.foyer_core.proofs.States.{same_state}

and_then_alike : {A B : Type 0} (f g : A → Option B) (o : Option A) → ((a : A) → f a ≡ g a) → option_and_then f o
    ≡ option_and_then g o
and_then_alike f g o same = ap (λ h. option_and_then h o) (fun_ext same)

module _ {K V P View C : Type 0} (m : Meaning K P View C) (o : Holding V m) where
  open o use {at, keys, t, number, capacity, limits, view, next, sound, stored}

  module _ (t' : Records K V P) (slots : (n : ℕ) → slot_in t' n ≡ slot_in t n) where
    pub reserved_stored : (at' : ℕ → Option Item) → ((p : ℕ) → at' p ≡ at p) → IsStored m at' keys t'
    reserved_stored at' places = record {
      led = λ q n h. ap is_some (slots n) ∙ stored.led q n h;
      placed = λ n. places n ∙ stored.placed n ∙ ap (item_in m) (sym (slots n));
    }

    module _ (ids : (id : ℕ) → number_of t' id ≡ number_of t id) (view' : View) (viewed : view' ≡ view) where
      reserved_record : (id : ℕ) → record_in t' id ≡ record_in t id
      reserved_record id = ap (option_map rec_of)
          (ap (option_and_then (slot_in t')) (ids id) ∙ and_then_alike (slot_in t') (slot_in t) (number_of t id) slots)

      reserved_hit : (q : ℕ × K) → option_and_then (id_in t') (keys q) ≡ option_and_then (id_in t) (keys q)
      reserved_hit q = and_then_alike (id_in t') (id_in t) (keys q)
          (λ n. ap (option_map (λ (s : Kept K V P). s.id)) (slots n))

      pub reserved_same : state number capacity limits view' keys t' next ≡ now_of o
      reserved_same = same_state (state number capacity limits view' keys t' next) (now_of o) refl refl refl viewed
          reserved_hit reserved_record refl

      pub reserved_kept : ∥ IsKept m (state number capacity limits view' keys t' next) ∥₁
      reserved_kept = subst (λ (s : State K V P View). ∥ IsKept m s ∥₁) (sym reserved_same) sound
