-- A record that leaves by its id: what the fields stand for then.
use Rattle.std.proofs.Common.{◌≡◌, ℕ, ◌<◌, Option, Some, None, true, nat_eq, refl, sym, ◌∙◌, ap, subst}
use Rattle.std.proofs.Math.Logic.{∥∥₁_elim, ∥∥₁_map}
use Rattle.std.proofs.Props.{props}
use Rattle.std.specs.Prelude.{option_and_then, option_map, is_some}
use Rattle.std.specs.Cmp.{IsEquivalence}
use Rattle.std.specs.Map.{update}
use Rattle.foyer_policy.specs.Items.{count_of}
use Rattle.foyer_policy.specs.Policy.{IsPolicy, without}
use Rattle.foyer_policy.specs.declared.types.Item.{Item}
use Rattle.foyer_core.specs.declared.records.Records.{Records}
use Rattle.foyer_core.specs.Values.{Kept, Rec}
use Rattle.foyer_core.specs.Indexer.{same_key}
use Rattle.foyer_core.specs.Table.{rec_of, slot_outside}
use Rattle.foyer_core.specs.Records.{slot_in, number_of, record_in, id_in}
use Rattle.foyer_core.specs.State.{Meaning, State, IsKept, key_of}
use Rattle.foyer_core.specs.Stored.{IsStored, state}
use Rattle.foyer_core.specs.Steps.{after_out, outside}
use Rattle.foyer_core.proofs.Keeps.{counted_there, removed_keeps}
use Rattle.foyer_core.proofs.LeftLemmas.{left_index, left_stored}
use Rattle.foyer_core.proofs.ShardLemmas.{Holding, now_of, hits}
use Rattle.foyer_core.proofs.States.{same_state}
use Rattle.foyer_core.proofs.StoredLemmas.{slot_record}
use Rattle.foyer_core.proofs.TableLemmas.{id_by-some, id_by-there}

some_number : (a b : ℕ) → Some a ≡ Some b → a ≡ b
some_number a b h = cc

module _ {K V P View C : Type 0} (m : Meaning K P View C) (laws : IsEquivalence m.same) (good : IsPolicy m.policy)
    (o : Holding V m) where
  open o use {at, keys, t, number, capacity, limits, view, next, sound}

  abbrev now : State K V P View
  now = now_of o

  module _ (id : ℕ) (in_order : 0 < count_of id (m.policy.order view)) where
    known_by : IsKept m now → is_some (number_of t id) ≡ true
    known_by k' = go (number_of t id) ((counted_there m laws good now k' id in_order).1) where
      go : (w : Option ℕ) → option_map rec_of (option_and_then (slot_in t) w)
          ≡ Some (counted_there m laws good now k' id in_order).0 → is_some w ≡ true
      go None h = absurd cc
      go (Some n) h = refl

    pub out_known : is_some (number_of t id) ≡ true
    out_known = ∥∥₁_elim sound (hlevel props) known_by

    module _ (n : ℕ) (known : number_of t id ≡ Some n) where
      pub out_there : is_some (slot_in t n) ≡ true
      out_there = id_by-there (slot_in t) n id (t.agree.named id n known)

      module _ (x : Kept K V P) (there : slot_in t n ≡ Some x) where
        pub out_id : x.id ≡ id
        out_id = some_number x.id id (sym (id_by-some (slot_in t) n x there) ∙ t.agree.named id n known)

        pub out_record : now.records id ≡ Some (rec_of x)
        out_record = ap (record_in t) (sym out_id) ∙ slot_record m at keys t n x there

        leads : (w : Option ℕ) → option_and_then (id_in t) w ≡ Some id → w ≡ Some n
        leads None h = absurd cc
        leads (Some j) h = ap (λ (a : ℕ). Some a) (some_number j n (sym (t.agree.known j id h) ∙ known))

        led_by : IsKept m now → keys (key_of x.kept) ≡ Some n
        led_by k' =
            let c = counted_there m laws good now k' id in_order in
            let same : c.0 ≡ rec_of x = (let e : Some c.0 ≡ Some (rec_of x) = sym c.1 ∙ out_record in cc) in
            leads (keys (key_of x.kept)) (subst (λ (r : Rec K V P). now.index (key_of r.kept) ≡ Some id) same c.3)

        -- its key leads to it
        pub out_led : keys (key_of x.kept) ≡ Some n
        out_led = ∥∥₁_elim sound (hlevel props) led_by

        module _ (t' : Records K V P)
            (write : (q : ℕ) → slot_in t' q ≡ update nat_eq (slot_in t) n (slot_outside x) q)
            (recs : (j : ℕ) → record_in t' j ≡ update nat_eq (record_in t) x.id (outside (rec_of x)) j)
            (at' : ℕ → Option Item) (places : (p : ℕ) → at' p ≡ without x.id (at p)) (keys' : ℕ × K → Option ℕ)
            (gone : (q : ℕ × K) → keys' q ≡ update (same_key m.same) keys (key_of x.kept) None q)
            (view' : View) (viewed : view' ≡ m.policy.remove view id) where
          pub out_after : state number capacity limits view' keys' t' next
              ≡ record (after_out m now id (rec_of x)) { view = m.policy.remove view id }
          out_after = same_state (state number capacity limits view' keys' t' next)
              (record (after_out m now id (rec_of x)) { view = m.policy.remove view id }) refl refl refl viewed
              (left_index m laws good o n x there (slot_in t') write at' places keys' gone)
              (λ j. recs j ∙ ap (λ (a : ℕ). update nat_eq (record_in t) a (outside (rec_of x)) j) out_id) refl

          pub out_kept : ∥ IsKept m (state number capacity limits view' keys' t' next) ∥₁
          out_kept = ∥∥₁_map sound (λ k'. subst (IsKept m) (sym out_after)
              (removed_keeps m laws good now k' (key_of x.kept) id
              (hits m laws good o (key_of x.kept) n out_led x there ∙ ap (λ (a : ℕ). Some a) out_id) (rec_of x)
              out_record))

          pub out_stored : IsStored m at' keys' t'
          out_stored =
              (let l = left_stored m laws good o n x there (slot_in t') write at' places keys' gone in
              record { led = l.led; placed = l.placed })
