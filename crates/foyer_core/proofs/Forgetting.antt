-- A shard that forgets a record with one handle, which is not in the index.
use Rattle.std.proofs.Common.{◌≡◌, ℕ, ◌-◌, ◌==◌, ◌&&◌, Option, Some, None, Bool, true, false, true≢false, cond, nat_eq, refl, sym, ◌∙◌, ap, subst, inl, inr, arith}
use Rattle.std.proofs.Math.Logic.{∥∥₁_map}
use Rattle.std.proofs.Math.Path.{ap₂}
use Rattle.std.specs.Prelude.{not, option_map, option_and_then, is_some}
use Rattle.std.specs.Cmp.{IsEquivalence}
use Rattle.std.specs.Map.{update}
use Rattle.std.proofs.lemmas.Map.{update_apart}
use Rattle.std.proofs.lemmas.Bool.Decides.{eqb_tells}
use Rattle.foyer_policy.specs.Policy.{IsPolicy}
use Rattle.foyer_policy.specs.declared.types.Event.{Event}
use Rattle.foyer_policy.specs.declared.types.Event.TheVariants.{Evict}
use Rattle.foyer_core.specs.declared.records.Records.{Records}
use Rattle.foyer_core.specs.Values.{Kept, Gone}
use Rattle.foyer_core.specs.Table.{rec_of}
use Rattle.foyer_core.specs.Records.{slot_in, record_in, id_in}
use Rattle.foyer_core.specs.State.{Meaning, IsKept, is_phantom_record}
use Rattle.foyer_core.specs.Stored.{IsStored, item_in, state}
use Rattle.foyer_core.specs.Steps.{GivesBack, after_give_back, last_leave}
use Rattle.foyer_core.proofs.Keeps.{give_back_keeps}
use Rattle.foyer_core.proofs.ShardLemmas.{Holding, now_of, resident}
use Rattle.foyer_core.proofs.States.{same_state}
use Rattle.foyer_core.proofs.StoredLemmas.{slot_record, items_write, item_outside}

module _ {K V P View C : Type 0} (m : Meaning K P View C) (laws : IsEquivalence m.same) (good : IsPolicy m.policy)
    (o : Holding V m) where
  open o use {at, keys, t, number, capacity, limits, view, next, sound, stored}

  module _ (n : ℕ) (x : Kept K V P) (there : slot_in t n ≡ Some x) (out : x.resident ≡ false)
      (t' : Records K V P) (slots : (q : ℕ) → slot_in t' q ≡ update nat_eq (slot_in t) n None q) where
    -- no key leads to it
    other : (q : ℕ × K) (k : ℕ) → keys q ≡ Some k → slot_in t' k ≡ slot_in t k
    other q k led = elim (eqb_tells k n) [
      | inl e ↦
          absurd (true≢false
          (sym (resident m laws good o q n (subst (λ (a : ℕ). keys q ≡ Some a) e.1 led) x there) ∙ out))
      | inr e ↦ slots k ∙ update_apart (slot_in t) n None k e.1
    ]

    pub forgot_stored : IsStored m at keys t'
    forgot_stored = record {
      led = λ q k led. ap is_some (other q k led) ∙ stored.led q k led;
      placed = items_write m (slot_in t) (slot_in t') n None slots at at stored.placed
          (stored.placed n ∙ ap (item_in m) there ∙ item_outside m x out) (λ p apart. refl);
    }

    forgot_hit : (q : ℕ × K) → option_and_then (id_in t') (keys q) ≡ option_and_then (id_in t) (keys q)
    forgot_hit q = go (keys q) refl where
      go : (w : Option ℕ) → keys q ≡ w → option_and_then (id_in t') w ≡ option_and_then (id_in t) w
      go None led = refl
      go (Some k) led = ap (option_map (λ (s : Kept K V P). s.id)) (other q k led)

    module _ (records : (id : ℕ) → record_in t' id ≡ update nat_eq (record_in t) x.id None id)
        (one : x.handles ≡ 1) where
      is_one : (x.handles == 1) ≡ true
      is_one = ap (λ (h : ℕ). h == 1) one

      after_is : after_give_back m (now_of o) x.id (rec_of x)
          ≡ record (now_of o) { records = update nat_eq (record_in t) x.id None }
      after_is = ap₂ (λ (a b : Bool). cond a
          (cond b
          (record (now_of o) {
            view = m.policy.release view x.id;
            records =
                update nat_eq (record_in t) x.id
                (Some (record { kept = x.kept; handles = 0; resident = x.resident }));
          })
          (record (now_of o) { records = update nat_eq (record_in t) x.id None }))
          (record (now_of o)
          { records = update nat_eq (record_in t) x.id (Some (record (rec_of x) { handles = x.handles - 1 })) }))
          is_one out

      forgot_after : state number capacity limits view keys t' next ≡ after_give_back m (now_of o) x.id (rec_of x)
      forgot_after = same_state (state number capacity limits view keys t' next)
          (record (now_of o) { records = update nat_eq (record_in t) x.id None }) refl refl refl refl forgot_hit
          records refl ∙ sym after_is

      pub forgot_kept : ∥ IsKept m (state number capacity limits view keys t' next) ∥₁
      forgot_kept = ∥∥₁_map sound
          (λ k. subst (IsKept m) (sym forgot_after)
          (give_back_keeps m laws good (now_of o) k x.id (rec_of x) (slot_record m at keys t n x there)
          (omega (arith, one))))

      -- what leaves where it is phantom
      abbrev pub phantom_leave : Event × Gone K V P
      phantom_leave = (Evict, record { number = number; id = x.id; kept = x.kept })

      leaves_is : (b : Bool) → is_phantom_record m x.kept ≡ b → cond b (Some phantom_leave) None
          ≡ last_leave m number x.id (rec_of x)
      leaves_is b phantom = ap (λ (w : Bool). cond w (Some phantom_leave) None)
          (sym (ap₂ (λ (a c : Bool). a && (not c && is_phantom_record m x.kept)) is_one out ∙ phantom))

      pub forgot_gives : (b : Bool) → is_phantom_record m x.kept ≡ b → (s : Kept K V P) → slot_in t n ≡ Some s
          → GivesBack m (now_of o) s.id (cond b (Some phantom_leave) None)
          (state number capacity limits view keys t' next)
      forgot_gives b phantom s is =
          let same : x ≡ s = cc (there, is) in
          subst (λ (y : Kept K V P). GivesBack m (now_of o) y.id (cond b (Some phantom_leave) None)
          (state number capacity limits view keys t' next)) same record {
            rec = rec_of x;
            there = slot_record m at keys t n x there;
            held = omega (arith, one);
            leaves = leaves_is b phantom;
            after = forgot_after;
          }
