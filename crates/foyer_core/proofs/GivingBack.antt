-- A shard that takes a handle back, of a record that stays.
use Rattle.std.proofs.Common.{◌≡◌, ℕ, ◌-◌, ◌<◌, ◌==◌, ◌&&◌, Option, Some, None, Bool, true, false, cond, length, nat_eq, refl, sym, ◌∙◌, ap, subst, arith}
use Rattle.std.proofs.Math.Logic.{∥∥₁_elim, ∥∥₁_map}
use Rattle.std.proofs.Math.Path.{ap₂}
use Rattle.std.proofs.Props.{props}
use Rattle.std.specs.Prelude.{not, is_some}
use Rattle.std.specs.Cmp.{IsEquivalence}
use Rattle.std.specs.Map.{update}
use Rattle.std.proofs.lemmas.Bool.Decides.{nat_tests}
use Rattle.std.proofs.lemmas.List.Sorted.{sum_by-IsPermutation, length_permutation}
use Rattle.foyer_policy.specs.Items.{weight_of}
use Rattle.foyer_policy.specs.Policy.{IsPolicy}
use Rattle.foyer_policy.specs.declared.types.Item.{Item}
use Rattle.foyer_policy.specs.declared.types.Event.{Event}
use Rattle.foyer_policy.specs.declared.types.Event.TheVariants.{Evict}
use Rattle.foyer_core.specs.declared.records.Records.{Records}
use Rattle.foyer_core.specs.Values.{Kept, Gone}
use Rattle.foyer_core.specs.Table.{rec_of}
use Rattle.foyer_core.specs.Records.{slot_in, number_of, record_in}
use Rattle.foyer_core.specs.State.{Meaning, State, IsKept, is_phantom_record}
use Rattle.foyer_core.specs.Stored.{IsStored, state}
use Rattle.foyer_core.specs.Steps.{GivesBack, after_give_back, after_last, last_leave}
use Rattle.foyer_core.proofs.Keeps.{give_back_keeps}
use Rattle.foyer_core.proofs.ShardLemmas.{Holding, now_of}
use Rattle.foyer_core.proofs.States.{same_state}
use Rattle.foyer_core.proofs.StoredLemmas.{slot_record, count_index, count_stored}
use Rattle.foyer_core.proofs.TableLemmas.{id_by-some, id_by-there, with_handles, write_records}

-- the slot that an id names has a record of that id
module _ {K V P : Type 0} (t : Records K V P) (id n : ℕ) (named : number_of t id ≡ Some n) where
  pub named_there : is_some (slot_in t n) ≡ true
  named_there = id_by-there (slot_in t) n id (t.agree.named id n named)

  pub named_id : (x : Kept K V P) → slot_in t n ≡ Some x → x.id ≡ id
  named_id x there =
      (let same : ◌≡◌ {A = Option ℕ} (Some x.id) (Some id) = sym (id_by-some (slot_in t) n x there)
      ∙ t.agree.named id n named in cc)

module _ {K V P View C : Type 0} (m : Meaning K P View C) (laws : IsEquivalence m.same) (good : IsPolicy m.policy)
    (o : Holding V m) where
  open o use {at, keys, t, number, capacity, limits, view, next, sound, stored}

  -- the record with one handle less
  module _ (n : ℕ) (x : Kept K V P) (there : slot_in t n ≡ Some x) (t' : Records K V P)
      (write : (q : ℕ) → slot_in t' q ≡ update nat_eq (slot_in t) n (Some (with_handles x (x.handles - 1))) q)
      (ids : (q : ℕ) → number_of t' q ≡ number_of t q) where
    pub took_stored : (at' : ℕ → Option Item) → ((p : ℕ) → at' p ≡ at p) → IsStored m at' keys t'
    took_stored at' places = count_stored m at keys t at' t' n (x.handles - 1) x there write ids places stored

    abbrev with_left : View → ℕ → State K V P View
    with_left v h = record (now_of o) {
      view = v;
      records = update nat_eq (record_in t) x.id
          (Some (record { kept = x.kept; handles = h; resident = x.resident }));
    }

    took_state : (view' : View) → state number capacity limits view' keys t' next ≡ with_left view' (x.handles - 1)
    took_state view' = same_state (state number capacity limits view' keys t' next)
        (with_left view' (x.handles - 1)) refl refl refl refl
        (count_index m at keys t at t' n (x.handles - 1) x there write ids (λ p. refl))
        (write_records (slot_in t) (slot_in t') (number_of t) (number_of t') n t.agree x
        (with_handles x (x.handles - 1)) there refl write ids) refl

    -- once it is shown what the step makes
    module _ (view' : View) (held : 0 < x.handles)
        (after : state number capacity limits view' keys t' next ≡ after_give_back m (now_of o) x.id (rec_of x)) where
      stays_kept : ∥ IsKept m (state number capacity limits view' keys t' next) ∥₁
      stays_kept = ∥∥₁_map sound
          (λ k. subst (IsKept m) (sym after)
          (give_back_keeps m laws good (now_of o) k x.id (rec_of x) (slot_record m at keys t n x there) held))

      stays_gives : None ≡ last_leave m number x.id (rec_of x) → (id : ℕ) → number_of t id ≡ Some n →
          GivesBack m (now_of o) id None (state number capacity limits view' keys t' next)
      stays_gives leaves id named = subst
          (λ (a : ℕ). GivesBack m (now_of o) a None (state number capacity limits view' keys t' next))
          (named_id t id n named x there) record {
            rec = rec_of x;
            there = slot_record m at keys t n x there;
            held = held;
            leaves = leaves;
            after = after;
          }

    -- there is another one
    module _ (more : 1 < x.handles) where
      not_one : (x.handles == 1) ≡ false
      not_one = grind (arith, nat_tests)

      took_after : state number capacity limits view keys t' next ≡ after_give_back m (now_of o) x.id (rec_of x)
      took_after = took_state view ∙
          sym (ap (λ (b : Bool). cond b (after_last m (now_of o) x.id (rec_of x)) (with_left view (x.handles - 1)))
          not_one)

      pub took_kept : ∥ IsKept m (state number capacity limits view keys t' next) ∥₁
      took_kept = stays_kept view (omega arith) took_after

      pub took_gives : (id : ℕ) → number_of t id ≡ Some n →
          GivesBack m (now_of o) id None (state number capacity limits view keys t' next)
      took_gives = stays_gives view (omega arith) took_after
          (let gone : Event × Gone K V P = (Evict, record { number = number; id = x.id; kept = x.kept }) in
          sym (ap (λ (b : Bool). cond (b && (not x.resident && is_phantom_record m x.kept)) (Some gone) None) not_one))

    -- it was the last one, of a record in the index
    module _ (one : x.handles ≡ 1) (res : x.resident ≡ true) (view' : View)
        (viewed : view' ≡ m.policy.release view x.id) where
      is_one : (x.handles == 1) ≡ true
      is_one = ap (λ (h : ℕ). h == 1) one

      none_left : x.handles - 1 ≡ 0
      none_left = ap (λ (h : ℕ). h - 1) one

      released_after : state number capacity limits view' keys t' next ≡ after_give_back m (now_of o) x.id (rec_of x)
      released_after = took_state view' ∙ ap₂ with_left viewed none_left ∙ sym (ap₂ (λ (a b : Bool). cond a
          (cond b (with_left (m.policy.release view x.id) 0)
          (record (now_of o) { records = update nat_eq (record_in t) x.id None }))
          (with_left view (x.handles - 1))) is_one res)

      pub released_kept : ∥ IsKept m (state number capacity limits view' keys t' next) ∥₁
      released_kept = stays_kept view' (omega (arith, one)) released_after

      pub released_gives : (id : ℕ) → number_of t id ≡ Some n →
          GivesBack m (now_of o) id None (state number capacity limits view' keys t' next)
      released_gives = stays_gives view' (omega (arith, one)) released_after
          (let gone : Event × Gone K V P = (Evict, record { number = number; id = x.id; kept = x.kept }) in
          sym (ap₂ (λ (a b : Bool). cond (a && (not b && is_phantom_record m x.kept)) (Some gone) None) is_one res))

      weight_same : IsKept m (now_of o) → weight_of (m.policy.order view') ≡ weight_of (m.policy.order view)
      weight_same k = ap (λ (v : View). weight_of (m.policy.order v)) viewed
          ∙ sum_by-IsPermutation (λ (i : Item). i.weight) (m.policy.order view)
          (m.policy.order (m.policy.release view x.id)) (good.release_order view x.id k.once)

      pub released_weight : (usage : ℕ) → usage ≡ weight_of (m.policy.order view) → usage
          ≡ weight_of (m.policy.order view')
      released_weight usage h = h ∙ sym (∥∥₁_elim sound (hlevel props) weight_same)

      length_same : IsKept m (now_of o) → length (m.policy.order view') ≡ length (m.policy.order view)
      length_same k = ap (λ (v : View). length (m.policy.order v)) viewed
          ∙ length_permutation (m.policy.order view) (m.policy.order (m.policy.release view x.id))
          (good.release_order view x.id k.once)

      pub released_entries : (entries : ℕ) → entries ≡ length (m.policy.order view) → entries
          ≡ length (m.policy.order view')
      released_entries entries h = h ∙ sym (∥∥₁_elim sound (hlevel props) length_same)
