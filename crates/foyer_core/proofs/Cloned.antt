-- A shard that counts more handles of a record, of which the policy is not told.
use Rattle.std.proofs.Common.{◌≡◌, ℕ, ◌+◌, ◌<◌, ◌≤◌, Option, Some, Bool, true, false, true≢false, nat_eq, refl, sym, ◌∙◌, ap, subst, inr, arith}
use Rattle.std.proofs.Math.Logic.{∥∥₁_elim, ∥∥₁_map}
use Rattle.std.proofs.Props.{props}
use Rattle.std.specs.Prelude.{not, option_map, option_and_then, ◌↔◌}
use Rattle.std.specs.Cmp.{IsEquivalence}
use Rattle.std.specs.Map.{update}
use Rattle.std.proofs.lemmas.List.Sorted.{IsPermutation-refl}
use Rattle.foyer_policy.specs.Items.{count_of}
use Rattle.foyer_policy.specs.Policy.{IsPolicy}
use Rattle.foyer_core.specs.declared.records.Records.{Records}
use Rattle.foyer_core.specs.Values.{Kept, Rec}
use Rattle.foyer_core.specs.Table.{rec_of}
use Rattle.foyer_core.specs.Records.{slot_in, number_of, record_in}
use Rattle.foyer_core.specs.State.{Meaning, State, IsKept}
use Rattle.foyer_core.specs.Stored.{IsStored, state}
use Rattle.foyer_core.specs.Steps.{after_handle, after_handles, IsOutdated}
use Rattle.foyer_core.proofs.GivingBack.{named_id}
use Rattle.foyer_core.proofs.Handles.{stands_some, change_keeps}
use Rattle.foyer_core.proofs.Keeps.{counted_there, indexed_there}
use Rattle.foyer_core.proofs.ShardLemmas.{Holding, now_of}
use Rattle.foyer_core.proofs.States.{same_state}
use Rattle.foyer_core.proofs.StoredLemmas.{slot_record, count_index, count_stored}
use Rattle.foyer_core.proofs.TableLemmas.{with_handles, write_records}

pub tells_not : (b : Bool) (A : Type 0) → b ≡ false ↔ A → not b ≡ true ↔ A
tells_not true A h = (λ e. absurd cc, λ a. let e = h.1 a in absurd cc)
tells_not false A h = (λ e. h.0 refl, λ a. refl)

-- the record of an id that names a slot
pub record_named : {K V P : Type 0} (t : Records K V P) (id n : ℕ) → number_of t id ≡ Some n → (x : Kept K V P) →
    slot_in t n ≡ Some x → record_in t id ≡ Some (rec_of x)
record_named t id n named x there = ap (λ (o : Option ℕ). option_map rec_of (option_and_then (slot_in t) o)) named
    ∙ ap (option_map rec_of) there

module _ {K V P View C : Type 0} (m : Meaning K P View C) where
  pub handles_keep : (s : State K V P View) → IsKept m s → (id : ℕ) (r : Rec K V P) (more : ℕ) → s.records id ≡ Some r
      → 0 < more → r.handles + more ≤ s.limits.handles → IsKept m (after_handles s id more r)
  handles_keep s kept id r more there some room =
      change_keeps m s kept id r there s.view (Some (record r { handles = r.handles + more }))
      (IsPermutation-refl (m.policy.order s.view)) (λ j apart pos. pos)
      (stands_some s.limits.handles (count_of id (m.policy.pinned s.view)) r (r.handles + more)
      (inr (omega (arith, some))) (omega (arith, room)) (λ pos. omega (arith, some)))

  module _ (laws : IsEquivalence m.same) (good : IsPolicy m.policy) (o : Holding V m) (n : ℕ) (x : Kept K V P) where
    open o use {at, keys, t, number, capacity, limits, view, next, sound, stored}

    module _ (there : slot_in t n ≡ Some x) where
      there_record : (now_of o).records x.id ≡ Some (rec_of x)
      there_record = slot_record m at keys t n x there

      module _ (more : ℕ) (t' : Records K V P)
          (write : (q : ℕ) → slot_in t' q ≡ update nat_eq (slot_in t) n (Some (with_handles x (x.handles + more))) q)
          (ids : (q : ℕ) → number_of t' q ≡ number_of t q) where
        pub gained_after : state number capacity limits view keys t' next
            ≡ after_handles (now_of o) x.id more (rec_of x)
        gained_after = same_state (state number capacity limits view keys t' next)
            (after_handles (now_of o) x.id more (rec_of x)) refl refl refl refl
            (count_index m at keys t at t' n (x.handles + more) x there write ids (λ p. refl))
            (write_records (slot_in t) (slot_in t') (number_of t) (number_of t') n t.agree x
            (with_handles x (x.handles + more)) there refl write ids) refl

        pub gained_kept : 0 < more → x.handles + more ≤ limits.handles →
            ∥ IsKept m (state number capacity limits view keys t' next) ∥₁
        gained_kept some room = ∥∥₁_map sound
            (λ k. subst (IsKept m) (sym gained_after)
            (handles_keep (now_of o) k x.id (rec_of x) more there_record some room))

        pub gained_stored : IsStored m at keys t'
        gained_stored = count_stored m at keys t at t' n (x.handles + more) x there write ids (λ p. refl) stored

      module _ (t' : Records K V P)
          (write : (q : ℕ) → slot_in t' q ≡ update nat_eq (slot_in t) n (Some (with_handles x (x.handles + 1))) q)
          (ids : (q : ℕ) → number_of t' q ≡ number_of t q) where
        pub cloned_after : state number capacity limits view keys t' next ≡ after_handle (now_of o) x.id (rec_of x)
        cloned_after = gained_after 1 t' write ids

        pub cloned_named : (id : ℕ) → number_of t id ≡ Some n → state number capacity limits view keys t' next
            ≡ after_handle (now_of o) id (rec_of x)
        cloned_named id named = subst
            (λ (a : ℕ). state number capacity limits view keys t' next ≡ after_handle (now_of o) a (rec_of x))
            (named_id t id n named x there) cloned_after

        pub cloned_kept : x.handles < limits.handles → ∥ IsKept m (state number capacity limits view keys t' next) ∥₁
        cloned_kept room = gained_kept 1 t' write ids (omega arith) (omega (arith, room))

        pub cloned_stored : IsStored m at keys t'
        cloned_stored = gained_stored 1 t' write ids

      -- a record is in the index exactly where its slot says so
      resident_of : (r : Rec K V P) → (now_of o).records x.id ≡ Some r → r.resident ≡ x.resident
      resident_of r h =
          (let same : rec_of x ≡ r = (let e : Some (rec_of x) ≡ Some r = sym there_record ∙ h in cc) in
          ap (λ (q : Rec K V P). q.resident) (sym same))

      out_by : IsKept m (now_of o) → x.resident ≡ false → IsOutdated (now_of o) x.id
      out_by k out q h =
          absurd (let r = indexed_there m laws good (now_of o) k q x.id h in
          true≢false (sym r.2 ∙ resident_of r.0 r.1 ∙ out))

      in_by : IsKept m (now_of o) → IsOutdated (now_of o) x.id → x.resident ≡ false
      in_by k outdated = go x.resident refl where
        go : (b : Bool) → x.resident ≡ b → b ≡ false
        go false e = refl
        go true e =
            absurd (let r = counted_there m laws good (now_of o) k x.id (k.resident x.id (rec_of x) there_record e) in
            outdated _ r.3)

      pub outdated_tells : x.resident ≡ false ↔ IsOutdated (now_of o) x.id
      outdated_tells = (
        λ out. ∥∥₁_elim sound (hlevel props) (λ k. out_by k out),
        λ outdated. ∥∥₁_elim sound (hlevel props) (λ k. in_by k outdated),
      )
