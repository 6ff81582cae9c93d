-- A shard that takes a key's record out: a handle more, and then its leave.
use Rattle.std.proofs.Common.{◌≡◌, ℕ, ◌+◌, ◌-◌, ◌<◌, ◌≤◌, [], ◌∷◌, Option, Some, None, Ok, true, length, List, nat_eq, refl, sym, ◌∙◌, ap, subst, arith}
use Rattle.std.proofs.Math.Logic.{∥∥₁_elim, ∥∥₁_map}
use Rattle.std.proofs.Props.{props}
use Rattle.std.specs.Cmp.{IsEquivalence}
use Rattle.std.specs.Map.{update}
use Rattle.std.proofs.lemmas.Map.{update_here}
use Rattle.foyer_policy.specs.Items.{weight_of}
use Rattle.foyer_policy.specs.Policy.{IsPolicy, without}
use Rattle.foyer_policy.specs.declared.types.Item.{Item}
use Rattle.foyer_policy.specs.declared.types.Event.TheVariants.{Remove}
use Rattle.foyer_policy.specs.declared.types.Source.TheVariants.{Memory}
use Rattle.foyer_core.specs.declared.records.Records.{Records}
use Rattle.foyer_core.specs.Indexer.{same_key}
use Rattle.foyer_core.specs.Values.{Kept, Gone, Held}
use Rattle.foyer_core.specs.Table.{rec_of, slot_outside}
use Rattle.foyer_core.specs.Records.{slot_in, number_of, record_in}
use Rattle.foyer_core.specs.State.{Meaning, State, IsKept, key_of, item_of}
use Rattle.foyer_core.specs.Stored.{IsStored, state}
use Rattle.foyer_core.specs.Steps.{Removes, Leave, after_handle, after_out, entry_of, outside}
use Rattle.foyer_core.proofs.AdmitLemmas.{length-remove_id}
use Rattle.foyer_core.proofs.Cloned.{cloned_after, cloned_kept, cloned_stored}
use Rattle.foyer_core.proofs.Keeps.{indexed_there, removed_keeps, removed_weight}
use Rattle.foyer_core.proofs.Keys.{same_key_laws, update_alike}
use Rattle.foyer_core.proofs.LeftLemmas.{under, left_index, left_stored}
use Rattle.foyer_core.proofs.ShardLemmas.{Holding, now_of, hits, found}
use Rattle.foyer_core.proofs.States.{same_state}
use Rattle.foyer_core.proofs.StoredLemmas.{index_is, slot_record}
use Rattle.foyer_core.proofs.TableLemmas.{with_handles}

pub some_item : {A : Type 0} {a b : A} → Some a ≡ Some b → a ≡ b
some_item h = cc

-- a slot with one handle more
pub more_there : {K V P : Type 0} (t t1 : Records K V P) (n : ℕ) (x : Kept K V P) →
    ((q : ℕ) → slot_in t1 q ≡ update nat_eq (slot_in t) n (Some (with_handles x (x.handles + 1))) q) → slot_in t1 n
    ≡ Some (with_handles x (x.handles + 1))
more_there t t1 n x write = write n ∙ update_here (slot_in t) n (Some (with_handles x (x.handles + 1)))

module _ {K V P View C : Type 0} (m : Meaning K P View C) (laws : IsEquivalence m.same) (good : IsPolicy m.policy)
    (o : Holding V m) where
  open o use {at, keys, t, number, capacity, limits, view, next, sound, stored}

  module _ (k : ℕ × K) (n : ℕ) (led : keys k ≡ Some n) (x : Kept K V P) (there : slot_in t n ≡ Some x) where
    weight_by : IsKept m (now_of o) → weight_of (m.policy.order (m.policy.remove view x.id)) + x.kept.weight
        ≡ weight_of (m.policy.order view)
    weight_by k' = removed_weight m laws good (now_of o) k' k x.id (hits m laws good o k n led x there) (rec_of x)
        (found m laws good o k n led x there)

    pub removed_lighter : (usage : ℕ) → usage ≡ weight_of (m.policy.order view) → x.kept.weight ≤ usage
    removed_lighter usage h = ∥∥₁_elim sound (hlevel props) (λ k'. omega (arith, weight_by k'))

    pub removed_usage : (usage : ℕ) → usage ≡ weight_of (m.policy.order view) → usage - x.kept.weight
        ≡ weight_of (m.policy.order (m.policy.remove view x.id))
    removed_usage usage h = ∥∥₁_elim sound (hlevel props) (λ k'. omega (arith, weight_by k'))

    shorter_by : IsKept m (now_of o) → length (m.policy.order (m.policy.remove view x.id)) + 1
        ≡ length (m.policy.order view)
    shorter_by k' =
        let f = indexed_there m laws good (now_of o) k' k x.id (hits m laws good o k n led x there) in
        ap (λ (l : List Item). length l + 1) (good.remove_order view x.id)
        ∙ length-remove_id x.id (item_of m x.id f.0.kept) (m.policy.order view) f.4

    pub removed_entries : (entries : ℕ) → entries ≡ length (m.policy.order view) → entries - 1
        ≡ length (m.policy.order (m.policy.remove view x.id))
    removed_entries entries h = ∥∥₁_elim sound (hlevel props) (λ k'. omega (arith, shorter_by k'))

    module _ (room : x.handles < limits.handles) (t1 t2 : Records K V P)
        (write1 : (q : ℕ) → slot_in t1 q ≡ update nat_eq (slot_in t) n (Some (with_handles x (x.handles + 1))) q)
        (ids1 : (q : ℕ) → number_of t1 q ≡ number_of t q)
        (write2 : (q : ℕ) → slot_in t2 q ≡ update nat_eq (slot_in t1) n
        (slot_outside (with_handles x (x.handles + 1))) q)
        (recs2 : (id : ℕ) → record_in t2 id ≡ update nat_eq (record_in t1) x.id
        (outside (rec_of (with_handles x (x.handles + 1)))) id)
        (keys' : ℕ × K → Option ℕ) (taken : (q : ℕ × K) → keys' q ≡ update (same_key m.same) keys k None q)
        (at' : ℕ → Option Item) (places : (p : ℕ) → at' p ≡ without x.id (at p))
        (view' : View) (viewed : view' ≡ m.policy.remove view x.id) where
      abbrev more : Kept K V P
      more = with_handles x (x.handles + 1)

      -- the shard with one handle more
      abbrev mid : Holding V m
      mid = record {
        at = at;
        keys = keys;
        t = t1;
        number = number;
        capacity = capacity;
        limits = limits;
        view = view;
        next = next;
        sound = cloned_kept m laws good o n x there t1 write1 ids1 room;
        stored = cloned_stored m laws good o n x there t1 write1 ids1;
      }

      there1 : slot_in t1 n ≡ Some more
      there1 = more_there t t1 n x write1

      record1 : (now_of mid).records x.id ≡ Some (rec_of more)
      record1 = slot_record m at keys t1 n more there1

      hits1 : (now_of mid).index k ≡ Some x.id
      hits1 = index_is m at keys t1 k n more led there1

      alike : same_key m.same k (key_of x.kept) ≡ true
      alike = (same_key_laws m.same laws).symm k (key_of x.kept) ∙ under m laws good mid n more there1 k led

      gone : (q : ℕ × K) → keys' q ≡ update (same_key m.same) keys (key_of x.kept) None q
      gone = update_alike (same_key m.same) (same_key_laws m.same laws) keys keys' k (key_of x.kept) None alike taken

      after : state number capacity limits view' keys' t2 next
          ≡ record (after_out m (now_of mid) x.id (rec_of more)) { view = m.policy.remove view x.id }
      after = same_state (state number capacity limits view' keys' t2 next)
          (record (after_out m (now_of mid) x.id (rec_of more)) { view = m.policy.remove view x.id }) refl refl refl
          viewed
          (left_index m laws good mid n more there1 (slot_in t2) write2 at' places keys' gone) recs2 refl

      pub removed_kept : ∥ IsKept m (state number capacity limits view' keys' t2 next) ∥₁
      removed_kept = ∥∥₁_map mid.sound
          (λ k'. subst (IsKept m) (sym after)
          (removed_keeps m laws good (now_of mid) k' k x.id hits1 (rec_of more) record1))

      pub removed_stored : IsStored m at' keys' t2
      removed_stored =
          (let l = left_stored m laws good mid n more there1 (slot_in t2) write2 at' places keys' gone in
          record { led = l.led; placed = l.placed })

      abbrev pub gone_out : Held K V P × Gone K V P
      gone_out = (entry_of (now_of o) x.id x.kept Memory, record { number = number; id = x.id; kept = x.kept })

      leaves : Leave m Remove (x.id ∷ []) (after_handle (now_of o) x.id (rec_of x)) ((Remove, gone_out.1) ∷ [])
          (m.policy.remove view x.id) (state number capacity limits view' keys' t2 next)
      leaves = subst
          (λ (s : State K V P View). Leave m Remove (x.id ∷ []) s ((Remove, gone_out.1) ∷ [])
          (m.policy.remove view x.id) (state number capacity limits view' keys' t2 next))
          (cloned_after m laws good o n x there t1 write1 ids1) (rec_of more, record1, refl, after)

      pub removes : Removes m (now_of o) k (Ok (Some gone_out)) (state number capacity limits view' keys' t2 next)
      removes = (rec_of x, hits m laws good o k n led x there, found m laws good o k n led x there, room, refl, leaves)
