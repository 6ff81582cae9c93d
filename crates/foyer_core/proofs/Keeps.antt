-- What a kept state tells, and that each step keeps it.
use Rattle.std.proofs.Common.{◌≡◌, ◌≢◌, ℕ, ◌+◌, ◌-◌, ◌<◌, ◌≤◌, ◌^◌, inl, inr, List, [], Some, None, Option, Bool, true, false, cond, nat_eq, refl, sym, ap, ◌∙◌, subst, arith}
use Rattle.std.specs.Prelude.{◌==◌}
use Rattle.std.specs.Cmp.{IsEquivalence}
use Rattle.std.specs.Map.{update}
use Rattle.std.proofs.lemmas.Bool.Decides.{nat_tests}
use Rattle.std.proofs.lemmas.List.Sorted.{sum_by_pushed, IsPermutation-refl}
use Rattle.foyer_policy.specs.Items.{weight_of, count_of, IsNewIn, find_id, remove_id}
use Rattle.foyer_policy.specs.Policy.{IsPolicy, PinsAtMost}
use Rattle.foyer_policy.specs.declared.types.Item.{Item}
use Rattle.foyer_policy.proofs.ItemLemmas.{one_if, found-id, found-where, sum-remove_id}
use Rattle.foyer_core.specs.Indexer.{same_key}
use Rattle.foyer_core.specs.Values.{Rec, Incoming}
use Rattle.foyer_core.specs.State.{Meaning, State, key_of, item_of, is_phantom_record, usage_of, IsKept}
use Rattle.foyer_core.specs.Steps.{after_out, after_push, after_get, after_give_back}
use Rattle.foyer_core.proofs.Found.{sum-removed}
use Rattle.foyer_core.proofs.Handles.{stands_some, stands_none, change_keeps}
use Rattle.foyer_core.proofs.Leaving as leaving
use Rattle.foyer_core.proofs.Pushing as pushing
use Rattle.foyer_core.proofs.Taken.{TakesOut, taken_by_permutation, taken_by_remove_id}

module _ {K V P View C : Type 0} (m : Meaning K P View C) (laws : IsEquivalence m.same) (good : IsPolicy m.policy) where
  -- what the policy holds has a record, under its key
  pub counted_there : (s : State K V P View) → IsKept m s → (id : ℕ) → 0 < count_of id (m.policy.order s.view)
      → (r : Rec K V P) × (s.records id ≡ Some r) × (r.resident ≡ true) × (s.index (key_of r.kept) ≡ Some id)
      × (find_id id (m.policy.order s.view) ≡ Some (item_of m id r.kept))
  counted_there s kept id pos =
      let j = found-where id (m.policy.order s.view) pos in
      let same : j.0.id ≡ id = found-id id j.0 (m.policy.order s.view) j.1 in
      let old = kept.placed j.0 (subst (λ (a : ℕ). find_id a (m.policy.order s.view) ≡ Some j.0) (sym same) j.1) in
      let item : j.0 ≡ item_of m id old.0.kept = old.4 ∙ ap (λ (a : ℕ). item_of m a old.0.kept) same in (
        old.0,
        subst (λ (a : ℕ). s.records a ≡ Some old.0) same old.1,
        old.2,
        subst (λ (a : ℕ). s.index (key_of old.0.kept) ≡ Some a) same old.3,
        j.1 ∙ ap (λ (x : Item). Some x) item,
      )

  -- so has what is in the index
  pub resident_in : (s : State K V P View) → IsKept m s → (id : ℕ) (r : Rec K V P) → s.records id ≡ Some r →
      r.resident ≡ true
      → find_id id (m.policy.order s.view) ≡ Some (item_of m id r.kept)
  resident_in s kept id r there res =
      let t = counted_there s kept id (kept.resident id r there res) in
      let same : t.0 ≡ r = cc (t.1, there) in
      t.4 ∙ ap (λ (q : Rec K V P). Some (item_of m id q.kept)) same

  module _ (s : State K V P View) (kept : IsKept m s) (i : Item) (v : View)
      (popped : m.policy.pop s.view ≡ Some (i, v)) where
    pop_takes : TakesOut (m.policy.order s.view) (m.policy.order v) i
    pop_takes = taken_by_permutation (m.policy.order s.view) (m.policy.order v) i kept.once
        (good.pop_order s.view v i popped)

    pub popped_there : (r : Rec K V P) × (s.records i.id ≡ Some r) × (r.resident ≡ true)
        × (s.index (key_of r.kept) ≡ Some i.id) × (i ≡ item_of m i.id r.kept)
    popped_there = kept.placed i pop_takes.here

    pub popped_weight : weight_of (m.policy.order v) + i.weight ≡ weight_of (m.policy.order s.view)
    popped_weight = pop_takes.weight

    pub popped_keeps : (r : Rec K V P) → s.records i.id ≡ Some r → IsKept m (record (after_out m s i.id r) { view = v })
    popped_keeps r there = leaving.leave_keeps m laws s kept i v r there pop_takes
        (λ id pos. rw (good.pop_pinned s.view v i popped) at pos)

  module _ (s : State K V P View) (kept : IsKept m s) (k : ℕ × K) (id : ℕ) (under : s.index k ≡ Some id) where
    pub indexed_there : (r : Rec K V P) × (s.records id ≡ Some r) × (r.resident ≡ true)
        × (same_key m.same k (key_of r.kept) ≡ true) × (find_id id (m.policy.order s.view) ≡ Some (item_of m id r.kept))
    indexed_there =
        let old = kept.indexed k id under in
        let t = counted_there s kept id old.0 in
        (t.0, t.1, t.2, old.1 t.0 t.1, t.4)

    module _ (r : Rec K V P) (there : s.records id ≡ Some r) where
      remove_takes : TakesOut (m.policy.order s.view) (m.policy.order (m.policy.remove s.view id)) (item_of m id r.kept)
      remove_takes =
          let t = indexed_there in
          let same : t.0 ≡ r = cc (t.1, there) in
          let here : find_id id (m.policy.order s.view) ≡ Some (item_of m id r.kept) = t.4
          ∙ ap (λ (q : Rec K V P). Some (item_of m id q.kept)) same in
          subst (λ (l : List Item). TakesOut (m.policy.order s.view) l (item_of m id r.kept))
          (sym (good.remove_order s.view id))
          (taken_by_remove_id (m.policy.order s.view) (item_of m id r.kept) kept.once here)

      pub removed_weight : weight_of (m.policy.order (m.policy.remove s.view id)) + r.kept.weight
          ≡ weight_of (m.policy.order s.view)
      removed_weight = remove_takes.weight

      pub removed_keeps : IsKept m (record (after_out m s id r) { view = m.policy.remove s.view id })
      removed_keeps = leaving.leave_keeps m laws s kept (item_of m id r.kept) (m.policy.remove s.view id) r there
          remove_takes (λ j pos.
          let e : count_of j (m.policy.pinned (m.policy.remove s.view id))
          ≡ count_of j (remove_id id (m.policy.pinned s.view)) =
          ap (count_of j) (good.remove_pinned s.view id kept.once) in
          omega (arith, sum-removed (one_if j) id (m.policy.pinned s.view)))

      pub removed_absent : (after_out m s id r).index k ≡ None
      removed_absent = leaving.leave_absent m laws s kept (item_of m id r.kept) (m.policy.remove s.view id) r there
          remove_takes (λ j pos.
          let e : count_of j (m.policy.pinned (m.policy.remove s.view id))
          ≡ count_of j (remove_id id (m.policy.pinned s.view)) =
          ap (count_of j) (good.remove_pinned s.view id kept.once) in
          omega (arith, sum-removed (one_if j) id (m.policy.pinned s.view))) k under

  pub push_new : (s : State K V P View) → IsKept m s → (i : Incoming K V P) →
      ((r : Rec K V P) → s.records i.id ≡ Some r → r.resident ≡ false) → IsNewIn i.id (m.policy.order s.view)
  push_new s kept i out = pushing.out_new m s kept i.id out

  pub push_keeps : (s : State K V P View) → IsKept m s → (i : Incoming K V P) →
      ((r : Rec K V P) → s.records i.id ≡ Some r → r.resident ≡ false) → s.index (key_of i.kept) ≡ None
      → is_phantom_record m i.kept ≡ false → usage_of m s + i.kept.weight < 2 ^ 64 → 0 < i.handles →
      i.handles ≤ s.limits.handles → IsKept m (after_push m s i)
  push_keeps s kept i out absent plain room held handles =
      pushing.push_keeps m laws good s kept i out absent plain room held handles

  pub push_weight : (s : State K V P View) (i : Incoming K V P) → usage_of m (after_push m s i)
      ≡ i.kept.weight + usage_of m s
  push_weight s i = sum_by_pushed (λ (j : Item). j.weight) (item_of m i.id i.kept) (m.policy.order s.view)
      (m.policy.order (m.policy.push s.view (item_of m i.id i.kept))) (good.push_order s.view (item_of m i.id i.kept))

  -- acquire pins no other record
  acquired_pins : (s : State K V P View) → IsKept m s → (id j : ℕ) → j ≢ id →
      0 < count_of j (m.policy.pinned (m.policy.acquire s.view id)) → 0 < count_of j (m.policy.pinned s.view)
  acquired_pins s kept id j apart pos = go (good.acquire_pinned s.view id kept.once) where
    go : PinsAtMost m.policy s.view id (m.policy.acquire s.view id) → 0 < count_of j (m.policy.pinned s.view)
    go (inl e) = rw e at pos
    go (inr (i, found, perm)) =
        let same : i.id ≡ id = found-id id i (m.policy.order s.view) found in
        let none : one_if j i ≡ 0 = (let t : (i.id == j) ≡ false = grind (arith, nat_tests) in rw t refl) in
        omega (
          arith,
          sum_by_pushed (one_if j) i (m.policy.pinned s.view)
              (m.policy.pinned (m.policy.acquire s.view id)) perm,
        )

  pub get_keeps : (s : State K V P View) → IsKept m s → (id : ℕ) (r : Rec K V P) → s.records id ≡ Some r →
      r.handles < s.limits.handles → IsKept m (after_get m s id r)
  get_keeps s kept id r there room =
      change_keeps m s kept id r there (m.policy.acquire s.view id) (Some (record r { handles = r.handles + 1 }))
      (good.acquire_order s.view id kept.once) (acquired_pins s kept id)
      (stands_some s.limits.handles (count_of id (m.policy.pinned (m.policy.acquire s.view id))) r (r.handles + 1)
      (inr (omega arith)) (omega arith) (λ pos. omega arith))

  -- release takes the pin of its record, and no other
  released_pins : (s : State K V P View) → IsKept m s → (id j : ℕ) →
      0 < count_of j (m.policy.pinned (m.policy.release s.view id)) → (j ≢ id)
      × (0 < count_of j (m.policy.pinned s.view))
  released_pins s kept id j pos =
      let e : count_of j (m.policy.pinned (m.policy.release s.view id))
      ≡ count_of j (remove_id id (m.policy.pinned s.view)) =
      ap (count_of j) (good.release_pinned s.view id kept.once) in
      let here : 0 < count_of j (m.policy.pinned s.view) =
      omega (arith, sum-removed (one_if j) id (m.policy.pinned s.view)) in
      let within : count_of j (m.policy.pinned s.view) ≤ count_of j (m.policy.order s.view) =
      good.pinned_within s.view (one_if j) in (
        λ same. absurd (
            let found = found-where id (m.policy.pinned s.view)
            (subst (λ (a : ℕ). 0 < count_of a (m.policy.pinned s.view)) same here) in
            let is : found.0.id ≡ j = found-id id found.0 (m.policy.pinned s.view) found.1 ∙ sym same in
            let one : one_if j found.0 ≡ 1 =
            (let t : (found.0.id == j) ≡ true = grind (arith, nat_tests) in rw t refl) in
            omega (arith, sum-remove_id (one_if j) id found.0 (m.policy.pinned s.view) found.1, kept.once j)),
        here,
      )

  pub give_back_keeps : (s : State K V P View) → IsKept m s → (id : ℕ) (r : Rec K V P) → s.records id ≡ Some r →
      0 < r.handles → IsKept m (after_give_back m s id r)
  give_back_keeps s kept id r there held = go (r.handles == 1) r.resident refl refl where
    go : (b c : Bool) → (r.handles == 1) ≡ b → r.resident ≡ c → IsKept m (cond b
        (cond c
        (record s {
          view = m.policy.release s.view id;
          records =
              update nat_eq s.records id (Some (record r { handles = 0 }));
        })
        (record s { records = update nat_eq s.records id None }))
        (record s { records = update nat_eq s.records id (Some (record r { handles = r.handles - 1 })) }))
    go true true e f = change_keeps m s kept id r there (m.policy.release s.view id) (Some (record r { handles = 0 }))
        (good.release_order s.view id kept.once)
        (λ j apart pos. (released_pins s kept id j pos).1)
        (stands_some s.limits.handles (count_of id (m.policy.pinned (m.policy.release s.view id))) r 0 (inl f)
        (omega arith) (λ pos. absurd ((released_pins s kept id id pos).0 refl)))
    go true false e f = change_keeps m s kept id r there s.view None (IsPermutation-refl (m.policy.order s.view))
        (λ j apart pos. pos) (stands_none s.limits.handles (count_of id (m.policy.pinned s.view)) r f)
    go false c e f =
        let more : 0 < r.handles - 1 = grind (arith, nat_tests) in
        change_keeps m s kept id r there s.view (Some (record r { handles = r.handles - 1 }))
        (IsPermutation-refl (m.policy.order s.view)) (λ j apart pos. pos)
        (stands_some s.limits.handles (count_of id (m.policy.pinned s.view)) r (r.handles - 1) (inr more)
        (omega (arith, kept.limited id r there)) (λ pos. more))

  -- a new shard's state
  pub opened_keeps : (s : State K V P View) (capacity : ℕ) (config : C) → m.policy.fault config ≡ None → s.view
      ≡ m.policy.opening capacity config
      → ((k : ℕ × K) → s.index k ≡ None) → ((id : ℕ) → s.records id ≡ None) → IsKept m s
  opened_keeps s capacity config sound opens index records = record {
    once = λ id. rw empty (omega arith);
    placed = λ i h. absurd (let e : find_id i.id [] ≡ Some i = rw empty at h in cc);
    indexed = λ k id h. absurd (let e : ◌≡◌ {A = Option ℕ} None (Some id) = sym (index k) ∙ h in cc);
    resident = λ id r h res. absurd (no_record id r h);
    respects = λ k q e. index k ∙ sym (index q);
    needed = λ id r h. absurd (no_record id r h);
    limited = λ id r h. absurd (no_record id r h);
    pinned = λ id r h pos. absurd (no_record id r h);
    plain = λ id r h res. absurd (no_record id r h);
    fresh = λ id r h. absurd (no_record id r h);
    fits = rw empty (omega arith);
  } where
    empty : m.policy.order s.view ≡ []
    empty = ap m.policy.order opens ∙ good.opening_order capacity config sound

    no_record : (id : ℕ) (r : Rec K V P) → ¬ (s.records id ≡ Some r)
    no_record id r h = (let e : ◌≡◌ {A = Option (Rec K V P)} None (Some r) = sym (records id) ∙ h in absurd cc)
