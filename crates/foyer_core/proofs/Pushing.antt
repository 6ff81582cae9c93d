-- A record that comes in keeps what a shard keeps.
use Rattle.std.proofs.Common.{◌≡◌, ◌≢◌, ℕ, zero, suc, ◌+◌, ◌<◌, ◌≤◌, ◌^◌, ◌⊎◌, inl, inr, ◌∷◌, Some, None, Option, Bool, true, false, true≢false, refl, sym, ap, ◌∙◌, subst, arith}
use Rattle.std.specs.Cmp.{IsEquivalence}
use Rattle.std.specs.List.Sorted.{IsPermutation}
use Rattle.std.proofs.lemmas.Map.{update_here, update_apart}
use Rattle.std.proofs.lemmas.Bool.Decides.{eqb_tells}
use Rattle.std.proofs.lemmas.List.Sorted.{sum_by_pushed, IsPermutation-sym}
use Rattle.foyer_policy.specs.Items.{count_of, IsNewIn, HasIdsOnce, find_id}
use Rattle.foyer_policy.specs.Policy.{IsPolicy}
use Rattle.foyer_policy.specs.declared.types.Item.{Item}
use Rattle.foyer_policy.proofs.ItemLemmas.{one_if, found-id, found-where}
use Rattle.foyer_core.specs.Indexer.{same_key}
use Rattle.foyer_core.specs.Values.{Rec, Incoming}
use Rattle.foyer_core.specs.State.{Meaning, State, key_of, item_of, is_phantom_record, usage_of, IsKept}
use Rattle.foyer_core.specs.Steps.{after_push}
use Rattle.foyer_core.proofs.Found.{found-counted}
use Rattle.foyer_core.proofs.Keys.{same_key_laws}
use Rattle.foyer_core.proofs.Leaving.{respects_update}
use Rattle.foyer_core.proofs.Taken.{TakesOut, taken_by_permutation, stays_found}

zero_of : (n : ℕ) → ¬ (0 < n) → n ≡ 0
zero_of zero h = refl
zero_of (suc n) h = absurd (h (omega arith))

-- the policy does not hold an id whose record is not in the index
pub out_new : {K V P View C : Type 0} (m : Meaning K P View C) (s : State K V P View) → IsKept m s → (id : ℕ) →
    ((r : Rec K V P) → s.records id ≡ Some r → r.resident ≡ false)
    → IsNewIn id (m.policy.order s.view)
out_new m s kept id out = zero_of (count_of id (m.policy.order s.view)) (λ pos.
    let j = found-where id (m.policy.order s.view) pos in
    let same : j.0.id ≡ id = found-id id j.0 (m.policy.order s.view) j.1 in
    let old = kept.placed j.0 (subst (λ (a : ℕ). find_id a (m.policy.order s.view) ≡ Some j.0) (sym same) j.1) in
    absurd (true≢false (sym old.2 ∙ out old.0 (ap s.records (sym same) ∙ old.1))))

module _ {K V P View C : Type 0} (m : Meaning K P View C) (laws : IsEquivalence m.same) (good : IsPolicy m.policy)
    (s : State K V P View) (kept : IsKept m s) (i : Incoming K V P)
    (out_of : (r : Rec K V P) → s.records i.id ≡ Some r → r.resident ≡ false)
    (absent : s.index (key_of i.kept) ≡ None) where
  keys : IsEquivalence (same_key m.same)
  keys = same_key_laws m.same laws

  abbrev new_item : Item
  new_item = item_of m i.id i.kept

  abbrev new_record : Rec K V P
  new_record = record { kept = i.kept; handles = i.handles; resident = true }

  adds : IsPermutation (new_item ∷ m.policy.order s.view) (m.policy.order (after_push m s i).view)
  adds = good.push_order s.view new_item

  counts : (id : ℕ) → count_of id (m.policy.order (after_push m s i).view)
      ≡ one_if id new_item + count_of id (m.policy.order s.view)
  counts id = sum_by_pushed (one_if id) new_item (m.policy.order s.view) (m.policy.order (after_push m s i).view) adds

  new_once : HasIdsOnce (m.policy.order (after_push m s i).view)
  new_once id = elim (eqb_tells i.id id) [
    | inl e ↦ (let one : one_if id new_item ≡ 1 = rw (e.0) refl in
        let none : count_of id (m.policy.order s.view) ≡ 0 =
        subst (λ (a : ℕ). count_of a (m.policy.order s.view) ≡ 0) (e.1) (out_new m s kept i.id out_of) in
        omega (arith, counts id))
    | inr e ↦ (let none : one_if id new_item ≡ 0 = rw (e.0) refl in omega (arith, counts id, kept.once id))
  ]

  out : TakesOut (m.policy.order (after_push m s i).view) (m.policy.order s.view) new_item
  out = taken_by_permutation (m.policy.order (after_push m s i).view) (m.policy.order s.view) new_item new_once
      (IsPermutation-sym _ _ adds)

  -- a key that is in the index is not the new one
  differs : (q : ℕ × K) (id : ℕ) (t : Bool) → same_key m.same (key_of i.kept) q ≡ t → s.index q ≡ Some id →
      same_key m.same (key_of i.kept) q ≡ false
  differs q id true is h = let e : ◌≡◌ {A = Option ℕ} None (Some id) = sym absent ∙ kept.respects (key_of i.kept) q is
      ∙ h in absurd cc
  differs q id false is h = is

  -- what is under a key now is the new record, or was there before
  index_was : (k : ℕ × K) (id : ℕ) (t : Bool) → same_key m.same (key_of i.kept) k ≡ t → (after_push m s i).index k
      ≡ Some id
      → ((id ≡ i.id) × (same_key m.same (key_of i.kept) k ≡ true)) ⊎ (s.index k ≡ Some id)
  index_was k id true is h = let e : ◌≡◌ {A = Option ℕ} (Some i.id) (Some id) = rw is at h in inl (cc, is)
  index_was k id false is h = inr (rw is at h)

  -- and what is under an id
  record_was : (id : ℕ) (q : Rec K V P) → (after_push m s i).records id ≡ Some q → ((id ≡ i.id) × (q ≡ new_record))
      ⊎ ((id ≢ i.id) × (s.records id ≡ Some q))
  record_was id q h = elim (eqb_tells id i.id) [
    | inl e ↦ (let now : ◌≡◌ {A = Option (Rec K V P)} (Some new_record) (Some q) =
        sym (update_here s.records i.id (Some new_record))
        ∙ subst (λ (a : ℕ). (after_push m s i).records a ≡ Some q) (e.1) h in inl (e.1, cc (now)))
    | inr e ↦ inr (e.1, sym (update_apart s.records i.id (Some new_record) id e.1) ∙ h)
  ]

  in_next : 0 < count_of i.id (m.policy.order (after_push m s i).view)
  in_next = found-counted i.id new_item (m.policy.order (after_push m s i).view) out.here

  in_next_as : (id : ℕ) → id ≡ i.id → 0 < count_of id (m.policy.order (after_push m s i).view)
  in_next_as id e = subst (λ (a : ℕ). 0 < count_of a (m.policy.order (after_push m s i).view)) (sym e) in_next

  apart_of_next : (id : ℕ) → 0 < count_of id (m.policy.order s.view) → id ≢ i.id
  apart_of_next id pos e =
      absurd (let none : count_of id (m.policy.order s.view) ≡ 0 =
      subst (λ (a : ℕ). count_of a (m.policy.order s.view) ≡ 0) (sym e) (out_new m s kept i.id out_of) in
      omega arith)

  abbrev PlacedNow : Item → Type 0
  PlacedNow j = (q : Rec K V P) × ((after_push m s i).records j.id ≡ Some q) × (q.resident ≡ true)
      × ((after_push m s i).index (key_of q.kept) ≡ Some j.id) × (j ≡ item_of m j.id q.kept)

  placed_new : PlacedNow new_item
  placed_new = (new_record, update_here s.records i.id (Some new_record), refl, rw (keys.refl (key_of i.kept)), refl)

  pushed_placed : (j : Item) → find_id j.id (m.policy.order (after_push m s i).view) ≡ Some j → PlacedNow j
  pushed_placed j h = elim (eqb_tells j.id i.id) [
    | inl e ↦
        (let found : find_id i.id (m.policy.order (after_push m s i).view) ≡ Some j =
        subst (λ (a : ℕ). find_id a (m.policy.order (after_push m s i).view) ≡ Some j) (e.1) h in
        let same : new_item ≡ j = cc (out.here, found) in
        subst PlacedNow same placed_new)
    | inr e ↦
        (let old = kept.placed j
        (stays_found (m.policy.order (after_push m s i).view) (m.policy.order s.view) new_item out j.id j e.1 h) in
        let apart : same_key m.same (key_of i.kept) (key_of old.0.kept) ≡ false =
        differs (key_of old.0.kept) j.id (same_key m.same (key_of i.kept) (key_of old.0.kept)) refl old.3 in
        (old.0, update_apart s.records i.id (Some new_record) j.id e.1 ∙ old.1, old.2, rw apart old.3, old.4))
  ]

  pushed_indexed : (k : ℕ × K) (id : ℕ) → (after_push m s i).index k ≡ Some id
      → (0 < count_of id (m.policy.order (after_push m s i).view))
      × ((q : Rec K V P) → (after_push m s i).records id ≡ Some q → same_key m.same k (key_of q.kept) ≡ true)
  pushed_indexed k id h = elim (index_was k id (same_key m.same (key_of i.kept) k) refl h) [
    | inl e ↦ (
      in_next_as id e.0,
      λ q there. elim (record_was id q there) [
        | inl f ↦ ap (λ (x : Rec K V P). same_key m.same k (key_of x.kept)) (f.1) ∙ (keys.symm k (key_of i.kept) ∙ e.1)
        | inr f ↦ absurd (f.0 e.0)
      ],
    )
    | inr e ↦ (let old = kept.indexed k id e in
        let apart = apart_of_next id old.0 in (
          omega (arith, out.others id apart, old.0),
          λ q there. elim (record_was id q there) [ inl f ↦ absurd (apart f.0) | inr f ↦ old.1 q f.1 ],
        ))
  ]

  -- a pin is of a record that was there before
  pushed_pinned : (id : ℕ) → 0 < count_of id (m.policy.pinned (after_push m s i).view) →
      0 < count_of id (m.policy.pinned s.view)
  pushed_pinned id pos = rw (good.push_pinned s.view new_item) at pos

  pub push_keeps : is_phantom_record m i.kept ≡ false → usage_of m s + i.kept.weight < 2 ^ 64 → 0 < i.handles →
      i.handles ≤ s.limits.handles → IsKept m (after_push m s i)
  push_keeps plain room held handles = record {
    once = new_once;
    placed = pushed_placed;
    indexed = pushed_indexed;
    resident = λ id q h res. elim (record_was id q h)
        [ inl f ↦ in_next_as id f.0 | inr f ↦ omega (arith, out.others id f.0, kept.resident id q f.1 res) ];
    respects = respects_update (same_key m.same) keys s.index kept.respects (key_of i.kept) (Some i.id);
    needed = λ id q h. elim (record_was id q h)
        [ inl f ↦ inl (ap (λ (x : Rec K V P). x.resident) f.1) | inr f ↦ kept.needed id q f.1 ];
    limited = λ id q h. elim (record_was id q h) [ inl f ↦ rw (f.1) handles | inr f ↦ kept.limited id q f.1 ];
    pinned = λ id q h pos. elim (record_was id q h)
        [ inl f ↦ rw (f.1) held | inr f ↦ kept.pinned id q f.1 (pushed_pinned id pos) ];
    plain = λ id q h res. elim (record_was id q h) [ inl f ↦ rw (f.1) plain | inr f ↦ kept.plain id q f.1 res ];
    fresh = λ id q h. elim (record_was id q h)
        [ inl f ↦ omega (arith, f.0) | inr f ↦ omega (arith, kept.fresh id q f.1) ];
    fits = omega (arith, room, out.weight);
  }
