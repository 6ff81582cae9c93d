-- Names of records in the index, by the slots where they are.
use Rattle.std.proofs.Common.{◌≡◌, ℕ, ◌<◌, ◌%◌, length, Option, Some, None, true, false, refl, sym, ◌∙◌, ap, subst}
use Rattle.std.specs.Prelude.{IfSome, IsSomeAnd, slice_get}
use Rattle.std.specs.Cmp.{IsEquivalence}
use Rattle.foyer_policy.specs.Policy.{IsPolicy}
use Rattle.foyer_core.specs.declared.hold.Hold.{Hold}
use Rattle.foyer_core.specs.Core.{Belong, Core, shard_at, shard_of}
use Rattle.foyer_core.specs.Holds.{HasNoResident, NamesResident}
use Rattle.foyer_core.specs.Pieces.{is_in}
use Rattle.foyer_core.specs.Records.{count_in, slot_in}
use Rattle.foyer_core.specs.State.{Meaning, State}
use Rattle.foyer_core.specs.Table.{rec_of}
use Rattle.foyer_core.specs.Values.{Kept, Rec}
use Rattle.foyer_core.proofs.Residents.{record_slot}
use Rattle.foyer_core.proofs.ShardLemmas.{Holding, now_of}
use Rattle.foyer_core.proofs.SlotLemmas.{within_there}
use Rattle.foyer_core.proofs.StoredLemmas.{slot_record}

module _ {K V P View C : Type 0} (m : Meaning K P View C) (o : Holding V m) where
  -- a slot's record in the index is named by its id and its hash
  pub names_slot : (n : ℕ) (x : Kept K V P) → slot_in o.t n ≡ Some x → x.resident ≡ true → (hold : Hold) →
      hold.id ≡ x.id → hold.hash ≡ x.kept.hash → NamesResident (now_of o) hold
  names_slot n x there res hold id hash =
      let at : (now_of o).records hold.id ≡ Some (rec_of x) = ap (now_of o).records id
      ∙ slot_record m o.at o.keys o.t n x there in
      subst (λ (w : Option (Rec K V P)). IsSomeAnd w (λ r. (r.resident ≡ true) × (r.kept.hash ≡ hold.hash))) (sym at)
      (res, sym hash)

  -- there is none where no slot has one
  pub none_resident : (laws : IsEquivalence m.same) (good : IsPolicy m.policy) → ((n : ℕ) (x : Kept K V P) →
      n < count_in o.t → slot_in o.t n ≡ Some x → x.resident ≡ false) → HasNoResident (now_of o)
  none_resident laws good none id = go ((now_of o).records id) refl where
    go : (w : Option (Rec K V P)) → (now_of o).records id ≡ w → is_in w ≡ false
    go None h = refl
    go (Some r) h =
        let slot = record_slot m laws good o id r h in
        ap (λ (q : Rec K V P). q.resident) (sym slot.3)
        ∙ none slot.0 slot.1 (within_there o.t.slots.slots slot.0 slot.1 slot.2) slot.2

-- a name that a shard gives leads to that shard
pub leads : {K V P View S W A : Type 0} (core : Core K V P View S W A) (i : ℕ) (s : State K V P View) →
    Belong core.shards → slice_get core.shards i ≡ Some s → (o : Option Hold) → IfSome o (NamesResident s) →
    IfSome o (λ hold. (shard_of core hold.hash ≡ i) × IsSomeAnd (shard_at core hold.hash) (λ t. NamesResident t hold))
leads core i s belong here None named = tt
leads {K} {V} {P} {View} core i s belong here (Some hold) named =
    let at : shard_of core hold.hash ≡ i = go (s.records hold.id) refl named in (
      at,
      subst (λ (w : Option (State K V P View)). IsSomeAnd w (λ t. NamesResident t hold))
          (sym (ap (slice_get core.shards) at ∙ here)) named,
    )
  where
    go : (w : Option (Rec K V P)) → s.records hold.id ≡ w →
        IsSomeAnd w (λ r. (r.resident ≡ true) × (r.kept.hash ≡ hold.hash)) → shard_of core hold.hash ≡ i
    go None is h = absurd h
    go (Some r) is h = ap (λ (x : ℕ). x % length core.shards) (sym h.1) ∙ belong i s here hold.id r is
