-- Each record has the hash of its key: what each step keeps of that.
use Rattle.std.proofs.Common.{◌≡◌, ℕ, ◌<◌, ◌%◌, ◌⊎◌, inl, inr, length, List, map, Some, None, Ok, Err, Bool, sym, ◌∙◌, ap, subst}
use Rattle.std.specs.Prelude.{Result, IfOk, OnOk, OnErr, slice_get, slice_set, slice_index_or, option_map}
use Rattle.std.specs.List.{AllZip}
use Rattle.std.proofs.lemmas.Bool.Decides.{eqb_tells}
use Rattle.std.proofs.lemmas.List.{length-map, map-set}
use Rattle.std.proofs.lemmas.Option.{slice_get-map, slice_get_read}
use Rattle.foyer_policy.specs.declared.types.Event.{Event}
use Rattle.foyer_core.specs.declared.config.RawCacheConfig.{RawCacheConfig}
use Rattle.foyer_core.specs.declared.record.Data.{Data}
use Rattle.foyer_core.specs.Bulk.{GoesOn, Clears, EvictsIf, EvictsUnpinned, EvictingUnpinned}
use Rattle.foyer_core.specs.Core.{AreHashed, AreNewShards, Belong, share_of}
use Rattle.foyer_core.specs.CoreBulk.{ConfiguresEach, InTurn, InTurnUntil, SharesOut, EvictsToCapacity, EvictingToCapacity}
use Rattle.foyer_core.specs.State.{Meaning, State, AllData}
use Rattle.foyer_core.specs.Values.{Gone, Rec}
use Rattle.foyer_core.proofs.CoreLemmas.{set_here, set_apart}
use Rattle.foyer_core.proofs.Origins.{RecordsFrom, cleared_from, evicted_from, nothing_new, picked_from, same_from, some_evicted_from, some_unpinned_from, unpinned_from, zip-back}
use Rattle.foyer_core.proofs.TurnLaws.{turn-keeps, until-keeps, updates-keep}

-- a record has the hash of its key
abbrev pub IsHashed : {K V P : Type 0} → (K → ℕ) → Data K V P → Type 0
IsHashed hash d = d.hash ≡ hash d.key

module _ {K V P View : Type 0} (hash : K → ℕ) where
  same_state : (a b : State K V P View) → Some a ≡ Some b → a ≡ b
  same_state a b h = cc

  set_hashed : (shards : List (State K V P View)) (i : ℕ) (before after : State K V P View) → slice_get shards i
      ≡ Some before
      → RecordsFrom (IsHashed hash) before after → AreHashed hash shards → AreHashed hash (slice_set shards i after)
  set_hashed shards i before after at from hashed j s there id r is = elim (eqb_tells j i) [
    | inl e ↦
        (let same : after ≡ s = same_state after s
        (sym (set_here shards i before after at) ∙ ap (slice_get (slice_set shards i after)) (sym e.1) ∙ there) in
        here (from id r (ap (λ (x : State K V P View). x.records id) same ∙ is)))
    | inr e ↦ hashed j s (sym (set_apart shards i j after e.1) ∙ there) id r is
  ] where
    here : ((q : Rec K V P) × (before.records id ≡ Some q) × (r.kept ≡ q.kept)) ⊎ IsHashed hash r.kept →
        IsHashed hash r.kept
    here (inl q) = subst (IsHashed hash) (sym q.2) (hashed i before at id q.0 q.1)
    here (inr n) = n

  -- over what each of a list shows
  pub hashed_over : {A : Type 0} (f : A → State K V P View) (xs : List A) (n i : ℕ) (x : A) → n ≡ length xs → i < n →
      x ≡ slice_index_or xs i x
      → (y : A) → RecordsFrom (IsHashed hash) (f x) (f y) → AreHashed hash (map f xs) →
      AreHashed hash (map f (slice_set xs i y))
  hashed_over f xs n i x many within read y from hashed =
      let shows : slice_get (map f xs) i ≡ Some (f x) = slice_get-map f xs i
      ∙ ap (option_map f) (slice_get_read xs n i x many within read) in
      subst (AreHashed hash) (sym (map-set f xs i y)) (set_hashed (map f xs) i (f x) (f y) shows from hashed)

  -- there each record belongs, and has the hash of its key
  pub records_over : {A : Type 0} (f : A → State K V P View) (xs : List A) (n i : ℕ) (x : A) → n ≡ length xs → i < n →
      x ≡ slice_index_or xs i x
      → Belong (map f xs) → AreHashed hash (map f xs) → AllData (λ d. (d.hash % n ≡ i) × (d.hash ≡ hash d.key)) (f x)
  records_over f xs n i x many within read belong hashed id r is =
      let many' : n ≡ length (map f xs) = many ∙ sym (length-map xs f) in
      let shows : slice_get (map f xs) i ≡ Some (f x) = slice_get-map f xs i
      ∙ ap (option_map f) (slice_get_read xs n i x many within read) in
      (ap (λ (k : ℕ). r.kept.hash % k) many' ∙ belong i (f x) shows id r is, hashed i (f x) shows id r is)

  -- where each shard makes a step by which nothing comes in
  zip_hashed : (ss ts : List (State K V P View)) → AllZip (RecordsFrom nothing_new) ss ts → AreHashed hash ss →
      AreHashed hash ts
  zip_hashed ss ts h hashed i t there id r is =
      let s = zip-back (RecordsFrom nothing_new) ss ts h i t there in
      elim (s.2 id r is) [ inl q ↦ subst (IsHashed hash) (sym q.2) (hashed i s.0 s.1 id q.0 q.1) | inr n ↦ absurd n ]

  module _ {C : Type 0} (m : Meaning K P View C) where
    module _ (ss : List (State K V P View)) (ls : List (Event × Gone K V P)) (ts : List (State K V P View)) where
      pub all_unpinned_hashed : InTurn (EvictsUnpinned m) ss ls ts → AreHashed hash ss → AreHashed hash ts
      all_unpinned_hashed h = zip_hashed ss ts
          (turn-keeps (RecordsFrom nothing_new) (EvictsUnpinned m) (unpinned_from m) ss ls ts h)

      pub all_unpinned_until_hashed : InTurnUntil (EvictsUnpinned m) (EvictingUnpinned m) ss ls ts → AreHashed hash ss
          → AreHashed hash ts
      all_unpinned_until_hashed h = zip_hashed ss ts
          (until-keeps (RecordsFrom nothing_new) (EvictsUnpinned m) (EvictingUnpinned m) (unpinned_from m)
          (some_unpinned_from m) (same_from m) ss ls ts h)

      pub all_cleared_hashed : InTurn (Clears m) ss ls ts → AreHashed hash ss → AreHashed hash ts
      all_cleared_hashed h = zip_hashed ss ts
          (turn-keeps (RecordsFrom nothing_new) (Clears m) (cleared_from m) ss ls ts h)

      pub all_evicted_hashed : InTurn (EvictsToCapacity m) ss ls ts → AreHashed hash ss → AreHashed hash ts
      all_evicted_hashed h = zip_hashed ss ts
          (turn-keeps (RecordsFrom nothing_new) (EvictsToCapacity m) (evicted_from m) ss ls ts h)

      pub all_evicted_until_hashed : InTurnUntil (EvictsToCapacity m) (EvictingToCapacity m) ss ls ts →
          AreHashed hash ss → AreHashed hash ts
      all_evicted_until_hashed h = zip_hashed ss ts
          (until-keeps (RecordsFrom nothing_new) (EvictsToCapacity m) (EvictingToCapacity m) (evicted_from m)
          (some_evicted_from m) (same_from m) ss ls ts h)

      pub all_picked_hashed : (says : K → V → Bool → Type 0) → InTurn (EvictsIf m says) ss ls ts → AreHashed hash ss →
          AreHashed hash ts
      all_picked_hashed says h = zip_hashed ss ts
          (turn-keeps (RecordsFrom nothing_new) (EvictsIf m says) (picked_from m says) ss ls ts h)

    pub shared_hashed : (capacity : ℕ) (ss ts : List (State K V P View)) → SharesOut m capacity ss ts →
        AreHashed hash ss → AreHashed hash ts
    shared_hashed capacity ss ts h = zip_hashed ss ts
        (updates-keep m (RecordsFrom nothing_new) None (λ s c. same_from m s) (λ i s. share_of capacity (length ss) i)
        ss ts h.counted h.each)

    pub configured_hashed : (config : C) (ss ts : List (State K V P View)) → ConfiguresEach m config ss ts →
        AreHashed hash ss → AreHashed hash ts
    configured_hashed config ss ts h = zip_hashed ss ts
        (updates-keep m (RecordsFrom nothing_new) (Some config) (λ s c. same_from m s) (λ i s. s.capacity) ss ts
        h.counted h.each)

    pub new_hashed : {S W A : Type 0} (config : RawCacheConfig C S W A) (many : ℕ) (ss : List (State K V P View)) →
        AreNewShards m config many ss → AreHashed hash ss
    new_hashed config many ss h i s there id r is =
        absurd (let none : s.records id ≡ None = (h.each i s there).no_records id in cc)

-- after a call on all shards, refused or not
module _ {K V P View A E : Type 0} (hash : K → ℕ) (r : Result A E) (ss ts : List (State K V P View)) where
  -- where some leave in both cases
  pub told_hashed : (had told : List (Event × Gone K V P))
      (whole part : List (State K V P View) → List (Event × Gone K V P) → List (State K V P View) → Type 0)
      → OnOk r (GoesOn had told (λ ls. whole ss ls ts)) → OnErr r (GoesOn had told (λ ls. part ss ls ts))
      → ((ls : List (Event × Gone K V P)) → whole ss ls ts → AreHashed hash ss → AreHashed hash ts) →
      ((ls : List (Event × Gone K V P)) → part ss ls ts → AreHashed hash ss → AreHashed hash ts) →
      AreHashed hash ss → AreHashed hash ts
  told_hashed had told whole part ok err so so' hashed = go r ok err where
    go : (q : Result A E) → OnOk q (GoesOn had told (λ ls. whole ss ls ts)) →
        OnErr q (GoesOn had told (λ ls. part ss ls ts)) → AreHashed hash ts
    go (Ok a) done refused = so done.more done.so hashed
    go (Err e) done refused = so' refused.more refused.so hashed

  -- where a refused one changes nothing
  pub done_hashed : (leaves : A → List (Event × Gone K V P))
      (whole : List (State K V P View) → List (Event × Gone K V P) → List (State K V P View) → Type 0)
      → IfOk r (λ a. whole ss (leaves a) ts) → OnErr r (ts ≡ ss) →
      ((ls : List (Event × Gone K V P)) → whole ss ls ts → AreHashed hash ss → AreHashed hash ts) →
      AreHashed hash ss → AreHashed hash ts
  done_hashed leaves whole ok err so hashed = go r ok err where
    go : (q : Result A E) → IfOk q (λ a. whole ss (leaves a) ts) → OnErr q (ts ≡ ss) → AreHashed hash ts
    go (Ok a) done same = so (leaves a) done hashed
    go (Err e) done same = subst (AreHashed hash) (sym same) hashed
