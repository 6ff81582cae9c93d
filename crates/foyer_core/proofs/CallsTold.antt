-- What each call of a core tells of its index.
use Rattle.std.proofs.Common.{◌≡◌, ℕ, length, List, [], ◌∷◌, Option, Some, None, Ok, Err, true, refl, ap}
use Rattle.std.specs.Prelude.{Bool, Result, MatchResult, IfErr, IfOk, OnErr, option_map}
use Rattle.std.specs.Option.{option_to_list}
use Rattle.std.specs.Cmp.{IsEquivalence}
use Rattle.foyer_policy.specs.Policy.{IsPolicy}
use Rattle.foyer_policy.specs.declared.error.Reason.{Reason}
use Rattle.foyer_policy.specs.declared.types.Event.{Event}
use Rattle.foyer_policy.specs.declared.types.Source.{Source}
use Rattle.foyer_policy.specs.declared.types.Event.TheVariants.{Remove}
use Rattle.foyer_core.specs.declared.record.Data.{Data}
use Rattle.foyer_core.specs.Bulk.{Clears, EvictsIf, EvictsUnpinned, EvictingUnpinned}
use Rattle.foyer_core.specs.CallLaws.{CallLaws}
use Rattle.foyer_core.specs.Core.{Core, AtShard, shard_of}
use Rattle.foyer_core.specs.CoreBulk.{InTurn, InTurnUntil, EvictsToCapacity, EvictingToCapacity, Resizes}
use Rattle.foyer_core.specs.Laws.{HandlesStay}
use Rattle.foyer_core.specs.Observed.{IsTold, IsToldWith, after_entry, after_leaves, known}
use Rattle.foyer_core.specs.State.{Meaning, State}
use Rattle.foyer_core.specs.Steps.{ClonesHandle, Gets, GivesBack, Inserts, RefusesInsert, Removes, Touches, newcomer}
use Rattle.foyer_core.specs.Values.{Gone, Held}
use Rattle.foyer_core.proofs.CoreTold.{AreSound, all_told, at_told, resized_told, until_told}
use Rattle.foyer_core.proofs.InsertTold.{inserts_told, refuses_told}
use Rattle.foyer_core.proofs.ShardTold.{SameIndex, ToldBy, cleared_told, clones_index, evicting_told, evicts_told, gets_index, gives_back_told, picked_told, refused_index, removed_told, same_index, same_told, some_unpinned_told, touches_index, unpinned_told}

module _ {K V P View C S W A : Type 0} (m : Meaning K P View C) (laws : IsEquivalence m.same)
    (good : IsPolicy m.policy) (hash : K → ℕ) (equal : (a b : K) → m.same a b ≡ true → hash a ≡ hash b)
    (old new : Core K V P View S W A) (sound : AreSound m laws good hash equal (length old.shards) old.shards) where
  -- a step of one shard
  step_told : (step : State K V P View → State K V P View → Type 0) (h : ℕ) (at : AtShard step h old new)
      (ls : List (Event × Gone K V P))
      → ToldBy m laws good hash equal (length old.shards) (shard_of old h) at.before ls at.after →
      IsTold m.same hash old ls new
  step_told step h at ls told = at_told m laws good hash equal old new step h at
      (after_leaves m.same (known hash old) ls) (told (known hash old))

  -- that leaves its index as it is
  pub stays_so : (step : State K V P View → State K V P View → Type 0) (h : ℕ) (at : AtShard step h old new) →
      SameIndex at.before at.after → IsTold m.same hash old [] new
  stays_so step h at same = step_told step h at []
      (same_told m laws good hash equal (length old.shards) (shard_of old h) at.before at.after same)

  pub nothing_told : new ≡ old → IsTold m.same hash old [] new
  nothing_told same k = ap (λ (c : Core K V P View S W A). known hash c k) same

  module _ (k : ℕ × K) (h : ℕ) where
    pub get_told : (now : ℕ) (answer : Result (Option (Held K V P)) Reason) →
        AtShard (λ s t. Gets m now s k answer t) h old new → IsTold m.same hash old [] new
    get_told now answer at = stays_so (λ s t. Gets m now s k answer t) h at
        (gets_index m now at.before k answer at.after at.stepped)

    pub touch_told : (now : ℕ) (answer : Result Bool Reason) → AtShard (λ s t. Touches m now s k answer t) h old new →
        IsTold m.same hash old [] new
    touch_told now answer at = stays_so (λ s t. Touches m now s k answer t) h at
        (touches_index m now at.before k answer at.after at.stepped)

    pub remove_told : (answer : Result (Option (Held K V P × Gone K V P)) Reason) →
        AtShard (λ s t. Removes m s k answer t) h old new
        → MatchResult answer
        (λ out. IsTold m.same hash old (option_to_list (option_map (λ o. (Remove, o.1)) out)) new)
        (λ e. IsTold m.same hash old [] new)
    remove_told (Ok None) at = stays_so (λ s t. Removes m s k (Ok None) t) h at
        (same_index at.before at.after at.stepped.1)
    remove_told (Ok (Some out)) at =
        let s = sound (shard_of old h) at.before at.there in
        step_told (λ s t. Removes m s k (Ok (Some out)) t) h at ((Remove, out.1) ∷ [])
        (removed_told m laws good hash equal (length old.shards) (shard_of old h) at.before ((Remove, out.1) ∷ [])
        at.after s.kept s.at k out.0 out.1 refl at.stepped)
    remove_told (Err reason) at = stays_so (λ s t. Removes m s k (Err reason) t) h at
        (refused_index at.before at.stepped.0 reason at.after at.stepped.2)

  pub clone_told : (entry : Held K V P) (h : ℕ) (answer : Result (Held K V P) Reason) →
      AtShard (λ s t. ClonesHandle s entry answer t) h old new → IsTold m.same hash old [] new
  clone_told entry h answer at = stays_so (λ s t. ClonesHandle s entry answer t) h at
      (clones_index at.before entry answer at.after at.stepped)

  pub give_back_told : (id h : ℕ) (leave : Option (Event × Gone K V P)) →
      AtShard (λ s t. GivesBack m s id leave t) h old new → IsTold m.same hash old (option_to_list leave) new
  give_back_told id h leave at =
      let s = sound (shard_of old h) at.before at.there in
      step_told (λ s t. GivesBack m s id leave t) h at (option_to_list leave)
      (gives_back_told m laws good hash equal (length old.shards) (shard_of old h) at.before (option_to_list leave)
      at.after s.kept s.at id leave refl at.stepped)

  -- what follows from a call, by what it tells for each answer
  pub laws_by : {X Y : Type 0} (given : Held K V P → ℕ) (answer : Result X Y)
      (leaves : X → List (Event × Gone K V P)) → HandlesStay given old new
      → MatchResult answer (λ x. IsTold m.same hash old (leaves x) new) (λ _. IsTold m.same hash old [] new)
      → MatchResult answer (λ x. CallLaws m.same hash given old (leaves x) new)
      (λ _. CallLaws m.same hash given old [] new)
  laws_by given (Ok x) leaves stay told = record { stay = stay; told = told }
  laws_by given (Err e) leaves stay told = record { stay = stay; told = told }

  -- an insert of a record with the hash of its key
  module _ (d : Data K V P) (hashed : d.hash ≡ hash d.key) (ls : List (Event × Gone K V P)) where
    pub insert_told : (handles : ℕ) (source : Source) (entry : Held K V P) →
        AtShard (λ s t. Inserts m source s (newcomer s d handles) ls entry t) d.hash old new →
        IsToldWith m.same hash m.phantom old ls entry.id entry.kept new
    insert_told handles source entry at =
        let s = sound (shard_of old d.hash) at.before at.there in
        at_told m laws good hash equal old new (λ s t. Inserts m source s (newcomer s d handles) ls entry t) d.hash at
        (after_entry m.same m.phantom (after_leaves m.same (known hash old) ls) entry.id entry.kept)
        (inserts_told m laws good hash equal (length old.shards) (shard_of old d.hash) source at.before
        (newcomer at.before d handles) ls entry at.after s.kept s.at (refl, hashed) at.stepped (known hash old))

    pub refused_told : (handles : ℕ) (reason : Reason) →
        AtShard (λ s t. RefusesInsert m s (newcomer s d handles) reason ls t) d.hash old new →
        IsTold m.same hash old ls new
    refused_told handles reason at =
        let s = sound (shard_of old d.hash) at.before at.there in
        step_told (λ s t. RefusesInsert m s (newcomer s d handles) reason ls t) d.hash at ls
        (refuses_told m laws good hash equal (length old.shards) (shard_of old d.hash) at.before
        (newcomer at.before d handles) ls at.after s.kept s.at reason at.stepped)

  -- the calls on all shards
  module _ (ls : List (Event × Gone K V P)) where
    pub cleared_core : InTurn (Clears m) old.shards ls new.shards → IsTold m.same hash old ls new
    cleared_core h = all_told m laws good hash equal old ls new sound (Clears m)
        (λ s t own did place is. cleared_told m laws good hash equal (length old.shards) place s own t is.kept is.at
        did) h

    pub unpinned_core : InTurn (EvictsUnpinned m) old.shards ls new.shards → IsTold m.same hash old ls new
    unpinned_core h = all_told m laws good hash equal old ls new sound (EvictsUnpinned m)
        (λ s t own did place is. unpinned_told m laws good hash equal (length old.shards) place s own t is.kept is.at
        did) h

    pub unpinned_until_core : InTurnUntil (EvictsUnpinned m) (EvictingUnpinned m) old.shards ls new.shards →
        IsTold m.same hash old ls new
    unpinned_until_core h = until_told m laws good hash equal old ls new sound (EvictsUnpinned m) (EvictingUnpinned m)
        (λ s t own did place is. unpinned_told m laws good hash equal (length old.shards) place s own t is.kept is.at
        did)
        (λ s t own did place is. some_unpinned_told m laws good hash equal (length old.shards) place s own t is.kept
        is.at did) h

    pub picked_core : (says : K → V → Bool → Type 0) → InTurn (EvictsIf m says) old.shards ls new.shards →
        IsTold m.same hash old ls new
    picked_core says h = all_told m laws good hash equal old ls new sound (EvictsIf m says)
        (λ s t own did place is. picked_told m laws good hash equal (length old.shards) place s own t is.kept is.at
        says did) h

    evicted_core : InTurn (EvictsToCapacity m) old.shards ls new.shards → IsTold m.same hash old ls new
    evicted_core h = all_told m laws good hash equal old ls new sound (EvictsToCapacity m)
        (λ s t own did place is. evicts_told m laws good hash equal (length old.shards) place s own t is.kept is.at
        s.capacity did) h

    evicted_until_core : InTurnUntil (EvictsToCapacity m) (EvictingToCapacity m) old.shards ls new.shards →
        IsTold m.same hash old ls new
    evicted_until_core h = until_told m laws good hash equal old ls new sound (EvictsToCapacity m)
        (EvictingToCapacity m)
        (λ s t own did place is. evicts_told m laws good hash equal (length old.shards) place s own t is.kept is.at
        s.capacity did)
        (λ s t own did place is. evicting_told m laws good hash equal (length old.shards) place s own t is.kept is.at
        s.capacity did) h

module _ {K V P View C S W A : Type 0} (m : Meaning K P View C) (laws : IsEquivalence m.same)
    (good : IsPolicy m.policy) (hash : K → ℕ) (equal : (a b : K) → m.same a b ≡ true → hash a ≡ hash b)
    (old new : Core K V P View S W A) (sound : AreSound m laws good hash equal (length old.shards) old.shards)
    (capacity : ℕ) (ls : List (Event × Gone K V P)) where
  pub resized_core : Resizes m (InTurn (EvictsToCapacity m)) capacity old ls new → IsTold m.same hash old ls new
  resized_core h = resized_told m laws good hash equal capacity old ls new sound (InTurn (EvictsToCapacity m))
      (λ mid is did. evicted_core m laws good hash equal mid new is ls did) h

  pub resized_until_core : Resizes m (InTurnUntil (EvictsToCapacity m) (EvictingToCapacity m)) capacity old ls new →
      IsTold m.same hash old ls new
  resized_until_core h = resized_told m laws good hash equal capacity old ls new sound
      (InTurnUntil (EvictsToCapacity m) (EvictingToCapacity m))
      (λ mid is did. evicted_until_core m laws good hash equal mid new is ls did) h

-- what follows of an answer, and of a refusal
pub match_so : {A E : Type 0} (r : Result A E) (P : A → Type 0) (Q : Type 0) (F : A → Type 0) (G : Type 0) → IfOk r P
    → OnErr r Q → ((a : A) → P a → F a) → (Q → G) → MatchResult r F (λ e. G)
match_so (Ok a) P Q F G ok err f g = f a ok
match_so (Err e) P Q F G ok err f g = g err

-- what comes back is the entry, and then this is so
pub returned_same : {X Y : Type 0} (A : Type 0) (answer : Result X Y) (entry : Y) → IfErr answer (λ e. e ≡ entry) →
    OnErr answer A → IfErr answer (λ e. (e ≡ entry) × A)
returned_same A (Ok x) entry is so = tt
returned_same A (Err e) entry is so = (is, so)
