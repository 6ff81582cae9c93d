-- What follows for a core from steps of all of its shards in turn.
use Rattle.std.proofs.Common.{◌≡◌, ℕ, zero, suc, ◌+◌, ◌%◌, ◌≤◌, List, [], ◌∷◌, ◌++◌, length, Option, Some, None, refl, sym, ◌∙◌, ap, subst, subst₂, arith}
use Rattle.std.specs.Prelude.{Bool, Result, Ok, Err, IfOk, OnOk, option_and_then, slice_get}
use Rattle.std.specs.List.{AllZip}
use Rattle.std.proofs.lemmas.Slice.Zip.{AllZip-long}
use Rattle.foyer_policy.specs.Policy.{pops, after_all_pops, after_pops, evicted, removed}
use Rattle.foyer_policy.specs.declared.types.Event.{Event}
use Rattle.foyer_policy.specs.declared.types.Event.TheVariants.{Evict, Clear}
use Rattle.foyer_core.specs.Bulk.{after_update, EvictsUnpinned, EvictingUnpinned, Clears, EvictsIf}
use Rattle.foyer_core.specs.Core.{Core, record_of, share_of, shard_at}
use Rattle.foyer_core.specs.CoreBulk.{Configures, InTurn, InTurnUntil, OfShards, SharesOut, EvictsToCapacity, EvictingToCapacity, Resizes}
use Rattle.foyer_core.specs.Laws.{HandlesStay}
use Rattle.foyer_core.specs.State.{Meaning, State}
use Rattle.foyer_core.specs.Steps.{ids_of}
use Rattle.foyer_core.specs.Values.{Rec, Gone}
use Rattle.foyer_core.proofs.Staying.{RecordsStay, nothing, leave_stays}

-- what each step keeps is kept of all
module _ {S : Type 0} (R : S → S → Type 0) where
  pub turn-keeps : {L : Type 0} (step : S → List L → S → Type 0) → ((s t : S) (ls : List L) → step s ls t → R s t) →
      (ss : List S) (ls : List L) (ts : List S) → InTurn step ss ls ts → AllZip R ss ts
  turn-keeps step keep [] ls [] h = tt
  turn-keeps step keep [] ls (t ∷ ts) h = absurd h
  turn-keeps step keep (s ∷ ss) ls [] h = absurd h
  turn-keeps step keep (s ∷ ss) ls (t ∷ ts) h = (keep s t h.0 h.3, turn-keeps step keep ss h.1 ts h.4)

  zip-all : ((s : S) → R s s) → (ss : List S) → AllZip R ss ss
  zip-all same [] = tt
  zip-all same (s ∷ ss) = (same s, zip-all same ss)

  zip-join : (ss ts more others : List S) → AllZip R ss ts → AllZip R more others → AllZip R (ss ++ more) (ts ++ others)
  zip-join [] [] more others h k = k
  zip-join [] (t ∷ ts) more others h k = absurd h
  zip-join (s ∷ ss) [] more others h k = absurd h
  zip-join (s ∷ ss) (t ∷ ts) more others h k = (h.0, zip-join ss ts more others h.1 k)

  pub until-keeps : {L : Type 0} (whole part : S → List L → S → Type 0) →
      ((s t : S) (ls : List L) → whole s ls t → R s t) → ((s t : S) (ls : List L) → part s ls t → R s t) →
      ((s : S) → R s s)
      → (ss : List S) (ls : List L) (ts : List S) → InTurnUntil whole part ss ls ts → AllZip R ss ts
  until-keeps whole part keep keep' same ss ls ts h =
      subst₂ (AllZip R) (sym h.olds) (sym h.news)
      (zip-join h.first h.done (h.next ∷ h.others) (h.begun ∷ h.others)
      (turn-keeps whole keep h.first h.first_leaves h.done h.wholly)
      (keep' h.next h.begun h.next_leaves h.partly, zip-all same h.others))

  -- and so of what stands at each place
  pub zip-at : (ss ts : List S) → AllZip R ss ts → (i : ℕ) (s : S) → slice_get ss i ≡ Some s → (t : S)
      × (slice_get ts i ≡ Some t) × R s t
  zip-at [] [] h i s there = absurd cc
  zip-at [] (t ∷ ts) h i s there = absurd h
  zip-at (a ∷ ss) [] h i s there = absurd h
  zip-at (a ∷ ss) (t ∷ ts) h zero s there = (let is : a ≡ s = cc in (t, refl, subst (λ (b : S). R b t) is h.0))
  zip-at (a ∷ ss) (t ∷ ts) h (suc i) s there = zip-at ss ts h.1 i s there

module _ {K V P View S W A : Type 0} where
  -- where the records of each shard stay, those of the core do
  pub zip_stay : (old new : Core K V P View S W A) → AllZip (RecordsStay nothing) old.shards new.shards →
      HandlesStay (λ e. 0) old new
  zip_stay old new h e r there less = go (slice_get old.shards (e.kept.hash % length old.shards)) refl there where
    long : length new.shards ≡ length old.shards
    long = AllZip-long (RecordsStay nothing) old.shards new.shards h

    go : (o : Option (State K V P View)) → slice_get old.shards (e.kept.hash % length old.shards) ≡ o →
        option_and_then (λ s. s.records e.id) o ≡ Some r
        → (q : Rec K V P) × (record_of new e ≡ Some q) × (q.kept ≡ r.kept) × (r.handles ≤ q.handles + 0)
    go None is was = absurd cc
    go (Some s) is was =
        let t = zip-at (RecordsStay nothing) old.shards new.shards h (e.kept.hash % length old.shards) s is in
        let q = t.2 e.id r was less in
        let here : shard_at new e.kept.hash ≡ Some t.0 = ap (λ (n : ℕ). slice_get new.shards (e.kept.hash % n)) long
        ∙ t.1 in
        (q.0, ap (option_and_then (λ (x : State K V P View). x.records e.id)) here ∙ q.1, q.2, q.3)

  pub stays_then : (old mid new : Core K V P View S W A) → HandlesStay (λ e. 0) old mid → HandlesStay (λ e. 0) mid new
      → HandlesStay (λ e. 0) old new
  stays_then old mid new first second e r there less =
      let a = first e r there less in
      let b = second e a.0 a.1 (omega (arith, a.3)) in
      (b.0, b.1, b.2 ∙ a.2, omega (arith, a.3, b.3))

  pub stays_same : (old new : Core K V P View S W A) → new ≡ old → HandlesStay (λ e. 0) old new
  stays_same old new e entry r there less =
      (r, ap (λ (c : Core K V P View S W A). record_of c entry) e ∙ there, refl, omega arith)

module _ {K V P View C : Type 0} (m : Meaning K P View C) where
  stay_refl : (s : State K V P View) → RecordsStay nothing s s
  stay_refl s id r there less = (r, there, refl, omega arith)

  pub unpinned_stay : (s t : State K V P View) (ls : List (Event × Gone K V P)) → EvictsUnpinned m s ls t →
      RecordsStay nothing s t
  unpinned_stay s t ls h = leave_stays m Evict (ids_of (pops m.policy s.view)) s ls (after_all_pops m.policy s.view) t h

  pub some_unpinned_stay : (s t : State K V P View) (ls : List (Event × Gone K V P)) → EvictingUnpinned m s ls t →
      RecordsStay nothing s t
  some_unpinned_stay s t ls h = leave_stays m Evict (ids_of h.left) s ls (after_pops m.policy (length h.left) s.view)
      t h.leave

  pub evicted_stay : (s t : State K V P View) (ls : List (Event × Gone K V P)) → EvictsToCapacity m s ls t →
      RecordsStay nothing s t
  evicted_stay s t ls h = leave_stays m Evict (ids_of (evicted m.policy s.capacity s.view)) s ls
      (after_pops m.policy (length (evicted m.policy s.capacity s.view)) s.view) t h

  pub some_evicted_stay : (s t : State K V P View) (ls : List (Event × Gone K V P)) → EvictingToCapacity m s ls t →
      RecordsStay nothing s t
  some_evicted_stay s t ls h = leave_stays m Evict (ids_of h.left) s ls (after_pops m.policy (length h.left) s.view) t
      h.leave

  pub cleared_stay : (s t : State K V P View) (ls : List (Event × Gone K V P)) → Clears m s ls t →
      RecordsStay nothing s t
  cleared_stay s t ls h = leave_stays m Clear (ids_of (m.policy.order s.view)) s ls (m.policy.clear s.view) t h

  module _ {S W A : Type 0} (old : Core K V P View S W A) (ls : List (Event × Gone K V P))
      (new : Core K V P View S W A) where
    pub all_unpinned_stay : OfShards (InTurn (EvictsUnpinned m)) old ls new → HandlesStay (λ e. 0) old new
    all_unpinned_stay h = zip_stay old new
        (turn-keeps (RecordsStay nothing) (EvictsUnpinned m) unpinned_stay old.shards ls new.shards h.stepped)

    pub all_unpinned_until_stay : OfShards (InTurnUntil (EvictsUnpinned m) (EvictingUnpinned m)) old ls new →
        HandlesStay (λ e. 0) old new
    all_unpinned_until_stay h = zip_stay old new
        (until-keeps (RecordsStay nothing) (EvictsUnpinned m) (EvictingUnpinned m) unpinned_stay some_unpinned_stay
        stay_refl old.shards ls new.shards h.stepped)

    pub all_cleared_stay : OfShards (InTurn (Clears m)) old ls new → HandlesStay (λ e. 0) old new
    all_cleared_stay h = zip_stay old new
        (turn-keeps (RecordsStay nothing) (Clears m) cleared_stay old.shards ls new.shards h.stepped)

    all_evicted_stay : OfShards (InTurn (EvictsToCapacity m)) old ls new → HandlesStay (λ e. 0) old new
    all_evicted_stay h = zip_stay old new
        (turn-keeps (RecordsStay nothing) (EvictsToCapacity m) evicted_stay old.shards ls new.shards h.stepped)

    all_evicted_until_stay : OfShards (InTurnUntil (EvictsToCapacity m) (EvictingToCapacity m)) old ls new →
        HandlesStay (λ e. 0) old new
    all_evicted_until_stay h = zip_stay old new
        (until-keeps (RecordsStay nothing) (EvictsToCapacity m) (EvictingToCapacity m) evicted_stay some_evicted_stay
        stay_refl old.shards ls new.shards h.stepped)

  -- of all shards what the predicate takes leaves
  module _ (says : K → V → Bool → Type 0) where
    pub picked_stay : (s t : State K V P View) (ls : List (Event × Gone K V P)) → EvictsIf m says s ls t →
        RecordsStay nothing s t
    picked_stay s t ls h = leave_stays m Evict (ids_of h.picked) s ls (removed m.policy h.picked s.view) t h.leave

    pub all_picked_stay : {S W A : Type 0} (old : Core K V P View S W A) (ls : List (Event × Gone K V P))
        (new : Core K V P View S W A)
        → OfShards (InTurn (EvictsIf m says)) old ls new → HandlesStay (λ e. 0) old new
    all_picked_stay old ls new h = zip_stay old new
        (turn-keeps (RecordsStay nothing) (EvictsIf m says) picked_stay old.shards ls new.shards h.stepped)

  -- where each shard's policy is told a capacity, and a configuration where one is given, each keeps what it keeps
  -- with any capacity
  pub updates-keep : (R : State K V P View → State K V P View → Type 0) (config : Option C) →
      ((s : State K V P View) (c : ℕ) → R s (after_update m s c config)) →
      (f : ℕ → State K V P View → ℕ) (old new : List (State K V P View)) → length new ≡ length old
      → ((i : ℕ) (s : State K V P View) → slice_get old i ≡ Some s → slice_get new i
      ≡ Some (after_update m s (f i s) config)) → AllZip R old new
  updates-keep R config keep f [] [] long each = tt
  updates-keep R config keep f [] (t ∷ ts) long each = absurd (omega arith)
  updates-keep R config keep f (s ∷ ss) [] long each = absurd (omega arith)
  updates-keep R config keep f (s ∷ ss) (t ∷ ts) long each =
      let first : ◌≡◌ {A = Option (State K V P View)} (Some t) (Some (after_update m s (f 0 s) config)) =
      each 0 s refl in
      let is : t ≡ after_update m s (f 0 s) config = cc in (
        subst (R s) (sym is) (keep s (f 0 s)),
        updates-keep R config keep (λ i. f (suc i)) ss ts (omega arith)
            (λ i a there. each (suc i) a there),
      )

  module _ {S W A : Type 0} (capacity : ℕ) (old : Core K V P View S W A) (ls : List (Event × Gone K V P))
      (new : Core K V P View S W A) where
    shared_stay : (shared : List (State K V P View)) → SharesOut m capacity old.shards shared →
        HandlesStay (λ e. 0) old (record old { capacity = capacity; shards = shared })
    shared_stay shared h = zip_stay old (record old { capacity = capacity; shards = shared })
        (updates-keep (RecordsStay nothing) None (λ s c id r there less. (r, there, refl, omega arith))
        (λ i s. share_of capacity (length old.shards) i) old.shards shared h.counted h.each)

    pub resized_stay : Resizes m (InTurn (EvictsToCapacity m)) capacity old ls new → HandlesStay (λ e. 0) old new
    resized_stay h = stays_then old (record old { capacity = capacity; shards = h.shared }) new
        (shared_stay h.shared h.shares) (all_evicted_stay _ ls new h.evicted)

    pub resized_until_stay : Resizes m (InTurnUntil (EvictsToCapacity m) (EvictingToCapacity m)) capacity old ls new →
        HandlesStay (λ e. 0) old new
    resized_until_stay h = stays_then old (record old { capacity = capacity; shards = h.shared }) new
        (shared_stay h.shared h.shares) (all_evicted_until_stay _ ls new h.evicted)

  -- another configuration
  pub configured_stay : {S W A : Type 0} (config : C) (old new : Core K V P View S W A) → Configures m config old new
      → HandlesStay (λ e. 0) old new
  configured_stay config old new h = zip_stay old new
      (updates-keep (RecordsStay nothing) (Some config) (λ s c id r there less. (r, there, refl, omega arith))
      (λ i s. s.capacity) old.shards new.shards h.shards.counted h.shards.each)

-- and of one that is not refused
pub ok_so : {A E : Type 0} (r : Result A E) (P : A → Type 0) (G : Type 0) → IfOk r P → ((a : A) → P a → G) → OnOk r G
ok_so (Ok a) P G ok f = f a ok
ok_so (Err e) P G ok f = tt
