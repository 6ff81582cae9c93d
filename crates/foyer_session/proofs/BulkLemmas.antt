-- The calls on all records keep what a session owns.
use Rattle.std.proofs.Common.{◌≡◌, ◌⊎◌, ◌↔◌, ℕ, zero, suc, ◌%◌, List, [], ◌∷◌, Bool, true, false, length, Option, Some, None, refl, sym, ap, ◌∙◌, subst, arith, inl, inr}
use Rattle.std.specs.Prelude.{slice_get, Result, Ok, Err, IfSome, IsOk, MatchResult, is_ok}
use Rattle.std.specs.List.{AllZip}
use Rattle.std.proofs.lemmas.Slice.Zip.{AllZip-long}
use Rattle.foyer_policy.specs.declared.error.Reason.{Reason}
use Rattle.foyer_policy.specs.declared.error.Reason.TheVariants.{WrongPolicy}
use Rattle.foyer_policy.specs.declared.types.Event.{Event}
use Rattle.foyer_policy.specs.declared.types.Item.{Item}
use Rattle.foyer_policy.specs.declared.types.Event.TheVariants.{Evict, Clear}
use Rattle.foyer_core.specs.Bulk.{after_update, Answers, Clears, EvictsIf, EvictsUnpinned, EvictingUnpinned, Picks}
use Rattle.foyer_core.specs.Core.{Core, share_of, shard_of}
use Rattle.foyer_core.specs.CoreBulk.{Configures, InTurn, InTurnUntil, OfShards, SharesOut, EvictsToCapacity, EvictingToCapacity, NotTaken, Resizes, TakenByEach}
use Rattle.foyer_core.specs.State.{Meaning, State}
use Rattle.foyer_core.specs.Values.{Gone, Held}
use Rattle.foyer_core.proofs.TurnLaws.{turn-keeps, until-keeps, updates-keep, zip-at}
use Rattle.foyer_core.specs.Steps.{ids_of}
use Rattle.foyer_session.specs.Owns.{OwnsHandles}
use Rattle.foyer_session.proofs.CountLemmas.{Alike, leave_alike}

-- what stands at a place of the second list stands for what is there in the first
zip-back : {S : Type 0} (R : S → S → Type 0) (ss ts : List S) → AllZip R ss ts → (i : ℕ) (t : S) → slice_get ts i
    ≡ Some t → (s : S) × (slice_get ss i ≡ Some s) × R s t
zip-back R [] [] h i t there = absurd cc
zip-back R [] (u ∷ ts) h i t there = absurd h
zip-back R (s ∷ ss) [] h i t there = absurd h
zip-back R (s ∷ ss) (u ∷ ts) h zero t there = (let is : u ≡ t = cc in (s, refl, subst (λ (x : _). R s x) is h.0))
zip-back R (s ∷ ss) (u ∷ ts) h (suc i) t there = zip-back R ss ts h.1 i t there

module _ {K V P View S W A : Type 0} (core new : Core K V P View S W A) (handles : List (Option (Held K V P))) where
  -- where the shards have the handles that they had
  alike_owns : AllZip Alike core.shards new.shards → OwnsHandles core handles → OwnsHandles new handles
  alike_owns alike owns = record {
    numbered = λ n entry held.
        let was = owns.numbered n entry held in
        let now = zip-at Alike core.shards new.shards alike (shard_of core entry.kept.hash) was.0 was.1 in
        (now.0, ap (λ (k : ℕ). slice_get new.shards (entry.kept.hash % k)) long ∙ now.1, was.2 ∙ sym now.2.number);
    counts = λ shard t there.
        let was = zip-back Alike core.shards new.shards alike shard t there in
        let counted = owns.counts shard was.0 was.1 in
        λ id. rw long (omega (arith, counted id, was.2.handles id));
  }
    where
      long : length new.shards ≡ length core.shards
      long = AllZip-long Alike core.shards new.shards alike

module _ {K V P View C : Type 0} (m : Meaning K P View C) where
  alike_same : (s : State K V P View) → Alike s s
  alike_same s = record { handles = λ id. refl; next = refl; number = refl }

  cleared_alike : (s u : State K V P View) (ls : List (Event × Gone K V P)) → Clears m s ls u → Alike s u
  cleared_alike s u ls h = leave_alike m Clear (ids_of (m.policy.order s.view)) s ls _ u h

  unpinned_alike : (s u : State K V P View) (ls : List (Event × Gone K V P)) → EvictsUnpinned m s ls u → Alike s u
  unpinned_alike s u ls h = leave_alike m Evict _ s ls _ u h

  some_unpinned_alike : (s u : State K V P View) (ls : List (Event × Gone K V P)) → EvictingUnpinned m s ls u →
      Alike s u
  some_unpinned_alike s u ls h = leave_alike m Evict (ids_of h.left) s ls _ u h.leave

  evicted_alike : (s u : State K V P View) (ls : List (Event × Gone K V P)) → EvictsToCapacity m s ls u → Alike s u
  evicted_alike s u ls h = leave_alike m Evict _ s ls _ u h

  some_evicted_alike : (s u : State K V P View) (ls : List (Event × Gone K V P)) → EvictingToCapacity m s ls u →
      Alike s u
  some_evicted_alike s u ls h = leave_alike m Evict (ids_of h.left) s ls _ u h.leave

  picked_alike : (says : K → V → Bool → Type 0) (s u : State K V P View) (ls : List (Event × Gone K V P)) →
      EvictsIf m says s ls u → Alike s u
  picked_alike says s u ls h = leave_alike m Evict (ids_of h.picked) s ls _ u h.leave

  -- with another capacity, and another configuration where one is given
  updated_alike : (config : Option C) (f : ℕ → State K V P View → ℕ) (old new : List (State K V P View)) → length new
      ≡ length old
      → ((i : ℕ) (s : State K V P View) → slice_get old i ≡ Some s → slice_get new i
      ≡ Some (after_update m s (f i s) config)) → AllZip Alike old new
  updated_alike config = updates-keep m Alike config
      (λ s c. record { handles = λ id. refl; next = refl; number = refl })

  module _ {S W A : Type 0} (core : Core K V P View S W A) (ls : List (Event × Gone K V P))
      (new : Core K V P View S W A) (handles : List (Option (Held K V P))) where
    turn_owns : (step : State K V P View → List (Event × Gone K V P) → State K V P View → Type 0) →
        ((s u : State K V P View) (own : List (Event × Gone K V P)) → step s own u → Alike s u)
        → OfShards (InTurn step) core ls new → OwnsHandles core handles → OwnsHandles new handles
    turn_owns step alike h owns = alike_owns core new handles
        (turn-keeps Alike step alike core.shards ls new.shards h.stepped) owns

    until_owns : (whole part : State K V P View → List (Event × Gone K V P) → State K V P View → Type 0)
        → ((s u : State K V P View) (own : List (Event × Gone K V P)) → whole s own u → Alike s u) →
        ((s u : State K V P View) (own : List (Event × Gone K V P)) → part s own u → Alike s u)
        → OfShards (InTurnUntil whole part) core ls new → OwnsHandles core handles → OwnsHandles new handles
    until_owns whole part alike alike' h owns =
        alike_owns core new handles
        (until-keeps Alike whole part alike alike' alike_same core.shards ls new.shards h.stepped) owns

    pub cleared_owns : OfShards (InTurn (Clears m)) core ls new → OwnsHandles core handles → OwnsHandles new handles
    cleared_owns h owns = turn_owns (Clears m) cleared_alike h owns

    pub evicted_owns : OfShards (InTurn (EvictsUnpinned m)) core ls new → OwnsHandles core handles →
        OwnsHandles new handles
    evicted_owns h owns = turn_owns (EvictsUnpinned m) unpinned_alike h owns

    pub some_evicted_owns : OfShards (InTurnUntil (EvictsUnpinned m) (EvictingUnpinned m)) core ls new →
        OwnsHandles core handles → OwnsHandles new handles
    some_evicted_owns h owns = until_owns (EvictsUnpinned m) (EvictingUnpinned m) unpinned_alike some_unpinned_alike h
        owns

    pub flushed_owns : (says : K → V → Bool → Type 0) → OfShards (InTurn (EvictsIf m says)) core ls new →
        OwnsHandles core handles → OwnsHandles new handles
    flushed_owns says h owns = turn_owns (EvictsIf m says) (picked_alike says) h owns

  module _ {S W A : Type 0} (capacity : ℕ) (core : Core K V P View S W A) (ls : List (Event × Gone K V P))
      (new : Core K V P View S W A) (handles : List (Option (Held K V P))) where
    shared_owns : (shared : List (State K V P View)) → SharesOut m capacity core.shards shared →
        OwnsHandles core handles → OwnsHandles (record core { capacity = capacity; shards = shared }) handles
    shared_owns shared h owns = alike_owns core (record core { capacity = capacity; shards = shared }) handles
        (updated_alike None (λ i s. share_of capacity (length core.shards) i) core.shards shared h.counted h.each) owns

    pub resized_owns : Resizes m (InTurn (EvictsToCapacity m)) capacity core ls new → OwnsHandles core handles →
        OwnsHandles new handles
    resized_owns h owns = turn_owns (record core { capacity = capacity; shards = h.shared }) ls new handles
        (EvictsToCapacity m) evicted_alike h.evicted (shared_owns h.shared h.shares owns)

    pub some_resized_owns : Resizes m (InTurnUntil (EvictsToCapacity m) (EvictingToCapacity m)) capacity core ls new →
        OwnsHandles core handles → OwnsHandles new handles
    some_resized_owns h owns =
        until_owns (record core { capacity = capacity; shards = h.shared }) ls new handles (EvictsToCapacity m)
        (EvictingToCapacity m) evicted_alike some_evicted_alike h.evicted (shared_owns h.shared h.shares owns)

  pub configured_owns : {S W A : Type 0} (config : C) (core new : Core K V P View S W A)
      (handles : List (Option (Held K V P))) → Configures m config core new → OwnsHandles core handles →
      OwnsHandles new handles
  configured_owns config core new handles h owns =
      alike_owns core new handles
      (updated_alike (Some config) (λ i s. s.capacity) core.shards new.shards h.shards.counted h.shards.each) owns

-- one predicate may answer all that another may
module _ {K V P View C : Type 0} (m : Meaning K P View C) (says tells : K → V → Bool → Type 0)
    (more : (key : K) (value : V) (answer : Bool) → says key value answer → tells key value answer) where
  answers_more : (s : State K V P View) (items : List Item) (answers : List Bool) →
      AllZip (λ i. Answers says s i.id) items answers → AllZip (λ i. Answers tells s i.id) items answers
  answers_more s [] [] h = tt
  answers_more s [] (b ∷ bs) h = absurd h
  answers_more s (i ∷ is) [] h = absurd h
  answers_more s (i ∷ is) (b ∷ bs) h = (
    record { rec = h.0.rec; there = h.0.there; said = more h.0.rec.kept.key h.0.rec.kept.value b h.0.said },
    answers_more s is bs h.1,
  )

  picks_more : (s : State K V P View) (picked : List Item) → Picks m says s picked → Picks m tells s picked
  picks_more s picked h =
      record {
        answers = h.answers;
        each = answers_more s (m.policy.order s.view) h.answers h.each;
        picked_is =
            h.picked_is;
      }

  evicts_more : (s : State K V P View) (ls : List (Event × Gone K V P)) (u : State K V P View) →
      EvictsIf m says s ls u → EvictsIf m tells s ls u
  evicts_more s ls u h = record { picked = h.picked; picks = picks_more s h.picked h.picks; leave = h.leave }

  turn_more : (ss : List (State K V P View)) (ls : List (Event × Gone K V P)) (us : List (State K V P View)) →
      InTurn (EvictsIf m says) ss ls us → InTurn (EvictsIf m tells) ss ls us
  turn_more [] ls [] h = h
  turn_more [] ls (u ∷ us) h = absurd h
  turn_more (s ∷ ss) ls [] h = absurd h
  turn_more (s ∷ ss) ls (u ∷ us) h = (h.0, h.1, h.2, evicts_more s h.0 u h.3, turn_more ss h.1 us h.4)

  -- what leaves by the one, leaves by the other
  pub flushes_more : {S W A : Type 0} (core : Core K V P View S W A) (ls : List (Event × Gone K V P))
      (new : Core K V P View S W A)
      → OfShards (InTurn (EvictsIf m says)) core ls new → OfShards (InTurn (EvictsIf m tells)) core ls new
  flushes_more core ls new h = record { stepped = turn_more core.shards ls new.shards h.stepped; rest = h.rest }

-- what follows of an answer in either case
pub of_match : {A E : Type 0} {P : A → Type 0} {Q : E → Type 0} {G : Type 0} (result : Result A E) →
    MatchResult result P Q → ((a : A) → P a → G) → ((e : E) → Q e → G) → G
of_match (Ok a) is f h = f a is
of_match (Err e) is f h = h e is

-- each passes a test, or one of them does not
each_or_not : {X : Type 0} (test : X → Bool) (xs : List X) →
    ((i : ℕ) (x : X) → slice_get xs i ≡ Some x → test x ≡ true)
    ⊎ ((i : ℕ) × (x : X) × (slice_get xs i ≡ Some x) × (test x ≡ false))
each_or_not test [] = inl (λ i x there. absurd cc)
each_or_not {X} test (x ∷ xs) = go (test x) refl (each_or_not test xs) where
  here : test x ≡ true → ((i : ℕ) (y : X) → slice_get xs i ≡ Some y → test y ≡ true) →
      (i : ℕ) (y : X) → slice_get (x ∷ xs) i ≡ Some y → test y ≡ true
  here is all zero y there = (let same : x ≡ y = cc in subst (λ (z : X). test z ≡ true) same is)
  here is all (suc i) y there = all i y there

  go : (b : Bool) → test x ≡ b → ((i : ℕ) (y : X) → slice_get xs i ≡ Some y → test y ≡ true)
      ⊎ ((i : ℕ) × (y : X) × (slice_get xs i ≡ Some y) × (test y ≡ false)) →
      ((i : ℕ) (y : X) → slice_get (x ∷ xs) i ≡ Some y → test y ≡ true)
      ⊎ ((i : ℕ) × (y : X) × (slice_get (x ∷ xs) i ≡ Some y) × (test y ≡ false))
  go false is rest = inr (0, x, refl, is)
  go true is rest = elim rest [
    | inl all ↦ inl (here is all)
    | inr one ↦ inr (suc one.0, one.1, one.2, one.3)
  ]

-- what a call of `reconfigure` answers: that it is done, where each shard's policy takes the configuration, which has no
-- fault; or why not
module _ {K V P View C : Type 0} (m : Meaning K P View C) (config : C) (shards : List (State K V P View))
    (result : Result Unit Reason)
    (wrong : NotTaken m config shards → result ≡ Err WrongPolicy)
    (accepted : TakenByEach m config shards → IsOk result ↔ (m.policy.fault config ≡ None))
    (refused : TakenByEach m config shards → IfSome (m.policy.fault config) (λ reason. result ≡ Err reason)) where
  taken_or_not : TakenByEach m config shards ⊎ NotTaken m config shards
  taken_or_not = each_or_not (λ s. m.policy.takes s.view config) shards

  pub configured_done : IsOk result → TakenByEach m config shards × (m.policy.fault config ≡ None)
  configured_done done = elim taken_or_not [
    | inl taken ↦ (taken, (accepted taken).0 done)
    | inr not ↦ absurd (let e : false ≡ true = sym (ap is_ok (wrong not)) ∙ done in cc)
  ]

  fault_is : (reason : Reason) → result ≡ Err reason → TakenByEach m config shards → (fault : Option Reason) →
      m.policy.fault config ≡ fault → IfSome fault (λ r. result ≡ Err r) → fault ≡ Some reason
  fault_is reason is taken None none said =
      absurd (let e : false ≡ true = sym (ap is_ok is) ∙ (accepted taken).1 none in cc)
  fault_is reason is taken (Some r) none said = (let e : ◌≡◌ {A = Result Unit Reason} (Err r) (Err reason) = sym said ∙ is in cc)

  pub configured_refused : (reason : Reason) → result ≡ Err reason →
      (NotTaken m config shards × (reason ≡ WrongPolicy))
      ⊎ (TakenByEach m config shards × (m.policy.fault config ≡ Some reason))
  configured_refused reason is = elim taken_or_not [
    | inl taken ↦ inr (taken, fault_is reason is taken (m.policy.fault config) refl (refused taken))
    | inr not ↦ inl (not, (let e : ◌≡◌ {A = Result Unit Reason} (Err reason) (Err WrongPolicy) = sym is ∙ wrong not in cc))
  ]
