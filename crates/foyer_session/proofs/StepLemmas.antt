-- The steps of a session keep what it owns.
use Rattle.std.proofs.Common.{◌≡◌, ℕ, ◌+◌, ◌%◌, List, [], ◌∷◌, ◌++◌, Option, Some, None, Result, Ok, Err, Bool, false, length, replicate, refl, sym, ap, ◌∙◌, subst, arith}
use Rattle.std.specs.Prelude.{slice_set, IsOk, IfOk, option_and_then}
use Rattle.std.proofs.lemmas.Bool.{false≢true}
use Rattle.foyer_policy.specs.declared.types.Event.{Event}
use Rattle.foyer_policy.specs.declared.error.Reason.{Reason}
use Rattle.foyer_policy.specs.declared.error.Reason.TheVariants.{Handles, NoMemory}
use Rattle.foyer_core.specs.Values.{Gone, Held}
use Rattle.foyer_core.specs.State.{Meaning, State, hit}
use Rattle.foyer_core.specs.Steps.{Gets, GivesBack, Touches, Removes, ClonesHandle}
use Rattle.foyer_core.specs.Core.{Core, AtShard, Owns, hit_in, index_in, shard_at, shard_of}
use Rattle.foyer_session.specs.Step.{Fetches, SessionState, given, held_at}
use Rattle.foyer_session.specs.Owns.{OwnsHandles}
use Rattle.foyer_session.proofs.CountLemmas.{Alike, alike_counts, gets_counts, gives_back_counts, gives_back_number}
use Rattle.foyer_session.proofs.EntryCounts.{touches_counts, touches_number, refusal_same, removes_counts, removes_number, clones_counts}
use Rattle.foyer_session.proofs.PieceLemmas.{Gives}
use Rattle.foyer_session.proofs.OwnLemmas.{owns_same, owns_gained, owns_more, owns_less, owned_entry, shard_same}

some_same : {A : Type 0} {a b : A} → ◌≡◌ {A = Option A} (Some a) (Some b) → a ≡ b
some_same h = cc

module _ {K V P View C S W A : Type 0} (m : Meaning K P View C) (core new : Core K V P View S W A)
    (handles : List (Option (Held K V P))) (owns : OwnsHandles core handles) where
  -- a step in which each record of its shard keeps its handles
  pub stayed_owns : (step : State K V P View → State K V P View → Type 0) (hash : ℕ) (at : AtShard step hash core new)
      → Alike at.before at.after → OwnsHandles new handles
  stayed_owns step hash at alike = owns_same core new step hash at alike.number handles
      (λ held. alike_counts m at.before at.after held alike) owns

  -- so many handles of a record were handed out
  pub given_owns : (step : State K V P View → State K V P View → Type 0) (hash : ℕ) (at : AtShard step hash core new)
      (entry : Held K V P) (more : ℕ)
      → Gives (length core.shards) (shard_of core hash) at.before entry more at.after →
      OwnsHandles new (handles ++ replicate more (given entry))
  given_owns step hash at entry more gives =
      owns_gained core new step hash at gives.number handles (record entry { left = false }) more gives.placed
      gives.numbered gives.counts owns

  -- an entry of the key's record was made, which has the key's hash
  pub got_owns : (now : ℕ) (k : ℕ × K) (entry : Held K V P) (at : AtShard (λ s t. Gets m now s k (Ok (Some entry)) t) k.0 core new)
      → entry.kept.hash ≡ k.0
      → OwnsHandles new (handles ++ Some (record entry { left = false }) ∷ [])
  got_owns now k entry at is =
      owns_more core new (λ s t. Gets m now s k (Ok (Some entry)) t) k.0 at
      (ap (λ (x : State K V P View). x.number) at.stepped.5) handles (record entry { left = false })
      (ap (λ (x : ℕ). x % length core.shards) is) (ap (λ (x : Held K V P). x.number) at.stepped.4)
      (gets_counts m now at.before k entry at.after at.stepped) owns

  -- a held handle was given back
  pub gave_back_owns : (n : ℕ) (entry : Held K V P) (result : Result (Option (Event × Gone K V P)) (Held K V P)) →
      held_at handles n ≡ Some entry
      → (Owns core entry → IsOk result) → IfOk result
      (λ leave. AtShard (λ s t. GivesBack m s entry.id leave t) entry.kept.hash core new)
      → OwnsHandles new (slice_set handles n None)
  gave_back_owns n entry (Ok leave) there taken at =
      owns_less core new (λ s t. GivesBack m s entry.id leave t) entry.kept.hash at
      (gives_back_number m at.before entry.id leave at.after at.stepped) handles n entry there refl
      (gives_back_counts m at.before entry.id leave at.after at.stepped) owns
  gave_back_owns n entry (Err e) there taken at =
      absurd (false≢true (taken (owned_entry core handles n entry owns there)))

  -- a touch, whatever it answers
  pub touched_owns : (now : ℕ) (k : ℕ × K) (result : Result Bool Reason)
      (at : AtShard (λ s t. Touches m now s k result t) k.0 core new) → OwnsHandles new handles
  touched_owns now k result at =
      owns_same core new (λ s t. Touches m now s k result t) k.0 at
      (touches_number m now at.before k result at.after at.stepped) handles
      (touches_counts m now at.before k result at.after at.stepped) owns

  -- a record was taken out, and an entry of it was made, which has the key's hash
  pub removed_owns : (k : ℕ × K) (entry : Held K V P) (gone : Gone K V P)
      (at : AtShard (λ s t. Removes m s k (Ok (Some (entry, gone))) t) k.0 core new)
      → entry.kept.hash ≡ k.0 → OwnsHandles new (handles ++ Some (record entry { left = false }) ∷ [])
  removed_owns k entry gone at is =
      owns_more core new (λ s t. Removes m s k (Ok (Some (entry, gone))) t) k.0 at
      (removes_number m at.before k entry gone at.after at.stepped) handles (record entry { left = false })
      (ap (λ (x : ℕ). x % length core.shards) is) (ap (λ (x : Held K V P). x.number) at.stepped.4)
      (removes_counts m at.before k entry gone at.after at.stepped) owns

  -- one more entry was made of the record of a held handle
  pub cloned_owns : (n : ℕ) (entry clone : Held K V P) → held_at handles n ≡ Some entry
      → (at : AtShard (λ s t. ClonesHandle s entry (Ok clone) t) entry.kept.hash core new) →
      OwnsHandles new (handles ++ Some (record clone { left = false }) ∷ [])
  cloned_owns n entry clone there at =
      let s = owns.numbered n entry there in
      let same : s.0 ≡ at.before = some_same (sym s.1 ∙ at.there) in
      owns_more core new (λ s t. ClonesHandle s entry (Ok clone) t) entry.kept.hash at
      (ap (λ (x : State K V P View). x.number) at.stepped.4) handles (record clone { left = false })
      (ap (λ (x : Held K V P). shard_of core x.kept.hash) at.stepped.3)
      (ap (λ (x : Held K V P). x.number) at.stepped.3 ∙ s.2 ∙ ap (λ (x : State K V P View). x.number) same)
      (clones_counts m at.before entry clone at.after at.stepped) owns

-- a refused clone changes no core
pub clone_refused : {K V P View S W A : Type 0} (core new : Core K V P View S W A) (entry : Held K V P)
    (reason : Reason)
    → AtShard (λ s t. ClonesHandle s entry (Err reason) t) entry.kept.hash core new → new ≡ core
clone_refused core new entry reason at =
    shard_same core new (λ s t. ClonesHandle s entry (Err reason) t) entry.kept.hash at
    (refusal_same at.before at.after entry.id reason at.stepped)

-- a session whose core stays, stays
pub session_same : {K V P View S W A : Type 0} (old : SessionState K V P View S W A) (new : Core K V P View S W A)
    (fetches : Fetches K) → new ≡ old.core → fetches ≡ old.fetches
    → record old { core = new; fetches = fetches } ≡ old
session_same {K} {V} {P} {View} {S} {W} {A} old new fetches same still =
    ap (λ (c : Core K V P View S W A). record old { core = c; fetches = fetches }) same
    ∙ ap (λ (f : Fetches K). record old { fetches = f }) still

-- and one whose core stays has other fetches alone
pub session_fetches : {K V P View S W A : Type 0} (old : SessionState K V P View S W A) (new : Core K V P View S W A)
    (fetches now : Fetches K) → new ≡ old.core → fetches ≡ now
    → record old { core = new; fetches = fetches } ≡ record old { fetches = now }
session_fetches {K} {V} {P} {View} {S} {W} {A} old new fetches now same is =
    ap (λ (c : Core K V P View S W A). record old { core = c; fetches = fetches }) same
    ∙ ap (λ (f : Fetches K). record old { fetches = f }) is

module _ {K V P View C S W A : Type 0} (m : Meaning K P View C) (now : ℕ) (core new : Core K V P View S W A) (k : ℕ × K)
  where
    hit_there : (at : State K V P View) → shard_at core k.0 ≡ Some at → hit m now at k ≡ None → hit_in m now core k ≡ None
    hit_there at there none = ap (option_and_then (λ s. hit m now s k)) there ∙ none

    -- a get that finds nothing changes nothing
    pub get_missing : AtShard (λ s t. Gets m now s k (Ok None) t) k.0 core new → (hit_in m now core k ≡ None) × (new ≡ core)
    get_missing at = (
      hit_there at.before at.there at.stepped.0,
      shard_same core new (λ s t. Gets m now s k (Ok None) t) k.0 at at.stepped.1,
    )

    pub gets_refused : (s t : State K V P View) (reason : Reason) → Gets m now s k (Err reason) t → t ≡ s
    gets_refused s t Handles h = h.5
    gets_refused s t NoMemory h = h.5
    gets_refused s t _ h = absurd h

    -- nor does one that is refused
    pub get_refused : (reason : Reason) → AtShard (λ s t. Gets m now s k (Err reason) t) k.0 core new → new ≡ core
    get_refused reason at = shard_same core new (λ s t. Gets m now s k (Err reason) t) k.0 at
        (gets_refused at.before at.after reason at.stepped)

    -- the same of a touch
    pub touch_missing : AtShard (λ s t. Touches m now s k (Ok false) t) k.0 core new → (hit_in m now core k ≡ None) × (new ≡ core)
    touch_missing at = (
      hit_there at.before at.there at.stepped.0,
      shard_same core new (λ s t. Touches m now s k (Ok false) t) k.0 at at.stepped.1,
    )

    touches_refused : (s t : State K V P View) (reason : Reason) → Touches m now s k (Err reason) t → t ≡ s
    touches_refused s t Handles h = h.5
    touches_refused s t _ h = absurd h

    pub touch_refused : (reason : Reason) → AtShard (λ s t. Touches m now s k (Err reason) t) k.0 core new → new ≡ core
    touch_refused reason at = shard_same core new (λ s t. Touches m now s k (Err reason) t) k.0 at
        (touches_refused at.before at.after reason at.stepped)

module _ {K V P View C S W A : Type 0} (m : Meaning K P View C) (core new : Core K V P View S W A) (k : ℕ × K) where
  -- and of a remove
  pub remove_missing : AtShard (λ s t. Removes m s k (Ok None) t) k.0 core new → (index_in core k ≡ None) × (new ≡ core)
  remove_missing at = (
    ap (option_and_then (λ s. s.index k)) at.there ∙ at.stepped.0,
    shard_same core new (λ s t. Removes m s k (Ok None) t) k.0 at at.stepped.1,
  )

  pub remove_refused : (reason : Reason) → AtShard (λ s t. Removes m s k (Err reason) t) k.0 core new → new ≡ core
  remove_refused reason at =
      shard_same core new (λ s t. Removes m s k (Err reason) t) k.0 at
      (refusal_same at.before at.after at.stepped.0 reason at.stepped.2)

-- and owns what it owned
pub owns_still : {K V P View S W A : Type 0} (core new : Core K V P View S W A) (handles : List (Option (Held K V P)))
    → new ≡ core → ∥ OwnsHandles core handles ∥₁ → ∥ OwnsHandles new handles ∥₁
owns_still core new handles same owns = subst (λ (c : Core _ _ _ _ _ _ _). ∥ OwnsHandles c handles ∥₁) (sym same) owns

-- a step that leads to a core leads to the same one
pub at_still : {K V P View S W A : Type 0} (step : State K V P View → State K V P View → Type 0) (hash : ℕ)
    (old mid new : Core K V P View S W A) → new ≡ mid → AtShard step hash old mid → AtShard step hash old new
at_still {K} {V} {P} {View} {S} {W} {A} step hash old mid new same at =
    subst (λ (c : Core K V P View S W A). AtShard step hash old c) (sym same) at

-- a list of no length has nothing
pub empty_of : {A : Type 0} (xs : List A) → length xs ≡ 0 → xs ≡ []
empty_of [] h = refl
empty_of (x ∷ xs) h = absurd (omega arith)
