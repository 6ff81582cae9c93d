-- The open fetches of a core: a list of those of each shard.
use Rattle.std.specs.Prelude.{◌≡◌, ℕ, ◌%◌, ◌==◌, ◌&&◌, Bool, true, false, List, [], Option, Some, None, Result, Err, IsSomeAnd, length, option_and_then, slice_get, slice_set}
use Rattle.foyer_policy.specs.Moments.{is_expired}
use Rattle.foyer_policy.specs.declared.error.Reason.{Reason}
use Rattle.foyer_policy.specs.declared.error.Reason.TheVariants.{WrongKey}
use Rattle.foyer_policy.specs.declared.types.Event.{Event}
use Rattle.foyer_policy.specs.declared.types.Source.{Source}
use Rattle.foyer_policy.specs.declared.types.Source.TheVariants.{Memory}
use Rattle.foyer_core.specs.declared.outcome.FetchTarget.{FetchTarget}
use Rattle.foyer_core.specs.declared.outcome.FetchTarget.TheVariants.{Entry, Piece as PieceOf}
use Rattle.foyer_core.specs.Core.{Core, AtShard, shard_at, shard_of}
use Rattle.foyer_core.specs.Fetching.{Arrives, ArrivesBack}
use Rattle.foyer_core.specs.Inflight.{Opens, OpenFetch, asked, closed}
use Rattle.foyer_core.specs.Pieces.{coming_under, is_known}
use Rattle.foyer_core.specs.Rules.{Rules}
use Rattle.foyer_core.specs.State.{Meaning, State}
use Rattle.foyer_core.specs.Steps.{newcomer}
use Rattle.foyer_core.specs.Values.{Carried, Gone, Held, Rec}
use Rattle.foyer_core.specs.Waited.{Ending, lost}

module _ {K N R : Type 0} where
  -- the open fetch of a hashed key, in its shard
  abbrev pub open_in : List (Opens K N R) → ℕ × K → Option (OpenFetch N R)
  open_in fetches k = option_and_then (λ f. f.by_key k) (slice_get fetches (k.0 % length fetches))

  -- this fetch of a hashed key is open
  abbrev pub IsOpenIn : List (Opens K N R) → ℕ × K → ℕ → Type 0
  IsOpenIn fetches k fetch = IsSomeAnd (open_in fetches k) (λ o. o.fetch ≡ fetch)

  -- the open fetches of one shard become others
  abbrev pub replaced : List (Opens K N R) → ℕ → (Opens K N R → Opens K N R) → Option (Opens K N R) → List (Opens K N R)
  replaced fetches i step None = fetches
  replaced fetches i step (Some f) = slice_set fetches i (step f)

  -- so for the shard of a hash
  abbrev pub at_hash : (Opens K N R → Opens K N R) → List (Opens K N R) → ℕ → List (Opens K N R)
  at_hash step fetches hash = replaced fetches (hash % length fetches) step (slice_get fetches (hash % length fetches))

-- The record of a hashed key that is in the index and has an open fetch was expired when that was opened. `expires` says
-- when properties are.
abbrev pub WasExpired : {K V P View S W A N R : Type 0} → (P → Option ℕ) → Core K V P View S W A → List (Opens K N R) →
    ℕ × K → Type 0
WasExpired {K} {V} {P} {View} {S} {W} {A} {N} {R} expires core fetches k =
    (s : State K V P View) (id : ℕ) (r : Rec K V P) (o : OpenFetch N R) → shard_at core k.0 ≡ Some s
    → s.index k ≡ Some id → s.records id ≡ Some r → open_in fetches k ≡ Some o
    → is_expired o.opened (expires r.kept.properties) ≡ true

-- the shard of a hash makes a step together with its open fetches, and all else stays
pub record AtOpen {K V P View S W A N R : Type 0}
    (step : State K V P View → Opens K N R → State K V P View → Opens K N R → Type 0) (hash : ℕ)
    (old : Core K V P View S W A) (f : List (Opens K N R)) (new : Core K V P View S W A) (g : List (Opens K N R)) :
    Type 0 where
  pub before : State K V P View
  pub open_before : Opens K N R
  pub after : State K V P View
  pub open_after : Opens K N R
  pub there : shard_at old hash ≡ Some before
  pub open_there : slice_get f (shard_of old hash) ≡ Some open_before
  pub stepped : step before open_before after open_after
  pub rest : new ≡ record old { shards = slice_set old.shards (shard_of old hash) after }
  pub open_rest : g ≡ slice_set f (shard_of old hash) open_after

module _ {K V P N R : Type 0} where
  -- The end of a fetch with a refusal, where it is open: those who wait get it, and the fetch is closed. The end of one
  -- that is not open changes nothing.
  abbrev pub EndsIn : Option (OpenFetch N R) → (K → K → Bool) → ℕ × K → Reason → List (Opens K N R) → Ending K V P N →
      List (Opens K N R) → Type 0
  EndsIn None eq k reason fetches ended after = (ended ≡ lost) × (after ≡ fetches)
  EndsIn (Some o) eq k reason fetches ended after =
      (ended ≡ record { found = true; waiters = o.tokens; outcome = Err reason; leaves = [] })
      × (after ≡ at_hash (λ f. closed eq f k) fetches k.0)

  abbrev pub EndsAt : ℕ × K → ℕ → (K → K → Bool) → Reason → List (Opens K N R) → Ending K V P N → List (Opens K N R) →
      Type 0
  EndsAt k fetch eq reason fetches ended after =
      EndsIn (asked (Some fetch) (open_in fetches k)) eq k reason fetches ended after

module _ {K V P View C S W A : Type 0} (m : Meaning K P View C) where
  -- whether a piece, whose key has this hash, stands for a record of this key in the shard of the key
  abbrev pub is_of : Core K V P View S W A → ℕ → Carried K V P → ℕ × K → Option (State K V P View) → Bool
  is_of core hash piece k None = false
  is_of core hash piece k (Some s) = (shard_of core hash == shard_of core k.0)
      && m.same k.1 (coming_under s hash piece).1

module _ {K V P View C : Type 0} (m : Meaning K P View C) where
  -- what those get who wait, where a piece comes in whose key has this hash
  abbrev pub PieceArrives : Bool → (ℕ → Type 0) → ℕ → Carried K V P → ℕ → State K V P View →
      Result (Option (List (Held K V P))) Reason → List (Event × Gone K V P) → State K V P View → Type 0
  PieceArrives true weighs hash piece more s outcome ls t = ArrivesBack m s piece more outcome ls t
  PieceArrives false weighs hash piece more s outcome ls t =
      (weight : ℕ) × weighs weight × Arrives m Memory s
      (newcomer s (record piece.kept { hash = hash; weight = weight }) more) outcome ls t

module _ {K V P View C S W A N R : Type 0} (m : Meaning K P View C) where
  -- The end of an open fetch of a hashed key with a record of it: `arrives` says what comes in in its shard, and what
  -- those get who wait. Its fetch is closed, even where the record is refused.
  pub record CompletesAt
      (arrives : State K V P View → Result (Option (List (Held K V P))) Reason → List (Event × Gone K V P) →
      State K V P View → Type 0) (k : ℕ × K) (o : OpenFetch N R) (ended : Ending K V P N)
      (old : Core K V P View S W A) (f : List (Opens K N R)) (new : Core K V P View S W A) (g : List (Opens K N R)) :
      Type 0 where
    pub found : ended.found ≡ true
    pub waiters : ended.waiters ≡ o.tokens
    pub arrived : AtShard (λ s t. arrives s ended.outcome ended.leaves t) k.0 old new
    pub closes : g ≡ at_hash (λ q. closed m.same q k) f k.0

  -- With a value: under a key that equals the one that was asked for, of a weight that the weighter may give it, and
  -- with an answer that the filter may give.
  pub record ValueCompletes (source : Source) (weighs : ℕ → Type 0) (admits : Bool → Type 0) (k : ℕ × K) (value : V)
      (properties : Bool → P) (o : OpenFetch N R) (ended : Ending K V P N)
      (old : Core K V P View S W A) (f : List (Opens K N R)) (new : Core K V P View S W A) (g : List (Opens K N R)) :
      Type 0 where
    pub own : K
    pub equal : m.same k.1 own ≡ true
    pub weight : ℕ
    pub weighed : weighs weight
    pub admitted : Bool
    pub answered : admits admitted
    pub completes : CompletesAt
        (λ s. Arrives m source s
        (newcomer s
        record { key = own; value = value; properties = properties admitted; hash = k.0; weight = weight }
        (length o.tokens)))
        k o ended old f new g

  -- With a piece: it comes in where it stands for a record of the key, and else those who wait get F12.
  abbrev pub PieceCompletes : Bool → (ℕ → Type 0) → ℕ → Carried K V P → ℕ × K → OpenFetch N R → Ending K V P N →
      Core K V P View S W A → List (Opens K N R) → Core K V P View S W A → List (Opens K N R) → Type 0
  PieceCompletes true weighs hash piece k o ended old f new g =
      CompletesAt (λ s. PieceArrives m (is_known s hash piece) weighs hash piece (length o.tokens) s) k o ended old f
      new g
  PieceCompletes false weighs hash piece k o ended old f new g = EndsIn (Some o) m.same k WrongKey f ended g
      × (new ≡ old)

  -- The end of a fetch with a target, where it is open. The end of one that is not open changes nothing.
  abbrev pub CompletesFrom : Rules K V P → Source → FetchTarget K V P → ℕ × K → OpenFetch N R → Ending K V P N
      → Core K V P View S W A → List (Opens K N R) → Core K V P View S W A → List (Opens K N R) → Type 0
  CompletesFrom rules source (Entry value p) k o ended old f new g =
      ValueCompletes source (rules.weighs k.1 value) (rules.admits k.1 value) k value (rules.properties p) o ended old f
      new g
  CompletesFrom rules source (PieceOf piece) k o ended old f new g =
      PieceCompletes (is_of m old (rules.hash piece.kept.key) piece k (shard_at old k.0))
      (rules.weighs piece.kept.key piece.kept.value) (rules.hash piece.kept.key) piece k o ended old f new g

  abbrev pub Completed : Rules K V P → Source → FetchTarget K V P → ℕ × K → Option (OpenFetch N R) → Ending K V P N
      → Core K V P View S W A → List (Opens K N R) → Core K V P View S W A → List (Opens K N R) → Type 0
  Completed rules source target k None ended old f new g = (ended ≡ lost) × (new ≡ old) × (g ≡ f)
  Completed rules source target k (Some o) ended old f new g = CompletesFrom rules source target k o ended old f new g
