-- What a session may do.
use Rattle.std.specs.Prelude.{◌≡◌, ℕ, ◌+◌, List, [], ◌∷◌, ◌++◌, ◌⊎◌, Option, Some, None, Bool, true, false, Result, Ok, Err, IsSomeAnd, is_some, length, map, option_map, replicate, slice_get, slice_set}
use Rattle.std.specs.Option.{option_flatten}
use Rattle.foyer_policy.specs.declared.types.Event.{Event}
use Rattle.foyer_policy.specs.declared.types.Event.TheVariants.{Remove as RemoveEvent}
use Rattle.foyer_policy.specs.declared.types.Source.{Source}
use Rattle.foyer_policy.specs.declared.types.Source.TheVariants.{Memory, Outer}
use Rattle.foyer_policy.specs.declared.error.Reason.{Reason}
use Rattle.foyer_policy.specs.declared.error.Reason.TheVariants.{Fetch, NoMemory, TaskCancelled, WrongPolicy}
use Rattle.foyer_core.specs.declared.record.Data.{Data}
use Rattle.foyer_core.specs.Values.{Carried, Denied, Gone, Held, Made}
use Rattle.foyer_core.specs.Bulk.{Clears, EvictsIf, EvictsUnpinned, EvictingUnpinned}
use Rattle.foyer_core.specs.CoreBulk.{InTurn, InTurnUntil, OfShards, EvictsToCapacity, EvictingToCapacity, Resizes, Configures, NotTaken, TakenByEach}
use Rattle.foyer_core.specs.CoreFetches.{AtOpen, Completed, EndsAt, IsOpenIn, at_hash, open_in}
use Rattle.foyer_core.specs.Fetching.{LooksUp}
use Rattle.foyer_core.specs.Inflight.{Opens, OpenFetch, after_nothing, asked, closed, waiters_of}
use Rattle.foyer_core.specs.Pieces.{InsertsPiece, coming_under}
use Rattle.foyer_core.specs.Rules.{Rules}
use Rattle.foyer_core.specs.State.{State, key_of, at_moment}
use Rattle.foyer_core.specs.Waited.{Ending, lost}
use Rattle.foyer_core.specs.declared.outcome.FetchTarget.{FetchTarget}
use Rattle.foyer_core.specs.declared.outcome.FetchTarget.TheVariants.{Entry as ValueTarget, Piece as PieceTarget}
use Rattle.foyer_core.specs.declared.outcome.Lookup.{Lookup}
use Rattle.foyer_core.specs.declared.outcome.Lookup.TheVariants.{Hit, Lead as LeadsFetch, Wait as WaitsFetch}
use Rattle.foyer_core.specs.declared.outcome.Waiting.{Waiting}
use Rattle.foyer_core.specs.Steps.{Inserts, RefusesInsert, Gets, GivesBack, Touches, Removes, ClonesHandle, newcomer}
use Rattle.foyer_core.specs.Core.{Core, AtShard, IsOutdatedIn, hit_in, index_in, refs_in, usage_of_core, entries_of_core}
use Rattle.foyer_session.specs.declared.command.Answer.{Answer}
use Rattle.foyer_session.specs.declared.command.Answer.TheVariants.{Entry, Found, Missing, Lead, Wait, Answered, Later, Lost, Yes, No, Done, Number, PieceNo, NotHeld, Refused}
use Rattle.foyer_session.specs.declared.command.Command.{Command}
use Rattle.foyer_session.specs.declared.command.Command.TheVariants.{Insert, Get, Contains, Touch, Remove, Clone, Drop, TakePiece, InsertPiece, Refs, Outdated, GetOrFetch, Complete, Fail, Cancel, FetchOrTake, IsOpen, Clear, EvictAll, FlushIf, Resize, Reconfigure, Capacity, Usage, Entries}
use Rattle.foyer_session.specs.declared.command.End.{End}
use Rattle.foyer_session.specs.declared.command.End.TheVariants.{Value, PieceNo as PieceEnd}
use Rattle.foyer_session.specs.Terms.{Terms, terms_at}
use Rattle.foyer_session.specs.Tokens.{each_gets, got_of, handles_from, numbers_of}

-- the open fetches of a core, whose later builders are labels
abbrev pub Fetches : Type 0 → Type 0
Fetches K = List (Opens K (Unit {0}) ℕ)

-- a core with its open fetches, and what was handed out, in order: the handles, each held or gone, and the pieces,
-- which
-- stay held
pub record SessionState (K V P View S W A : Type 0) : Type 0 where
  pub core : Core K V P View S W A
  pub fetches : Fetches K
  pub handles : List (Option (Held K V P))
  pub pieces : List (Carried K V P)

-- the held handle of a number
abbrev pub held_at : {K V P : Type 0} → List (Option (Held K V P)) → ℕ → Option (Held K V P)
held_at handles n = option_flatten (slice_get handles n)

-- what an answer tells of the record of a handle
abbrev pub record_of : {K V P : Type 0} → Held K V P → Gone K V P
record_of entry = record { number = entry.number; id = entry.id; kept = entry.kept }

-- what a piece keeps of the record of a handle
abbrev pub piece_of : {K V P : Type 0} → Held K V P → Carried K V P
piece_of entry = record { number = entry.number; id = entry.id; kept = entry.kept }

-- the leave of a handle that was given back, where there is one
abbrev pub leaves_of : {A : Type 0} → Option A → List A
leaves_of None = []
leaves_of (Some leave) = leave ∷ []

-- a handle that was handed out: what tells its record was taken from its entry
abbrev pub given : {K V P : Type 0} → Held K V P → Option (Held K V P)
given entry = Some (record entry { left = false })

-- the handles and the pieces are those from before
abbrev pub KeepsHandles : {K V P View S W A : Type 0} → SessionState K V P View S W A → SessionState K V P View S W A
    → Type 0
KeepsHandles old new = (new.handles ≡ old.handles) × (new.pieces ≡ old.pieces)

-- and so are the open fetches
abbrev pub KeepsTables : {K V P View S W A : Type 0} → SessionState K V P View S W A → SessionState K V P View S W A →
    Type 0
KeepsTables old new = KeepsHandles old new × (new.fetches ≡ old.fetches)

-- one more handle is handed out under this number, with what tells its record
pub record HandsOut {K V P View S W A : Type 0} (old : SessionState K V P View S W A) (number : ℕ) (told : Gone K V P)
    (entry : Held K V P) (new : SessionState K V P View S W A) : Type 0 where
  pub numbered : number ≡ length old.handles
  pub tells : told ≡ record_of entry
  pub handles : new.handles ≡ old.handles ++ given entry ∷ []
  pub pieces : new.pieces ≡ old.pieces
  pub fetches : new.fetches ≡ old.fetches

-- A record came in that has one more handle for each who waited, in order, and then one under this number, with what
-- tells its record.
pub record HandsOutAll {K V P View S W A : Type 0} (old : SessionState K V P View S W A)
    (waiters : List (Waiting (Unit {0}))) (number : ℕ) (told : Gone K V P)
    (answers : List (ℕ × Result (Option ℕ) Reason)) (entry : Held K V P)
    (new : SessionState K V P View S W A) : Type 0 where
  pub answered : answers ≡ handles_from (length old.handles) (numbers_of waiters)
  pub numbered : number ≡ length old.handles + length waiters
  pub tells : told ≡ record_of entry
  pub handles : new.handles ≡ old.handles ++ replicate (1 + length waiters) (given entry)
  pub pieces : new.pieces ≡ old.pieces

-- the entries that those get who waited for a fetch
abbrev pub entries_by : {K V P : Type 0} → Result (Option (List (Held K V P))) Reason → List (Held K V P)
entries_by (Ok (Some entries)) = entries
entries_by _ = []

-- what tells the record of the first entry
abbrev pub first_told : {K V P : Type 0} → List (Held K V P) → Option (Gone K V P)
first_told [] = None
first_told (entry ∷ entries) = Some (record_of entry)

-- how the end of a fetch is told: those who waited get their handles, nothing, or the one refusal
abbrev pub TellsEnd : {K V P View S W A : Type 0} → SessionState K V P View S W A → Ending K V P (Unit {0}) →
    Answer K V P → List (Event × Gone K V P) → SessionState K V P View S W A → Type 0
TellsEnd old ended (Answered answers told) leaves new =
    (ended.found ≡ true) × (leaves ≡ ended.leaves)
    × (answers ≡ got_of (length old.handles) ended.outcome (numbers_of ended.waiters))
    × (told ≡ first_told (entries_by ended.outcome))
    × (new.handles ≡ old.handles ++ map given (entries_by ended.outcome)) × (new.pieces ≡ old.pieces)
TellsEnd old ended Lost leaves new = (ended ≡ lost) × (leaves ≡ []) × KeepsHandles old new
TellsEnd old ended _ leaves new = ⊥

-- what those get who wait for a fetch that found nothing, or failed for this reason
abbrev pub nothing_by : Option Reason → Result (Option ℕ) Reason
nothing_by None = Ok None
nothing_by (Some reason) = Err reason

-- why a fetch ends that found no record: for this reason, or since its task was dropped
abbrev pub ended_by : Option Reason → Reason
ended_by None = TaskCancelled
ended_by (Some reason) = reason

-- a question whose answer is this number; nothing changes
abbrev pub NumberStep : {K V P View S W A : Type 0} → ℕ → SessionState K V P View S W A → Answer K V P →
    List (Event × Gone K V P) → SessionState K V P View S W A → Type 0
NumberStep count old (Number told) leaves new = (told ≡ count) × (leaves ≡ []) × (new ≡ old)
NumberStep count old _ leaves new = ⊥

module _ {K V P View C S W A : Type 0} (t : Terms K V P View C S W A) where
  -- the hash of a key
  abbrev pub hash_in : SessionState K V P View S W A → K → ℕ
  hash_in s k = t.hash s.core.hash_builder k

  -- what the core's rules say of what comes in
  abbrev pub rules_in : SessionState K V P View S W A → Rules K V P
  rules_in s = record {
    hash = hash_in s;
    weighs = t.weighs s.core.weighter;
    admits = t.admits s.core.filter;
    properties = λ p admitted. t.incoming admitted p;
  }

  -- what comes in, by what the weighter and the filter answered
  abbrev pub data_of : SessionState K V P View S W A → K → V → P → ℕ → Bool → Data K V P
  data_of s k v p weight admitted =
      record { key = k; value = v; properties = t.incoming admitted p; hash = hash_in s k; weight = weight }

  -- a key with its hash
  abbrev pub hashed : SessionState K V P View S W A → K → ℕ × K
  hashed s k = (hash_in s k, k)

  -- who waits for a hashed key
  abbrev pub waiting_at : SessionState K V P View S W A → ℕ × K → List (Waiting (Unit {0}))
  waiting_at s q = waiters_of (open_in s.fetches q)

  -- the open fetch of this number and key
  abbrev pub open_at : SessionState K V P View S W A → K → ℕ → Option (OpenFetch (Unit {0}) ℕ)
  open_at s k fetch = asked (Some fetch) (open_in s.fetches (hashed s k))

  -- the open fetch of a hashed key is closed, and all others stay
  abbrev pub Closes : SessionState K V P View S W A → ℕ × K → SessionState K V P View S W A → Type 0
  Closes old q new = new.fetches ≡ at_hash (λ f. closed t.meaning.same f q) old.fetches q.0

  -- what an insert answers, what leaves, and the state then
  abbrev pub InsertStep : SessionState K V P View S W A → K → V → P → Answer K V P → List (Event × Gone K V P) →
      SessionState K V P View S W A → Type 0
  InsertStep old k v p (Entry number told answers) leaves new =
      (weight : ℕ) × (admitted : Bool) × (entry : Held K V P) × t.weighs old.core.weighter k v weight
      × t.admits old.core.filter k v admitted
      × AtShard
      (λ s u. Inserts t.meaning Outer s
      (newcomer s (data_of old k v p weight admitted) (1 + length (waiting_at old (hashed old k)))) leaves
      entry u) (hash_in old k) old.core new.core
      × HandsOutAll old (waiting_at old (hashed old k)) number told answers entry new × Closes old (hashed old k) new
  InsertStep old k v p (Refused reason) leaves new =
      (weight : ℕ) × (admitted : Bool) × t.weighs old.core.weighter k v weight × t.admits old.core.filter k v admitted
      × AtShard
      (λ s u. RefusesInsert t.meaning s
      (newcomer s (data_of old k v p weight admitted) (1 + length (waiting_at old (hashed old k)))) reason
      leaves u) (hash_in old k) old.core new.core
      × KeepsTables old new
  InsertStep old k v p _ leaves new = ⊥

  abbrev pub GetStep : ℕ → SessionState K V P View S W A → K → Answer K V P → List (Event × Gone K V P) →
      SessionState K V P View S W A → Type 0
  GetStep now old k (Found number told) leaves new =
      (entry : Held K V P)
      × AtShard (λ s u. Gets t.meaning now s (hash_in old k, k) (Ok (Some entry)) u) (hash_in old k) old.core new.core
      × HandsOut old number told entry new × (leaves ≡ [])
  GetStep now old k Missing leaves new = (hit_in t.meaning now old.core (hash_in old k, k) ≡ None) × (leaves ≡ []) × (new ≡ old)
  GetStep now old k (Refused reason) leaves new =
      AtShard (λ s u. Gets t.meaning now s (hash_in old k, k) (Err reason) u) (hash_in old k) old.core new.core
      × (leaves ≡ []) × (new ≡ old)
  GetStep now old k _ leaves new = ⊥

  abbrev pub ContainsStep : ℕ → SessionState K V P View S W A → K → Answer K V P → List (Event × Gone K V P) →
      SessionState K V P View S W A → Type 0
  ContainsStep now old k Yes leaves new = (is_some (hit_in t.meaning now old.core (hash_in old k, k)) ≡ true) × (leaves ≡ [])
      × (new ≡ old)
  ContainsStep now old k No leaves new = (is_some (hit_in t.meaning now old.core (hash_in old k, k)) ≡ false) × (leaves ≡ [])
      × (new ≡ old)
  ContainsStep now old k _ leaves new = ⊥

  abbrev pub TouchStep : ℕ → SessionState K V P View S W A → K → Answer K V P → List (Event × Gone K V P) →
      SessionState K V P View S W A → Type 0
  TouchStep now old k Yes leaves new =
      AtShard (λ s u. Touches t.meaning now s (hash_in old k, k) (Ok true) u) (hash_in old k) old.core new.core
      × (leaves ≡ []) × KeepsTables old new
  TouchStep now old k No leaves new = (hit_in t.meaning now old.core (hash_in old k, k) ≡ None) × (leaves ≡ []) × (new ≡ old)
  TouchStep now old k (Refused reason) leaves new =
      AtShard (λ s u. Touches t.meaning now s (hash_in old k, k) (Err reason) u) (hash_in old k) old.core new.core
      × (leaves ≡ []) × (new ≡ old)
  TouchStep now old k _ leaves new = ⊥

  abbrev pub RemoveStep : SessionState K V P View S W A → K → Answer K V P → List (Event × Gone K V P) →
      SessionState K V P View S W A → Type 0
  RemoveStep old k (Found number told) leaves new =
      (entry : Held K V P) × (gone : Gone K V P)
      × AtShard (λ s u. Removes t.meaning s (hash_in old k, k) (Ok (Some (entry, gone))) u) (hash_in old k) old.core
      new.core
      × HandsOut old number told entry new × (leaves ≡ (RemoveEvent, gone) ∷ [])
  RemoveStep old k Missing leaves new = (index_in old.core (hash_in old k, k) ≡ None) × (leaves ≡ []) × (new ≡ old)
  RemoveStep old k (Refused reason) leaves new =
      AtShard (λ s u. Removes t.meaning s (hash_in old k, k) (Err reason) u) (hash_in old k) old.core new.core
      × (leaves ≡ []) × (new ≡ old)
  RemoveStep old k _ leaves new = ⊥

  abbrev pub CloneStep : SessionState K V P View S W A → ℕ → Answer K V P → List (Event × Gone K V P) →
      SessionState K V P View S W A → Type 0
  CloneStep old n (Found number told) leaves new =
      (entry : Held K V P) × (clone : Held K V P) × (held_at old.handles n ≡ Some entry)
      × AtShard (λ s u. ClonesHandle s entry (Ok clone) u) entry.kept.hash old.core new.core
      × HandsOut old number told clone new × (leaves ≡ [])
  CloneStep old n (Refused reason) leaves new =
      (entry : Held K V P) × (held_at old.handles n ≡ Some entry)
      × AtShard (λ s u. ClonesHandle s entry (Err reason) u) entry.kept.hash old.core new.core × (leaves ≡ [])
      × (new ≡ old)
  CloneStep old n NotHeld leaves new = (held_at old.handles n ≡ None) × (leaves ≡ []) × (new ≡ old)
  CloneStep old n _ leaves new = ⊥

  abbrev pub DropStep : SessionState K V P View S W A → ℕ → Answer K V P → List (Event × Gone K V P) →
      SessionState K V P View S W A → Type 0
  DropStep old n Done leaves new =
      (entry : Held K V P) × (leave : Option (Event × Gone K V P)) × (held_at old.handles n ≡ Some entry)
      × AtShard (λ s u. GivesBack t.meaning s entry.id leave u) entry.kept.hash old.core new.core
      × (new.handles ≡ slice_set old.handles n None) × (new.pieces ≡ old.pieces) × (new.fetches ≡ old.fetches)
      × (leaves ≡ leaves_of leave)
  DropStep old n NotHeld leaves new = (held_at old.handles n ≡ None) × (leaves ≡ []) × (new ≡ old)
  DropStep old n _ leaves new = ⊥

  -- a piece of the record of a handle is handed out, or nothing changes
  abbrev pub TakePieceStep : SessionState K V P View S W A → ℕ → Answer K V P → List (Event × Gone K V P) →
      SessionState K V P View S W A → Type 0
  TakePieceStep old n (PieceNo number) leaves new =
      (entry : Held K V P) × (held_at old.handles n ≡ Some entry) × (number ≡ length old.pieces)
      × (leaves ≡ []) × (new ≡ record old { pieces = old.pieces ++ piece_of entry ∷ [] })
  TakePieceStep old n (Refused NoMemory) leaves new = (entry : Held K V P) × (held_at old.handles n ≡ Some entry)
      × (leaves ≡ []) × (new ≡ old)
  TakePieceStep old n NotHeld leaves new = (held_at old.handles n ≡ None) × (leaves ≡ []) × (new ≡ old)
  TakePieceStep old n _ leaves new = ⊥

  -- what an insert of a piece makes of the core
  abbrev pub InsertsPieceIn : SessionState K V P View S W A → Carried K V P → Result (Made K V P) (Denied K V P) →
      SessionState K V P View S W A → Type 0
  InsertsPieceIn old piece result new =
      AtShard (λ s u. InsertsPiece t.meaning (t.weighs old.core.weighter piece.kept.key piece.kept.value)
      (hash_in old piece.kept.key) piece
      (1 + length (waiting_at old (coming_under s (hash_in old piece.kept.key) piece))) result s u)
      (hash_in old piece.kept.key) old.core new.core

  -- An insert of a clone of a held piece, which stays held. Where the piece could not be cloned for want of memory,
  -- nothing changes.
  abbrev pub InsertPieceStep : SessionState K V P View S W A → ℕ → Answer K V P → List (Event × Gone K V P) →
      SessionState K V P View S W A → Type 0
  InsertPieceStep old n (Entry number told answers) leaves new =
      (piece : Carried K V P) × (entry : Held K V P) × (slice_get old.pieces n ≡ Some piece)
      × InsertsPieceIn old piece (Ok record { entry = entry; leaves = leaves }) new
      × HandsOutAll old (waiting_at old (key_of entry.kept)) number told answers entry new
      × (new.fetches ≡ at_hash (λ f. closed t.meaning.same f (key_of entry.kept)) old.fetches
      (hash_in old piece.kept.key))
  InsertPieceStep old n (Refused reason) leaves new =
      (piece : Carried K V P) × (slice_get old.pieces n ≡ Some piece)
      × (((reason ≡ NoMemory) × (leaves ≡ []) × (new ≡ old))
      ⊎ (InsertsPieceIn old piece (Err record { reason = reason; leaves = leaves }) new × KeepsTables old new))
  InsertPieceStep old n NotHeld leaves new = (slice_get old.pieces n ≡ None) × (leaves ≡ []) × (new ≡ old)
  InsertPieceStep old n _ leaves new = ⊥

  abbrev pub RefsStep : SessionState K V P View S W A → ℕ → Answer K V P → List (Event × Gone K V P) →
      SessionState K V P View S W A → Type 0
  RefsStep old n (Number count) leaves new =
      (entry : Held K V P) × (held_at old.handles n ≡ Some entry) × (count ≡ refs_in old.core entry) × (leaves ≡ [])
      × (new ≡ old)
  RefsStep old n NotHeld leaves new = (held_at old.handles n ≡ None) × (leaves ≡ []) × (new ≡ old)
  RefsStep old n _ leaves new = ⊥

  abbrev pub OutdatedStep : SessionState K V P View S W A → ℕ → Answer K V P → List (Event × Gone K V P) →
      SessionState K V P View S W A → Type 0
  OutdatedStep old n Yes leaves new =
      (entry : Held K V P) × (held_at old.handles n ≡ Some entry) × IsOutdatedIn old.core entry × (leaves ≡ [])
      × (new ≡ old)
  OutdatedStep old n No leaves new =
      (entry : Held K V P) × (held_at old.handles n ≡ Some entry) × (IsOutdatedIn old.core entry → ⊥) × (leaves ≡ [])
      × (new ≡ old)
  OutdatedStep old n NotHeld leaves new = (held_at old.handles n ≡ None) × (leaves ≡ []) × (new ≡ old)
  OutdatedStep old n _ leaves new = ⊥

  -- what a look-up makes of the shard of the key and its open fetches
  abbrev pub LooksUpIn : ℕ → SessionState K V P View S W A → K → Option ℕ → Result (Lookup K V P ℕ) Reason →
      SessionState K V P View S W A → Type 0
  LooksUpIn now old k later result new = AtOpen (λ s f u g. LooksUp t.meaning now s f (hashed old k) tt later result u g)
      (hash_in old k) old.core old.fetches new.core new.fetches

  -- a handle of the key's record, or a token to wait with; nothing leaves
  abbrev pub GetOrFetchStep : ℕ → SessionState K V P View S W A → K → Option ℕ → Answer K V P → List (Event × Gone K V P)
      → SessionState K V P View S W A → Type 0
  GetOrFetchStep now old k later (Found number told) leaves new =
      (entry : Held K V P) × LooksUpIn now old k later (Ok (Hit entry)) new × HandsOut old number told entry new
      × (leaves ≡ [])
  GetOrFetchStep now old k later (Lead fetch token) leaves new =
      (required : Option ℕ) × LooksUpIn now old k later (Ok (LeadsFetch fetch token required)) new × KeepsHandles old new
      × (leaves ≡ [])
  GetOrFetchStep now old k later (Wait token) leaves new = LooksUpIn now old k later (Ok (WaitsFetch token)) new
      × KeepsHandles old new × (leaves ≡ [])
  GetOrFetchStep now old k later (Refused reason) leaves new = LooksUpIn now old k later (Err reason) new × (leaves ≡ [])
      × (new ≡ old)
  GetOrFetchStep now old k later _ leaves new = ⊥

  -- a fetch of the key ends with a target, where it is open
  abbrev pub CompletesWith : SessionState K V P View S W A → K → ℕ → Source → FetchTarget K V P → Answer K V P →
      List (Event × Gone K V P) → SessionState K V P View S W A → Type 0
  CompletesWith old k fetch source target answer leaves new =
      (ended : Ending K V P (Unit {0}))
      × Completed t.meaning (rules_in old) source target (hashed old k) (open_at old k fetch) ended
      old.core old.fetches new.core new.fetches
      × TellsEnd old ended answer leaves new

  -- With a clone of a held piece, which stays held. Where the piece could not be cloned for want of memory, nothing
  -- changes.
  abbrev pub CompletesPiece : SessionState K V P View S W A → K → ℕ → Option (Carried K V P) → Answer K V P →
      List (Event × Gone K V P) → SessionState K V P View S W A → Type 0
  CompletesPiece old k fetch None NotHeld leaves new = (leaves ≡ []) × (new ≡ old)
  CompletesPiece old k fetch None _ leaves new = ⊥
  CompletesPiece old k fetch (Some piece) (Refused NoMemory) leaves new = (leaves ≡ []) × (new ≡ old)
  CompletesPiece old k fetch (Some piece) answer leaves new =
      CompletesWith old k fetch Memory (PieceTarget piece) answer leaves new

  abbrev pub CompleteStep : SessionState K V P View S W A → K → ℕ → End V P → Answer K V P → List (Event × Gone K V P)
      → SessionState K V P View S W A → Type 0
  CompleteStep old k fetch (Value v p source) answer leaves new =
      CompletesWith old k fetch source (ValueTarget v p) answer leaves new
  CompleteStep old k fetch (PieceEnd n) answer leaves new =
      CompletesPiece old k fetch (slice_get old.pieces n) answer leaves new

  -- a fetch of the key ends with a refusal, where it is open
  abbrev pub EndStep : SessionState K V P View S W A → K → ℕ → Reason → Answer K V P → List (Event × Gone K V P) →
      SessionState K V P View S W A → Type 0
  EndStep old k fetch reason answer leaves new =
      (ended : Ending K V P (Unit {0})) × EndsAt (hashed old k) fetch t.meaning.same reason old.fetches ended
      new.fetches × (new.core ≡ old.core) × TellsEnd old ended answer leaves new

  -- a fetch that found nothing goes on with the builder that is kept
  abbrev pub after_none : SessionState K V P View S W A → K → SessionState K V P View S W A
  after_none old k = record old
      { fetches = at_hash (λ f. after_nothing t.meaning.same f (hashed old k)) old.fetches (hash_in old k) }

  -- A fetch of the key found nothing, or failed. It goes on with the builder that is kept; without one it ends.
  abbrev pub FetchOrTakeStep : SessionState K V P View S W A → K → ℕ → Option Reason → Answer K V P →
      List (Event × Gone K V P) → SessionState K V P View S W A → Type 0
  FetchOrTakeStep old k fetch outcome (Later label) leaves new =
      IsSomeAnd (open_at old k fetch) (λ o. o.later ≡ Some label) × (leaves ≡ []) × (new ≡ after_none old k)
  FetchOrTakeStep old k fetch outcome (Answered answers told) leaves new =
      IsSomeAnd (open_at old k fetch)
      (λ o. (o.later ≡ None) × (answers ≡ each_gets (nothing_by outcome) (numbers_of o.tokens))) × (told ≡ None)
      × (leaves ≡ []) × (new ≡ after_none old k)
  FetchOrTakeStep old k fetch outcome Lost leaves new = (open_at old k fetch ≡ None) × (leaves ≡ []) × (new ≡ old)
  FetchOrTakeStep old k fetch outcome _ leaves new = ⊥

  abbrev pub IsOpenStep : SessionState K V P View S W A → K → ℕ → Answer K V P → List (Event × Gone K V P) →
      SessionState K V P View S W A → Type 0
  IsOpenStep old k fetch Yes leaves new = IsOpenIn old.fetches (hashed old k) fetch × (leaves ≡ []) × (new ≡ old)
  IsOpenStep old k fetch No leaves new = (IsOpenIn old.fetches (hashed old k) fetch → ⊥) × (leaves ≡ []) × (new ≡ old)
  IsOpenStep old k fetch _ leaves new = ⊥

  -- all that is in leaves, or nothing changes
  abbrev pub ClearStep : SessionState K V P View S W A → Answer K V P → List (Event × Gone K V P) →
      SessionState K V P View S W A → Type 0
  ClearStep old Done leaves new = OfShards (InTurn (Clears t.meaning)) old.core leaves new.core × KeepsTables old new
  ClearStep old (Refused NoMemory) leaves new = (leaves ≡ []) × (new ≡ old)
  ClearStep old _ leaves new = ⊥

  -- all that is not pinned leaves, or some beginning of it
  abbrev pub EvictAllStep : SessionState K V P View S W A → Answer K V P → List (Event × Gone K V P) →
      SessionState K V P View S W A → Type 0
  EvictAllStep old Done leaves new = OfShards (InTurn (EvictsUnpinned t.meaning)) old.core leaves new.core
      × KeepsTables old new
  EvictAllStep old (Refused NoMemory) leaves new =
      OfShards (InTurnUntil (EvictsUnpinned t.meaning) (EvictingUnpinned t.meaning)) old.core leaves new.core
      × KeepsTables old new
  EvictAllStep old _ leaves new = ⊥

  -- what the predicate picks leaves, or nothing changes; `says` is what it may answer
  abbrev pub FlushIfStep : SessionState K V P View S W A → (K → V → Bool → Type 0) → Answer K V P →
      List (Event × Gone K V P) → SessionState K V P View S W A → Type 0
  FlushIfStep old says Done leaves new = OfShards (InTurn (EvictsIf t.meaning says)) old.core leaves new.core
      × KeepsTables old new
  FlushIfStep old says (Refused NoMemory) leaves new = (leaves ≡ []) × (new ≡ old)
  FlushIfStep old says _ leaves new = ⊥

  -- all capacities are set, and the evictions to them leave, or some beginning of those
  abbrev pub ResizeStep : ℕ → SessionState K V P View S W A → ℕ → Answer K V P → List (Event × Gone K V P) →
      SessionState K V P View S W A → Type 0
  ResizeStep now old capacity Done leaves new =
      Resizes t.meaning (InTurn (EvictsToCapacity (at_moment now t.meaning))) capacity old.core leaves new.core
      × KeepsTables old new
  ResizeStep now old capacity (Refused NoMemory) leaves new =
      Resizes t.meaning
      (InTurnUntil (EvictsToCapacity (at_moment now t.meaning)) (EvictingToCapacity (at_moment now t.meaning)))
      capacity old.core leaves new.core × KeepsTables old new
  ResizeStep now old capacity _ leaves new = ⊥

  -- a configuration is accepted: each shard's policy takes it as one of its own, and it has no fault
  abbrev pub AcceptsConfig : SessionState K V P View S W A → C → Type 0
  AcceptsConfig old config = TakenByEach t.meaning config old.core.shards × (t.meaning.policy.fault config ≡ None)

  -- why it is refused: some shard's policy does not take it; or each does, and it has this first fault
  abbrev pub RefusesConfig : SessionState K V P View S W A → C → Reason → Type 0
  RefusesConfig old config reason =
      (NotTaken t.meaning config old.core.shards × (reason ≡ WrongPolicy))
      ⊎ (TakenByEach t.meaning config old.core.shards × (t.meaning.policy.fault config ≡ Some reason))

  -- each shard's policy is told the configuration, or it is refused and nothing changes
  abbrev pub ReconfigureStep : SessionState K V P View S W A → C → Answer K V P → List (Event × Gone K V P) →
      SessionState K V P View S W A → Type 0
  ReconfigureStep old config Done leaves new =
      AcceptsConfig old config × Configures t.meaning config old.core new.core × (leaves ≡ []) × KeepsTables old new
  ReconfigureStep old config (Refused reason) leaves new =
      RefusesConfig old config reason × (leaves ≡ []) × (new ≡ old)
  ReconfigureStep old config _ leaves new = ⊥

-- `picks` is what a predicate may answer of a key and a value.
module _ {K V P View C S W A Q : Type 0} (t : Terms K V P View C S W A) (picks : Q → K → V → Bool → Type 0) where
  -- what a session answers to a command, what leaves, and the state then
  abbrev pub Step : SessionState K V P View S W A → Command K V P Q C → Answer K V P → List (Event × Gone K V P) →
      SessionState K V P View S W A → Type 0
  Step old (Insert now k v p) answer leaves new = InsertStep (terms_at now t) old k v p answer leaves new
  Step old (Get now k) answer leaves new = GetStep t now old k answer leaves new
  Step old (Contains now k) answer leaves new = ContainsStep t now old k answer leaves new
  Step old (Touch now k) answer leaves new = TouchStep t now old k answer leaves new
  Step old (Remove k) answer leaves new = RemoveStep t old k answer leaves new
  Step old (Clone n) answer leaves new = CloneStep t old n answer leaves new
  Step old (Drop n) answer leaves new = DropStep t old n answer leaves new
  Step old (TakePiece n) answer leaves new = TakePieceStep t old n answer leaves new
  Step old (InsertPiece now n) answer leaves new = InsertPieceStep (terms_at now t) old n answer leaves new
  Step old (Refs n) answer leaves new = RefsStep t old n answer leaves new
  Step old (Outdated n) answer leaves new = OutdatedStep t old n answer leaves new
  Step old (GetOrFetch now k later) answer leaves new = GetOrFetchStep t now old k later answer leaves new
  Step old (Complete now k fetch end) answer leaves new = CompleteStep (terms_at now t) old k fetch end answer leaves new
  Step old (Fail k fetch fault) answer leaves new = EndStep t old k fetch (Fetch fault) answer leaves new
  Step old (Cancel k fetch) answer leaves new = EndStep t old k fetch TaskCancelled answer leaves new
  Step old (FetchOrTake k fetch outcome) answer leaves new =
      FetchOrTakeStep t old k fetch (option_map Fetch outcome) answer leaves new
  Step old (IsOpen k fetch) answer leaves new = IsOpenStep t old k fetch answer leaves new
  Step old Clear answer leaves new = ClearStep t old answer leaves new
  Step old (EvictAll now) answer leaves new = EvictAllStep (terms_at now t) old answer leaves new
  Step old (FlushIf q) answer leaves new = FlushIfStep t old (picks q) answer leaves new
  Step old (Resize now capacity) answer leaves new = ResizeStep t now old capacity answer leaves new
  Step old (Reconfigure config) answer leaves new = ReconfigureStep t old config answer leaves new
  Step old Capacity answer leaves new = NumberStep old.core.capacity old answer leaves new
  Step old Usage answer leaves new = NumberStep (usage_of_core t.meaning old.core) old answer leaves new
  Step old Entries answer leaves new = NumberStep (entries_of_core t.meaning old.core) old answer leaves new
