-- The ledger of tokens: each one that was issued waits, or was handed out once. A token is a shard and a number.
use Rattle.std.specs.Prelude.{◌≡◌, ℕ, ◌+◌, ◌<◌, ◌≤◌, ◌%◌, ◌⊎◌, ⊤, Bool, true, List, [], ◌∷◌, ◌++◌, Option, Some, None, Result, Ok, Err, IfSome, IsSomeAnd, length, map, slice_get}
use Rattle.std.specs.List.{AllByRecursion}
use Rattle.foyer_policy.specs.declared.error.Reason.{Reason}
use Rattle.foyer_policy.specs.declared.error.Reason.TheVariants.{Fetch, Handles, Ids, NoMemory, TaskCancelled, Weight, WrongKey}
use Rattle.foyer_core.specs.Chains.{has}
use Rattle.foyer_core.specs.CoreFetches.{open_in}
use Rattle.foyer_core.specs.Indexer.{same_key}
use Rattle.foyer_core.specs.Inflight.{Opens, tokens_of}
use Rattle.foyer_core.specs.State.{key_of}
use Rattle.foyer_core.specs.Values.{Gone, Held}
use Rattle.foyer_session.specs.declared.command.Answer.{Answer}
use Rattle.foyer_session.specs.declared.command.Answer.TheVariants.{Answered, Entry, Lead, Wait}
use Rattle.foyer_session.specs.declared.command.Command.{Command}
use Rattle.foyer_session.specs.declared.command.Command.TheVariants.{Insert, Get, Contains, Touch, Remove, InsertPiece, GetOrFetch, Complete, Fail, Cancel, FetchOrTake, IsOpen}
use Rattle.foyer_session.specs.declared.command.End.TheVariants.{PieceNo, Value}
use Rattle.foyer_session.specs.declared.command.Reply.{Reply}
use Rattle.foyer_session.specs.Step.{SessionState, hash_in, held_at, record_of}
use Rattle.foyer_session.specs.Terms.{Terms}
use Rattle.foyer_session.specs.Waits.{IsWaiting, WaitsIn, times}

module _ {K N R : Type 0} where
  -- the next token of a shard, where it is one
  abbrev pub next_token_of : Option (Opens K N R) → ℕ
  next_token_of None = 0
  next_token_of (Some f) = f.next_token

  -- the next token of the shard of this number
  abbrev pub next_token_in : List (Opens K N R) → ℕ → ℕ
  next_token_in fetches shard = next_token_of (slice_get fetches shard)

  -- this often a token waited or was issued, which is this often it waits now or was handed out, and at most once
  abbrev pub IsEven : List (Opens K N R) → List (Opens K N R) → List (ℕ × ℕ) → List (ℕ × ℕ) → ℕ → ℕ → ℕ → Type 0
  IsEven old new issued handed shard token before =
      (after : ℕ) × IsWaiting new shard token after
      × (before + times shard token issued ≡ after + times shard token handed) × (before + times shard token issued ≤ 1)

  -- what tokens were issued and handed out while some open fetches became others
  pub record Settles (old new : List (Opens K N R)) (issued handed : List (ℕ × ℕ)) : Type 0 where
    -- each token that waited or was issued waits or was handed out: none is lost, and none is issued or handed out
    -- twice
    pub even : (shard token before : ℕ) → IsWaiting old shard token before →
        IsEven old new issued handed shard token before
    -- an issued token is new
    pub fresh : (shard token : ℕ) → 0 < times shard token issued → (next_token_in old shard ≤ token)
        × (token < next_token_in new shard)
    -- one that waited is not
    pub known : (shard token : ℕ) → WaitsIn old shard token → token < next_token_in old shard
    -- the next tokens never fall
    pub rising : (shard : ℕ) → next_token_in old shard ≤ next_token_in new shard

-- a token waits for a hashed key
abbrev pub WaitsFor : {K N R : Type 0} → List (Opens K N R) → ℕ × K → ℕ → Type 0
WaitsFor fetches key token = IsSomeAnd (open_in fetches key) (λ opened. has token (tokens_of opened) ≡ true)

-- a token was issued for this hashed key, where these were issued; `same` says when keys are equal
abbrev pub IsIssuedFor : {K : Type 0} → (K → K → Bool) → List ((ℕ × K) × ℕ) → ℕ × K → ℕ → Type 0
IsIssuedFor same [] key token = ⊥
IsIssuedFor same (one ∷ others) key token = ((same_key same one.0 key ≡ true) × (one.1 ≡ token))
    ⊎ IsIssuedFor same others key token

-- a token is one of this hashed key: it waited for it, or was issued for it since
abbrev pub IsTokenOf : {K N R : Type 0} → (K → K → Bool) → List (Opens K N R) → List ((ℕ × K) × ℕ) → ℕ × K → ℕ → Type 0
IsTokenOf same fetches issued key token = WaitsFor fetches key token ⊎ IsIssuedFor same issued key token

-- these tokens of a hashed key
abbrev pub of_key : {K : Type 0} → Option (ℕ × K) → List ℕ → List ((ℕ × K) × ℕ)
of_key None tokens = []
of_key (Some key) tokens = map (λ token. (key, token)) tokens

-- these tokens of a shard
abbrev pub of_shard : ℕ → List ℕ → List (ℕ × ℕ)
of_shard shard tokens = map (λ token. (shard, token)) tokens

-- the tokens of those who got something
abbrev pub who_got : List (ℕ × Result (Option ℕ) Reason) → List ℕ
who_got answers = map (λ got. got.0) answers

-- the shard of a hashed key, of so many
abbrev pub shard_of_key : {K : Type 0} → ℕ → Option (ℕ × K) → ℕ
shard_of_key shards None = 0
shard_of_key shards (Some key) = key.0 % shards

module _ {K V P : Type 0} where
  -- the tokens that an answer issues
  abbrev pub issues : Answer K V P → List ℕ
  issues (Lead fetch token) = token ∷ []
  issues (Wait token) = token ∷ []
  issues _ = []

  -- the tokens that it hands out, each with what it got
  abbrev pub outcomes : Answer K V P → List (ℕ × Result (Option ℕ) Reason)
  outcomes (Entry number came answers) = answers
  outcomes (Answered answers came) = answers
  outcomes _ = []

-- `hash` gives each key its hash.
module _ {K V P Q C : Type 0} (hash : K → ℕ) where
  -- the hashed key whose tokens an answer issues and hands out: that of the command, or for an insert of a piece that
  -- of
  -- the record which came in
  abbrev pub key_by : Command K V P Q C → Answer K V P → Option (ℕ × K)
  key_by (Insert now k v p) answer = Some (hash k, k)
  key_by (Get now k) answer = Some (hash k, k)
  key_by (Contains now k) answer = Some (hash k, k)
  key_by (Touch now k) answer = Some (hash k, k)
  key_by (Remove k) answer = Some (hash k, k)
  key_by (InsertPiece now n) (Entry number came answers) = Some (key_of came.kept)
  key_by (GetOrFetch now k later) answer = Some (hash k, k)
  key_by (Complete now k fetch end) answer = Some (hash k, k)
  key_by (Fail k fetch fault) answer = Some (hash k, k)
  key_by (Cancel k fetch) answer = Some (hash k, k)
  key_by (FetchOrTake k fetch outcome) answer = Some (hash k, k)
  key_by (IsOpen k fetch) answer = Some (hash k, k)
  key_by _ answer = None

  -- the tokens that commands and their replies issue, in order, each with its hashed key
  abbrev pub issued_for : List (Command K V P Q C) → List (Reply K V P) → List ((ℕ × K) × ℕ)
  issued_for (command ∷ commands) (reply ∷ replies) = of_key (key_by command reply.answer) (issues reply.answer)
      ++ issued_for commands replies
  issued_for _ _ = []

  -- `shards` is how many there are.
  module _ (shards : ℕ) where
    -- the tokens that a command and its answer issue
    abbrev pub issued_by : Command K V P Q C → Answer K V P → List (ℕ × ℕ)
    issued_by command answer = of_shard (shard_of_key shards (key_by command answer)) (issues answer)

    -- the tokens that they hand out
    abbrev pub handed_by : Command K V P Q C → Answer K V P → List (ℕ × ℕ)
    handed_by command answer = of_shard (shard_of_key shards (key_by command answer)) (who_got (outcomes answer))

    -- the tokens that commands and their replies issue, in order
    abbrev pub issued : List (Command K V P Q C) → List (Reply K V P) → List (ℕ × ℕ)
    issued (command ∷ commands) (reply ∷ replies) = issued_by command reply.answer ++ issued commands replies
    issued _ _ = []

    -- the tokens that they hand out, in order
    abbrev pub handed : List (Command K V P Q C) → List (Reply K V P) → List (ℕ × ℕ)
    handed (command ∷ commands) (reply ∷ replies) = handed_by command reply.answer ++ handed commands replies
    handed _ _ = []

module _ {K V P View C S W A Q : Type 0} (t : Terms K V P View C S W A) where
  -- The tokens of commands and their replies are settled: each one that waited or was issued waits or was handed out,
  -- none twice, and each issued one is new. Who waits for a key waited for it before or was issued a token for it. The
  -- shards are as many as before, and keys have the hashes that they had.
  pub record IsSettled (old : SessionState K V P View S W A) (commands : List (Command K V P Q C))
      (replies : List (Reply K V P)) (new : SessionState K V P View S W A) : Type 0 where
    pub settles : Settles old.fetches new.fetches
        (issued (hash_in t old) (length old.core.shards) commands replies)
        (handed (hash_in t old) (length old.core.shards) commands replies)
    pub keyed : (key : ℕ × K) (token : ℕ) → WaitsFor new.fetches key token →
        IsTokenOf t.meaning.same old.fetches (issued_for (hash_in t old) commands replies) key token
    pub builder : new.core.hash_builder ≡ old.core.hash_builder
    pub shards : length new.core.shards ≡ length old.core.shards

module _ {K V P : Type 0} where
  -- the record that came in with an answer
  abbrev pub came_in : Answer K V P → Option (Gone K V P)
  came_in (Entry number came answers) = Some came
  came_in (Answered answers came) = came
  came_in _ = None

  -- the handle of this number is held, and is one of this record
  abbrev pub IsHandleOf : List (Option (Held K V P)) → Gone K V P → ℕ → Type 0
  IsHandleOf handles came number = IsSomeAnd (held_at handles number) (λ entry. record_of entry ≡ came)

  -- a handle of this number was handed out, and while it is held it is one of this record
  abbrev pub WasHandleOf : List (Option (Held K V P)) → Gone K V P → ℕ → Type 0
  WasHandleOf handles came number = (number < length handles)
      × IfSome (held_at handles number) (λ entry. record_of entry ≡ came)

-- why a record is refused that is to end a fetch
abbrev pub IsRefusal : Reason → Type 0
IsRefusal NoMemory = ⊤
IsRefusal Weight = ⊤
IsRefusal Handles = ⊤
IsRefusal Ids = ⊤
IsRefusal _ = ⊥

module _ {K V P Q C : Type 0} where
  -- why those get nothing who waited
  abbrev pub MayRefuse : Command K V P Q C → Reason → Type 0
  MayRefuse (Complete now k fetch (Value v p source)) reason = IsRefusal reason
  MayRefuse (Complete now k fetch (PieceNo n)) reason = IsRefusal reason ⊎ (reason ≡ WrongKey)
  MayRefuse (Fail k fetch fault) reason = reason ≡ Fetch fault
  MayRefuse (Cancel k fetch) reason = reason ≡ TaskCancelled
  MayRefuse (FetchOrTake k fetch (Some fault)) reason = reason ≡ Fetch fault
  MayRefuse _ reason = ⊥

  -- a fetch ended that found nothing
  abbrev pub FindsNothing : Command K V P Q C → Type 0
  FindsNothing (FetchOrTake k fetch None) = ⊤
  FindsNothing _ = ⊥

  -- What one gets who waited for a key: a handle of the record that came in, which is of the key; nothing; or why not.
  -- `same` says when keys are equal, and `holds` what is known of the handles of a record.
  abbrev pub MayGet : (K → K → Bool) → (Gone K V P → ℕ → Type 0) → Command K V P Q C → Option (Gone K V P) → K →
      Result (Option ℕ) Reason → Type 0
  MayGet same holds command came k (Ok (Some number)) =
      IsSomeAnd came (λ gone. (same k gone.kept.key ≡ true) × holds gone number)
  MayGet same holds command came k (Ok None) = FindsNothing command
  MayGet same holds command came k (Err reason) = MayRefuse command reason

module _ {K V P View C S W A Q : Type 0} (t : Terms K V P View C S W A) where
  -- The tokens of an answer are answered: each one that is handed out waited for the command's key. It gets a handle,
  -- held
  -- now, of the record that came in with that very answer, which is of the key; or nothing, where nothing was found; or
  -- why its fetch ended.
  abbrev pub IsAnswered : SessionState K V P View S W A → Command K V P Q C → Answer K V P →
      SessionState K V P View S W A → Type 0
  IsAnswered old command answer new = AllByRecursion
      (λ got. IsSomeAnd (key_by (hash_in t old) command answer)
      (λ key. WaitsFor old.fetches key got.0 × MayGet t.meaning.same (IsHandleOf new.handles) command (came_in answer)
      key.1 got.1))
      (outcomes answer)

  -- So it is with commands and their replies, after others that issued these tokens: each one that is handed out is
  -- one of
  -- the command's key, and a handle that it got is one of the record that came in with that very reply, while it is
  -- held.
  abbrev pub AreAnsweredAfter : List ((ℕ × K) × ℕ) → SessionState K V P View S W A → List (Command K V P Q C) →
      List (Reply K V P) → SessionState K V P View S W A → Type 0
  AreAnsweredAfter before old (command ∷ commands) (reply ∷ replies) new =
      AllByRecursion
      (λ got. IsSomeAnd (key_by (hash_in t old) command reply.answer)
      (λ key. IsTokenOf t.meaning.same old.fetches before key got.0
      × MayGet t.meaning.same (WasHandleOf new.handles) command (came_in reply.answer) key.1 got.1))
      (outcomes reply.answer)
      × AreAnsweredAfter (before ++ of_key (key_by (hash_in t old) command reply.answer) (issues reply.answer)) old
      commands replies new
  AreAnsweredAfter before old _ _ new = ⊤

  -- and from the first one on
  abbrev pub AreAnswered : SessionState K V P View S W A → List (Command K V P Q C) → List (Reply K V P) →
      SessionState K V P View S W A → Type 0
  AreAnswered old commands replies new = AreAnsweredAfter [] old commands replies new
