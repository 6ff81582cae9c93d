-- What the calls of a cache of bytes make of it, by the steps of its core.
use Rattle.std.specs.Prelude.{◌≡◌, ℕ, ◌+◌, ◌++◌, ◌⊎◌, IsSomeAnd, Bool, true, false, List, [], ◌∷◌, Option, Some, None, Result, Ok, Err, if◌then◌else◌, is_some, length}
use Rattle.slab.specs.Slab.{Slab, Updates, get}
use Rattle.foyer_policy.specs.declared.error.Reason.{Reason}
use Rattle.foyer_policy.specs.declared.error.Reason.TheVariants.{NoMemory}
use Rattle.foyer_policy.specs.declared.types.Event.{Event}
use Rattle.foyer_policy.specs.declared.types.Event.TheVariants.{Remove}
use Rattle.foyer_policy.specs.declared.types.Source.TheVariants.{Outer}
use Rattle.foyer_core.specs.declared.outcome.InsertedOnto.{InsertedOnto}
use Rattle.foyer_core.specs.declared.outcome.PutOnto.{PutOnto}
use Rattle.foyer_core.specs.declared.record.Data.{Data}
use Rattle.foyer_core.specs.CallLaws.{AnswersIn, IsNewEntry}
use Rattle.foyer_core.specs.Core.{AtShard, InsertsWeighed, hit_in, shard_at}
use Rattle.foyer_core.specs.CoreFetches.{open_in}
use Rattle.foyer_core.specs.Cores.{core_of, fetches_of, hashes_of, meaning_of_core}
use Rattle.foyer_core.specs.Inflight.{waiters_of}
use Rattle.foyer_core.specs.NoEntry.{Peeks, PutsWeighed, Reads, last_of}
use Rattle.foyer_core.specs.Onto.{insertion_onto}
use Rattle.foyer_core.specs.State.{at_moment}
use Rattle.foyer_core.specs.Steps.{Gets, Removes, Touches}
use Rattle.foyer_core.specs.Values.{Answered, Gone, Held}
use Rattle.luffapricot_c.specs.declared.cache.ByteCache.{ByteCache}
use Rattle.luffapricot_c.specs.declared.hold.Held.TheVariants.{Entry}
use Rattle.luffapricot_c.specs.declared.hold.Hold.{Hold}
use Rattle.luffapricot_c.specs.declared.key.Key.{Key}
use Rattle.luffapricot_c.specs.declared.record.LuffaRecord.{LuffaRecord}
use Rattle.luffapricot_c.specs.declared.value.Value.{Value}
use Rattle.luffapricot_c.specs.Holds.{given}
use Rattle.luffapricot_c.specs.Bytes.{CopiesValue, IsKey, IsValue, Shows, admitted_with}
use Rattle.luffapricot_c.specs.Frames.{Frames}
use Rattle.luffapricot_c.specs.Named.{Named, named_of}

-- A call on what an address holds, and its status: with nothing there, 107, and still nothing is there; else what is there
-- makes a step.
unfoldable pub OnHeld : (ByteCache → ℕ → ByteCache → Type 0) → Option ByteCache → ℕ → Option ByteCache → Type 0
OnHeld step None status held = (status ≡ 107) × (held ≡ None)
OnHeld step (Some old) status None = ⊥
OnHeld step (Some old) status (Some new) = step old status new

-- memory was refused before the core was asked, and all is as it was
abbrev pub Lacks : Reason → ByteCache → ByteCache → Type 0
Lacks reason old new = (reason ≡ NoMemory) × (core_of new.core ≡ core_of old.core) × Frames old new

-- a get of a key by the core
abbrev pub CoreGets : ℕ → Key → Result (Option (Held Key Value Answered)) Reason → ByteCache → ByteCache → Type 0
CoreGets now k answer old new =
    AtShard (λ s t. Gets (meaning_of_core old.core) now s (hashes_of old.core k, k) answer t) (hashes_of old.core k)
    (core_of old.core) (core_of new.core)

-- a touch of a key by the core
abbrev pub CoreTouches : ℕ → Key → Result Bool Reason → ByteCache → ByteCache → Type 0
CoreTouches now k answer old new =
    AtShard (λ s t. Touches (meaning_of_core old.core) now s (hashes_of old.core k, k) answer t) (hashes_of old.core k)
    (core_of old.core) (core_of new.core)

-- a removal of a key by the core
abbrev pub CoreRemoves : Key → Result (Option (Held Key Value Answered × Gone Key Value Answered)) Reason → ByteCache →
    ByteCache → Type 0
CoreRemoves k answer old new =
    AtShard (λ s t. Removes (meaning_of_core old.core) s (hashes_of old.core k, k) answer t) (hashes_of old.core k)
    (core_of old.core) (core_of new.core)

-- a read of a key by the core, where this is seen of its value
abbrev pub CoreReads : {T : Type 0} → ℕ → Key → (Value → T → Type 0) → Result (Option T) Reason → ByteCache → ByteCache →
    Type 0
CoreReads now k sees answer old new =
    AtShard (λ s t. Reads (meaning_of_core old.core) now s (hashes_of old.core k, k) sees answer t) (hashes_of old.core k)
    (core_of old.core) (core_of new.core)

-- a look at a key's value by the core, of which this is seen
abbrev pub CorePeeks : {T : Type 0} → ℕ → Key → (Value → T → Type 0) → Option T → ByteCache → Type 0
CorePeeks now k sees answer c = IsSomeAnd (shard_at (core_of c.core) (hashes_of c.core k))
    (λ s. Peeks (meaning_of_core c.core) now s (hashes_of c.core k, k) sees answer)

-- what left is told, if there is a listener
abbrev pub IsToldOf : List (Event × Gone Key Value Answered) → ByteCache → ByteCache → Type 0
IsToldOf leaves old new = new.left.items ≡ (if old.has_listener then old.left.items ++ leaves else [])

-- a handle is held, by the name of its record, under the number of a record that shows this data of it, which named
-- nothing before
pub record HoldsEntry (named : Named) (kept : Data Key Value Answered) (shown : LuffaRecord) (old new : Slab Hold) : Type 0
  where
    pub vacant : get old shown.number ≡ None
    pub held : Updates old new shown.number (Some (record { held = Entry named }))
    pub shows : Shows shown kept

-- each who waits for the key gets an entry like this one, and its fetch is closed; after a refusal all go on waiting
abbrev pub AnswersWaiting : Key → Result (InsertedOnto Key Value Answered ℕ) Reason → ByteCache → ByteCache → Type 0
AnswersWaiting own (Ok made) old new = AnswersIn (meaning_of_core old.core).same (hashes_of old.core own) made.entry
    made.answers (fetches_of old.core) (fetches_of new.core)
AnswersWaiting own (Err _) old new = fetches_of new.core ≡ fetches_of old.core

-- the core's insert of a record of these bytes, owner, weight and properties
pub record CoreInserts (now hash : ℕ) (key bytes : List ℕ) (owner weight : ℕ) (p : Answered)
    (result : Result (InsertedOnto Key Value Answered ℕ) Reason) (old new : ByteCache) : Type 0 where
  pub own : Key
  pub own_is : IsKey hash key own
  pub value : Value
  pub value_is : IsValue bytes owner weight value
  pub leaves : List (Event × Gone Key Value Answered)
  pub inserts : InsertsWeighed (at_moment now (meaning_of_core old.core)) Outer (λ w. w ≡ value.weight)
      (λ admitted. admitted ≡ true) (hashes_of old.core own) own value (admitted_with p)
      (1 + length (waiters_of (open_in (fetches_of old.core) (hashes_of old.core own, own))))
      (insertion_onto result leaves) (core_of old.core) (core_of new.core)
  pub answered : AnswersWaiting own result old new
  pub told : IsToldOf leaves old new
  pub rest : Frames (record old { core = new.core; holds = new.holds; left = new.left }) new

-- an insert, with what the core answers, or for want of memory before that
abbrev pub InsertsBytes : ℕ → ℕ → List ℕ → List ℕ → ℕ → ℕ → Answered → Result (InsertedOnto Key Value Answered ℕ) Reason →
    ByteCache → ByteCache → Type 0
InsertsBytes now hash key bytes owner weight p (Ok made) old new =
    CoreInserts now hash key bytes owner weight p (Ok made) old new
InsertsBytes now hash key bytes owner weight p (Err reason) old new =
    Lacks reason old new
    ⊎ (CoreInserts now hash key bytes owner weight p (Err reason) old new × Frames (record old { left = new.left }) new)

-- those who wait for a key are answered by entries of a new record of it with this value, and its fetch is closed; after
-- a refusal all go on waiting
abbrev pub PutAnswers : Key → Value → Result (PutOnto Key Value Answered ℕ) Reason → ByteCache → ByteCache → Type 0
PutAnswers own value (Ok put) old new = (entry : Held Key Value Answered)
    × IsNewEntry (core_of old.core) (hashes_of old.core own) own value entry
    × AnswersIn (meaning_of_core old.core).same (hashes_of old.core own) entry put.answers (fetches_of old.core)
    (fetches_of new.core)
PutAnswers own value (Err _) old new = fetches_of new.core ≡ fetches_of old.core

-- the core's put of a record of these bytes, owner, weight and properties
pub record CorePuts (now hash : ℕ) (key bytes : List ℕ) (owner weight : ℕ) (p : Answered)
    (result : Result (PutOnto Key Value Answered ℕ) Reason) (old new : ByteCache) : Type 0 where
  pub own : Key
  pub own_is : IsKey hash key own
  pub value : Value
  pub value_is : IsValue bytes owner weight value
  pub leaves : List (Event × Gone Key Value Answered)
  pub puts : PutsWeighed (meaning_of_core old.core) now (λ w. w ≡ value.weight) (λ admitted. admitted ≡ true)
      (hashes_of old.core own) own value (admitted_with p)
      (1 + length (waiters_of (open_in (fetches_of old.core) (hashes_of old.core own, own)))) (last_of result) leaves
      (core_of old.core) (core_of new.core)
  pub answered : PutAnswers own value result old new
  pub told : IsToldOf leaves old new
  pub rest : Frames (record old { core = new.core; holds = new.holds; left = new.left }) new

-- an insert of which no entry is wanted
abbrev pub Inserts : {A : Type 0} → ℕ → ℕ → List ℕ → List ℕ → ℕ → ℕ → Answered → Result A Reason → ByteCache →
    ByteCache → Type 0
Inserts now hash key bytes owner weight p (Ok _) old new = (put : PutOnto Key Value Answered ℕ)
    × CorePuts now hash key bytes owner weight p (Ok put) old new × (new.holds ≡ given put.answers old.holds)
Inserts now hash key bytes owner weight p (Err reason) old new = Lacks reason old new
    ⊎ (CorePuts now hash key bytes owner weight p (Err reason) old new × Frames (record old { left = new.left }) new)

-- an insert whose entry is held
abbrev pub InsertsEntry : {A : Type 0} → ℕ → ℕ → List ℕ → List ℕ → ℕ → ℕ → Answered → Result A Reason → LuffaRecord →
    ByteCache → ByteCache → Type 0
InsertsEntry now hash key bytes owner weight p (Ok _) shown old new = (made : InsertedOnto Key Value Answered ℕ)
    × (mid : Slab Hold) × CoreInserts now hash key bytes owner weight p (Ok made) old new
    × HoldsEntry (named_of made.entry) made.entry.kept shown old.holds mid × (new.holds ≡ given made.answers mid)
InsertsEntry now hash key bytes owner weight p (Err reason) shown old new =
    InsertsBytes now hash key bytes owner weight p (Err reason) old new

-- a get that finds nothing, or fails
abbrev pub GetsNone : ℕ → ℕ → List ℕ → Result (Option (Held Key Value Answered)) Reason → ByteCache → ByteCache → Type 0
GetsNone now hash key answer old new = (own : Key) × IsKey hash key own × CoreGets now own answer old new
    × Frames old new

-- a read of a key that the core is asked for, whose value is copied
pub record ReadsKey (now hash : ℕ) (key out filled : List ℕ) (answer : Result (Option ℕ) Reason) (old new : ByteCache) :
    Type 0 where
  pub own : Key
  pub own_is : IsKey hash key own
  pub reads : CoreReads now own (CopiesValue out filled) answer old new
  pub rest : Frames old new

-- a read of a key, whose value is copied
abbrev pub GetsCopy : ℕ → ℕ → List ℕ → List ℕ → Result (Option ℕ) Reason → List ℕ → ByteCache → ByteCache → Type 0
GetsCopy now hash key out (Ok (Some len)) filled old new = ReadsKey now hash key out filled (Ok (Some len)) old new
GetsCopy now hash key out (Ok None) filled old new = (filled ≡ out) × ReadsKey now hash key out filled (Ok None) old new
GetsCopy now hash key out (Err reason) filled old new = (filled ≡ out)
    × (Lacks reason old new ⊎ ReadsKey now hash key out filled (Err reason) old new)

-- a look at a key's value, which is copied, and nothing changes
pub record PeeksKey (now hash : ℕ) (key out filled : List ℕ) (answer : Option ℕ) (old new : ByteCache) : Type 0 where
  pub own : Key
  pub own_is : IsKey hash key own
  pub peeks : CorePeeks now own (CopiesValue out filled) answer old
  pub core : new.core ≡ old.core
  pub rest : Frames old new

-- so by its answer
abbrev pub PeeksCopy : ℕ → ℕ → List ℕ → List ℕ → Result (Option ℕ) Reason → List ℕ → ByteCache → ByteCache → Type 0
PeeksCopy now hash key out (Ok (Some len)) filled old new = PeeksKey now hash key out filled (Some len) old new
PeeksCopy now hash key out (Ok None) filled old new = (filled ≡ out) × PeeksKey now hash key out filled None old new
PeeksCopy now hash key out (Err reason) filled old new = (filled ≡ out) × Lacks reason old new

-- a get that finds an entry, which is held
pub record GetsHeld (now hash : ℕ) (key : List ℕ) (shown : LuffaRecord) (old new : ByteCache) : Type 0 where
  pub own : Key
  pub own_is : IsKey hash key own
  pub entry : Held Key Value Answered
  pub gets : CoreGets now own (Ok (Some entry)) old new
  pub holds : HoldsEntry (record { hash = hashes_of old.core own; id = entry.id }) entry.kept shown old.holds new.holds
  pub rest : Frames (record old { holds = new.holds }) new

-- a get that holds what it finds
abbrev pub GetsEntry : ℕ → ℕ → List ℕ → Result Bool Reason → LuffaRecord → ByteCache → ByteCache → Type 0
GetsEntry now hash key (Ok true) shown old new = GetsHeld now hash key shown old new
GetsEntry now hash key (Ok false) shown old new = GetsNone now hash key (Ok None) old new
GetsEntry now hash key (Err reason) shown old new =
    Lacks reason old new ⊎ GetsNone now hash key (Err reason) old new

-- a removal of a record, of which an entry is held
pub record RemovesHeld (hash : ℕ) (key : List ℕ) (shown : LuffaRecord) (old new : ByteCache) : Type 0 where
  pub own : Key
  pub own_is : IsKey hash key own
  pub out : Held Key Value Answered × Gone Key Value Answered
  pub removes : CoreRemoves own (Ok (Some out)) old new
  pub holds : HoldsEntry (named_of out.0) out.0.kept shown old.holds new.holds
  pub told : IsToldOf ((Remove, out.1) ∷ []) old new
  pub rest : Frames (record old { holds = new.holds; left = new.left }) new

-- a removal that finds nothing, or fails
abbrev pub RemovesNone : ℕ → List ℕ → Result (Option (Held Key Value Answered × Gone Key Value Answered)) Reason →
    ByteCache → ByteCache → Type 0
RemovesNone hash key answer old new = (own : Key) × IsKey hash key own × CoreRemoves own answer old new × Frames old new

-- a removal that holds what it finds
abbrev pub RemovesEntry : ℕ → List ℕ → Result Bool Reason → LuffaRecord → ByteCache → ByteCache → Type 0
RemovesEntry hash key (Ok true) shown old new = RemovesHeld hash key shown old new
RemovesEntry hash key (Ok false) shown old new = RemovesNone hash key (Ok None) old new
RemovesEntry hash key (Err reason) shown old new = Lacks reason old new ⊎ RemovesNone hash key (Err reason) old new

-- whether a get would find a key, which changes nothing
abbrev pub FindsKey : ℕ → ℕ → List ℕ → Result Bool Reason → ByteCache → ByteCache → Type 0
FindsKey now hash key (Ok found) old new = (own : Key) × IsKey hash key own × (new.core ≡ old.core)
    × (found ≡ is_some (hit_in (meaning_of_core old.core) now (core_of old.core) (hashes_of old.core own, own)))
    × Frames old new
FindsKey now hash key (Err reason) old new = Lacks reason old new

-- a touch of a key that the core is asked for
abbrev pub AsksTouch : ℕ → ℕ → List ℕ → Result Bool Reason → ByteCache → ByteCache → Type 0
AsksTouch now hash key answer old new = (own : Key) × IsKey hash key own × CoreTouches now own answer old new
    × Frames old new

-- a touch of a key
abbrev pub TouchesKey : ℕ → ℕ → List ℕ → Result Bool Reason → ByteCache → ByteCache → Type 0
TouchesKey now hash key (Ok found) old new = AsksTouch now hash key (Ok found) old new
TouchesKey now hash key (Err reason) old new = Lacks reason old new ⊎ AsksTouch now hash key (Err reason) old new

-- A call that is made only if what left before was taken: if it was not, its status is 108, and nothing changes.
abbrev pub IfTaken : {L : Type 0} → List L → ℕ → ByteCache → ByteCache → Type 0 → Type 0
IfTaken [] status old new step = step
IfTaken (_ ∷ _) status old new step = (status ≡ 108) × (new ≡ old)
