-- What the calls for walks over the records of a cache of bytes make of it.
use Rattle.std.specs.Prelude.{◌≡◌, ◌⊎◌, ℕ, ◌++◌, Bool, true, false, [], ◌∷◌, Option, None, Some, Result, Ok, Err, IfSome, IsSomeAnd, MatchOption, length, slice_get}
use Rattle.std.specs.Global.{Vec}
use Rattle.slab.specs.Slab.{Updates, get}
use Rattle.foyer_policy.specs.declared.error.Reason.{Reason}
use Rattle.foyer_policy.specs.declared.types.Event.{Event}
use Rattle.foyer_policy.specs.declared.types.Event.TheVariants.{Clear, Remove}
use Rattle.foyer_core.specs.Bulk.{TakesRecordOut}
use Rattle.foyer_core.specs.Core.{AtShard, shard_at}
use Rattle.foyer_core.specs.Cores.{core_of, meaning_of_core}
use Rattle.foyer_core.specs.Holds.{HasNoResident}
use Rattle.foyer_core.specs.ResidentPieces.{ArePieces, is_resident}
use Rattle.foyer_core.specs.Values.{Answered, Carried, Gone}
use Rattle.luffapricot_c.specs.declared.cache.ByteCache.{ByteCache}
use Rattle.luffapricot_c.specs.declared.hold.Held.{Held}
use Rattle.luffapricot_c.specs.declared.hold.Held.TheVariants.{Entry, Gone as GoneHeld, Left, Listed, Refused, Waiting}
use Rattle.luffapricot_c.specs.declared.hold.Hold.{Hold}
use Rattle.luffapricot_c.specs.declared.key.Key.{Key}
use Rattle.luffapricot_c.specs.declared.record.LuffaRecord.{LuffaRecord}
use Rattle.luffapricot_c.specs.declared.value.Value.{Value}
use Rattle.luffapricot_c.specs.Bytes.{ShowsParts}
use Rattle.luffapricot_c.specs.Calls.{IsToldOf, Lacks}
use Rattle.luffapricot_c.specs.Frames.{Frames}
use Rattle.luffapricot_c.specs.Releases.{ShowsGone}

-- the records of the shard, in the policy's order, are listed under a number that named nothing
pub record ListsAll (number count : ℕ) (old new : ByteCache) : Type 0 where
  pub pieces : Vec (Carried Key Value Answered)
  pub are : MatchOption (slice_get (core_of old.core).shards 0) (pieces.items ≡ [])
      (λ s. ArePieces (meaning_of_core old.core) s pieces.items)
  pub count_is : count ≡ length pieces.items
  pub vacant : get old.holds number ≡ None
  pub held : Updates old.holds new.holds number (Some (record { held = Listed pieces }))
  pub core : new.core ≡ old.core
  pub rest : Frames (record old { holds = new.holds }) new

-- so by its answer
abbrev pub Lists : {A : Type 0} → Result A Reason → ℕ → ℕ → ByteCache → ByteCache → Type 0
Lists (Ok _) number count old new = ListsAll number count old new
Lists (Err reason) number count old new = Lacks reason old new

-- the listed record at a place among those that a number names
abbrev pub listed_in : Held → ℕ → Option (Carried Key Value Answered)
listed_in (Entry _) index = None
listed_in Waiting index = None
listed_in (Refused _) index = None
listed_in (GoneHeld _) index = None
listed_in (Left _) index = None
listed_in (Listed pieces) index = slice_get pieces.items index

abbrev pub listed_at : Option Hold → ℕ → Option (Carried Key Value Answered)
listed_at None index = None
listed_at (Some hold) index = listed_in hold.held index

-- whether a listed record is still resident
abbrev pub StillIs : Bool → Carried Key Value Answered → ByteCache → Type 0
StillIs found piece c = IsSomeAnd (shard_at (core_of c.core) piece.kept.hash) (λ s. found ≡ is_resident s piece)

-- a listed record is shown to C
abbrev pub ShowsListed : LuffaRecord → Carried Key Value Answered → Type 0
ShowsListed shown piece =
    ShowsParts shown piece.kept.key piece.kept.value piece.kept.value.weight piece.kept.properties

-- a listed record is shown, if there is one that is still resident
abbrev pub ShowsIf : Bool → LuffaRecord → Carried Key Value Answered → Type 0
ShowsIf true shown piece = ShowsListed shown piece
ShowsIf false shown piece = Unit {0}

abbrev pub ShowsAt : Option (Carried Key Value Answered) → Bool → LuffaRecord → ByteCache → Type 0
ShowsAt None found shown c = found ≡ false
ShowsAt (Some piece) found shown c = StillIs found piece c × ShowsIf found shown piece

-- a listed record that is still resident is removed
pub record RemovesPiece (piece : Carried Key Value Answered) (old new : ByteCache) : Type 0 where
  pub gone : Gone Key Value Answered
  pub removes : AtShard (λ s t. TakesRecordOut (meaning_of_core old.core) s piece.id gone t) piece.kept.hash
      (core_of old.core) (core_of new.core)
  pub told : IsToldOf ((Remove, gone) ∷ []) old new
  pub rest : Frames (record old { left = new.left }) new

-- a listed record is removed if it is still resident, and else nothing changes
abbrev pub RemovesListed : Option (Carried Key Value Answered) → Result Bool Reason → ByteCache → ByteCache → Type 0
RemovesListed None (Ok true) old new = ⊥
RemovesListed (Some piece) (Ok true) old new = StillIs true piece old × RemovesPiece piece old new
RemovesListed None (Ok false) old new = (core_of new.core ≡ core_of old.core) × Frames old new
RemovesListed (Some piece) (Ok false) old new = StillIs false piece old × (core_of new.core ≡ core_of old.core)
    × Frames old new
RemovesListed None (Err reason) old new = Lacks reason old new
RemovesListed (Some piece) (Err reason) old new = Lacks reason old new

-- a record is taken out, which leaves as cleared, with some id in the shard of some hash
pub record TakesOne (gone : Event × Gone Key Value Answered) (old new : ByteCache) : Type 0 where
  pub hash : ℕ
  pub id : ℕ
  pub event : gone.0 ≡ Clear
  pub takes : AtShard (λ s t. TakesRecordOut (meaning_of_core old.core) s id gone.1 t) hash
      (core_of old.core) (core_of new.core)
  pub rest : Frames old new

-- so if there is one in the index, and else nothing changes
abbrev pub TakesAny : Option (Event × Gone Key Value Answered) → ByteCache → ByteCache → Type 0
TakesAny (Some gone) old new = TakesOne gone old new
TakesAny None old new = IfSome (slice_get (core_of old.core).shards 0) HasNoResident × (new.core ≡ old.core)
    × Frames old new

-- this is the last record that left and wasn't taken, or else one that is taken out now
abbrev pub LeavesNext : Event × Gone Key Value Answered → ByteCache → ByteCache → Type 0
LeavesNext gone old new = ((old.left.items ≡ new.left.items ++ gone ∷ []) × (new.core ≡ old.core)
    × Frames (record old { left = new.left }) new)
    ⊎ ((old.left.items ≡ []) × TakesOne gone old new)

-- the next record is shown, and kept so that it can be read; or there is none
abbrev pub ClearsOne : Bool → LuffaRecord → ByteCache → ByteCache → Type 0
ClearsOne true shown old new = (gone : Event × Gone Key Value Answered) × LeavesNext gone old new
    × ShowsGone shown gone × (new.last_shown ≡ Some gone)
ClearsOne false shown old new = (old.left.items ≡ []) × TakesAny None old new
