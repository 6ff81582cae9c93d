-- What the calls for a number that C holds make of a cache of bytes.
use Rattle.std.specs.Prelude.{◌≡◌, ◌≢◌, ℕ, ◌<◌, Bool, true, false, List, [], ◌∷◌, IsSomeAnd, Option, None, Some, Result, Ok, Err, if◌then◌else◌, is_some, length, option_map, slice_get}
use Rattle.std.specs.Global.{Vec}
use Rattle.slab.specs.Slab.{Updates, get}
use Rattle.foyer_policy.specs.declared.error.Reason.{Reason}
use Rattle.foyer_policy.specs.declared.error.Reason.TheVariants.{NoMemory}
use Rattle.foyer_policy.specs.declared.types.Event.{Event}
use Rattle.foyer_policy.specs.declared.types.Event.TheVariants.{Clear, Evict, Remove, Replace}
use Rattle.foyer_core.specs.Core.{AtShard, Core, shard_at}
use Rattle.foyer_core.specs.Cores.{core_of, meaning_of_core}
use Rattle.foyer_core.specs.State.{Meaning, handles_in}
use Rattle.foyer_core.specs.Steps.{GivesBack}
use Rattle.foyer_core.specs.Values.{Answered, Gone as GoneOf, Rec}
use Rattle.luffapricot_c.specs.declared.cache.ByteCache.{ByteCache}
use Rattle.luffapricot_c.specs.declared.hold.Held.{Held}
use Rattle.luffapricot_c.specs.declared.hold.Held.TheVariants.{Entry, Gone, Left, Listed, Refused, Waiting}
use Rattle.luffapricot_c.specs.declared.hold.Hold.{Hold}
use Rattle.luffapricot_c.specs.declared.key.Key.{Key}
use Rattle.luffapricot_c.specs.declared.record.LuffaRecord.{LuffaRecord}
use Rattle.luffapricot_c.specs.declared.value.Value.{Value}
use Rattle.luffapricot_c.specs.Bytes.{Shows}
use Rattle.luffapricot_c.specs.Frames.{Frames}
use Rattle.luffapricot_c.specs.Named.{Named}

-- the number of a reason to leave
abbrev pub event_of : Event → ℕ
event_of Evict = 0
event_of Replace = 1
event_of Remove = 2
event_of Clear = 3

-- a record that left is shown to C
abbrev pub ShowsGone : LuffaRecord → Event × GoneOf Key Value Answered → Type 0
ShowsGone shown gone = Shows shown gone.1.kept × (shown.event ≡ event_of gone.0)

-- what a number names once its entry has ended: what left with that, if there is a listener
abbrev pub last_of : Bool → Option (Event × GoneOf Key Value Answered) → Option Hold
last_of has_listener leave = if has_listener then option_map (λ gone. record { held = Gone gone }) leave else None

-- the record that is named has a handle in its shard
abbrev pub HasHandle : {View S W A : Type 0} → Named → Core Key Value Answered View S W A → Type 0
HasHandle named core = IsSomeAnd (shard_at core named.hash) (λ s. 0 < handles_in s named.id)

-- a handle of the record that is named goes back to the core, and if it has none, nothing changes
pub record EndsNamed {View C S W A : Type 0} (m : Meaning Key Answered View C) (named : Named)
    (leave : Option (Event × GoneOf Key Value Answered)) (old new : Core Key Value Answered View S W A) : Type 0 where
  pub owned : HasHandle named old → AtShard (λ s t. GivesBack m s named.id leave t) named.hash old new
  pub foreign : (HasHandle named old → ⊥) → (leave ≡ None) × (new ≡ old)

-- an entry's handle goes back to the core, with status 104 if its number still names something
pub record ReleasesEntry (named : Named) (number status : ℕ) (old new : ByteCache) : Type 0 where
  pub leave : Option (Event × GoneOf Key Value Answered)
  pub ends : EndsNamed (meaning_of_core old.core) named leave (core_of old.core) (core_of new.core)
  pub names : Updates old.holds new.holds number (last_of old.has_listener leave)
  pub status_is : status ≡ (if is_some (last_of old.has_listener leave) then 104 else 0)

-- what a number names ends, but a wait goes on
abbrev pub ReleasesHeld : Held → ℕ → ℕ → ByteCache → ByteCache → Type 0
ReleasesHeld (Entry named) number status old new = ReleasesEntry named number status old new
ReleasesHeld Waiting number status old new = (status ≡ 103) × (new.core ≡ old.core)
    × Updates old.holds new.holds number (Some (record { held = Waiting }))
ReleasesHeld (Refused _) number status old new = (status ≡ 0) × (new.core ≡ old.core)
    × Updates old.holds new.holds number None
ReleasesHeld (Gone _) number status old new = (status ≡ 0) × (new.core ≡ old.core)
    × Updates old.holds new.holds number None
ReleasesHeld (Left _) number status old new = (status ≡ 0) × (new.core ≡ old.core)
    × Updates old.holds new.holds number None
ReleasesHeld (Listed _) number status old new = (status ≡ 0) × (new.core ≡ old.core)
    × Updates old.holds new.holds number None

-- a number is released, or names nothing
abbrev pub Releases : Option Hold → ℕ → ℕ → ByteCache → ByteCache → Type 0
Releases None number status old new = (status ≡ 101) × (new ≡ old)
Releases (Some hold) number status old new = ReleasesHeld hold.held number status old new × (new.left ≡ old.left)
    × Frames (record old { holds = new.holds }) new

-- what a shard has under an id is shown under a number, with status 0, or is not there, with status 101
abbrev pub ShowsRecord : Option (Rec Key Value Answered) → ℕ → ℕ → LuffaRecord → Type 0
ShowsRecord None number status shown = status ≡ 101
ShowsRecord (Some r) number status shown = (status ≡ 0) × (shown.number ≡ number) × Shows shown r.kept

-- what a number that waited was answered
abbrev pub HeldAnswers : Held → ℕ → ℕ → LuffaRecord → ByteCache → Type 0
HeldAnswers (Entry named) number status shown c =
    IsSomeAnd (shard_at (core_of c.core) named.hash) (λ s. ShowsRecord (s.records named.id) number status shown)
HeldAnswers Waiting number status shown c = status ≡ 103
HeldAnswers (Refused refusal) number status shown c = status ≡ refusal
HeldAnswers (Gone _) number status shown c = status ≡ 101
HeldAnswers (Left _) number status shown c = status ≡ 101
HeldAnswers (Listed _) number status shown c = status ≡ 101

-- so of a number, which may name nothing
abbrev pub NumberAnswers : Option Hold → ℕ → ℕ → LuffaRecord → ByteCache → Type 0
NumberAnswers None number status shown c = status ≡ 101
NumberAnswers (Some hold) number status shown c = HeldAnswers hold.held number status shown c

-- what a number names that takes what left: a single record by itself
abbrev pub held_left : Vec (Event × GoneOf Key Value Answered) → List (Event × GoneOf Key Value Answered) → Held
held_left left [] = Left left
held_left left (gone ∷ []) = Gone gone
held_left left (gone ∷ other ∷ more) = Left left

-- what left goes under a number that named nothing; without memory it stays
abbrev pub TakesLeft : Result Bool Reason → ℕ → ℕ → ByteCache → ByteCache → Type 0
TakesLeft (Ok true) number count old new = (old.left.items ≢ []) × (count ≡ length old.left.items)
    × (new.left.items ≡ []) × (new.core ≡ old.core) × (get old.holds number ≡ None)
    × Updates old.holds new.holds number (Some (record { held = held_left old.left old.left.items }))
    × Frames (record old { holds = new.holds; left = new.left }) new
TakesLeft (Ok false) number count old new = (old.left.items ≡ []) × (new ≡ old)
TakesLeft (Err reason) number count old new = (reason ≡ NoMemory) × (new.left ≡ old.left) × (new.core ≡ old.core)
    × Frames old new

-- the record that left at a place among those that a number names
abbrev pub left_in : Held → ℕ → Option (Event × GoneOf Key Value Answered)
left_in (Entry _) index = None
left_in Waiting index = None
left_in (Refused _) index = None
left_in (Gone gone) index = Some gone
left_in (Left leaves) index = slice_get leaves.items index
left_in (Listed _) index = None

abbrev pub left_at : Option Hold → ℕ → Option (Event × GoneOf Key Value Answered)
left_at None index = None
left_at (Some hold) index = left_in hold.held index

-- a record that left is shown, if there is one
abbrev pub ShowsLeft : Option (Event × GoneOf Key Value Answered) → LuffaRecord → Type 0
ShowsLeft None shown = Unit {0}
ShowsLeft (Some gone) shown = ShowsGone shown gone
