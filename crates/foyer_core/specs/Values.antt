-- What contracts see of a record, a slot, an entry and a leave.
use Rattle.std.specs.Prelude.{ℕ, Bool, List, Option}
use Rattle.foyer_policy.specs.declared.error.Reason.{Reason}
use Rattle.foyer_policy.specs.declared.types.Event.{Event}
use Rattle.foyer_policy.specs.declared.types.Hint.{Hint}
use Rattle.foyer_policy.specs.declared.types.Source.{Source}
use Rattle.foyer_core.specs.declared.record.Data.{Data}
use Rattle.foyer_core.specs.declared.record.Flags.{Flags}
use Rattle.foyer_core.specs.declared.share.Body.{Body}

-- what all shares of a record have in common
abbrev pub body_of : {K V P : Type 0} → Data K V P → Body K V P
body_of d = record { key = d.key; value = d.value; properties = d.properties }

-- the data of a body with this hash and weight
abbrev pub kept_of : {K V P : Type 0} → Body K V P → ℕ → ℕ → Data K V P
kept_of body hash weight =
    record { key = body.key; value = body.value; properties = body.properties; hash = hash; weight = weight }

-- a record: its data, its place in the policy, its handle count and its flags
pub record Stored (K V P : Type 0) : Type 0 where
  pub kept : Data K V P
  pub place : Option ℕ
  pub handles : ℕ
  pub flags : Flags

-- a slot: a record with its id, and whether it is in the index
pub record Kept (K V P : Type 0) : Type 0 where
  pub id : ℕ
  pub kept : Data K V P
  pub handles : ℕ
  pub resident : Bool

-- an entry: a handle of the record of this id of the core of this number, where it came from, and
-- whether it can still give its leave's share
pub record Held (K V P : Type 0) : Type 0 where
  pub number : ℕ
  pub id : ℕ
  pub kept : Data K V P
  pub source : Source
  pub left : Bool

-- a record that comes in: its id, what it keeps, and how many handles it then has
pub record Incoming (K V P : Type 0) : Type 0 where
  pub id : ℕ
  pub kept : Data K V P
  pub handles : ℕ

-- what comes in with a slot
abbrev pub incoming_of : {K V P : Type 0} → Kept K V P → Incoming K V P
incoming_of s = record { id = s.id; kept = s.kept; handles = s.handles }

-- what left: the record of this id of the core of this number
pub record Gone (K V P : Type 0) : Type 0 where
  pub number : ℕ
  pub id : ℕ
  pub kept : Data K V P

-- a piece: what is kept of the record of this id of the core of this number, outside of it
pub record Carried (K V P : Type 0) : Type 0 where
  pub number : ℕ
  pub id : ℕ
  pub kept : Data K V P

-- what an insert answers that is not refused: an entry of the record, and what left
pub record Made (K V P : Type 0) : Type 0 where
  pub entry : Held K V P
  pub leaves : List (Event × Gone K V P)

-- what a refused insert answers: why, and what had left by then
pub record Denied (K V P : Type 0) : Type 0 where
  pub reason : Reason
  pub leaves : List (Event × Gone K V P)

-- what a shard holds under an id: the data, how many handles there are, and whether it is in the index
pub record Rec (K V P : Type 0) : Type 0 where
  pub kept : Data K V P
  pub handles : ℕ
  pub resident : Bool

-- what `CacheProperties` answer
pub record Answered : Type 0 where
  pub phantom : Option Bool
  pub hint : Hint
  pub expires : Option ℕ
