-- Records that come in by a piece.
use Rattle.std.specs.Prelude.{◌≡◌, ℕ, Bool, ◌+◌, ◌≤◌, ◌==◌, ◌&&◌, List, [], Option, Some, None, Result, Ok, Err, true, false, if◌then◌else◌, nat_lt}
use Rattle.foyer_policy.specs.declared.types.Event.{Event}
use Rattle.foyer_policy.specs.declared.types.Source.TheVariants.{Memory}
use Rattle.foyer_policy.specs.declared.error.Reason.{Reason}
use Rattle.foyer_core.specs.declared.record.Data.{Data}
use Rattle.foyer_core.specs.Core.{InsertsAnswering}
use Rattle.foyer_core.specs.State.{Meaning, State, handles_in, key_of}
use Rattle.foyer_core.specs.Steps.{Inserts, RefusesInsert, RefusesHandles, after_handles, entry_of, newcomer}
use Rattle.foyer_core.specs.Values.{Carried, Denied, Gone, Held, Incoming, Made, Rec}

-- A shard knows a piece whose key has this hash: the piece has its core's number, its hash is that hash, and its
-- id was given.
abbrev pub is_known : {K V P View : Type 0} → State K V P View → ℕ → Carried K V P → Bool
is_known s hash piece = (piece.number == s.number) && ((piece.kept.hash == hash) && nat_lt piece.id s.next)

-- the data of the record that a known piece stands for: what is held of it, or else the piece's
abbrev pub held_or : {K V P : Type 0} → Data K V P → Option (Rec K V P) → Data K V P
held_or d None = d
held_or d (Some r) = r.kept

-- that record, with so many handles more than it has
abbrev pub returning : {K V P View : Type 0} → State K V P View → Carried K V P → ℕ → Incoming K V P
returning s piece more =
    record { id = piece.id; kept = held_or piece.kept (s.records piece.id); handles = handles_in s piece.id + more }

-- the hashed key under which a piece comes in, whose key has this hash: that of the record for which it stands
abbrev pub coming_under : {K V P View : Type 0} → State K V P View → ℕ → Carried K V P → ℕ × K
coming_under s hash piece = if is_known s hash piece then key_of (held_or piece.kept (s.records piece.id))
    else (hash, piece.kept.key)

-- whether a record is held that is in the index
abbrev pub is_in : {K V P : Type 0} → Option (Rec K V P) → Bool
is_in None = false
is_in (Some r) = r.resident

-- a record has so many handles more, of which the policy is not told, and nothing leaves
pub record GainsHandles {K V P View : Type 0} (old : State K V P View) (id more : ℕ) (ls : List (Event × Gone K V P))
    (entry : Held K V P) (new : State K V P View) : Type 0 where
  pub rec : Rec K V P
  pub there : old.records id ≡ Some rec
  pub may : rec.handles + more ≤ old.limits.handles
  pub leaves : ls ≡ []
  pub entry_is : entry ≡ entry_of old id rec.kept Memory
  pub after : new ≡ after_handles old id more rec

module _ {K V P View C : Type 0} (m : Meaning K P View C) where
  -- A known piece comes in, with so many handles: where its record is in the index, the record has those more, and
  -- else it is inserted under its id.
  abbrev pub ReturnsBy : Bool → State K V P View → Carried K V P → ℕ → List (Event × Gone K V P) → Held K V P →
      State K V P View → Type 0
  ReturnsBy true old piece more ls entry new = GainsHandles old piece.id more ls entry new
  ReturnsBy false old piece more ls entry new = Inserts m Memory old (returning old piece more) ls entry new

  abbrev pub Returns : State K V P View → Carried K V P → ℕ → List (Event × Gone K V P) → Held K V P →
      State K V P View → Type 0
  Returns old piece more ls entry new = ReturnsBy (is_in (old.records piece.id)) old piece more ls entry new

  -- and one that is refused
  abbrev pub RefusesReturnBy : Bool → State K V P View → Carried K V P → ℕ → Reason → List (Event × Gone K V P) →
      State K V P View → Type 0
  RefusesReturnBy true old piece more reason ls new = (ls ≡ []) × RefusesHandles old piece.id more reason new
  RefusesReturnBy false old piece more reason ls new = RefusesInsert m old (returning old piece more) reason ls new

  abbrev pub RefusesReturn : State K V P View → Carried K V P → ℕ → Reason → List (Event × Gone K V P) →
      State K V P View → Type 0
  RefusesReturn old piece more reason ls new =
      RefusesReturnBy (is_in (old.records piece.id)) old piece more reason ls new

  -- what an insert of a known piece answers
  abbrev pub ReturnsAnswering : State K V P View → Carried K V P → ℕ → Result (Made K V P) (Denied K V P) →
      State K V P View → Type 0
  ReturnsAnswering old piece more (Ok made) new = Returns old piece more made.leaves made.entry new
  ReturnsAnswering old piece more (Err denied) new = RefusesReturn old piece more denied.reason denied.leaves new

  -- What an insert of a piece answers, whose key has this hash, with so many handles: one that the shard knows stands
  -- for its record, and any other makes a new record, with a weight that the weighter may give it.
  abbrev pub PieceBy : Bool → (ℕ → Type 0) → ℕ → Carried K V P → ℕ → Result (Made K V P) (Denied K V P) →
      State K V P View → State K V P View → Type 0
  PieceBy true weighs hash piece more result old new = ReturnsAnswering old piece more result new
  PieceBy false weighs hash piece more result old new =
      (weight : ℕ) × weighs weight × InsertsAnswering m Memory old
      (newcomer old (record piece.kept { hash = hash; weight = weight }) more) result new

  abbrev pub InsertsPiece : (ℕ → Type 0) → ℕ → Carried K V P → ℕ → Result (Made K V P) (Denied K V P) →
      State K V P View → State K V P View → Type 0
  InsertsPiece weighs hash piece more result old new =
      PieceBy (is_known old hash piece) weighs hash piece more result old new
