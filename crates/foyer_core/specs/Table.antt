-- The records of a shard, by slot and by id.
use Rattle.std.specs.Prelude.{◌≡◌, ℕ, Option, Some, None, Bool, option_map, option_and_then, false, if◌then◌else◌, ◌==◌}
use Rattle.foyer_core.specs.Indexer.{same_key}
use Rattle.foyer_core.specs.State.{key_of}
use Rattle.foyer_core.specs.Values.{Kept, Rec}

-- what contracts see of a slot's record
abbrev pub rec_of : {K V P : Type 0} → Kept K V P → Rec K V P
rec_of s = record { kept = s.kept; handles = s.handles; resident = s.resident }

-- whether a slot's record has this key
abbrev pub has_key : {K V P : Type 0} → (K → K → Bool) → Option (Kept K V P) → ℕ × K → Bool
has_key eq None q = false
has_key eq (Some s) q = same_key eq (key_of s.kept) q

-- a slot once its record is out of the index: it stays only while there is a handle
abbrev pub slot_outside : {K V P : Type 0} → Kept K V P → Option (Kept K V P)
slot_outside s = if s.handles == 0 then None else Some (record s { resident = false })

-- the id of a slot's record
abbrev pub id_by : {K V P : Type 0} → (ℕ → Option (Kept K V P)) → ℕ → Option ℕ
id_by slots n = option_map (λ s. s.id) (slots n)

-- an id names a slot exactly where that slot's record has the id
pub record IsTable {K V P : Type 0} (slots : ℕ → Option (Kept K V P)) (ids : ℕ → Option ℕ) : Type 0 where
  pub named : (id n : ℕ) → ids id ≡ Some n → id_by slots n ≡ Some id
  pub known : (n id : ℕ) → id_by slots n ≡ Some id → ids id ≡ Some n

-- the record of an id
abbrev pub record_by : {K V P : Type 0} → (ℕ → Option (Kept K V P)) → (ℕ → Option ℕ) → ℕ → Option (Rec K V P)
record_by slots ids id = option_map rec_of (option_and_then slots (ids id))
