-- Handles that have a name and no share of their record's data, and records that are named by it.
use Rattle.std.specs.Prelude.{◌≡◌, ℕ, ◌<◌, ◌==◌, ◌&&◌, false, true, Option, Some, None, Result, Ok, Err, IsSomeAnd, if◌then◌else◌}
use Rattle.foyer_policy.specs.declared.error.Reason.{Reason}
use Rattle.foyer_policy.specs.declared.error.Reason.TheVariants.{Handles}
use Rattle.foyer_core.specs.declared.hold.Hold.{Hold}
use Rattle.foyer_core.specs.Core.{Core, shard_at, shard_of}
use Rattle.foyer_core.specs.Pieces.{is_in}
use Rattle.foyer_core.specs.Values.{Held}
use Rattle.foyer_core.specs.State.{Meaning, State, handles_in}
use Rattle.foyer_core.specs.Steps.{Gets}

-- the record that is named has a handle, in the shard of the name's hash
abbrev pub IsHeld : {K V P View S W A : Type 0} → Core K V P View S W A → Hold → Type 0
IsHeld core hold = IsSomeAnd (shard_at core hold.hash) (λ s. 0 < handles_in s hold.id)

-- one handle, for the record that is named
abbrev pub one_named : {K V P View S W A : Type 0} → Core K V P View S W A → Hold → Held K V P → ℕ
one_named core hold e =
    if (e.id == hold.id) && (shard_of core e.kept.hash == shard_of core hold.hash) then 1 else 0

-- What a hold answers at a moment: a get, of whose entry the name alone is kept. It is refused at the limit of handles
-- alone (F9).
abbrev pub Holds : {K V P View C : Type 0} → Meaning K P View C → ℕ → State K V P View → ℕ × K →
    Result (Option Hold) Reason → State K V P View → Type 0
Holds m now old k (Ok None) new = Gets m now old k (Ok None) new
Holds {K} {V} {P} m now old k (Ok (Some hold)) new =
    (entry : Held K V P) × (hold.hash ≡ k.0) × (hold.id ≡ entry.id) × Gets m now old k (Ok (Some entry)) new
Holds m now old k (Err Handles) new = Gets m now old k (Err Handles) new
Holds m now old k (Err _) new = ⊥

-- the name of a record of a state, in the shard of this hash, that has this value
abbrev pub Names : {K V P View : Type 0} → State K V P View → ℕ → V → Hold → Type 0
Names s hash v hold = (hold.hash ≡ hash) × IsSomeAnd (s.records hold.id) (λ r. r.kept.value ≡ v)

-- the name of a record of a state that is in the index
abbrev pub NamesResident : {K V P View : Type 0} → State K V P View → Hold → Type 0
NamesResident s hold = IsSomeAnd (s.records hold.id) (λ r. (r.resident ≡ true) × (r.kept.hash ≡ hold.hash))

-- no record is in the index
abbrev pub HasNoResident : {K V P View : Type 0} → State K V P View → Type 0
HasNoResident s = (id : ℕ) → is_in (s.records id) ≡ false
