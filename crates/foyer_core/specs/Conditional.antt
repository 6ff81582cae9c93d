-- What depends on whether a key still has the record that was seen.
use Rattle.std.specs.Prelude.{◌≡◌, ℕ, ◌+◌, ◌≤◌, Bool, false, true, not, is_some, Option, Some, None, Result, Ok, Err, IsSomeAnd}
use Rattle.foyer_policy.specs.declared.error.Reason.{Reason}
use Rattle.foyer_core.specs.declared.hold.Hold.{Hold}
use Rattle.foyer_core.specs.declared.outcome.InsertedOnto.{InsertedOnto}
use Rattle.foyer_core.specs.declared.outcome.ReplaceResult.{ReplaceResult}
use Rattle.foyer_core.specs.declared.outcome.ReplaceResult.TheVariants.{Changed, Inserted}
use Rattle.foyer_core.specs.Core.{Core, shard_at}
use Rattle.foyer_core.specs.Observed.{is_known}
use Rattle.foyer_core.specs.State.{Meaning, State, hit, pinned_beside}

module _ {K V P View C : Type 0} (m : Meaning K P View C) where
  -- whether a key still has what was seen: the record of this id in the index, or no record that a look-up at a moment
  -- finds
  abbrev pub is_current : ℕ → State K V P View → ℕ × K → Option ℕ → Bool
  is_current now s k (Some id) = is_known (s.index k) id
  is_current now s k None = not (is_some (hit m now s k))

  -- so it is in the shard of a hashed key
  abbrev pub IsCurrentIn : {S W A : Type 0} → ℕ → Core K V P View S W A → ℕ × K → Option ℕ → Bool → Type 0
  IsCurrentIn now core k seen answer = IsSomeAnd (shard_at core k.0) (λ s. answer ≡ is_current now s k seen)

  -- a record of this key and weight fits a shard beside what is pinned of other keys
  abbrev pub Fits : State K V P View → ℕ × K → ℕ → Type 0
  Fits s k weight = weight + pinned_beside m s k ≤ s.capacity

-- what an insert answered, where there was one
abbrev pub IfInserting : {K V P N : Type 0} → Result (ReplaceResult K V P N) Reason →
    (Result (InsertedOnto K V P N) Reason → Type 0) → Type 0
IfInserting (Ok (Inserted made)) Q = Q (Ok made)
IfInserting (Ok (Changed hold)) Q = ⊥
IfInserting (Err reason) Q = Q (Err reason)

-- what a hold answered, where nothing was inserted
abbrev pub IfChanged : {K V P N : Type 0} → Result (ReplaceResult K V P N) Reason →
    (Result (Option Hold) Reason → Type 0) → Type 0
IfChanged (Ok (Inserted made)) Q = ⊥
IfChanged (Ok (Changed hold)) Q = Q (Ok hold)
IfChanged (Err reason) Q = Q (Err reason)
