-- Each handle that a session holds is one that its record counts.
use Rattle.std.specs.Prelude.{◌≡◌, ℕ, ◌≤◌, ◌%◌, ◌==◌, ◌&&◌, List, Option, Some, None, if◌then◌else◌, length, slice_get, sum_by}
use Rattle.foyer_core.specs.State.{State, handles_in}
use Rattle.foyer_core.specs.Core.{Core, shard_at}
use Rattle.foyer_core.specs.Values.{Held}
use Rattle.foyer_session.specs.Step.{held_at}

-- a shard counts so many handles of each id, or more
abbrev pub Counts : {K V P View : Type 0} → State K V P View → (ℕ → ℕ) → Type 0
Counts s held = (id : ℕ) → held id ≤ handles_in s id

-- whether a handle is of the record of this id in the shard of this number, of so many shards
abbrev pub held_in : {K V P : Type 0} → ℕ → ℕ → ℕ → Option (Held K V P) → ℕ
held_in shards shard id None = 0
held_in shards shard id (Some entry) = if (entry.kept.hash % shards == shard) && (entry.id == id) then 1 else 0

-- how many of the handles are
abbrev pub held_count : {K V P : Type 0} → ℕ → List (Option (Held K V P)) → ℕ → ℕ → ℕ
held_count shards handles shard id = sum_by (held_in shards shard id) handles

-- the core counts each held handle
pub record OwnsHandles {K V P View S W A : Type 0} (core : Core K V P View S W A)
    (handles : List (Option (Held K V P))) : Type 0 where
  -- a held handle has the number of its shard
  pub numbered : (n : ℕ) (entry : Held K V P) → held_at handles n ≡ Some entry
      → (s : State K V P View) × (shard_at core entry.kept.hash ≡ Some s) × (entry.number ≡ s.number)
  -- each shard counts the handles of its records
  pub counts : (shard : ℕ) (s : State K V P View) → slice_get core.shards shard ≡ Some s →
      Counts s (held_count (length core.shards) handles shard)
