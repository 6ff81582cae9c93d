-- What follows from the steps.
use Rattle.std.specs.Prelude.{◌≡◌, ℕ, ◌+◌, ◌<◌, ◌≤◌, ◌==◌, ◌&&◌, max, if◌then◌else◌, Option, Some, Result, IfOk, IsSomeAnd, true, false}
use Rattle.foyer_policy.specs.Items.{weight_of}
use Rattle.foyer_policy.specs.Moments.{is_expired}
use Rattle.foyer_policy.specs.declared.error.Reason.{Reason}
use Rattle.foyer_core.specs.Core.{Core, AtShard, record_of, shard_at, shard_of}
use Rattle.foyer_core.specs.Values.{Rec, Held}
use Rattle.foyer_core.specs.State.{Meaning, State, usage_of}
use Rattle.foyer_core.specs.Pieces.{is_in}
use Rattle.foyer_core.specs.Steps.{Gets}

module _ {K V P View S W A : Type 0} where
  -- Whoever has a handle that is not given back still has it, and its record has the data that it had.
  -- `given e` is how many handles of an entry's record are given back.
  abbrev pub HandlesStay : (Held K V P → ℕ) → Core K V P View S W A → Core K V P View S W A → Type 0
  HandlesStay given old new = (e : Held K V P) (r : Rec K V P) → record_of old e ≡ Some r → given e < r.handles
      → (q : Rec K V P) × (record_of new e ≡ Some q) × (q.kept ≡ r.kept) × (r.handles ≤ q.handles + given e)

  -- one handle, for the record of this entry
  abbrev pub one_of : Core K V P View S W A → Held K V P → Held K V P → ℕ
  one_of core entry e = if (e.id == entry.id) && (shard_of core e.kept.hash == shard_of core entry.kept.hash) then 1
      else 0

  -- no record of this id is in the index of the shard of a hash
  abbrev pub IsOutside : Core K V P View S W A → ℕ → ℕ → Type 0
  IsOutside core hash id = (s : State K V P View) → shard_at core hash ≡ Some s → is_in (s.records id) ≡ false

-- a shard's usage is at most its capacity, or a weight beside what was pinned before
abbrev pub IsBounded : {K V P View C : Type 0} → Meaning K P View C → ℕ → State K V P View → State K V P View → Type 0
IsBounded m weight old new = usage_of m new ≤ max old.capacity (weight + weight_of (m.policy.pinned old.view))

module _ {K V P View C S W A : Type 0} (m : Meaning K P View C) where
  -- a get of an equal key, at a moment at which what has these properties is not expired, finds this value, unless it
  -- is refused; `hash` gives each key its hash
  abbrev pub Finds : (K → ℕ) → Core K V P View S W A → K → V → P → Type 0
  Finds hash core key value properties = (now : ℕ) → is_expired now (m.expires properties) ≡ false
      → (k : K) → m.same key k ≡ true
      → (answer : Result (Option (Held K V P)) Reason) (new : Core K V P View S W A) →
      AtShard (λ s t. Gets m now s (hash k, k) answer t) (hash k) core new
      → IfOk answer (λ found. IsSomeAnd found (λ entry. entry.kept.value ≡ value))

  -- so it is for the shard of a hash
  abbrev pub IsBoundedAt : ℕ → ℕ → Core K V P View S W A → Core K V P View S W A → Type 0
  IsBoundedAt hash weight old new = (s t : State K V P View) → shard_at old hash ≡ Some s → shard_at new hash ≡ Some t
      → IsBounded m weight s t
