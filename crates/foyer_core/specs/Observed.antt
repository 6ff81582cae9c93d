-- What somebody knows of the index who hears what leaves and what comes in: a map from keys to ids.
use Rattle.std.specs.Prelude.{◌≡◌, ℕ, Bool, false, ◌==◌, List, [], ◌∷◌, Option, Some, None, if◌then◌else◌}
use Rattle.std.specs.Map.{update}
use Rattle.foyer_policy.specs.Properties.{is_phantom}
use Rattle.foyer_policy.specs.declared.types.Event.{Event}
use Rattle.foyer_core.specs.declared.record.Data.{Data}
use Rattle.foyer_core.specs.Core.{Core, index_in}
use Rattle.foyer_core.specs.Values.{Gone}

-- whether this id is known
abbrev pub is_known : Option ℕ → ℕ → Bool
is_known None id = false
is_known (Some other) id = other == id

-- `same` says when keys are equal.
module _ {K V P : Type 0} (same : K → K → Bool) where
  -- a leave takes its key out, where the leave's id is known under that key
  abbrev pub after_leave : (K → Option ℕ) → Gone K V P → K → Option ℕ
  after_leave ids gone = if is_known (ids gone.kept.key) gone.id then update same ids gone.kept.key None else ids

  -- leaves, in their order
  abbrev pub after_leaves : (K → Option ℕ) → List (Event × Gone K V P) → K → Option ℕ
  after_leaves ids [] = ids
  after_leaves ids (leave ∷ leaves) = after_leaves (after_leave ids leave.1) leaves

  -- the record of an id that comes in goes in under its key, unless it is phantom
  abbrev pub after_entry : (P → Option Bool) → (K → Option ℕ) → ℕ → Data K V P → K → Option ℕ
  after_entry phantom ids id d = if is_phantom (phantom d.properties) then ids else update same ids d.key (Some id)

-- what there is to know of a core: the id under each key in the index; `hash` gives each key its hash
abbrev pub known : {K V P View S W A : Type 0} → (K → ℕ) → Core K V P View S W A → K → Option ℕ
known hash core k = index_in core (hash k, k)

module _ {K V P View S W A : Type 0} (same : K → K → Bool) (hash : K → ℕ) where
  -- the index afterwards is what these leaves tell of the index before
  abbrev pub IsTold : Core K V P View S W A → List (Event × Gone K V P) → Core K V P View S W A → Type 0
  IsTold old leaves new = (k : K) → known hash new k ≡ after_leaves same (known hash old) leaves k

  -- the index afterwards is what these leaves, and then a record that came in, tell of the index before
  abbrev pub IsToldWith : (P → Option Bool) → Core K V P View S W A → List (Event × Gone K V P) → ℕ → Data K V P →
      Core K V P View S W A → Type 0
  IsToldWith phantom old leaves id d new = (k : K) → known hash new k
      ≡ after_entry same phantom (after_leaves same (known hash old) leaves) id d k
