-- What follows from the end of a fetch with a record of its key.
use Rattle.std.specs.Prelude.{◌≡◌, ℕ, Bool, false, ⊤, List, ◌∷◌, Option, Some, Result, Ok}
use Rattle.foyer_policy.specs.declared.error.Reason.{Reason}
use Rattle.foyer_policy.specs.declared.types.Event.{Event}
use Rattle.foyer_policy.specs.declared.types.Location.{Location}
use Rattle.foyer_core.specs.declared.outcome.FetchTarget.{FetchTarget}
use Rattle.foyer_core.specs.declared.outcome.FetchTarget.TheVariants.{Entry, Piece as PieceOf}
use Rattle.foyer_core.specs.Core.{Core}
use Rattle.foyer_core.specs.Laws.{Finds, IsBoundedAt}
use Rattle.foyer_core.specs.Observed.{IsTold, IsToldWith}
use Rattle.foyer_core.specs.State.{Meaning, IsAdmitted, MakesPlain, is_phantom_record}
use Rattle.foyer_core.specs.Values.{Gone, Held}

-- this holds of the entry that those get who waited, where they get one each
abbrev pub IfEntries : {K V P : Type 0} → Result (Option (List (Held K V P))) Reason → (Held K V P → Type 0) → Type 0
IfEntries (Ok (Some (entry ∷ more))) Q = Q entry
IfEntries _ Q = ⊤

-- The index afterwards is what the end tells of the index before: its leaves, and then the record that came in, where
-- those who waited get entries of it. `same` says when keys are equal.
abbrev pub IsToldByEnd : {K V P View S W A : Type 0} → (K → K → Bool) → (K → ℕ) → (P → Option Bool) →
    Core K V P View S W A → List (Event × Gone K V P) → Result (Option (List (Held K V P))) Reason
    → Core K V P View S W A → Type 0
IsToldByEnd same hash phantom old leaves (Ok (Some (entry ∷ more))) new =
    IsToldWith same hash phantom old leaves entry.id entry.kept new
IsToldByEnd same hash phantom old leaves _ new = IsTold same hash old leaves new

module _ {K V P View C S W A : Type 0} (m : Meaning K P View C) where
  -- A get of an equal key finds what came in with a target for this key: a value that the filter surely admits, whose
  -- properties make a plain record; or a piece's record that is not phantom. `hash` gives each key its hash.
  abbrev pub FindsTarget : (K → ℕ) → (P → Option Location) → (K → V → Bool → Type 0) → FetchTarget K V P → K →
      Result (Option (List (Held K V P))) Reason → Core K V P View S W A → Type 0
  FindsTarget hash location admits (Entry value p) key outcome new = MakesPlain m.phantom location p →
      IsAdmitted (admits key value) → IfEntries outcome (λ e. Finds m hash new key value e.kept.properties)
  FindsTarget hash location admits (PieceOf piece) key outcome new =
      IfEntries outcome (λ e. is_phantom_record m e.kept ≡ false →
      Finds m hash new e.kept.key e.kept.value e.kept.properties)

  -- So it is for the bound of the shard's usage, where a value came in.
  abbrev pub BoundsTarget : (P → Option Location) → (K → V → Bool → Type 0) → FetchTarget K V P → ℕ → K →
      Result (Option (List (Held K V P))) Reason → Core K V P View S W A → Core K V P View S W A → Type 0
  BoundsTarget location admits (Entry value p) hash key outcome old new = MakesPlain m.phantom location p →
      IsAdmitted (admits key value) → IfEntries outcome (λ e. IsBoundedAt m hash e.kept.weight old new)
  BoundsTarget location admits (PieceOf piece) hash key outcome old new = ⊤
