-- Entries that end without a caller.
use Rattle.std.specs.Prelude.{◌≡◌, ℕ, ◌++◌, List, [], ◌∷◌, Option, None, sum_by}
use Rattle.std.specs.Option.{option_to_list}
use Rattle.foyer_policy.specs.declared.types.Event.{Event}
use Rattle.foyer_core.specs.Core.{Core, AtShard, Owns}
use Rattle.foyer_core.specs.Laws.{one_of}
use Rattle.foyer_core.specs.Observed.{IsTold}
use Rattle.foyer_core.specs.State.{Meaning}
use Rattle.foyer_core.specs.Steps.{GivesBack}
use Rattle.foyer_core.specs.Values.{Gone, Held}

module _ {K V P View S W A : Type 0} where
  -- how many of these entries are handles of the record of an entry
  abbrev pub among : Core K V P View S W A → List (Held K V P) → Held K V P → ℕ
  among core entries e = sum_by (λ entry. one_of core entry e) entries

module _ {K V P View C S W A : Type 0} (m : Meaning K P View C) where
  -- an entry ends: one that the core owns is taken back, and with any other nothing changes
  pub record EndsEntry (entry : Held K V P) (leave : Option (Event × Gone K V P)) (old new : Core K V P View S W A) :
      Type 0 where
    pub owned : Owns old entry → AtShard (λ s t. GivesBack m s entry.id leave t) entry.kept.hash old new
    pub foreign : (Owns old entry → ⊥) → (leave ≡ None) × (new ≡ old)

  -- entries end, from the last to the first, and this is what left with them
  abbrev pub EndsAll : List (Held K V P) → Core K V P View S W A → List (Event × Gone K V P) → Core K V P View S W A →
      Type 0
  EndsAll [] old leaves new = (leaves ≡ []) × (new ≡ old)
  EndsAll (entry ∷ entries) old leaves new =
      (first : List (Event × Gone K V P)) × (mid : Core K V P View S W A) × (leave : Option (Event × Gone K V P))
      × EndsAll entries old first mid × EndsEntry entry leave mid new × (leaves ≡ first ++ option_to_list leave)

  -- entries end, and what left with them, which is dropped, tells of the index; `hash` gives each key its hash
  pub record Drops (hash : K → ℕ) (entries : List (Held K V P)) (old new : Core K V P View S W A) : Type 0 where
    pub leaves : List (Event × Gone K V P)
    pub ended : EndsAll entries old leaves new
    pub told : IsTold m.same hash old leaves new
