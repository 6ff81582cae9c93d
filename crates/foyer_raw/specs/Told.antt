-- What left with a call, as a list, and whose entries are whose.
use Rattle.std.specs.Prelude.{◌≡◌, ◌<◌, List, [], ◌∷◌, ◌++◌, Option, Some, None, Result, Ok}
use Rattle.std.specs.Option.{option_to_list}
use Rattle.foyer_policy.specs.declared.error.Reason.{Reason}
use Rattle.foyer_policy.specs.declared.types.Event.{Event}
use Rattle.foyer_policy.specs.declared.types.Event.TheVariants.{Remove}
use Rattle.foyer_core.specs.State.{State, handles_in}
use Rattle.foyer_core.specs.Values.{Gone, Held}
use Rattle.foyer_raw.specs.declared.leaves.Leaves.{Leaves}

-- an entry is of a shard that has its number and a handle of its id
abbrev pub IsOf : {K V P View : Type 0} → State K V P View → Held K V P → Type 0
IsOf s entry = (entry.number ≡ s.number) × (0 < handles_in s entry.id)

module _ {K V P : Type 0} where
  -- what left with a call, in order
  abbrev pub told_of : Leaves K V P → List (Event × Gone K V P)
  told_of l = option_to_list l.first ++ (option_to_list l.second ++ l.more.items)

  -- nothing yet
  abbrev pub IsUntold : Leaves K V P → Type 0
  IsUntold l = (l.first ≡ None) × (l.second ≡ None) × (l.more.items ≡ [])

  -- what a `remove` took out
  abbrev pub removed : Result (Option (Held K V P × Gone K V P)) Reason → List (Event × Gone K V P)
  removed (Ok (Some out)) = (Remove, out.1) ∷ []
  removed _ = []

  -- what a `delete` took out
  abbrev pub deleted : Result (Option (Gone K V P)) Reason → List (Event × Gone K V P)
  deleted (Ok (Some gone)) = (Remove, gone) ∷ []
  deleted _ = []

  -- what a piece took out
  abbrev pub taken_out : Option (Gone K V P) → List (Event × Gone K V P)
  taken_out (Some gone) = (Remove, gone) ∷ []
  taken_out None = []
