-- What comes in while no entry of it is made: an entry with any source would be that of an insert.
use Rattle.std.specs.Prelude.{List}
use Rattle.foyer_policy.specs.declared.types.Event.{Event}
use Rattle.foyer_policy.specs.declared.types.Source.{Source}
use Rattle.foyer_core.specs.Values.{Gone, Held, Incoming}
use Rattle.foyer_core.specs.State.{Meaning, State}
use Rattle.foyer_core.specs.Steps.{Inserts, InsertsPlain, InsertsPhantom, entry_of}

-- an entry of what comes in
abbrev pub entry_in : {K V P View : Type 0} → State K V P View → Incoming K V P → Source → Held K V P
entry_in s i source = entry_of s i.id i.kept source

module _ {K V P View C : Type 0} (m : Meaning K P View C) where
  -- as an insert of a plain record, as one of a phantom, and as an insert of either
  abbrev pub SettlesPlain : Source → State K V P View → Incoming K V P → List (Event × Gone K V P) →
      State K V P View → Type 0
  SettlesPlain source old i ls new = InsertsPlain m source old i ls (entry_in old i source) new

  abbrev pub SettlesPhantom : Source → State K V P View → Incoming K V P → List (Event × Gone K V P) →
      State K V P View → Type 0
  SettlesPhantom source old i ls new = InsertsPhantom m source old i ls (entry_in old i source) new

  abbrev pub Settles : Source → State K V P View → Incoming K V P → List (Event × Gone K V P) → State K V P View → Type 0
  Settles source old i ls new = Inserts m source old i ls (entry_in old i source) new
