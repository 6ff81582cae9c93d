-- What a look-up finds, as a result.
use Rattle.std.specs.Prelude.{Option, Some, None, Result, Ok, Err, ⊤, true}
use Rattle.foyer_policy.specs.declared.error.Reason.{Reason}
use Rattle.foyer_policy.specs.declared.error.Reason.TheVariants.{Handles, NoMemory}
use Rattle.foyer_core.specs.declared.outcome.Got.{Got}
use Rattle.foyer_core.specs.declared.outcome.Got.TheVariants.{Hit, Miss, Full, OutOfMemory}
use Rattle.foyer_core.specs.Values.{Held}

-- an entry as it is with a share for its leave
abbrev pub whole : {K V P : Type 0} → Held K V P → Held K V P
whole e = record e { left = true }

-- what was found
abbrev pub look_of : {K V P : Type 0} → Got K V P → Result (Option (Held K V P)) Reason
look_of (Hit e) = Ok (Some e)
look_of Miss = Ok None
look_of Full = Err Handles
look_of OutOfMemory = Err NoMemory

-- what was found, with a share for the entry's leave
abbrev pub look_whole : {K V P : Type 0} → Got K V P → Result (Option (Held K V P)) Reason
look_whole (Hit e) = Ok (Some (whole e))
look_whole Miss = Ok None
look_whole Full = Err Handles
look_whole OutOfMemory = Err NoMemory

-- what holds of the entry, if there is one
abbrev pub IfHit : {K V P : Type 0} → Got K V P → (Held K V P → Type 0) → Type 0
IfHit (Hit e) Q = Q e
IfHit Miss Q = ⊤
IfHit Full Q = ⊤
IfHit OutOfMemory Q = ⊤
