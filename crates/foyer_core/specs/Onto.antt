-- What calls answer that append what leaves to a list.
use Rattle.std.specs.Prelude.{List, [], ◌∷◌, ◌++◌, Option, Some, Result, Ok, Err}
use Rattle.foyer_policy.specs.declared.error.Reason.{Reason}
use Rattle.foyer_policy.specs.declared.types.Event.{Event}
use Rattle.foyer_core.specs.declared.outcome.Handles.{Handles}
use Rattle.foyer_core.specs.declared.outcome.InsertedOnto.{InsertedOnto}
use Rattle.foyer_core.specs.Values.{Denied, Gone, Held, Made}

-- what contracts see of such an answer, where these are the leaves that were appended
abbrev pub insertion_onto : {K V P N : Type 0} → Result (InsertedOnto K V P N) Reason → List (Event × Gone K V P) →
    Result (Made K V P) (Denied K V P)
insertion_onto (Ok made) ls = Ok record { entry = made.entry; leaves = ls }
insertion_onto (Err reason) ls = Err record { reason = reason; leaves = ls }

-- the same of handles
abbrev pub handles_onto : {K V P : Type 0} → Result (Handles K V P) Reason → List (Event × Gone K V P) →
    Result (Made K V P) (Denied K V P)
handles_onto (Ok made) ls = Ok record { entry = made.entry; leaves = ls }
handles_onto (Err reason) ls = Err record { reason = reason; leaves = ls }

-- what those get who waited for a key of whose record these are the handles: one each, or the one refusal
abbrev pub shared_out : {K V P : Type 0} → Result (Handles K V P) Reason → Result (Option (List (Held K V P))) Reason
shared_out (Ok made) = Ok (Some (made.others.items ++ made.entry ∷ []))
shared_out (Err reason) = Err reason
