-- What the numbers that C gets say.
use Rattle.std.specs.Prelude.{◌≡◌, ℕ, Bool, true, false, Option, None, Some, Result, Ok, Err}
use Rattle.foyer_policy.specs.Errors.{number_of}
use Rattle.foyer_policy.specs.declared.error.Reason.{Reason}

-- 0, or the number of the refusal
abbrev pub done_of : {A : Type 0} → Result A Reason → ℕ
done_of (Ok _) = 0
done_of (Err reason) = number_of reason

-- 0 if there was something, 101 if there was nothing, or the number of the refusal
abbrev pub found_of : Result Bool Reason → ℕ
found_of (Ok true) = 0
found_of (Ok false) = 101
found_of (Err reason) = number_of reason

-- 0 if a record fitted, 111 if it didn't, or the number of the refusal
abbrev pub fits_of : Result Bool Reason → ℕ
fits_of (Ok true) = 0
fits_of (Ok false) = 111
fits_of (Err reason) = number_of reason

-- so for a length
abbrev pub copied_of : Result (Option ℕ) Reason → ℕ
copied_of (Ok (Some _)) = 0
copied_of (Ok None) = 101
copied_of (Err reason) = number_of reason

-- the length that is told, or else the one from before
abbrev pub len_of : Result (Option ℕ) Reason → ℕ → ℕ
len_of (Ok (Some len)) before = len
len_of (Ok None) before = before
len_of (Err _) before = before

-- the number of a result that is a number
abbrev pub told_of : Result ℕ Reason → ℕ
told_of (Ok status) = status
told_of (Err reason) = number_of reason

-- 0 if the fetch was open, else 101
abbrev pub open_status : Bool → ℕ
open_status true = 0
open_status false = 101

-- a status tells an answer of which this holds
abbrev pub Tells : {A : Type 0} → (A → ℕ) → (A → Type 0) → ℕ → Type 0
Tells {A} number Holds status = (answer : A) × Holds answer × (status ≡ number answer)
