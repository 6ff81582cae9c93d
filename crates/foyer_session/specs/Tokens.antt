-- Tokens, and what those get who waited with them.
use Rattle.std.proofs.Props.{props}
use Rattle.std.specs.Prelude.{◌≡◌, ℕ, suc, ◌+◌, ◌≤◌, ◌^◌, ⊤, List, [], ◌∷◌, Option, Some, None, Result, Ok, Err, length, map, replicate, true}
use Rattle.foyer_policy.specs.declared.error.Reason.{Reason}
use Rattle.foyer_core.specs.declared.outcome.Waiting.{Waiting}
use Rattle.foyer_core.specs.Values.{Held}
use Rattle.foyer_session.specs.declared.answers.Gets.{Gets}
use Rattle.foyer_session.specs.declared.answers.Gets.TheVariants.{Handles, Nothing, Fault}

-- the numbers of those who wait
abbrev pub numbers_of : {N : Type 0} → List (Waiting N) → List ℕ
numbers_of waiters = map (λ w. w.token) waiters

-- a handle each, numbered from this one on
abbrev pub handles_from : ℕ → List ℕ → List (ℕ × Result (Option ℕ) Reason)
handles_from first [] = []
handles_from first (token ∷ tokens) = (token, Ok (Some first)) ∷ handles_from (suc first) tokens

-- the number of the first handle, where there are some
abbrev pub first_number : Gets → ℕ
first_number (Handles first) = first
first_number Nothing = 0
first_number (Fault reason) = 0

-- so many handles have numbers
abbrev pub Fits : Gets → ℕ → Type 0
Fits gets count = first_number gets + count ≤ 2 ^ 64

pub Fits-prop : (gets : Gets) (count : ℕ) → IsProp (Fits gets count)
Fits-prop (Handles first) count = hlevel props
Fits-prop Nothing count = hlevel props
Fits-prop (Fault reason) count = hlevel props

-- the same for each
abbrev pub each_gets : Result (Option ℕ) Reason → List ℕ → List (ℕ × Result (Option ℕ) Reason)
each_gets got tokens = map (λ token. (token, got)) tokens

-- what the tokens get
abbrev pub got_by : Gets → List ℕ → List (ℕ × Result (Option ℕ) Reason)
got_by (Handles first) tokens = handles_from first tokens
got_by Nothing tokens = each_gets (Ok None) tokens
got_by (Fault reason) tokens = each_gets (Err reason) tokens

-- what the tokens get by the end of a fetch, where the next handle has this number
abbrev pub got_of : {K V P : Type 0} → ℕ → Result (Option (List (Held K V P))) Reason → List ℕ →
    List (ℕ × Result (Option ℕ) Reason)
got_of next (Ok (Some entries)) tokens = handles_from next tokens
got_of next (Ok None) tokens = each_gets (Ok None) tokens
got_of next (Err reason) tokens = each_gets (Err reason) tokens

-- entries that are all alike, each of which can still tell its record
abbrev pub AreAlike : {K V P : Type 0} → List (Held K V P) → Type 0
AreAlike [] = ⊤
AreAlike (entry ∷ entries) = (entry.left ≡ true) × (entries ≡ replicate (length entries) entry)

-- each of these can
abbrev pub AreUntold : {K V P : Type 0} → List (Held K V P) → Type 0
AreUntold [] = ⊤
AreUntold (entry ∷ entries) = (entry.left ≡ true) × AreUntold entries

-- the handle that one got
abbrev pub handle_in : Result (Option ℕ) Reason → Option ℕ
handle_in (Ok got) = got
handle_in (Err reason) = None

-- it was not refused
abbrev pub IsNoFault : Result (Option ℕ) Reason → Type 0
IsNoFault (Ok got) = ⊤
IsNoFault (Err reason) = ⊥
