-- When answers are clones of others, and when they are equal.
use Rattle.std.specs.Prelude.{◌≡◌, ℕ, ⊤, List, [], ◌∷◌, Option, Some, None, Result, Ok, Err, Bool, true, false, nat_eq}
use Rattle.std.specs.Cmp.{IsPartialEquivalence, and_per, nat_eq_equiv, on_per, partial_equiv_from_equiv}
use Rattle.std.specs.Cmp.Lexicographic.{pointwise, lists_per}
use Rattle.std.specs.Ordering.{eq_of_both, on}
use Rattle.foyer_policy.specs.Errors.{SameReason}
use Rattle.foyer_policy.specs.declared.error.Reason.{Reason}
use Rattle.foyer_session.specs.declared.answers.Gets.{Gets}
use Rattle.foyer_session.specs.declared.answers.Gets.TheVariants.{Handles, Nothing, Fault}

-- the same handle, nothing as well, or the same refusal; a fault's content is the same
abbrev pub SameGot : Result (Option ℕ) Reason → Result (Option ℕ) Reason → Type 0
SameGot (Ok got) (Ok copy) = copy ≡ got
SameGot (Err reason) (Err copy) = SameReason reason copy
SameGot (Ok got) (Err copy) = ⊥
SameGot (Err reason) (Ok copy) = ⊥

-- the same tokens, in order, each of which got the same
abbrev pub SameAnswers : List (ℕ × Result (Option ℕ) Reason) → List (ℕ × Result (Option ℕ) Reason) → Type 0
SameAnswers [] [] = ⊤
SameAnswers (got ∷ gots) (copy ∷ copies) = (copy.0 ≡ got.0) × SameGot got.1 copy.1 × SameAnswers gots copies
SameAnswers [] (copy ∷ copies) = ⊥
SameAnswers (got ∷ gots) [] = ⊥

-- handles from the same number on, nothing as well, or the same refusal
abbrev pub SameGets : Gets → Gets → Type 0
SameGets (Handles first) (Handles copy) = copy ≡ first
SameGets Nothing Nothing = ⊤
SameGets (Fault reason) (Fault copy) = SameReason reason copy
SameGets _ _ = ⊥

-- the same number, nothing as well, or an equal refusal
abbrev pub gets_eq : (Reason → Reason → Bool) → Gets → Gets → Bool
gets_eq reasons (Handles first) (Handles other) = nat_eq first other
gets_eq reasons Nothing Nothing = true
gets_eq reasons (Fault reason) (Fault other) = reasons reason other
gets_eq reasons _ _ = false

-- the handle that one got, where there is one
abbrev pub handles_in : Result (Option ℕ) Reason → List ℕ
handles_in (Ok (Some handle)) = handle ∷ []
handles_in (Ok None) = []
handles_in (Err reason) = []

-- the refusal that one got, where there is one
abbrev pub refusals_in : Result (Option ℕ) Reason → List Reason
refusals_in (Ok got) = []
refusals_in (Err reason) = reason ∷ []

-- the same token, which got an equal handle, nothing as well, or an equal refusal
abbrev pub got_eq : (Reason → Reason → Bool) → ℕ × Result (Option ℕ) Reason → ℕ × Result (Option ℕ) Reason → Bool
got_eq reasons = eq_of_both (on (λ got. got.0) nat_eq)
    (eq_of_both (on (λ got. handles_in got.1) (pointwise nat_eq)) (on (λ got. refusals_in got.1) (pointwise reasons)))

-- the same tokens, in order, each of which got the same
abbrev pub answers_eq : (Reason → Reason → Bool) → List (ℕ × Result (Option ℕ) Reason) →
    List (ℕ × Result (Option ℕ) Reason) → Bool
answers_eq reasons = pointwise (got_eq reasons)

pub answers_eq_per : {reasons : Reason → Reason → Bool} → IsPartialEquivalence reasons →
    IsPartialEquivalence (answers_eq reasons)
answers_eq_per laws =
    let numbers = partial_equiv_from_equiv nat_eq_equiv in
    lists_per
    (and_per (on_per (λ got. got.0) numbers)
    (and_per (on_per (λ got. handles_in got.1) (lists_per numbers))
    (on_per (λ got. refusals_in got.1) (lists_per laws))))
