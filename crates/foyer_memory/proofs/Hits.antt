-- What an answer is that passes a refusal on.
use Rattle.std.proofs.Common.{◌≡◌, Option, Some, None, Result, Ok, Err, IfSome, MatchOption, ap}
use Rattle.futures.specs.declared.task.Poll.{Poll}
use Rattle.futures.specs.declared.task.Poll.TheVariants.{Ready}

module _ {A X E : Type 0} (spent : E) (made : X → A) where
  -- a poll that may find nothing gives what was found, or is spent
  abbrev GivesSome : Poll (Result (Option A) E) → Option X → Type 0
  GivesSome polled found = MatchOption found (polled ≡ Ready (Err spent)) (λ e. polled ≡ Ready (Ok (Some (made e))))

  -- and so one that finds something
  abbrev Gives : Poll (Result A E) → Option X → Type 0
  Gives polled found = MatchOption found (polled ≡ Ready (Err spent)) (λ e. polled ≡ Ready (Ok (made e)))

  -- a refusal of the one is that of the other
  pub refused : (polled : Poll (Result (Option A) E)) (answer : Result (Option A) E) (error : E) (found : Option X)
      → polled ≡ Ready answer → answer ≡ Err error → GivesSome polled found → Gives (Ready (Err error)) found
  refused polled answer error None is was gives = cc
  refused polled answer error (Some e) is was gives = cc

-- the refusal that an answer is, or else this one
abbrev error_of : {A E : Type 0} → E → Result A E → E
error_of e (Ok a) = e
error_of e (Err r) = r

-- the refusal of a call for a fault is that of the call that it is made for
pub passed_on : (A B : Type 0) {E : Type 0} (fault : Option E) (error : E)
    → IfSome fault (λ reason. ◌≡◌ {A = Result A E} (Err error) (Err reason))
    → IfSome fault (λ reason. ◌≡◌ {A = Result B E} (Err error) (Err reason))
passed_on A B None error is = tt
passed_on A B {E} (Some reason) error is = ap (λ (e : E). Err e) (ap (error_of reason) is)
