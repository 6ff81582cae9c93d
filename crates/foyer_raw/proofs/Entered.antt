-- An entry of what a look-up found.
use Rattle.std.proofs.Common.{◌≡◌, Option, Some, None, subst}
use Rattle.std.specs.Prelude.{Result, Ok, Err, IfOk, IfSome}
use Rattle.foyer_policy.specs.declared.error.Reason.{Reason}
use Rattle.foyer_core.specs.Looks.{IfHit}
use Rattle.foyer_core.specs.Values.{Held}
use Rattle.foyer_core.specs.declared.outcome.Got.{Got}
use Rattle.foyer_core.specs.declared.outcome.Got.TheVariants.{Hit}

-- what holds of what was found holds of the entry
pub entry_so : {K V P : Type 0} (Q : Held K V P → Type 0) (found : Got K V P) (r : Result (Option (Held K V P)) Reason) →
    IfHit found Q → IfOk r (λ entry. IfSome entry (λ e. found ≡ Hit e)) → IfOk r (λ entry. IfSome entry Q)
entry_so Q found (Ok None) h is = tt
entry_so Q found (Ok (Some e)) h is = subst (λ f. IfHit f Q) is h
entry_so Q found (Err reason) h is = tt
