-- The steps that a shard answers keep what it keeps.
use Rattle.std.proofs.Common.{ℕ, Option, Result, Some, None, Ok, Err, sym, subst}
use Rattle.std.specs.Cmp.{IsEquivalence}
use Rattle.foyer_policy.specs.Policy.{IsPolicy}
use Rattle.foyer_policy.specs.declared.types.Event.{Event}
use Rattle.foyer_policy.specs.declared.error.Reason.{Reason}
use Rattle.foyer_policy.specs.declared.error.Reason.TheVariants.{Handles, NoMemory}
use Rattle.foyer_core.specs.Values.{Gone, Held}
use Rattle.foyer_core.specs.State.{Meaning, State, IsKept}
use Rattle.foyer_core.specs.Steps.{Gets, GivesBack}
use Rattle.foyer_core.proofs.Keeps.{get_keeps, give_back_keeps}

module _ {K V P View C : Type 0} (m : Meaning K P View C) (laws : IsEquivalence m.same) (good : IsPolicy m.policy) where
  pub gets_keeps : (old : State K V P View) → IsKept m old →
      (now : ℕ) (k : ℕ × K) (answer : Result (Option (Held K V P)) Reason) (new : State K V P View) →
      Gets m now old k answer new → IsKept m new
  gets_keeps old kept now k (Ok None) new h = subst (IsKept m) (sym h.1) kept
  gets_keeps old kept now k (Ok (Some entry)) new h =
      subst (IsKept m) (sym h.5) (get_keeps m laws good old kept entry.id h.0 h.2 h.3)
  gets_keeps old kept now k (Err Handles) new h = subst (IsKept m) (sym h.5) kept
  gets_keeps old kept now k (Err NoMemory) new h = subst (IsKept m) (sym h.5) kept
  gets_keeps old kept now k (Err _) new h = absurd h

  pub gives_back_keeps : (old : State K V P View) → IsKept m old →
      (id : ℕ) (leave : Option (Event × Gone K V P)) (new : State K V P View) → GivesBack m old id leave new →
      IsKept m new
  gives_back_keeps old kept id leave new h =
      subst (IsKept m) (sym h.after) (give_back_keeps m laws good old kept id h.rec h.there h.held)
