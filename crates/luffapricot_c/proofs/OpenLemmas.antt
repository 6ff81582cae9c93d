-- What C gets that creates a cache.
use Rattle.std.proofs.Common.{◌≡◌, ℕ, Bool, true, false, Option, None, Some, Result, Ok, Err, IfSome, IsOk, ap, is_some, refl, subst, sym, ◌∙◌}
use Rattle.std.proofs.lemmas.Bool.{false≢true}
use Rattle.foyer_policy.specs.Any.{any}
use Rattle.foyer_policy.specs.Errors.{number_of}
use Rattle.foyer_policy.specs.declared.error.Reason.{Reason}
use Rattle.foyer_policy.specs.declared.error.Reason.TheVariants.{NoMemory}
use Rattle.foyer_policy.specs.declared.eviction_config.EvictionConfig.{EvictionConfig}
use Rattle.luffapricot_c.specs.declared.cache.ByteCache.{ByteCache}
use Rattle.luffapricot_c.specs.Bulk.{fault_number}
use Rattle.luffapricot_c.specs.Opening.{Creates, OpensAs, refused_with}

reason_in : {A : Type 0} → Reason → Result A Reason → Reason
reason_in other (Ok _) = other
reason_in other (Err e) = e

-- an answer has one reason
pub same_reason : {A : Type 0} (e r : Reason) (answer : Result A Reason) → answer ≡ Err e → answer ≡ Err r → e ≡ r
unfolding reason_in
same_reason e r answer is other = ap (reason_in e) (sym is ∙ other)

-- the number of a refusal is that of the fault, or else of want of memory
pub refused_number : {A : Type 0} (fault : Option Reason) (e : Reason) (answer : Result A Reason) → answer ≡ Err e →
    IfSome fault (λ r. answer ≡ Err r) → (fault ≡ None → e ≡ NoMemory) → number_of e ≡ refused_with fault
refused_number None e answer is s m = ap number_of (m refl)
refused_number (Some r) e answer is s m = ap number_of (same_reason e r answer is s)

-- the number of a configuration's refusal is that of its fault
pub fault_is : {A : Type 0} (fault : Option Reason) (e : Reason) (answer : Result A Reason) → answer ≡ Err e →
    (fault ≡ None → IsOk answer) → IfSome fault (λ r. answer ≡ Err r) → number_of e ≡ fault_number fault
fault_is None e answer is ok s = absurd (false≢true (subst IsOk is (ok refl)))
fault_is (Some r) e answer is ok s = ap number_of (same_reason e r answer is s)

module _ (capacity : ℕ) (has_listener : Bool) where
  -- something is there
  pub creates_again : (config : Option EvictionConfig) (held : Option ByteCache) → is_some held ≡ true →
      Creates held config capacity has_listener 106 held
  unfolding Creates
  creates_again config (Some old) there = (refl, refl)
  creates_again config None there = absurd cc

  -- there is no such policy
  pub creates_none : (config : Option EvictionConfig) (held : Option ByteCache) → is_some held ≡ false →
      config ≡ None → Creates held config capacity has_listener 105 held
  unfolding Creates
  creates_none config (Some old) there none = absurd cc
  creates_none None None there none = (refl, refl)
  creates_none (Some c) None there none = absurd cc

  -- a cache is opened, or not
  pub creates_as : (config : Option EvictionConfig) (c : EvictionConfig) (status : ℕ) (held after : Option ByteCache) →
      is_some held ≡ false → config ≡ Some c → OpensAs c capacity has_listener status after →
      Creates held config capacity has_listener status after
  unfolding Creates
  creates_as config c status (Some old) after there is did = absurd cc
  creates_as config c status None after there is did =
      subst (λ o. Creates None o capacity has_listener status after) (sym is) did

  -- it is refused
  pub creates_refused : (config : Option EvictionConfig) (c : EvictionConfig) (status : ℕ) (held : Option ByteCache) →
      is_some held ≡ false → config ≡ Some c → status ≡ refused_with (any.fault c) →
      Creates held config capacity has_listener status held
  unfolding Creates
  creates_refused config c status (Some old) there is refused = absurd cc
  creates_refused config c status None there is refused =
      subst (λ o. Creates None o capacity has_listener status None) (sym is) refused
