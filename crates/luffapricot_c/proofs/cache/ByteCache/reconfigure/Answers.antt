use Rattle.std.proofs.Common.{◌∙◌, ap, inr, refl}
use Rattle.foyer_policy.specs.Errors.{number_of}
use Rattle.foyer_policy.specs.declared.error.Reason.TheVariants.{WrongPolicy}
use Rattle.luffapricot_c.proofs.OpenLemmas.{fault_is, same_reason}
use Rattle.luffapricot_c.proofs.cache.ByteCache.reconfigure.Goals as goal

pub returns-in-Err : goal.returns-in-Err
returns-in-Err c = record {
  configured = inr c.in-Err.ensures.configured;
  wrong = λ n. c.refusal.ensures ∙ ap number_of (same_reason c.in-Err.error WrongPolicy _ refl (c.in-Err.ensures.wrong n));
  taken = λ t. c.refusal.ensures
      ∙ fault_is _ c.in-Err.error _ refl (c.in-Err.ensures.accepted t).1 (c.in-Err.ensures.refused t);
  rest = record { held = refl; fetches = c.in-Err.ensures.fetches; left = refl; listener = refl };
}
