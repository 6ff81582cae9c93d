use Rattle.std.proofs.Common.{◌≡◌, ◌∙◌, [], ap, arith, inr, refl}
use Rattle.std.proofs.lemmas.Grind.{common_steps}
use Rattle.foyer_policy.specs.Errors.{number_of}
use Rattle.luffapricot_c.proofs.CallLemmas.{kept_told, taken_is}
use Rattle.luffapricot_c.proofs.cache.ByteCache.resize.Goals as goal

pub returns-in-Err : goal.returns-in-Err
returns-in-Err c =
    let none : c.args.self.now.left.items ≡ [] = grind (arith, common_steps, c.is_empty.ensures, c.if-not-is_empty.false) in
    taken_is c.args.self.now.left.items _ _ _ _ none (
      c.in-Err.field-0.leaves.items,
      (
        kept_told c.args.self.now.has_listener c.args.self.now.left.items c.in-Err.field-0.leaves.items
            c.keep-in-Err.new.kept.items none c.keep-in-Err.ensures,
        record { held = refl; fetches = c.in-Err.ensures.fetches; left = refl; listener = refl },
      ),
      inr (c.refusal.ensures ∙ ap number_of c.in-Err.ensures.resizes.0, c.in-Err.ensures.resizes.1),
    )
