use Rattle.std.proofs.Common.{◌≡◌, Some, None, true, refl}
use Rattle.foyer_core.specs.CoreFetches.{open_in}
use Rattle.foyer_core.specs.Cores.{core_of, fetches_of, hashes_of, meaning_of_core}
use Rattle.foyer_core.specs.Inflight.{asked}
use Rattle.foyer_core.specs.State.{at_moment, coming_in}
use Rattle.foyer_core.specs.Waited.{ending_of}
use Rattle.examples_callers.proofs.Served.{served}
use Rattle.examples_callers.proofs.cache.complete.Goals as goal

pub returns-clause-same : goal.returns-clause-same
returns-clause-same g c =
    let numbers = c.args.numbers.now in
    let key = c.args.key in
    let after = c.complete-answers.new.self in
    served (at_moment c.args.now (meaning_of_core numbers))
    record {
      hash = hashes_of numbers;
      weighs = λ _ number weight. weight ≡ number;
      admits = λ _ _ admitted. admitted ≡ true;
      properties = λ p admitted. coming_in (λ _. None) (λ p b. record p { phantom = Some b }) admitted p;
    } _
    c.args.number c.default.result (hashes_of numbers key, key) (ending_of c.complete-answers.result) (core_of numbers)
    (fetches_of numbers) (core_of after) (fetches_of after)
    (asked (Some c.args.fetch) (open_in (fetches_of numbers) (hashes_of numbers key, key)))
    c.complete-answers.result.answers.outcome refl c.complete-answers.ensures.completed
