use Rattle.std.proofs.Common.{rules, ◌≡◌, ◌+◌, length, true, None, Some, refl, ap}
use Rattle.foyer_policy.specs.Properties.{is_phantom}
use Rattle.foyer_policy.specs.declared.types.Source.TheVariants.{Outer}
use Rattle.foyer_core.specs.CoreFetches.{open_in}
use Rattle.foyer_core.specs.Cores.{core_of, fetches_of, hashes_of, meaning_of_core}
use Rattle.foyer_core.specs.Inflight.{waiters_of}
use Rattle.foyer_core.specs.State.{at_moment, coming_in}
use Rattle.foyer_core.specs.Steps.{newcomer}
use Rattle.foyer_core.specs.Values.{Answered}
use Rattle.foyer_core.specs.declared.record.Data.{Data}
use Rattle.examples_callers.proofs.Served.{entry_has, lives}
use Rattle.examples_callers.proofs.cache.put_and_get.Goals as goal

pub returns : goal.returns
returns g c =
    let numbers = c.args.numbers.now in
    let now = c.args.now in
    let same : (meaning_of_core numbers).same c.args.key c.args.key ≡ true = search rules in
    let made = c.in_ok-entry in
    let given = made.ensures.given in
    let plain = made.ensures.plain (λ p d. (ap (λ q. is_phantom q.phantom) d, refl)) (λ answer yes. yes) in
    -- the number comes in with default properties
    let came = made.ensures.inserted in
    let at = came.2.inserts in
    let hash = hashes_of numbers c.args.key in
    let d : Data _ _ Answered = record {
      key = c.args.key;
      value = c.args.number;
      properties = coming_in (λ _. None) (λ p b. record p { phantom = Some b }) came.2.admitted came.0;
      hash = hash;
      weight = came.2.weight;
    } in
    let many = 1 + length (waiters_of (open_in (fetches_of numbers) (hash, c.args.key))) in
    let is = entry_has (at_moment now (meaning_of_core numbers)) Outer at.before (newcomer at.before d many) _ _ at.after
    at.stepped in
    let live = lives now came.2.admitted came.0 _ (ap (λ q. q.expires) came.1) (ap (λ x. x.properties) is) in
    let finds = rw (given.key_is, given.value_is) at made.ensures.laws.found plain in
    finds now live c.args.key same c.get-found.result (core_of c.get-found.new.self) c.get-found.ensures.gets
