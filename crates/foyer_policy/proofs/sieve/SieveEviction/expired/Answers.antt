use Rattle.std.proofs.Common.{refl, sym, ◌∙◌, ap, List}
use Rattle.std.specs.List.{filter}
use Rattle.foyer_policy.specs.Dues.{first_item}
use Rattle.foyer_policy.specs.Lists.{list_at}
use Rattle.foyer_policy.specs.Sieve.{SieveView, sieve}
use Rattle.foyer_policy.specs.SieveQueue.{view_of}
use Rattle.foyer_policy.specs.Moments.{is_due}
use Rattle.foyer_policy.specs.declared.sieve.SieveConfig.{SieveConfig}
use Rattle.foyer_policy.specs.declared.types.Item.{Item}
use Rattle.foyer_policy.proofs.DueLemmas.{first_due-all}
use Rattle.foyer_policy.proofs.SieveNodes.{items-entries}
use Rattle.foyer_policy.proofs.sieve.SieveEviction.expired.Goals as goal

pub returns-clause-first : goal.returns-clause-first
returns-clause-first c =
    let i = c.self.inside in
    let v : SieveView = view_of (record { nodes = i.queue; hand = i.hand; looks = i.looks }) in
    rw (← c.self.view_is)
    (c.first_of_lists.ensures.first
    ∙ ap (λ (l : List Item). first_item (filter (is_due c.args.now) l)) (sym (items-entries (list_at i.queue.lists 0)))
    ∙ sym (first_due-all (is_due c.args.now) (sieve SieveConfig) v refl c.self.invariant.once))
