use Rattle.std.proofs.Common.{sym, ◌∙◌}
use Rattle.foyer_policy.specs.Moments.{is_due}
use Rattle.foyer_policy.proofs.DueLemmas.{lists-found}
use Rattle.foyer_policy.proofs.due.first_of_each.Goals as goal

pub returns-then-is_some-clause-first : goal.returns-then-is_some-clause-first
returns-then-is_some-clause-first g c =
    let found = c.first_due-found in
    lists-found (is_due c.args.now) g.T.HasItem.item_of c.args.lists.now.lists c.loop-list.list c.args.count
    found.result c.loop-list-test.true (sym c.is_some.ensures ∙ c.if-is_some.true) found.ensures.there
    c.loop-list.invariant found.ensures.first
