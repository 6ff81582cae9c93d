use Rattle.std.proofs.Common.{◌≡◌, []}
use Rattle.std.specs.List.{filter}
use Rattle.foyer_policy.specs.Dues.{first_lists}
use Rattle.foyer_policy.specs.Moments.{is_due}
use Rattle.foyer_policy.proofs.due.first_of_each.Given as goal

-- no item of the lists so far is due
abbrev pub invariant-loop-list : goal.invariant-loop-list
invariant-loop-list g l = filter (is_due l.now) (first_lists g.T.HasItem.item_of l.lists.lists l.list) ≡ []
