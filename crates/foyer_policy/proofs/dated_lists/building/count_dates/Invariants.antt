use Rattle.foyer_policy.specs.Lists.{list_at}
use Rattle.foyer_policy.proofs.DatedLists.Walk.{Counts}
use Rattle.foyer_policy.proofs.DueLemmas.{left}
use Rattle.foyer_policy.proofs.dated_lists.building.count_dates.Given as goal

abbrev pub invariant-loop-next : goal.invariant-loop-next
invariant-loop-next g l = Counts g.T.HasItem.item_of (list_at l.lists.lists l.list) l.next l.count

abbrev pub decreases-loop-next : goal.decreases-loop-next
decreases-loop-next g l = left l.next (list_at l.lists.lists l.list)
