use Rattle.std.proofs.Common.{◌≡◌}
use Rattle.foyer_policy.specs.Lists.{list_at}
use Rattle.foyer_policy.proofs.DatedLists.Collects.{Collects}
use Rattle.foyer_policy.proofs.DueLemmas.{left}
use Rattle.foyer_policy.proofs.dated_lists.building.push_dates.Given as goal

-- of this list, those dates that were met
abbrev pub invariant-loop-next : goal.invariant-loop-next
invariant-loop-next g l = record {
  collects : Collects g.T.HasItem.item_of l.fn.dates.lists l.fn.lists.lists l.list l.next l.dates;
  lists : l.lists ≡ l.fn.lists;
}

abbrev pub decreases-loop-next : goal.decreases-loop-next
decreases-loop-next g l = left l.next (list_at l.fn.lists.lists l.list)
