use Rattle.foyer_policy.specs.Lists.{list_at}
use Rattle.foyer_policy.specs.Moments.{is_due}
use Rattle.foyer_policy.proofs.DueLemmas.{Seen, left}
use Rattle.foyer_policy.proofs.due.first_of_list.Given as goal

-- no item in front of the next place is due
abbrev pub invariant-loop-next : goal.invariant-loop-next
invariant-loop-next g l = Seen (is_due l.now) g.T.HasItem.item_of (list_at l.lists.lists l.list) l.next

abbrev pub decreases-loop-next : goal.decreases-loop-next
decreases-loop-next g l = left l.next (list_at l.lists.lists l.list)
