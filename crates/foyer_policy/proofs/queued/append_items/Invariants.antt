use Rattle.std.proofs.Common.{◌+◌, ◌-◌, length}
use Rattle.foyer_policy.specs.Lists.{list_at}
use Rattle.foyer_policy.proofs.WalkLemmas.{Walk}
use Rattle.foyer_policy.proofs.queued.append_items.Given as goal

-- the items so far are those from before and those in front of the next place
abbrev pub invariant-loop-next : goal.invariant-loop-next
invariant-loop-next g l = Walk g.T.HasItem.item_of l.fn.items.items (list_at l.lists.lists l.list) l.next l.items.items

abbrev pub decreases-loop-next : goal.decreases-loop-next
decreases-loop-next g l = length l.fn.items.items + length (list_at l.lists.lists l.list) - length l.items.items
