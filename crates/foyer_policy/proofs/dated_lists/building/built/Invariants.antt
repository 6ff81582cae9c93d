use Rattle.std.proofs.Common.{◌≡◌}
use Rattle.foyer_policy.specs.DatedLists.{Builds}
use Rattle.foyer_policy.proofs.dated_lists.building.built.Given as goal

abbrev pub invariant-loop-list : goal.invariant-loop-list
invariant-loop-list g l = record {
  builds : Builds g.T.HasItem.item_of l.searched l.fn.lists.lists l.list l.dates;
  lists : l.lists ≡ l.fn.lists;
}
