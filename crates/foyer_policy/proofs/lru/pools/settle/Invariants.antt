use Rattle.std.proofs.Common.{◌≡◌, ℕ, length, map, sum_by, ◌++◌}
use Rattle.foyer_policy.specs.Queued.{queued_at}
use Rattle.foyer_policy.specs.Items.{fit, over}
use Rattle.foyer_policy.specs.Lists.{list_at}
use Rattle.foyer_policy.specs.LruLists.{low_entry, weight_at}
use Rattle.foyer_policy.proofs.lru.pools.settle.Given as goal

-- what is over and what fits stay, where the nodes that went are counted in
abbrev pub invariant-loop-left : goal.invariant-loop-left
invariant-loop-left l =
    let now = l.lists.lists in
    let old = l.fn.lists.lists in
    record {
      weight : l.left ≡ sum_by weight_at (list_at now 1);
      low : list_at now 0 ++ map low_entry (over weight_at l.limit (list_at now 1)) ≡ list_at old 0
          ++ map low_entry (over weight_at l.limit (list_at old 1));
      high : fit weight_at l.limit (list_at now 1) ≡ fit weight_at l.limit (list_at old 1);
      pin : list_at now 2 ≡ list_at old 2;
      places : (q : ℕ) → queued_at q now ≡ queued_at q old;
      room : l.lists.room ≡ l.fn.lists.room;
      span : l.lists.span ≡ l.fn.lists.span;
    }

abbrev pub decreases-loop-left : goal.decreases-loop-left
decreases-loop-left l = length (list_at l.lists.lists 1)
