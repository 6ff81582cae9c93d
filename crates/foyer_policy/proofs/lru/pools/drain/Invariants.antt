use Rattle.std.proofs.Common.{◌≡◌, ◌≤◌, length, set, []}
use Rattle.foyer_policy.specs.Lists.{list_at}
use Rattle.foyer_policy.proofs.lru.pools.drain.Given as goal

-- the other lists stay, and no room goes
abbrev pub invariant-loop : goal.invariant-loop
invariant-loop l =
    record {
      others : set l.lists.lists l.list [] ≡ set l.fn.lists.lists l.list [];
      room : l.fn.lists.room ≤ l.lists.room;
      span : l.lists.span ≡ l.fn.lists.span;
    }

abbrev pub decreases-loop : goal.decreases-loop
decreases-loop l = length (list_at l.lists.lists l.list)
