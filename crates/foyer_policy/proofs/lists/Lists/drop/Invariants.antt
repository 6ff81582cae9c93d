use Rattle.std.proofs.Common.{◌≡◌, ℕ, ◌<◌, [], length}
use Rattle.foyer_policy.specs.Lists.{list_at}
use Rattle.foyer_policy.proofs.lists.Lists.drop.Given as goal

abbrev pub invariant-loop-list : goal.invariant-loop-list
invariant-loop-list g l = record {
  done : (k : ℕ) → k < l.list → list_at l.self.lists k ≡ [];
  count : length l.self.lists ≡ g.row.N;
}
