use Rattle.std.proofs.Common.{◌≡◌, ◌≢◌, ℕ, length}
use Rattle.foyer_policy.specs.Lists.{list_at}
use Rattle.foyer_policy.proofs.lists.Lists.clear.Given as goal

abbrev pub invariant-loop : goal.invariant-loop
invariant-loop g l = record {
  others : (k : ℕ) → k ≢ l.list → list_at l.self.lists k ≡ list_at l.fn.self.lists k;
  count : length l.self.lists ≡ length l.fn.self.lists;
}

abbrev pub decreases-loop : goal.decreases-loop
decreases-loop g l = length (list_at l.self.lists l.list)
