use Rattle.std.proofs.Common.{◌≡◌, ℕ, ◌+◌, ◌≤◌, List, ◌∷◌, ◌++◌, IsSome}
use Rattle.foyer_policy.specs.Lists.{list_at, find, AreLists}
use Rattle.foyer_policy.specs.Sieve.{set_bits, turn, looks_at}
use Rattle.foyer_policy.specs.SieveQueue.{Node, entries, entry_items, item_at}
use Rattle.foyer_policy.proofs.SieveNodes.{Stand}
use Rattle.foyer_policy.proofs.sieve.take_victim.Given as goal

-- what the pop gives, and its looks, are those from where it began; only bits have changed
abbrev pub invariant-loop-queue : goal.invariant-loop-queue
invariant-loop-queue l = record {
  stands : (xs ys : List (ℕ × Node)) (n : Node) → list_at l.fn.queue.lists 0 ≡ xs ++ (l.fn.start, n) ∷ ys →
      Stand l.looks l.at (list_at l.queue.lists 0) (turn (entries xs) (entries ((l.fn.start, n) ∷ ys)))
      (looks_at (entries ((l.fn.start, n) ∷ ys) ++ entries xs));
  there : IsSome (find l.at l.queue.lists);
  apart : AreLists 1 l.queue.lists;
  placed : (p : ℕ) → item_at l.queue.lists p ≡ item_at l.fn.queue.lists p;
  items : entry_items (list_at l.queue.lists 0) ≡ entry_items (list_at l.fn.queue.lists 0);
  room : l.queue.room ≡ l.fn.queue.room;
  span : l.queue.span ≡ l.fn.queue.span;
  paid : l.looks + set_bits (entries (list_at l.queue.lists 0)) ≤ set_bits (entries (list_at l.fn.queue.lists 0));
}

abbrev pub decreases-loop-queue : goal.decreases-loop-queue
decreases-loop-queue l = set_bits (entries (list_at l.queue.lists 0))
