use Rattle.std.proofs.Common.{◌≡◌, ℕ, ◌+◌, length}
use Rattle.foyer_policy.specs.Lists.{list_at}
use Rattle.foyer_policy.specs.S3Fifo.{frequencies, main_turn, main_looks}
use Rattle.foyer_policy.specs.S3FifoQueues.{small_of, main_of, item_at, AreQueues}
use Rattle.foyer_policy.proofs.s3fifo.queues.take_main.Given as goal

-- what main gives, and its looks, are those from the beginning
abbrev pub invariant-loop-front : goal.invariant-loop-front
invariant-loop-front l = record {
  turn : main_turn (main_of l.queues.lists) ≡ main_turn (main_of l.fn.queues.lists);
  looked : l.looks + main_looks (main_of l.queues.lists) ≡ main_looks (main_of l.fn.queues.lists);
  small : small_of l.queues.lists ≡ small_of l.fn.queues.lists;
  queues : AreQueues l.queues.lists;
  placed : (p : ℕ) → item_at l.queues.lists p ≡ item_at l.fn.queues.lists p;
  paid : l.looks + frequencies (main_of l.queues.lists) ≡ frequencies (main_of l.fn.queues.lists);
  as_many : length (list_at l.queues.lists 1) ≡ length (list_at l.fn.queues.lists 1);
  room : l.queues.room ≡ l.fn.queues.room;
  span : l.queues.span ≡ l.fn.queues.span;
}

abbrev pub decreases-loop-front : goal.decreases-loop-front
decreases-loop-front l = frequencies (main_of l.queues.lists)
