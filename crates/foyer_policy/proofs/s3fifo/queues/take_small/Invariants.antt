use Rattle.std.proofs.Common.{◌≡◌, ℕ, ◌++◌, length}
use Rattle.foyer_policy.specs.Lists.{list_at}
use Rattle.foyer_policy.specs.Items.{weight_of}
use Rattle.foyer_policy.specs.S3Fifo.{items, frequent_front, from_rare}
use Rattle.foyer_policy.specs.S3FifoQueues.{small_of, main_of, item_at, AreQueues}
use Rattle.foyer_policy.proofs.s3fifo.queues.take_small.Given as goal

-- what is still to move, behind what has moved
abbrev pub invariant-loop-front : goal.invariant-loop-front
invariant-loop-front l = record {
  rare : from_rare l.threshold (small_of l.queues.lists) ≡ from_rare l.threshold (small_of l.fn.queues.lists);
  moved : main_of l.queues.lists ++ frequent_front l.threshold (small_of l.queues.lists) ≡ main_of l.fn.queues.lists
      ++ frequent_front l.threshold (small_of l.fn.queues.lists);
  whole : main_of l.queues.lists ++ small_of l.queues.lists ≡ main_of l.fn.queues.lists ++ small_of l.fn.queues.lists;
  queues : AreQueues l.queues.lists;
  placed : (p : ℕ) → item_at l.queues.lists p ≡ item_at l.fn.queues.lists p;
  weight : l.weight ≡ weight_of (items (small_of l.queues.lists));
  room : l.queues.room ≡ l.fn.queues.room;
  span : l.queues.span ≡ l.fn.queues.span;
}

abbrev pub decreases-loop-front : goal.decreases-loop-front
decreases-loop-front l = length (list_at l.queues.lists 0)
