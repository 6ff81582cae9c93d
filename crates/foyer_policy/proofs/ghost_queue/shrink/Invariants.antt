use Rattle.std.proofs.Common.{◌≡◌, ◌≤◌}
use Rattle.std.specs.HashSet.{spare}
use Rattle.std.specs.VecDeque.{deque_len, deque_capacity}
use Rattle.foyer_policy.specs.Items.{fit, over}
use Rattle.foyer_policy.specs.GhostQueue.{pair_weight, ghost_weight, without_hashes}
use Rattle.foyer_policy.specs.GhostParts.{set_of}
use Rattle.foyer_policy.proofs.ghost_queue.shrink.Given as goal

-- what is still to go leaves what was to be left
abbrev pub invariant-loop-left : goal.invariant-loop-left
invariant-loop-left l = record {
  weight : l.left ≡ ghost_weight l.pairs.items;
  pairs : fit pair_weight l.most l.pairs.items ≡ fit pair_weight l.most l.fn.pairs.items;
  hashes : without_hashes (set_of l.hashes.keys) (over pair_weight l.most l.pairs.items)
      ≡ without_hashes (set_of l.fn.hashes.keys) (over pair_weight l.most l.fn.pairs.items);
  capacity : deque_capacity l.pairs ≡ deque_capacity l.fn.pairs;
  len : deque_len l.pairs ≤ deque_len l.fn.pairs;
  spare : spare l.fn.hashes ≤ spare l.hashes;
}

abbrev pub decreases-loop-left : goal.decreases-loop-left
decreases-loop-left l = deque_len l.pairs
