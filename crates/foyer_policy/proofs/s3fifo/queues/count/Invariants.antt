use Rattle.std.proofs.Common.{◌-◌, length}
use Rattle.foyer_policy.specs.Lists.{list_at}
use Rattle.foyer_policy.proofs.s3fifo.queues.count.Given as goal
use Rattle.foyer_policy.proofs.S3FifoNodes.{Counted}

abbrev pub invariant-loop-next : goal.invariant-loop-next
invariant-loop-next l = Counted (list_at l.queues.lists l.list) l.next l.count

abbrev pub decreases-loop-next : goal.decreases-loop-next
decreases-loop-next l = length (list_at l.queues.lists l.list) - l.count
