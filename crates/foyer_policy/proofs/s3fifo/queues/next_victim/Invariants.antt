use Rattle.std.proofs.Common.{IsSome}
use Rattle.foyer_policy.specs.Lists.{find}
use Rattle.foyer_policy.proofs.s3fifo.queues.next_victim.Given as goal

-- a record stands at the place
abbrev pub invariant-loop-read : goal.invariant-loop-read
invariant-loop-read l = IsSome (find l.at l.queues.lists)
