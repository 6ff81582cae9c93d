use Rattle.std.proofs.Common.{IsSome}
use Rattle.foyer_policy.specs.Lists.{find}
use Rattle.foyer_policy.proofs.sieve.next_victim.Given as goal

-- a record stands at the place
abbrev pub invariant-loop-read : goal.invariant-loop-read
invariant-loop-read l = IsSome (find l.place l.queue.lists)
