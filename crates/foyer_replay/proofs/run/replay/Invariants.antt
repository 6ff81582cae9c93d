use Rattle.std.proofs.Common.{◌-◌, ◌≤◌}
use Rattle.foyer_replay.specs.Counting.{listed}
use Rattle.foyer_replay.specs.Cores.{core_of, serves_of}
use Rattle.foyer_replay.proofs.Counting.{Completes}
use Rattle.foyer_replay.proofs.run.replay.Given as goal

-- with what the rest of the requests comes to, the counts so far are those of all, and none is beyond the requests
abbrev pub invariant-loop-place : goal.invariant-loop-place
invariant-loop-place g l = record {
  rest : Completes (serves_of l.fn.core) l.skipped (listed (g.Q.Requests.nth l.requests) 0 (g.Q.Requests.count l.requests))
      (l.skipped - l.place) (listed (g.Q.Requests.nth l.requests) l.place (g.Q.Requests.count l.requests - l.place))
      l.counts.hits l.counts.misses (core_of l.fn.core) (core_of l.core);
  hits : l.counts.hits ≤ l.place;
  misses : l.counts.misses ≤ l.place;
}
