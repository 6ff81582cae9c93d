use Rattle.std.proofs.Common.{◌≡◌, drop}
use Rattle.foyer_trace.specs.Trace.{requests_of}
use Rattle.foyer_trace.proofs.Runs.{Completes}
use Rattle.foyer_trace.proofs.run.run_one.Given as goal

-- with what the rest of the parts comes to, the counts so far are those of the trace
abbrev pub invariant-loop-number : goal.invariant-loop-number
invariant-loop-number g l = record {
  rest : Completes l.warmup (requests_of l.fn.runner.terms l.part-items) l.left
      (requests_of l.fn.runner.terms (drop l.number-counter l.part-items)) l.counts.hits l.counts.misses l.fn.runner.core
      l.runner.core;
  terms : l.runner.terms ≡ l.fn.runner.terms;
}
