use Rattle.std.proofs.Common.{◌≡◌, ◌<◌, ◌^◌, drop, sum_by}
use Rattle.foyer_trace.specs.Runs.{IsNew}
use Rattle.foyer_trace.specs.Trace.{requests_of_windows}
use Rattle.foyer_trace.specs.declared.runner.Core.{Core}
use Rattle.foyer_trace.proofs.Runs.{Completes}
use Rattle.foyer_trace.proofs.run.run_core.Given as goal

-- a core that was new has served the windows so far: with what the rest comes to, the counts are those of the trace
abbrev pub invariant-loop-number : goal.invariant-loop-number
invariant-loop-number g l = record {
  new : IsNew l.kind l.capacity l.plan.shards l.initial.runner.core;
  rest : Completes l.plan.warmup (requests_of_windows l.plan.terms l.trace) l.left
      (requests_of_windows l.plan.terms (drop l.number l.trace)) (sum_by (λ it. it.hits) l.windows.items)
      (sum_by (λ it. it.misses) l.windows.items) l.initial.runner.core l.runner.core;
  terms : l.runner.terms ≡ l.plan.terms;
  fits : l.left < 2 ^ 64;
}
