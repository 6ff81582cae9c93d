use Rattle.std.proofs.Common.{◌≡◌, sum_by, take}
use Rattle.foyer_trace.proofs.run.sum_of_all.Given as goal

-- the sum is that of the windows so far
abbrev pub invariant-loop-counts : goal.invariant-loop-counts
invariant-loop-counts l = record {
  hits : l.sum.hits ≡ sum_by (λ it. it.hits) (take l.counts-index l.windows);
  misses : l.sum.misses ≡ sum_by (λ it. it.misses) (take l.counts-index l.windows);
}
