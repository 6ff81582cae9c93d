use Rattle.std.proofs.Common.{◌≡◌, ℕ, ◌+◌, ◌<◌, length, slice_index}
use Rattle.foyer_trace.proofs.trace.above.Given as goal

-- so it is of the numbers so far
abbrev pub invariant-loop-place : goal.invariant-loop-place
invariant-loop-place l = record {
  many : length l.more.items ≡ l.place;
  each : (k : ℕ) → k < l.place → l.base + slice_index l.more.items k ≡ slice_index l.numbers k;
}
