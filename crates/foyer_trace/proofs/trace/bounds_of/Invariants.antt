use Rattle.std.proofs.Common.{ℕ, ◌<◌, ◌≤◌, slice_index}
use Rattle.foyer_trace.proofs.trace.bounds_of.Given as goal

-- the numbers so far are between these
abbrev pub invariant-loop-place : goal.invariant-loop-place
invariant-loop-place l = (k : ℕ) → k < l.place
    → (l.least ≤ slice_index l.numbers k) × (slice_index l.numbers k ≤ l.most)
