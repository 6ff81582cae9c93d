use Rattle.std.proofs.Common.{◌≡◌}
use Rattle.std.specs.Simd.{first_chunks}
use Rattle.foyer_policy.specs.Sketch.{mixed, counted}
use Rattle.foyer_policy.proofs.SketchLemmas.{counted_on}
use Rattle.foyer_policy.proofs.sketch.count.Given as goal

-- counting the hash from this row on makes the rows as they shall be
abbrev pub invariant-loop-row : goal.invariant-loop-row
invariant-loop-row l =
    (l.number ≡ mixed l.hash l.row)
    × (counted_on l.buckets l.hash l.row (first_chunks l.buckets l.rows l.counters)
    ≡ counted l.buckets l.hash 0 (first_chunks l.buckets l.rows l.fn.counters))
