use Rattle.std.proofs.Common.{◌≡◌, ◌≤◌}
use Rattle.std.specs.Simd.{first_chunks}
use Rattle.foyer_policy.specs.Sketch.{greatest, mixed, counters_of, least}
use Rattle.foyer_policy.proofs.SketchLemmas.{least_on}
use Rattle.foyer_policy.proofs.sketch.least_counter.Given as goal

-- the least so far, with that of the rows from here on, is the least of all
abbrev pub invariant-loop-row : goal.invariant-loop-row
invariant-loop-row l =
    let rows = first_chunks l.buckets l.rows l.counters in
    (l.number ≡ mixed l.hash l.row)
    × (l.least ≤ greatest)
    × (least_on l.buckets l.hash l.row l.least rows ≡ least (counters_of l.buckets l.hash 0 rows))
