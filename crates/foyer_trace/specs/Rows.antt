-- The rows of a report.
use Rattle.std.specs.Prelude.{◌≡◌, List, length, map, take}
use Rattle.foyer_trace.specs.declared.report.Row.{Row}
use Rattle.foyer_trace.specs.declared.run.Measured.{Measured}

-- the rows of the first runs, each in its place, have the hits and the misses that these counted
pub record AreRowsOf (rows : List Row) (runs : List Measured) : Type 0 where
  pub hits : map (λ row. row.hits) rows ≡ map (λ it. it.counts.hits) (take (length rows) runs)
  pub misses : map (λ row. row.misses) rows ≡ map (λ it. it.counts.misses) (take (length rows) runs)
