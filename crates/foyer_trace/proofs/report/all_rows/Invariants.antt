use Rattle.std.proofs.Common.{◌≡◌, None, length, map, take}
use Rattle.foyer_trace.proofs.report.all_rows.Given as goal

-- the rows so far are those of as many runs
abbrev pub invariant-loop-number : goal.invariant-loop-number
invariant-loop-number l = record {
  many : length l.rows.items ≡ l.number;
  hits : l.scale ≡ None → map (λ row. row.hits) l.rows.items ≡ map (λ it. it.counts.hits) (take l.number l.measured);
  misses : l.scale ≡ None → map (λ row. row.misses) l.rows.items
      ≡ map (λ it. it.counts.misses) (take l.number l.measured);
}
