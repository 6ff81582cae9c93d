use Rattle.std.proofs.Common.{◌≡◌, [], replicate}
use Rattle.foyer_policy.proofs.dates.Dates.new.Given as goal

-- so many lists have no dates
abbrev pub invariant-loop-list : goal.invariant-loop-list
invariant-loop-list l = l.rows.items ≡ replicate l._list []
