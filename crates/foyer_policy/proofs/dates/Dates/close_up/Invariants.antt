use Rattle.std.proofs.Common.{◌≡◌}
use Rattle.foyer_policy.proofs.dates.Dates.close_up.Given as goal

-- the dates stay
abbrev pub invariant-loop-list : goal.invariant-loop-list
invariant-loop-list g l = record {
  rows : l.self-inside.rows.items ≡ l.initial.self-inside.rows.items;
  lists : l.lists ≡ l.fn.lists;
}
