use Rattle.std.proofs.Common.{◌≡◌, length}
use Rattle.foyer_policy.proofs.DatesGathered.{AreGathered}
use Rattle.foyer_policy.proofs.dates.slots.gather.Given as goal

-- no slot between those that moved and the rest is taken
abbrev pub invariant-loop-from : goal.invariant-loop-from
invariant-loop-from g l = record {
  gathered : AreGathered l.fn.row.slots l.row.slots l.to l.from;
  long : length l.row.slots ≡ length l.fn.row.slots;
  capacity : l.row.capacity ≡ l.fn.row.capacity;
  lists : l.lists ≡ l.fn.lists;
}
