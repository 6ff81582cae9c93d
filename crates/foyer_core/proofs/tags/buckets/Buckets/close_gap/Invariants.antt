use Rattle.std.proofs.Common.{◌≡◌, ◌<◌, None}
use Rattle.foyer_core.specs.Probing.{tag_in, size_of, IsProbedBut, IsOnce, IsMoved}
use Rattle.foyer_core.proofs.ProbeLemmas.{AreBehind}
use Rattle.foyer_core.proofs.tags.buckets.Buckets.close_gap.Given as goal

-- the tags that were there, of which those between the gap and this bucket have homes behind the gap
abbrev pub invariant-loop-next : goal.invariant-loop-next
invariant-loop-next l = record {
  order : l.gap < l.next;
  size : size_of l.self ≡ size_of l.initial.self;
  empty : tag_in l.self l.gap ≡ None;
  probed : IsProbedBut l.gap l.bits (tag_in l.self);
  once : IsOnce (tag_in l.self);
  behind : AreBehind l.bits l.gap l.next (tag_in l.self);
  moved : IsMoved (size_of l.initial.self) (tag_in l.initial.self) (tag_in l.self);
}
