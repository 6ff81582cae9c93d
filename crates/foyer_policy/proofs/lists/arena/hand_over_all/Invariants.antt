use Rattle.std.proofs.Common.{◌≡◌, ◌≤◌, length}
use Rattle.foyer_policy.specs.Arena.{AreMoved}
use Rattle.foyer_policy.proofs.lists.arena.hand_over_all.Given as goal

abbrev pub invariant-loop-place : goal.invariant-loop-place
invariant-loop-place g l = record {
  from_at : l.from.at ≡ l.fn.from.at;
  from_links : l.from.links ≡ l.fn.from.links;
  to_at : l.to.at ≡ l.fn.to.at;
  to_len : length l.to.links ≡ l.len;
  within : l.place ≤ l.len;
  moved : AreMoved g.row.N l.fn.from.links l.fn.from.values l.from.values l.to.links l.to.values l.free l.place;
}

abbrev pub decreases-loop-place : goal.decreases-loop-place
decreases-loop-place g l = l.place
