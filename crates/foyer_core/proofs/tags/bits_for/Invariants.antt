use Rattle.std.proofs.Common.{◌-◌, ◌≤◌}
use Rattle.foyer_core.proofs.tags.bits_for.Given as goal

abbrev pub invariant-loop-wanted : goal.invariant-loop-wanted
invariant-loop-wanted l = l.wanted ≤ 32

abbrev pub decreases-loop-wanted : goal.decreases-loop-wanted
decreases-loop-wanted l = 32 - l.wanted
