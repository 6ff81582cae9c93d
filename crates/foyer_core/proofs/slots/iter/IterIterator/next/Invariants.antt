use Rattle.std.proofs.Common.{◌≡◌, ◌+◌, ◌<◌, ◌^◌, map, length}
use Rattle.foyer_core.specs.Slots.{entries_from}
use Rattle.foyer_core.specs.Cells.{value_of}
use Rattle.foyer_core.proofs.slots.iter.IterIterator.next.Given as goal

-- only free cells were passed over
abbrev pub invariant-loop-cell : goal.invariant-loop-cell
invariant-loop-cell g l =
    (l.self-inside.slot + length l.self-inside.cells.now < 2 ^ 64)
    × (entries_from l.self-inside.slot (map value_of l.self-inside.cells.now) ≡ l.fn.self)

abbrev pub decreases-loop-cell : goal.decreases-loop-cell
decreases-loop-cell g l = length l.self-inside.cells.now
