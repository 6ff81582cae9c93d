use Rattle.std.proofs.Common.{◌≡◌, ◌≤◌, ◌+◌, true, vec_capacity}
use Rattle.std.specs.Prelude.{replicate}
use Rattle.foyer_core.specs.Values.{Held}
use Rattle.foyer_core.proofs.slot.Slot.entries.Given as goal

-- so many entries are made
abbrev pub invariant-loop-made : goal.invariant-loop-made
invariant-loop-made g l =
    let entry : Held g.row.K.Denot g.row.V.Denot g.row.P.Denot =
    record { number = l.fn.number; id = l.fn.self.id; kept = l.fn.self.kept; source = l.fn.source; left = true } in
    record {
      made : l.entries.items ≡ replicate l._made entry;
      room : l.fn.further.count + l.fn.further.room ≤ vec_capacity l.entries;
    }
