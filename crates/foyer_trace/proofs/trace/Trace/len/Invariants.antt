use Rattle.std.proofs.Common.{◌≡◌, ◌-◌, ◌^◌, min, take}
use Rattle.foyer_trace.specs.Trace.{records_in}
use Rattle.foyer_trace.proofs.trace.Trace.len.Given as goal

-- the count is that of the parts so far
abbrev pub invariant-loop-part : goal.invariant-loop-part
invariant-loop-part l = l.count ≡ min (records_in (take l.part-index l.self.parts.items)) (2 ^ 64 - 1)
