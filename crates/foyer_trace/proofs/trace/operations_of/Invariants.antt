use Rattle.std.proofs.Common.{◌≡◌, map, take}
use Rattle.foyer_trace.proofs.trace.operations_of.Given as goal

-- the operations are those of the records so far
abbrev pub invariant-loop-place : goal.invariant-loop-place
invariant-loop-place l = l.operations.items ≡ map (λ it. it.operation) (take l.place l.records)
