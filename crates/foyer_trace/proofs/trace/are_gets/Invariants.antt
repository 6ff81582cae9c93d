use Rattle.std.proofs.Common.{◌≡◌, map, replicate, take}
use Rattle.foyer_replay.specs.declared.request.Operation.TheVariants.{Get}
use Rattle.foyer_trace.proofs.trace.are_gets.Given as goal

-- the records so far are gets
abbrev pub invariant-loop-place : goal.invariant-loop-place
invariant-loop-place l = map (λ it. it.operation) (take l.place l.records) ≡ replicate l.place Get
