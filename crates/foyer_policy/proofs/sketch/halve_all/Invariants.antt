use Rattle.std.proofs.Common.{◌≡◌, ◌*◌, ◌/◌, map}
use Rattle.foyer_policy.proofs.ChunkLemmas.{done_from}
use Rattle.foyer_policy.proofs.sketch.halve_all.Given as goal

-- halving the counters from here on makes all of them halved
abbrev pub invariant-loop-i : goal.invariant-loop-i
invariant-loop-i l = done_from (λ n. n / 2) (l.i * 32) l.counters ≡ map (λ n. n / 2) l.fn.counters

abbrev pub invariant-loop-k : goal.invariant-loop-k
invariant-loop-k l = done_from (λ n. n / 2) l.k l.counters ≡ map (λ n. n / 2) l.fn.counters
