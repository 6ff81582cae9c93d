use Rattle.std.proofs.Common.{◌≡◌, ◌+◌, ◌*◌, ◌/◌, ◌≤◌, ℕ, length, ◌∙◌, ap, arith}
use Rattle.foyer_policy.proofs.ChunkLemmas.{done_from, done_from-chunk}
use Rattle.foyer_policy.proofs.sketch.halve_all.Goals as goal

pub loop-i-preserved : goal.loop-i-preserved
loop-i-preserved c =
    let xs = c.loop-i.counters in
    let at = c.loop-i.i * 32 in
    let room : at + 32 ≤ length xs = omega arith in
    let next : (c.loop-i.i + 1) * 32 ≡ at + 32 = omega arith in
    rw next
    (ap (done_from (λ (n : ℕ). n / 2) (at + 32)) c.halve_chunk.ensures
    ∙ (done_from-chunk (λ (n : ℕ). n / 2) at 32 xs room ∙ c.loop-i.invariant))
