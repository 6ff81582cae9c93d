use Rattle.std.proofs.Common.{◌≡◌, ◌*◌, ◌/◌, ◌<◌, List, [], ℕ, length, get_or, ◌∙◌, ap, arith}
use Rattle.std.specs.Simd.Lanes.{chunk, put_chunk}
use Rattle.std.proofs.lemmas.Simd.{length-chunk, zip2_splat}
use Rattle.foyer_policy.proofs.ChunkLemmas.{get_or-first_chunks}
use Rattle.foyer_policy.proofs.sketch.halve_chunk.Goals as goal

pub returns : goal.returns
returns c =
    let xs = c.args.counters.now in
    let at = c.args.i * 32 in
    let v = chunk at 32 xs in
    let there : c.args.i < length xs / 32 = omega arith in
    let loaded : get_or c.as_chunks.result.0.now c.args.i [] ≡ v =
    ap (λ (chunks : List (List ℕ)). get_or chunks c.args.i []) c.as_chunks.ensures.front
    ∙ get_or-first_chunks 32 (length xs / 32) c.args.i xs there in
    rw loaded (ap (put_chunk at xs) (zip2_splat _ v 32 1 (length-chunk at 32 xs c.requires)))
