use Rattle.std.proofs.Common.{◌≡◌, ◌∙◌, ◌+◌, ◌*◌, ◌<◌, [], suc, sym, ap, arith, get_or, length, min, refl}
use Rattle.std.specs.Simd.{first_chunks}
use Rattle.foyer_policy.specs.Sketch.{mixed, bucket}
use Rattle.foyer_policy.proofs.ChunkLemmas.{length-first_chunks, get_or-in_chunk}
use Rattle.foyer_policy.proofs.SketchLemmas.{least_on-next, least_on-end, least_on-start}
use Rattle.foyer_policy.proofs.sketch.least_counter.Goals as goal

pub loop-row-init : goal.loop-row-init
loop-row-init c = (refl, omega arith, least_on-start _ _ _)

pub loop-row-preserved : goal.loop-row-preserved
loop-row-preserved c =
    let rows = c.args.rows in
    let buckets = c.args.buckets in
    let hash = c.args.hash in
    let k = c.loop-row.row in
    let xs = c.args.counters.now in
    let all = first_chunks buckets rows xs in
    let was = c.loop-row.invariant.0 in
    let b : c.bucket_in-bucket.result ≡ bucket buckets hash k = c.bucket_in-bucket.ensures.bucket hash was in
    let below : bucket buckets hash k < buckets = omega arith in
    let e : k + 1 ≡ suc k = omega arith in
    let mix : c.mixed_next-number.result ≡ mixed hash (k + 1) = c.mixed_next-number.ensures hash k was
    ∙ ap (mixed hash) (sym e) in
    let there : k < length all = omega (arith, length-first_chunks buckets rows xs) in
    let read : c.min-least.result ≡ min c.loop-row.least (get_or (get_or all k []) (bucket buckets hash k) 0) =
    c.min-least.ensures ∙ ap (min c.loop-row.least)
    (ap (λ n. get_or xs (k * buckets + n) 0) b
    ∙ sym (get_or-in_chunk buckets rows k (bucket buckets hash k) xs 0 c.loop-row-test.true below)) in
    (mix, omega arith, rw read (least_on-next buckets hash k c.loop-row.least all there ∙ c.loop-row.invariant.2))

pub returns : goal.returns
returns c =
    let all = first_chunks c.args.buckets c.args.rows c.args.counters.now in
    let n : length all ≡ c.args.rows = length-first_chunks c.args.buckets c.args.rows c.args.counters.now in
    sym (least_on-end c.args.buckets c.args.hash c.loop-row.row c.loop-row.least all (omega arith)
    c.loop-row.invariant.1) ∙ c.loop-row.invariant.2
