use Rattle.std.proofs.Common.{◌≡◌, ◌∙◌, ◌+◌, ◌*◌, suc, sym, ap, arith, get_or, length}
use Rattle.std.specs.Simd.{first_chunks}
use Rattle.foyer_policy.specs.Sketch.{mixed, bucket, one_more}
use Rattle.foyer_policy.proofs.ChunkLemmas.{length-first_chunks}
use Rattle.foyer_policy.proofs.SketchLemmas.{counted_on-next, counted_on-end}
use Rattle.foyer_policy.proofs.sketch.count.Goals as goal

pub loop-row-preserved : goal.loop-row-preserved
loop-row-preserved c =
    let rows = c.args.rows in
    let buckets = c.args.buckets in
    let hash = c.args.hash in
    let k = c.loop-row.row in
    let xs = c.loop-row.counters in
    let was = c.loop-row.invariant.0 in
    let b : c.bucket_in-bucket.result ≡ bucket buckets hash k = c.bucket_in-bucket.ensures.bucket hash was in
    let e : k + 1 ≡ suc k = omega arith in
    let mix : c.mixed_next-number.result ≡ mixed hash (k + 1) = c.mixed_next-number.ensures hash k was
    ∙ ap (mixed hash) (sym e) in
    let more : c.raised.result ≡ one_more (get_or xs (k * buckets + bucket buckets hash k) 0) =
    c.raised.ensures ∙ (ap (λ n. one_more (get_or xs (k * buckets + n) 0)) b) in (
      mix,
      rw b
          (counted_on-next rows buckets hash k c.raised.result xs c.requires.buckets c.loop-row-test.true more
          ∙ c.loop-row.invariant.1),
    )

pub returns : goal.returns
returns c =
    let n : length (first_chunks c.args.buckets c.args.rows c.loop-row.counters) ≡ c.args.rows =
    length-first_chunks c.args.buckets c.args.rows c.loop-row.counters in
    sym (counted_on-end c.args.buckets c.args.hash c.loop-row.row
    (first_chunks c.args.buckets c.args.rows c.loop-row.counters) (omega arith)) ∙ c.loop-row.invariant.1
