-- The rows of a sketch, as its loops go over them.
use Rattle.std.proofs.Common.{◌≡◌, ℕ, zero, suc, ◌+◌, ◌*◌, ◌/◌, ◌^◌, ◌<◌, ◌≤◌, List, [], ◌∷◌, ◌++◌, length, take, drop, get_or, set, min, sym, ◌∙◌, ap, arith, append_assoc}
use Rattle.std.specs.Simd.{first_chunks}
use Rattle.std.proofs.Math.Nat.{mul-le-mul_right}
use Rattle.std.proofs.Math.Seq.{take-suc-set, drop-cons}
use Rattle.std.proofs.lemmas.List.{drop-set-lt, take_all, drop_all, append-nil}
use Rattle.std.proofs.lemmas.Nat.{mod_below}
use Rattle.std.proofs.lemmas.Simd.{length-chunk}
use Rattle.foyer_policy.specs.Sketch.{mixed, bucket, one_more, counted_at, counted, counters_of, least, greatest}
use Rattle.foyer_policy.proofs.ChunkLemmas.{length-first_chunks, get_or-first_chunks, get_or-in_chunk, first_chunks-set}

-- where the counter of a row and a bucket stands
pub place-below : (rows buckets r b : ℕ) → r < rows → b < buckets → r * buckets + b < rows * buckets
place-below rows buckets r b hr hb =
    let up : suc r * buckets ≤ rows * buckets = mul-le-mul_right buckets hr in
    let split : suc r * buckets ≡ buckets + r * buckets = omega arith in
    omega arith

pub bucket-below : (buckets hash r : ℕ) → 0 < buckets → bucket buckets hash r < buckets
bucket-below buckets hash zero h = mod_below hash buckets h
bucket-below buckets hash (suc r) h = mod_below (mixed hash (suc r) / 2 ^ 32) buckets h

-- each row has a counter for each bucket
pub row-length : (rows buckets r : ℕ) (counters : List ℕ) → length counters ≡ rows * buckets → r < rows →
    length (get_or (first_chunks buckets rows counters) r []) ≡ buckets
row-length rows buckets r counters n h =
    let up : suc r * buckets ≤ rows * buckets = mul-le-mul_right buckets h in
    let split : suc r * buckets ≡ buckets + r * buckets = omega arith in
    rw (get_or-first_chunks buckets rows r counters h) (length-chunk (r * buckets) buckets counters (omega arith))

-- the rows once the hash is counted from row k on
abbrev pub counted_on : ℕ → ℕ → ℕ → List (List ℕ) → List (List ℕ)
counted_on buckets hash k rows = take k rows ++ counted buckets hash k (drop k rows)

counted_on-row : (buckets hash k : ℕ) (rows : List (List ℕ)) → k < length rows
    → counted_on buckets hash (suc k) (set rows k (counted_at (bucket buckets hash k) (get_or rows k [])))
    ≡ counted_on buckets hash k rows
counted_on-row buckets hash k rows h =
    let row = counted_at (bucket buckets hash k) (get_or rows k []) in
    rw (take-suc-set rows k row h, drop-set-lt (suc k) rows k row (omega arith), append_assoc)
    (ap (λ r. take k rows ++ r) (sym (ap (counted buckets hash k) (drop-cons rows k [] h))))

-- and so where one counter of row k is written
pub counted_on-next : (rows buckets hash k n : ℕ) (counters : List ℕ) → 0 < buckets → k < rows
    → n ≡ one_more (get_or counters (k * buckets + bucket buckets hash k) 0)
    → counted_on buckets hash (k + 1) (first_chunks buckets rows (set counters (k * buckets + bucket buckets hash k) n))
    ≡ counted_on buckets hash k (first_chunks buckets rows counters)
counted_on-next rows buckets hash k n counters some h is =
    let b = bucket buckets hash k in
    let below : b < buckets = bucket-below buckets hash k some in
    let all = first_chunks buckets rows counters in
    let there : k < length all = omega (arith, length-first_chunks buckets rows counters) in
    let e : k + 1 ≡ suc k = omega arith in
    let same : n ≡ one_more (get_or (get_or all k []) b 0) = is
    ∙ ap one_more (sym (get_or-in_chunk buckets rows k b counters 0 h below)) in
    rw (e, first_chunks-set buckets rows k b n counters h below, same) (counted_on-row buckets hash k all there)

-- the least of what was seen and of the counters from row k on
abbrev pub least_on : ℕ → ℕ → ℕ → ℕ → List (List ℕ) → ℕ
least_on buckets hash k seen rows = min seen (least (counters_of buckets hash k (drop k rows)))

pub least_on-next : (buckets hash k seen : ℕ) (rows : List (List ℕ)) → k < length rows
    → least_on buckets hash (k + 1) (min seen (get_or (get_or rows k []) (bucket buckets hash k) 0)) rows
    ≡ least_on buckets hash k seen rows
least_on-next buckets hash k seen rows h =
    let e : k + 1 ≡ suc k = omega arith in
    let split : drop k rows ≡ get_or rows k [] ∷ drop (suc k) rows = drop-cons rows k [] h in
    rw (e, split) (omega arith)

-- no row is left
pub counted_on-end : (buckets hash k : ℕ) (rows : List (List ℕ)) → length rows ≤ k → counted_on buckets hash k rows
    ≡ rows
counted_on-end buckets hash k rows h = rw (take_all k rows h, drop_all k rows h) (append-nil rows)

pub least_on-end : (buckets hash k seen : ℕ) (rows : List (List ℕ)) → length rows ≤ k → seen ≤ greatest →
    least_on buckets hash k seen rows ≡ seen
least_on-end buckets hash k seen rows h le = rw (drop_all k rows h) (omega arith)

pub least_on-start : (buckets hash : ℕ) (rows : List (List ℕ)) → least_on buckets hash 0 greatest rows
    ≡ least (counters_of buckets hash 0 rows)
least_on-start buckets hash rows = (let e = least-le (counters_of buckets hash 0 rows) in omega arith) where
  least-le : (ns : List ℕ) → least ns ≤ greatest
  least-le [] = omega arith
  least-le (n ∷ ns) = (let e = least-le ns in omega arith)
