-- The count-min sketch: rows of counters, and the pasts that explain them.
use Rattle.std.specs.Prelude.{◌≡◌, ◌==◌, ℕ, zero, suc, ◌+◌, ◌*◌, ◌/◌, ◌%◌, ◌^◌, ◌<◌, ◌≤◌, min, Bool, List, [], ◌∷◌, Option, Some, None, length, map, replicate, nat_le, slice_index, slice_index_or, slice_set, if◌then◌else◌}
use Rattle.std.specs.Simd.{first_chunks}
use Rattle.foyer_policy.specs.declared.error.Reason.{Reason}
use Rattle.foyer_policy.specs.declared.error.Reason.TheVariants.{NoRows, NoBuckets}

-- rows with a counter for each bucket, and how many hashes were counted, halved now and then
pub record Sketch : Type 0 where
  pub buckets : ℕ
  pub rows : List (List ℕ)
  pub step : ℕ

-- the greatest number of a counter
abbrev pub greatest : ℕ
greatest = 65535

-- the first fault of a number of rows and a number of buckets
abbrev pub size_fault : ℕ → ℕ → Option Reason
size_fault rows buckets = if rows == 0 then Some NoRows else if buckets == 0 then Some NoBuckets else None

-- nothing was counted
abbrev pub new_sketch : ℕ → ℕ → Sketch
new_sketch rows buckets = record { buckets = buckets; rows = replicate rows (replicate buckets 0); step = 0 }

-- a hash, mixed anew for each row
abbrev pub mixed : ℕ → ℕ → ℕ
mixed hash zero = hash
mixed hash (suc r) = (mixed hash r * 6364136223846793005 + 1442695040888963407) % 2 ^ 64

-- the bucket of a hash in a row
abbrev pub bucket : ℕ → ℕ → ℕ → ℕ
bucket buckets hash zero = hash % buckets
bucket buckets hash (suc r) = mixed hash (suc r) / 2 ^ 32 % buckets

-- a counter, one higher up to the greatest
abbrev pub one_more : ℕ → ℕ
one_more n = min (n + 1) greatest

-- a row, with one more at this bucket
abbrev pub counted_at : ℕ → List ℕ → List ℕ
counted_at b row = slice_set row b (one_more (slice_index row b))

-- the rows from row r on, with one more at the hash's bucket in each
abbrev pub counted : ℕ → ℕ → ℕ → List (List ℕ) → List (List ℕ)
counted buckets hash r [] = []
counted buckets hash r (row ∷ rows) = counted_at (bucket buckets hash r) row ∷ counted buckets hash (suc r) rows

-- each counter is halved, rounded down
abbrev pub halves : List (List ℕ) → List (List ℕ)
halves rows = map (map (λ n. n / 2)) rows

-- the sketch with its counters halved
abbrev pub halved : Sketch → Sketch
halved s = record { buckets = s.buckets; rows = halves s.rows; step = s.step }

-- where the step is as high as the number of buckets, the counters and the step are halved
abbrev pub settled : Sketch → Sketch
settled s = if nat_le s.buckets s.step then record { buckets = s.buckets; rows = halves s.rows; step = s.step / 2 }
    else s

-- the sketch once the hash was counted, in each row and in the step
abbrev pub counting : ℕ → Sketch → Sketch
counting hash s = settled (record { buckets = s.buckets; rows = counted s.buckets hash 0 s.rows; step = s.step + 1 })

-- the counters of a hash's buckets, from row r on
abbrev pub counters_of : ℕ → ℕ → ℕ → List (List ℕ) → List ℕ
counters_of buckets hash r [] = []
counters_of buckets hash r (row ∷ rows) = slice_index row (bucket buckets hash r) ∷ counters_of buckets hash (suc r)
    rows

-- the least of these counters, and the greatest number where there are none
abbrev pub least : List ℕ → ℕ
least [] = greatest
least (n ∷ ns) = min n (least ns)

-- the least of the counters of a hash's buckets
abbrev pub estimate_of : Sketch → ℕ → ℕ
estimate_of s hash = least (counters_of s.buckets hash 0 s.rows)

-- What happened to a sketch.
pub data Event : Type 0 where
  -- this hash was counted
  Counted : ℕ → Event
  -- the counters were halved, by a bare `halve`
  Halved : Event

-- the step after a past, whose last event stands first
abbrev pub step_after : ℕ → List Event → ℕ
step_after buckets [] = 0
step_after buckets (Halved ∷ past) = step_after buckets past
step_after buckets (Counted hash ∷ past) = let n = step_after buckets past + 1 in if nat_le buckets n then n / 2 else n

-- how often a past counted a hash of this set: 1 for each, up to the greatest number, and halved
-- wherever the past halves, which it does at each bare halving and where the step gets too high
abbrev pub number_in : ℕ → (ℕ → Bool) → List Event → ℕ
number_in buckets set [] = 0
number_in buckets set (Halved ∷ past) = number_in buckets set past / 2
number_in buckets set (Counted hash ∷ past) =
    let n = number_in buckets set past in
    let m = if set hash then one_more n else n in
    if nat_le buckets (step_after buckets past + 1) then m / 2 else m

-- how often a past counted this hash
abbrev pub own : ℕ → List Event → ℕ → ℕ
own buckets past hash = number_in buckets (λ other. other == hash) past

-- the counter of this row and bucket
abbrev pub counter : Sketch → ℕ → ℕ → ℕ
counter s r b = slice_index (slice_index_or s.rows r []) b

-- the past explains the sketch: each counter is the number of the hashes of its bucket
pub record IsPast (s : Sketch) (past : List Event) : Type 0 where
  pub counters : (r b : ℕ) → r < length s.rows → b < s.buckets → counter s r b
      ≡ number_in s.buckets (λ hash. bucket s.buckets hash r == b) past
  pub step : s.step ≡ step_after s.buckets past

-- some past explains the sketch
abbrev pub HasPast : Sketch → Type 0
HasPast s = ∥ ((past : List Event) × IsPast s past) ∥₁

-- what is said of each estimate: for every past that explains the sketch, it is at least the own
-- number of its hash, and at most the step
abbrev pub EstimatesAreBounded : Type 0
EstimatesAreBounded = (s : Sketch) (past : List Event) (hash : ℕ) → 0 < length s.rows → 0 < s.buckets → IsPast s past
    → (own s.buckets past hash ≤ estimate_of s hash) × (estimate_of s hash ≤ s.step)

-- the counter of row r and bucket b stands at r * buckets + b of one list
abbrev pub sketch_of : ℕ → ℕ → List ℕ → ℕ → Sketch
sketch_of rows buckets counters step =
    record { buckets = buckets; rows = first_chunks buckets rows counters; step = step }

-- what is true of each sketch
pub record IsSketch (rows buckets : ℕ) (counters : List ℕ) (step : ℕ) : Type 0 where
  pub some_rows : 0 < rows
  pub some_buckets : 0 < buckets
  pub size : length counters ≡ rows * buckets
  pub below : step < buckets
  pub past : HasPast (sketch_of rows buckets counters step)
