-- The requests that a trace in columns stands for.
use Rattle.std.specs.Prelude.{ℕ, ◌≡◌, ◌+◌, ◌-◌, ◌%◌, ◌^◌, ◌==◌, ◌<◌, ◌≤◌, if◌then◌else◌, Bool, true, false, List, [], ◌∷◌, ◌++◌, length, min, sum_by, Option, None, Some, slice_index, slice_index_or, unwrap_or}
use Rattle.foyer_replay.specs.Counting.{listed}
use Rattle.foyer_replay.specs.declared.request.Operation.{Operation}
use Rattle.foyer_replay.specs.declared.request.Operation.TheVariants.{Get}
use Rattle.foyer_replay.specs.declared.request.Request.{Request}
use Rattle.foyer_trace.specs.declared.record.Record.{Record}
use Rattle.foyer_trace.specs.declared.trace.Column.{Column}
use Rattle.foyer_trace.specs.declared.trace.Column.TheVariants.{Same, Narrow, Wide}
use Rattle.foyer_trace.specs.declared.trace.Part.{Part}
use Rattle.foyer_trace.specs.declared.trace.Terms.{Terms}
use Rattle.foyer_trace.specs.declared.trace.Trace.{Trace}

-- the number of a column at a place
abbrev pub number_at : Column → ℕ → ℕ
number_at (Same number) place = number
number_at (Narrow base more) place = (base + slice_index more.items place) % 2 ^ 64
number_at (Wide numbers) place = slice_index numbers.items place

-- these are the numbers of a column
abbrev pub HasNumbers : Column → List ℕ → Type 0
HasNumbers column numbers = (place : ℕ) → place < length numbers → number_at column place ≡ slice_index numbers place

-- each of some numbers is between two
abbrev pub AreWithin : ℕ → ℕ → List ℕ → Type 0
AreWithin least most numbers = (place : ℕ) → place < length numbers
    → (least ≤ slice_index numbers place) × (slice_index numbers place ≤ most)

-- what the record at a place asks
abbrev pub operation_at : Part → ℕ → Operation
operation_at part place = slice_index_or part.operations.items place Get

-- when a record of this time and life expires
abbrev pub expiry_at : ℕ → ℕ → Option ℕ
expiry_at time ttl = if ttl == 2 ^ 64 - 1 then None else Some (min (time + ttl) (2 ^ 64 - 1))

-- how long the record at a place lives
abbrev pub life_at : Part → Option ℕ → ℕ → ℕ
life_at part (Some ttl) place = ttl
life_at part None place = number_at part.ttls place

-- what the record at a place weighs
abbrev pub weight_at : Part → Bool → ℕ → ℕ
weight_at part true place = number_at part.sizes place
weight_at part false place = 1

-- the request of the record at a place
abbrev pub request_at : Part → Terms → ℕ → Request
request_at part terms place = record {
  key = slice_index part.keys.items place;
  time = number_at part.times place;
  weight = weight_at part terms.weighs_sizes place;
  expiry = expiry_at (number_at part.times place) (life_at part terms.ttl place);
  size = number_at part.sizes place;
  operation = operation_at part place;
}

-- the request that a record becomes
abbrev pub request_of : Terms → Record → Request
request_of terms it = record {
  key = it.key;
  time = it.time;
  weight = if terms.weighs_sizes then it.size else 1;
  expiry = expiry_at it.time (unwrap_or terms.ttl (unwrap_or it.ttl (2 ^ 64 - 1)));
  size = it.size;
  operation = it.operation;
}

-- the requests of a part's records
abbrev pub requests_of_part : Terms → Part → List Request
requests_of_part terms part = listed (request_at part terms) 0 (length part.keys.items)

-- the requests of a trace's records
abbrev pub requests_of : Terms → List Part → List Request
requests_of terms [] = []
requests_of terms (part ∷ parts) = requests_of_part terms part ++ requests_of terms parts

-- the requests of the windows of a trace
abbrev pub requests_of_windows : Terms → List Trace → List Request
requests_of_windows terms [] = []
requests_of_windows terms (window ∷ windows) = requests_of terms window.parts.items ++ requests_of_windows terms windows

-- how many records parts have
abbrev pub records_in : List Part → ℕ
records_in parts = sum_by (λ part. length part.keys.items) parts
