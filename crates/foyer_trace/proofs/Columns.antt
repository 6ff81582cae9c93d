-- The requests of records that stand in columns.
use Rattle.std.proofs.Common.{◌≡◌, ◌+◌, ◌-◌, ◌^◌, ◌<◌, ◌∙◌, ℕ, zero, suc, List, [], ◌∷◌, Option, Some, None, Bool, true, false, cond, map, length, slice_index, slice_index_or, refl, sym, ap, subst, arith}
use Rattle.std.specs.Prelude.{option_map, slice_get, unwrap_or}
use Rattle.std.proofs.lemmas.List.{length-map}
use Rattle.std.proofs.lemmas.Option.{get_or_from_slice_get, slice_get-map, slice_get_within}
use Rattle.foyer_replay.specs.Counting.{listed}
use Rattle.foyer_replay.specs.declared.request.Operation.{Operation}
use Rattle.foyer_replay.specs.declared.request.Operation.TheVariants.{Get}
use Rattle.foyer_replay.specs.declared.request.Request.{Request}
use Rattle.foyer_trace.specs.Trace.{HasNumbers, expiry_at, life_at, number_at, operation_at, request_at, request_of, requests_of_part, weight_at}
use Rattle.foyer_trace.specs.declared.record.Record.{Record}
use Rattle.foyer_trace.specs.declared.trace.Column.{Column}
use Rattle.foyer_trace.specs.declared.trace.Part.{Part}
use Rattle.foyer_trace.specs.declared.trace.Terms.{Terms}

-- requests that are those of the elements of a list
listed_is : {X : Type 0} (nth : ℕ → Request) (f : X → Request) (start : ℕ) (xs : List X) →
    ((k : ℕ) (x : X) → slice_get xs k ≡ Some x → nth (start + k) ≡ f x) → listed nth start (length xs) ≡ map f xs
unfolding listed
listed_is nth f start [] each = refl
listed_is nth f start (x ∷ xs) each =
    let here : nth start ≡ f x = ap nth (let e : start ≡ start + 0 = omega arith in e) ∙ each 0 x refl in
    let rest : listed nth (start + 1) (length xs) ≡ map f xs =
    listed_is nth f (start + 1) xs (λ k y at.
    ap nth (let e : start + 1 + k ≡ start + suc k = omega arith in e) ∙ each (suc k) y at) in
    rw (here, rest) refl

-- what a list of fields has at a record's place
field_at : {X Y : Type 0} (f : X → Y) (xs : List X) (k : ℕ) (x : X) (d : Y) → slice_get xs k ≡ Some x →
    slice_index_or (map f xs) k d ≡ f x
field_at f xs k x d at = get_or_from_slice_get (map f xs) k (f x) d (slice_get-map f xs k ∙ ap (option_map f) at)

-- and so has a column
number_of : (column : Column) (f : Record → ℕ) (xs : List Record) (k : ℕ) (x : Record) → HasNumbers column (map f xs) →
    slice_get xs k ≡ Some x → number_at column k ≡ f x
number_of column f xs k x has at =
    let within : k < length (map f xs) = rw (length-map xs f) (slice_get_within xs k x at) in
    has k within ∙ field_at f xs k x 0 at

life_is : (part : Part) (all : Option ℕ) (k life : ℕ) → number_at part.ttls k ≡ life → life_at part all k
    ≡ unwrap_or all life
life_is part (Some ttl) k life is = refl
life_is part None k life is = is

weight_is : (part : Part) (weighs : Bool) (k size : ℕ) → number_at part.sizes k ≡ size → weight_at part weighs k
    ≡ (cond weighs size 1)
weight_is part true k size is = is
weight_is part false k size is = refl

module _ (part : Part) (records : List Record) (keys : part.keys.items ≡ map (λ it. it.key) records)
    (times : HasNumbers part.times (map (λ it. it.time) records))
    (sizes : HasNumbers part.sizes (map (λ it. it.size) records))
    (ttls : HasNumbers part.ttls (map (λ it. unwrap_or it.ttl (2 ^ 64 - 1)) records))
    (operations : (place : ℕ) →
    slice_index_or part.operations.items place Get ≡ slice_index_or (map (λ it. it.operation) records) place Get) where
  request_is : (terms : Terms) (k : ℕ) (it : Record) → slice_get records k ≡ Some it → request_at part terms k
      ≡ request_of terms it
  request_is terms k it at =
      let key : slice_index part.keys.items k ≡ it.key = ap (λ (l : List ℕ). slice_index l k) keys
      ∙ field_at (λ r. r.key) records k it 0 at in
      let time = number_of part.times (λ r. r.time) records k it times at in
      let size = number_of part.sizes (λ r. r.size) records k it sizes at in
      let life = life_is part terms.ttl k (unwrap_or it.ttl (2 ^ 64 - 1))
      (number_of part.ttls (λ r. unwrap_or r.ttl (2 ^ 64 - 1)) records k it ttls at) in
      let weight = weight_is part terms.weighs_sizes k it.size size in
      let operation : operation_at part k ≡ it.operation = operations k ∙ field_at (λ r. r.operation) records k it Get at in
      rw (key, time, weight, life, size, operation) refl

  pub columns_are : (terms : Terms) → requests_of_part terms part ≡ map (request_of terms) records
  columns_are terms =
      let many : length part.keys.items ≡ length records = ap (λ (l : List ℕ). length l) keys
      ∙ length-map records (λ it. it.key) in
      ap (listed (request_at part terms) 0) many
      ∙ listed_is (request_at part terms) (request_of terms) 0 records (λ k it at.
      ap (request_at part terms) (let e : 0 + k ≡ k = omega arith in e) ∙ request_is terms k it at)
