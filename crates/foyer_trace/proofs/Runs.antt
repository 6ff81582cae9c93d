-- What one more part of a trace adds to a run.
use Rattle.std.proofs.Common.{◌≡◌, ◌∙◌, ◌+◌, ◌-◌, ◌^◌, ◌<◌, ℕ, List, [], ◌∷◌, ◌++◌, drop, length, min, ap, arith, refl, subst, sym, zero-add}
use Rattle.std.proofs.lemmas.List.{drop_more, length-append}
use Rattle.std.proofs.lemmas.List.Sums.{sum_by-append}
use Rattle.std.specs.Prelude.{slice_index_or}
use Rattle.foyer_replay.proofs.Counting.{counted_joined, counted_none, length_listed}
use Rattle.foyer_replay.specs.Cores.{serves_of}
use Rattle.foyer_replay.specs.declared.request.Request.{Request}
use Rattle.foyer_trace.specs.Runs.{Serves}
use Rattle.foyer_trace.specs.Trace.{records_in, request_at, requests_of, requests_of_part, requests_of_windows}
use Rattle.foyer_trace.specs.declared.trace.Part.{Part}
use Rattle.foyer_trace.specs.declared.trace.Terms.{Terms}
use Rattle.foyer_trace.specs.declared.trace.Trace.{Trace}
use Rattle.foyer_trace.specs.declared.runner.Core.{Core}
use Rattle.foyer_trace.specs.declared.runner.Core.TheVariants.{Fifo, Lru, Lfu, S3Fifo, Sieve, Belady}

-- no requests are served at once
pub serves_none : (skipped : ℕ) (core : Core) → Serves core skipped [] 0 0 core
serves_none skipped (Fifo core) = (core, refl, counted_none (serves_of core) skipped _)
serves_none skipped (Lru core) = (core, refl, counted_none (serves_of core) skipped _)
serves_none skipped (Lfu core) = (core, refl, counted_none (serves_of core) skipped _)
serves_none skipped (S3Fifo core) = (core, refl, counted_none (serves_of core) skipped _)
serves_none skipped (Sieve core) = (core, refl, counted_none (serves_of core) skipped _)
serves_none skipped (Belady core) = tt

-- two lists of requests, one after the other
pub serves_joined : (skipped : ℕ) (xs ys : List Request) (hits misses hits' misses' : ℕ) (old mid new : Core) →
    Serves old skipped xs hits misses mid → Serves mid (skipped - length xs) ys hits' misses' new →
    Serves old skipped (xs ++ ys) (hits + hits') (misses + misses') new
serves_joined skipped xs ys hits misses hits' misses' (Fifo old) mid new (next, is, first) second =
    let more = subst (λ m. Serves m (skipped - length xs) ys hits' misses' new) is second in
    (more.0, more.1, counted_joined (serves_of old) skipped xs ys hits misses hits' misses' _ _ _ first more.2)
serves_joined skipped xs ys hits misses hits' misses' (Lru old) mid new (next, is, first) second =
    let more = subst (λ m. Serves m (skipped - length xs) ys hits' misses' new) is second in
    (more.0, more.1, counted_joined (serves_of old) skipped xs ys hits misses hits' misses' _ _ _ first more.2)
serves_joined skipped xs ys hits misses hits' misses' (Lfu old) mid new (next, is, first) second =
    let more = subst (λ m. Serves m (skipped - length xs) ys hits' misses' new) is second in
    (more.0, more.1, counted_joined (serves_of old) skipped xs ys hits misses hits' misses' _ _ _ first more.2)
serves_joined skipped xs ys hits misses hits' misses' (S3Fifo old) mid new (next, is, first) second =
    let more = subst (λ m. Serves m (skipped - length xs) ys hits' misses' new) is second in
    (more.0, more.1, counted_joined (serves_of old) skipped xs ys hits misses hits' misses' _ _ _ first more.2)
serves_joined skipped xs ys hits misses hits' misses' (Sieve old) mid new (next, is, first) second =
    let more = subst (λ m. Serves m (skipped - length xs) ys hits' misses' new) is second in
    (more.0, more.1, counted_joined (serves_of old) skipped xs ys hits misses hits' misses' _ _ _ first more.2)
serves_joined skipped xs ys hits misses hits' misses' (Belady old) mid new first second = tt

-- with what the rest of the requests comes to, these counts are those of all
abbrev pub Completes : ℕ → List Request → ℕ → List Request → ℕ → ℕ → Core → Core → Type 0
Completes skipped all left rest hits misses start now = (h n : ℕ) (end : Core) →
    Serves now left rest h n end → Serves start skipped all (hits + h) (misses + n) end

-- nothing is served yet
pub completes_start : (skipped : ℕ) (all : List Request) (left : ℕ) (rest : List Request) (hits misses : ℕ)
    (start now : Core) → left ≡ skipped → rest ≡ all → hits ≡ 0 → misses ≡ 0 → now ≡ start →
    Completes skipped all left rest hits misses start now
completes_start skipped all left rest hits misses start now same whole none empty begun h n end served =
    let hs : hits + h ≡ h = omega (arith, none) in
    let ns : misses + n ≡ n = omega (arith, empty) in
    subst (λ x. Serves start x all (hits + h) (misses + n) end) same
    (subst (λ xs. Serves start left xs (hits + h) (misses + n) end) whole
    (subst (λ x. Serves start left rest x (misses + n) end) (sym hs)
    (subst (λ x. Serves start left rest h x end) (sym ns) (subst (λ s. Serves s left rest h n end) begun served))))

-- one more part is served
pub completes_more : (skipped : ℕ) (all : List Request) (left : ℕ) (part rest : List Request)
    (hits misses hits' misses' more less : ℕ) (start now next : Core) → Serves now left part more less next →
    hits' ≡ hits + more → misses' ≡ misses + less →
    Completes skipped all left (part ++ rest) hits misses start now →
    Completes skipped all (left - length part) rest hits' misses' start next
completes_more skipped all left part rest hits misses hits' misses' more less start now next served hit miss before h n end
    counted =
    let hs : hits' + h ≡ hits + (more + h) = omega (arith, hit) in
    let ns : misses' + n ≡ misses + (less + n) = omega (arith, miss) in
    subst (λ x. Serves start skipped all x (misses' + n) end) (sym hs)
    (subst (λ x. Serves start skipped all (hits + (more + h)) x end) (sym ns)
    (before (more + h) (less + n) end (serves_joined left part rest more less h n now next end served counted)))

-- all are served
pub completes_end : (skipped : ℕ) (all : List Request) (left : ℕ) (rest : List Request) (hits misses : ℕ)
    (start now : Core) → rest ≡ [] → Completes skipped all left rest hits misses start now →
    Serves start skipped all hits misses now
completes_end skipped all left rest hits misses start now none complete =
    let hs : hits + 0 ≡ hits = omega arith in
    let ns : misses + 0 ≡ misses = omega arith in
    subst (λ x. Serves start skipped all x misses now) hs
    (subst (λ x. Serves start skipped all (hits + 0) x now) ns
    (complete 0 0 now (subst (λ xs. Serves now left xs 0 0 now) (sym none) (serves_none left now))))

-- the parts from a place on begin with the one there
pub requests_more : (terms : Terms) (parts : List Part) (n : ℕ) (part : Part) → n < length parts →
    part ≡ slice_index_or parts n part →
    requests_of terms (drop n parts) ≡ requests_of_part terms part ++ requests_of terms (drop (n + 1) parts)
requests_more terms parts n part less read =
    ap (requests_of terms) (drop_more parts n part less ∙ ap (λ (p : Part). p ∷ drop (n + 1) parts) (sym read))

-- the records of parts become as many requests
records_are : (terms : Terms) (parts : List Part) → length (requests_of terms parts) ≡ records_in parts
records_are terms [] = refl
records_are terms (part ∷ parts) =
    let first = length_listed (request_at part terms) 0 (length part.keys.items) in
    let rest = records_are terms parts in
    let both = length-append (requests_of_part terms part) (requests_of terms parts) in
    let many = λ (p : Part). length p.keys.items in
    let sum : records_in (part ∷ parts) ≡ length part.keys.items + records_in parts = sum_by-append many (part ∷ []) parts
    ∙ ap (λ n. n + records_in parts) (zero-add (length part.keys.items)) in
    both
    ∙ (ap (λ n. n + length (requests_of terms parts)) first
    ∙ (ap (λ n. length part.keys.items + n) rest ∙ sym sum))

-- of a number below 2^64 as many are left, if at most so many are counted
pub left_is : (terms : Terms) (parts : List Part) (left many : ℕ) → left < 2 ^ 64 →
    many ≡ min (records_in parts) (2 ^ 64 - 1) → left - many ≡ left - length (requests_of terms parts)
left_is terms parts left many less is =
    let all = records_are terms parts in
    omega (arith, less, is, all)

-- the windows from a place on begin with the one there
pub windows_more : (terms : Terms) (trace : List Trace) (n : ℕ) (window : Trace) → n < length trace →
    window ≡ slice_index_or trace n window →
    requests_of_windows terms (drop n trace)
    ≡ requests_of terms window.parts.items ++ requests_of_windows terms (drop (n + 1) trace)
windows_more terms trace n window less read =
    ap (requests_of_windows terms)
    (drop_more trace n window less ∙ ap (λ (w : Trace). w ∷ drop (n + 1) trace) (sym read))
