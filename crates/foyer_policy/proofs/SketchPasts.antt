-- The pasts of a sketch, and what each says of its estimates.
use Rattle.std.proofs.Common.{◌≡◌, ◌≢◌, ℕ, zero, suc, ◌+◌, ◌/◌, ◌<◌, ◌≤◌, Bool, true, false, cond, List, [], ◌∷◌, length, map, get_or, replicate, refl, ap, arith}
use Rattle.std.specs.Prelude.{◌==◌, nat_le}
use Rattle.std.proofs.lemmas.Bool.Decides.{nat_tests}
use Rattle.std.proofs.lemmas.List.{get_or-set_same, get_or-set_other, get_or-replicate, length-replicate, length-map}
use Rattle.foyer_policy.specs.Sketch.{Sketch, Event, greatest, new_sketch, bucket, one_more, counted_at, counted, halves, halved, counting, counters_of, least, step_after, number_in, own, IsPast, EstimatesAreBounded}
use Rattle.foyer_policy.specs.Sketch.Event.{Counted, Halved}
use Rattle.foyer_policy.proofs.SketchLemmas.{bucket-below}

-- what one event makes of a number, where the set has its hash and where the past halves
abbrev next : Bool → Bool → ℕ → ℕ
next has full n = cond full (cond has (one_more n) n / 2) (cond has (one_more n) n)

next-greatest : (c full : Bool) (n : ℕ) → n ≤ greatest → next c full n ≤ greatest
next-greatest true true n le = omega arith
next-greatest true false n le = omega arith
next-greatest false true n le = omega arith
next-greatest false false n le = omega arith

-- no number is above the greatest
pub number-greatest : (buckets : ℕ) (C : ℕ → Bool) (past : List Event) → number_in buckets C past ≤ greatest
number-greatest buckets C [] = omega arith
number-greatest buckets C (Halved ∷ past) = (let e = number-greatest buckets C past in omega arith)
number-greatest buckets C (Counted hash ∷ past) =
    next-greatest (C hash) (nat_le buckets (step_after buckets past + 1)) (number_in buckets C past)
    (number-greatest buckets C past)

next-mono : (c d full : Bool) (m n : ℕ) → (c ≡ true → d ≡ true) → m ≤ n → n ≤ greatest → next c full m ≤ next d full n
next-mono true true true m n h le g = omega arith
next-mono true true false m n h le g = omega arith
next-mono true false full m n h le g = absurd (let e = h refl in cc)
next-mono false true true m n h le g = omega arith
next-mono false true false m n h le g = omega arith
next-mono false false true m n h le g = omega arith
next-mono false false false m n h le g = omega arith

-- a greater set has a greater number
pub number-mono : (buckets : ℕ) (C D : ℕ → Bool) → ((h : ℕ) → C h ≡ true → D h ≡ true) → (past : List Event) →
    number_in buckets C past ≤ number_in buckets D past
number-mono buckets C D h [] = omega arith
number-mono buckets C D h (Halved ∷ past) = (let e = number-mono buckets C D h past in omega arith)
number-mono buckets C D h (Counted hash ∷ past) =
    next-mono (C hash) (D hash) (nat_le buckets (step_after buckets past + 1)) (number_in buckets C past)
    (number_in buckets D past) (h hash)
    (number-mono buckets C D h past) (number-greatest buckets D past)

next-step : (c full : Bool) (n step : ℕ) → n ≤ step → next c full n ≤ cond full ((step + 1) / 2) (step + 1)
next-step true true n step le = omega arith
next-step true false n step le = omega arith
next-step false true n step le = omega arith
next-step false false n step le = omega arith

-- no number is above the step
pub number-step : (buckets : ℕ) (C : ℕ → Bool) (past : List Event) → number_in buckets C past ≤ step_after buckets past
number-step buckets C [] = omega arith
number-step buckets C (Halved ∷ past) = (let e = number-step buckets C past in omega arith)
number-step buckets C (Counted hash ∷ past) =
    next-step (C hash) (nat_le buckets (step_after buckets past + 1)) (number_in buckets C past)
    (step_after buckets past) (number-step buckets C past)

-- what is at most each counter of a hash is at most the least
least-above : (x buckets hash j : ℕ) (rows : List (List ℕ)) → x ≤ greatest
    → ((r k : ℕ) → r < length rows → k ≡ j + r → x ≤ get_or (get_or rows r []) (bucket buckets hash k) 0) →
    x ≤ least (counters_of buckets hash j rows)
least-above x buckets hash j [] le h = le
least-above x buckets hash j (row ∷ rows) le h =
    let here : x ≤ get_or row (bucket buckets hash j) 0 = h 0 j (omega arith) (omega arith) in
    let rest = least-above x buckets hash (suc j) rows le (λ r k lt e. h (suc r) k (omega arith) (omega arith)) in
    omega arith

least-first : (buckets hash : ℕ) (rows : List (List ℕ)) → 0 < length rows →
    least (counters_of buckets hash 0 rows) ≤ get_or (get_or rows 0 []) (bucket buckets hash 0) 0
least-first buckets hash [] h = absurd (omega arith)
least-first buckets hash (row ∷ rows) h = omega arith

same-bucket : (buckets hash r : ℕ) (h : ℕ) → (h == hash) ≡ true → (bucket buckets h r == bucket buckets hash r) ≡ true
same-bucket buckets hash r h is =
    let e : h ≡ hash = grind (arith, nat_tests) in
    let s : bucket buckets h r ≡ bucket buckets hash r = ap (λ x. bucket buckets x r) e in
    grind (arith, nat_tests)

-- every estimate is bounded, for every past that explains the sketch
pub estimates_bounded : EstimatesAreBounded
estimates_bounded s past hash some_rows some_buckets p = (
  least-above (own s.buckets past hash) s.buckets hash 0 s.rows (number-greatest s.buckets (λ h. h == hash) past) each,
  (let a = least-first s.buckets hash s.rows some_rows in
      let b = p.counters 0 (bucket s.buckets hash 0) some_rows (bucket-below s.buckets hash 0 some_buckets) in
      let c = number-step s.buckets (λ h. bucket s.buckets h 0 == bucket s.buckets hash 0) past in
      omega (arith, p.step)),
) where
  each : (r k : ℕ) → r < length s.rows → k ≡ 0 + r →
      own s.buckets past hash ≤ get_or (get_or s.rows r []) (bucket s.buckets hash k) 0
  each r k lt e =
      let same : k ≡ r = omega arith in
      let b = p.counters r (bucket s.buckets hash r) lt (bucket-below s.buckets hash r some_buckets) in
      let m = number-mono s.buckets (λ h. h == hash) (λ h. bucket s.buckets h r == bucket s.buckets hash r)
      (same-bucket s.buckets hash r) past in
      rw (same, b) m

-- nothing was counted, and that is a past
pub IsPast-new : (rows buckets : ℕ) → IsPast (new_sketch rows buckets) []
IsPast-new rows buckets = record {
  counters = λ r b hr hb.
      let zeros : List ℕ = replicate buckets 0 in
      let lt : r < rows = omega (arith, length-replicate rows zeros) in
      let row : get_or (replicate rows zeros) r [] ≡ zeros = get_or-replicate rows r zeros [] lt in
      rw row (get_or-replicate buckets b 0 0 hb);
  step = refl;
}

get_or-half : (row : List ℕ) (b : ℕ) → get_or (map (λ n. n / 2) row) b 0 ≡ get_or row b 0 / 2
get_or-half [] b = refl
get_or-half (n ∷ ns) zero = refl
get_or-half (n ∷ ns) (suc b) = get_or-half ns b

counter-halves : (rows : List (List ℕ)) (r b : ℕ) → get_or (get_or (halves rows) r []) b 0
    ≡ get_or (get_or rows r []) b 0 / 2
counter-halves [] r b = refl
counter-halves (row ∷ rows) zero b = get_or-half row b
counter-halves (row ∷ rows) (suc r) b = counter-halves rows r b

-- a bare halving is one more event
pub IsPast-halved : (s : Sketch) (past : List Event) → IsPast s past → IsPast (halved s) (Halved ∷ past)
IsPast-halved s past p = record {
  counters = λ r b hr hb.
      let lt : r < length s.rows = omega (arith, length-map s.rows (map (λ (n : ℕ). n / 2))) in
      rw (counter-halves s.rows r b) (ap (λ n. n / 2) (p.counters r b lt hb));
  step = p.step;
}

length-counted : (buckets hash j : ℕ) (rows : List (List ℕ)) → length (counted buckets hash j rows) ≡ length rows
length-counted buckets hash j [] = refl
length-counted buckets hash j (row ∷ rows) = ap (λ (n : ℕ). suc n) (length-counted buckets hash (suc j) rows)

get_or-counted : (buckets hash j r k : ℕ) (rows : List (List ℕ)) → r < length rows → k ≡ j + r →
    get_or (counted buckets hash j rows) r [] ≡ counted_at (bucket buckets hash k) (get_or rows r [])
get_or-counted buckets hash j r k [] lt e = absurd (omega arith)
get_or-counted buckets hash j zero k (row ∷ rows) lt e = (let same : k ≡ j = omega arith in rw same refl)
get_or-counted buckets hash j (suc r) k (row ∷ rows) lt e =
    get_or-counted buckets hash (suc j) r k rows (omega arith) (omega arith)

get_or-counted_at : (b d : ℕ) (row : List ℕ) → b < length row → get_or (counted_at b row) d 0
    ≡ cond (b == d) (one_more (get_or row d 0)) (get_or row d 0)
get_or-counted_at b d row lt = go (b == d) refl where
  go : (t : Bool) → (b == d) ≡ t → get_or (counted_at b row) d 0 ≡ cond t (one_more (get_or row d 0)) (get_or row d 0)
  go true is =
      (let e : b ≡ d = grind (arith, nat_tests) in rw (← e) (get_or-set_same row b (one_more (get_or row b 0)) 0 lt))
  go false is = (let e : d ≢ b = grind (arith, nat_tests) in get_or-set_other row b d (one_more (get_or row b 0)) 0 e)

-- and so is a counted hash
pub IsPast-counting : (s : Sketch) (past : List Event) (hash : ℕ) → 0 < s.buckets →
    ((r : ℕ) → r < length s.rows → length (get_or s.rows r []) ≡ s.buckets)
    → IsPast s past → IsPast (counting hash s) (Counted hash ∷ past)
IsPast-counting s past hash some full p = go (nat_le s.buckets (s.step + 1))
    (ap (λ n. nat_le s.buckets (n + 1)) p.step) where
      -- a counter after the hash was counted, before any halving
      one : (r b : ℕ) → r < length s.rows → b < s.buckets
          → get_or (get_or (counted s.buckets hash 0 s.rows) r []) b 0
          ≡ (let n = number_in s.buckets (λ h. bucket s.buckets h r == b) past in
          cond (bucket s.buckets hash r == b) (one_more n) n)
      one r b hr hb =
          let below : bucket s.buckets hash r < length (get_or s.rows r []) =
          omega (arith, bucket-below s.buckets hash r some, full r hr) in
          rw (
            get_or-counted s.buckets hash 0 r r s.rows hr (omega arith),
            get_or-counted_at (bucket s.buckets hash r) b (get_or s.rows r []) below,
          )
          (ap (λ n. cond (bucket s.buckets hash r == b) (one_more n) n) (p.counters r b hr hb))

      go : (t : Bool) → t ≡ nat_le s.buckets (step_after s.buckets past + 1)
          → IsPast (cond t
          (record { buckets = s.buckets; rows = halves (counted s.buckets hash 0 s.rows); step = (s.step + 1) / 2 })
          (record { buckets = s.buckets; rows = counted s.buckets hash 0 s.rows; step = s.step + 1 }))
          (Counted hash ∷ past)
      go true is = record {
        counters = λ r b hr hb. let lt : r < length s.rows =
            omega (
              arith,
              length-map (counted s.buckets hash 0 s.rows) (map (λ (n : ℕ). n / 2)),
              length-counted s.buckets hash 0 s.rows,
            ) in
            rw (← is, counter-halves (counted s.buckets hash 0 s.rows) r b) (ap (λ n. n / 2) (one r b lt hb));
        step = rw (← is) (ap (λ n. (n + 1) / 2) p.step);
      }
      go false is = record {
        counters = λ r b hr hb. let lt : r < length s.rows = omega (arith, length-counted s.buckets hash 0 s.rows) in
            rw (← is) (one r b lt hb);
        step = rw (← is) (ap (λ n. n + 1) p.step);
      }
