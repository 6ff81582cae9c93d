-- What one more request adds to the counts of a replay, and one more list of requests.
use Rattle.std.proofs.Common.{◌≡◌, ◌∙◌, ◌+◌, ◌-◌, ◌≤◌, ◌<◌, ℕ, zero, suc, List, [], ◌∷◌, ◌++◌, length, drop, arith, refl, ap, subst, sym, zero-add}
use Rattle.foyer_replay.specs.Counting.{Counted, Replays, hits_in, misses_in, listed}
use Rattle.foyer_replay.specs.declared.request.Outcome.{Outcome}
use Rattle.foyer_replay.specs.declared.request.Outcome.TheVariants.{Hit, Miss, Done}
use Rattle.foyer_replay.specs.declared.request.Request.{Request}

-- an outcome counts by itself
pub hits_more : (o : Outcome) (os : List Outcome) → hits_in (o ∷ os) ≡ hits_in (o ∷ []) + hits_in os
hits_more Hit os = omega arith
hits_more Miss os = sym (zero-add (hits_in os))
hits_more Done os = sym (zero-add (hits_in os))

pub misses_more : (o : Outcome) (os : List Outcome) → misses_in (o ∷ os) ≡ misses_in (o ∷ []) + misses_in os
misses_more Hit os = sym (zero-add (misses_in os))
misses_more Miss os = omega arith
misses_more Done os = sym (zero-add (misses_in os))

-- it is at most one hit, and at most one miss
pub hits_one : (o : Outcome) → hits_in (o ∷ []) ≤ 1
hits_one Hit = omega arith
hits_one Miss = omega arith
hits_one Done = omega arith

pub misses_one : (o : Outcome) → misses_in (o ∷ []) ≤ 1
misses_one Hit = omega arith
misses_one Miss = omega arith
misses_one Done = omega arith

-- those of two lists are those of each
hits_joined : (os ps : List Outcome) → hits_in (os ++ ps) ≡ hits_in os + hits_in ps
hits_joined [] ps = sym (zero-add (hits_in ps))
hits_joined (o ∷ os) ps =
    let rest = hits_joined os ps in
    let all = hits_more o (os ++ ps) in
    let some = hits_more o os in
    omega arith

misses_joined : (os ps : List Outcome) → misses_in (os ++ ps) ≡ misses_in os + misses_in ps
misses_joined [] ps = sym (zero-add (misses_in ps))
misses_joined (o ∷ os) ps =
    let rest = misses_joined os ps in
    let all = misses_more o (os ++ ps) in
    let some = misses_more o os in
    omega arith

-- the first request of some
pub listed_more : (nth : ℕ → Request) (place count : ℕ) → place < count →
    listed nth place (count - place) ≡ nth place ∷ listed nth (place + 1) (count - (place + 1))
unfolding listed
listed_more nth place count within =
    let more : count - place ≡ suc (count - (place + 1)) = omega arith in
    rw more refl

pub listed_none : (nth : ℕ → Request) (place count : ℕ) → count ≤ place → listed nth place (count - place) ≡ []
unfolding listed
listed_none nth place count beyond =
    let none : count - place ≡ 0 = omega arith in
    rw none refl

-- leaving the first few of two lists out
drop_joined : (n : ℕ) (os ps : List Outcome) → drop n (os ++ ps) ≡ drop n os ++ drop (n - length os) ps
drop_joined zero os ps =
    let none : 0 - length os ≡ 0 = omega arith in
    rw none refl
drop_joined (suc n) [] ps =
    let all : suc n - 0 ≡ suc n = omega arith in
    rw all refl
drop_joined (suc n) (o ∷ os) ps =
    let one : suc n - suc (length os) ≡ n - length os = omega arith in
    rw one (drop_joined n os ps)

module _ {State : Type 0} (serves : Request → Outcome → State → State → Type 0) where
  -- no request has no outcome
  pub counted_none : (skipped : ℕ) (now : State) → Counted serves skipped [] 0 0 now now
  counted_none zero now = record { outcomes = []; replayed = refl; hits_are = refl; misses_are = refl }
  counted_none (suc skipped) now = record { outcomes = []; replayed = refl; hits_are = refl; misses_are = refl }

  -- one more request is served, and not counted
  pub counted_skip : (skipped : ℕ) (r : Request) (o : Outcome) (rest : List Request) (hits misses : ℕ)
      (old mid new : State) → serves r o old mid → Counted serves skipped rest hits misses mid new →
      Counted serves (suc skipped) (r ∷ rest) hits misses old new
  counted_skip skipped r o rest hits misses old mid new served counted = record {
    outcomes = o ∷ counted.outcomes;
    replayed = (mid, served, counted.replayed);
    hits_are = counted.hits_are;
    misses_are = counted.misses_are;
  }

  -- one more request is served and counted
  pub counted_more : (r : Request) (o : Outcome) (rest : List Request) (hits misses : ℕ)
      (old mid new : State) → serves r o old mid → Counted serves 0 rest hits misses mid new →
      Counted serves 0 (r ∷ rest) (hits_in (o ∷ []) + hits) (misses_in (o ∷ []) + misses) old new
  counted_more r o rest hits misses old mid new served counted = record {
    outcomes = o ∷ counted.outcomes;
    replayed = (mid, served, counted.replayed);
    hits_are = (let e : hits_in (o ∷ []) + hits ≡ hits_in (o ∷ []) + hits_in counted.outcomes =
        omega (arith, counted.hits_are) in e) ∙ sym (hits_more o counted.outcomes);
    misses_are = (let e : misses_in (o ∷ []) + misses ≡ misses_in (o ∷ []) + misses_in counted.outcomes =
        omega (arith, counted.misses_are) in e) ∙ sym (misses_more o counted.outcomes);
  }

  -- with what the rest of the requests comes to, these counts are those of all
  abbrev pub Completes : ℕ → List Request → ℕ → List Request → ℕ → ℕ → State → State → Type 0
  Completes skipped all left rest hits misses start now = (h n : ℕ) (end : State) →
      Counted serves left rest h n now end → Counted serves skipped all (hits + h) (misses + n) start end

  -- nothing is served yet
  pub completes_start : (skipped : ℕ) (all : List Request) (left : ℕ) (rest : List Request) (hits misses : ℕ) (start : State) →
      left ≡ skipped → rest ≡ all → hits ≡ 0 → misses ≡ 0 → Completes skipped all left rest hits misses start start
  completes_start skipped all left rest hits misses start same whole none empty h n end counted =
      let hs : hits + h ≡ h = omega (arith, none) in
      let ns : misses + n ≡ n = omega (arith, empty) in
      rw (hs, ns, ← same, ← whole) counted

  -- one more request is served and not counted
  pub completes_skip : (skipped : ℕ) (all : List Request) (left : ℕ) (r : Request) (rest : List Request) (o : Outcome)
      (hits misses : ℕ) (start now next : State) → serves r o now next →
      Completes skipped all (suc left) (r ∷ rest) hits misses start now →
      Completes skipped all left rest hits misses start next
  completes_skip skipped all left r rest o hits misses start now next served before h n end counted =
      before h n end (counted_skip left r o rest h n now next end served counted)

  -- one more request is served and counted
  pub completes_more : (skipped : ℕ) (all : List Request) (r : Request) (rest : List Request) (o : Outcome)
      (hits misses hits' misses' : ℕ) (start now next : State) → serves r o now next →
      hits' ≡ hits + hits_in (o ∷ []) → misses' ≡ misses + misses_in (o ∷ []) →
      Completes skipped all 0 (r ∷ rest) hits misses start now →
      Completes skipped all 0 rest hits' misses' start next
  completes_more skipped all r rest o hits misses hits' misses' start now next served more less before h n end counted =
      let hs : hits' + h ≡ hits + (hits_in (o ∷ []) + h) = omega (arith, more) in
      let ns : misses' + n ≡ misses + (misses_in (o ∷ []) + n) = omega (arith, less) in
      rw (hs, ns) (before (hits_in (o ∷ []) + h) (misses_in (o ∷ []) + n) end
      (counted_more r o rest h n now next end served counted))

  -- all are served
  pub completes_end : (skipped : ℕ) (all : List Request) (left : ℕ) (rest : List Request) (hits misses : ℕ)
      (start now : State) → rest ≡ [] → Completes skipped all left rest hits misses start now →
      Counted serves skipped all hits misses start now
  completes_end skipped all left rest hits misses start now none complete =
      let hs : hits + 0 ≡ hits = omega arith in
      let ns : misses + 0 ≡ misses = omega arith in
      rw (hs, ns) at (complete 0 0 now (rw none (counted_none left now)))

  -- requests have as many outcomes
  replays_length : (xs : List Request) (os : List Outcome) (old new : State) → Replays serves old xs os new →
      length os ≡ length xs
  replays_length [] [] old new replays = refl
  replays_length [] (o ∷ os) old new replays = absurd replays
  replays_length (x ∷ xs) [] old new replays = absurd replays
  replays_length (x ∷ xs) (o ∷ os) old new (mid, served, replays) = ap suc (replays_length xs os mid new replays)

  -- two lists of requests, one after the other
  replays_joined : (xs ys : List Request) (os ps : List Outcome) (old mid new : State) → Replays serves old xs os mid →
      Replays serves mid ys ps new → Replays serves old (xs ++ ys) (os ++ ps) new
  replays_joined [] ys [] ps old mid new first second = subst (λ s. Replays serves s ys ps new) first second
  replays_joined [] ys (o ∷ os) ps old mid new first second = absurd first
  replays_joined (x ∷ xs) ys [] ps old mid new first second = absurd first
  replays_joined (x ∷ xs) ys (o ∷ os) ps old mid new (next, served, first) second =
      (next, served, replays_joined xs ys os ps next mid new first second)

  -- what was counted of them together
  pub counted_joined : (skipped : ℕ) (xs ys : List Request) (hits misses hits' misses' : ℕ) (old mid new : State) →
      Counted serves skipped xs hits misses old mid →
      Counted serves (skipped - length xs) ys hits' misses' mid new →
      Counted serves skipped (xs ++ ys) (hits + hits') (misses + misses') old new
  counted_joined skipped xs ys hits misses hits' misses' old mid new first second =
      let same = replays_length xs first.outcomes old mid first.replayed in
      let apart = drop_joined skipped first.outcomes second.outcomes in
      record {
        outcomes = first.outcomes ++ second.outcomes;
        replayed = replays_joined xs ys first.outcomes second.outcomes old mid new first.replayed second.replayed;
        hits_are = rw (apart, same, hits_joined) (rw (← first.hits_are, ← second.hits_are) refl);
        misses_are = rw (apart, same, misses_joined) (rw (← first.misses_are, ← second.misses_are) refl);
      }

-- there are as many requests as are asked for
pub length_listed : (nth : ℕ → Request) (place count : ℕ) → length (listed nth place count) ≡ count
unfolding listed
length_listed nth place zero = refl
length_listed nth place (suc count) = ap suc (length_listed nth (place + 1) count)
