-- What the end of a fetch gives those who waited.
use Rattle.std.proofs.Common.{◌≡◌, ℕ, ◌+◌, ◌%◌, ◌≤◌, ◌==◌, ◌&&◌, Bool, true, false, cond, List, [], ◌∷◌, ◌++◌, length, map, replicate, Option, Some, None, Result, Ok, Err, refl, sym, ap, ◌∙◌, subst, arith, append-nil}
use Rattle.std.specs.Prelude.{slice_get}
use Rattle.std.proofs.lemmas.List.{length-replicate}
use Rattle.foyer_policy.specs.declared.error.Reason.{Reason}
use Rattle.foyer_policy.specs.declared.error.Reason.TheVariants.{WrongKey}
use Rattle.foyer_policy.specs.declared.types.Event.{Event}
use Rattle.foyer_policy.specs.declared.types.Source.{Source}
use Rattle.foyer_policy.specs.declared.types.Source.TheVariants.{Memory}
use Rattle.foyer_core.specs.declared.outcome.FetchTarget.{FetchTarget}
use Rattle.foyer_core.specs.declared.outcome.FetchTarget.TheVariants.{Entry, Piece as PieceOf}
use Rattle.foyer_core.specs.declared.record.Data.{Data}
use Rattle.foyer_core.specs.Core.{Core, AtShard, shard_at, shard_of}
use Rattle.foyer_core.specs.CoreFetches.{Completed, CompletesAt, EndsIn, PieceArrives, PieceCompletes, at_hash, is_of}
use Rattle.foyer_core.specs.Fetching.{Arrives, ArrivesBack}
use Rattle.foyer_core.specs.Inflight.{Opens, OpenFetch, closed, waiters_of}
use Rattle.foyer_core.specs.Pieces.{ReturnsBy, is_in, is_known, returning}
use Rattle.foyer_core.specs.Rules.{Rules}
use Rattle.foyer_core.specs.State.{AllData, Meaning, State, handles_in, is_phantom_record}
use Rattle.foyer_core.specs.Steps.{newcomer}
use Rattle.foyer_core.specs.Values.{Carried, Gone, Held}
use Rattle.foyer_core.specs.Waited.{Ending, lost}
use Rattle.foyer_session.specs.Answering.{Answering}
use Rattle.foyer_session.specs.Owns.{OwnsHandles}
use Rattle.foyer_session.specs.Step.{entries_by, given}
use Rattle.foyer_session.specs.Tokens.{AreAlike}
use Rattle.foyer_session.proofs.CountLemmas.{inserts_entry, refused_by_alike}
use Rattle.foyer_session.proofs.HandLemmas.{alike_of, given_all}
use Rattle.foyer_session.proofs.PieceLemmas.{inserts_gives, known_hash, refused_alike, returned_gives}
use Rattle.foyer_session.proofs.StepLemmas.{given_owns, stayed_owns}

module _ {K V P View C : Type 0} (m : Meaning K P View C) (s t : State K V P View)
    (ls : List (Event × Gone K V P)) where
  -- a record that comes in gives so many entries that are alike, or none
  pub arrives_alike : (source : Source) (d : Data K V P) (n : ℕ)
      (outcome : Result (Option (List (Held K V P))) Reason) → Arrives m source s (newcomer s d n) outcome ls t
      → (length (entries_by outcome) ≤ n) × AreAlike (entries_by outcome)
  arrives_alike source d n (Ok (Some entries)) h =
      let is = inserts_entry m source s (newcomer s d n) ls h.0 t (is_phantom_record m d) h.1 in (
        omega (arith, ap length h.2, length-replicate n h.0),
        alike_of n h.0 entries (ap (λ (x : Held K V P). x.left) is) h.2,
      )
  arrives_alike source d n (Ok None) h = absurd h
  arrives_alike source d n (Err reason) h = (omega arith, tt)

  returned_left : (b : Bool) (piece : Carried K V P) (n : ℕ) (entry : Held K V P) → ReturnsBy m b s piece n ls entry t
      → entry.left ≡ true
  returned_left true piece n entry h = ap (λ (x : Held K V P). x.left) h.entry_is
  returned_left false piece n entry h =
      ap (λ (x : Held K V P). x.left)
      (inserts_entry m Memory s (returning s piece n) ls entry t (is_phantom_record m (returning s piece n).kept) h)

  back_alike : (piece : Carried K V P) (n : ℕ) (outcome : Result (Option (List (Held K V P))) Reason) →
      ArrivesBack m s piece n outcome ls t
      → (length (entries_by outcome) ≤ n) × AreAlike (entries_by outcome)
  back_alike piece n (Ok (Some entries)) h = (
    omega (arith, ap length h.2, length-replicate n h.0),
    alike_of n h.0 entries (returned_left (is_in (s.records piece.id)) piece n h.0 h.1) h.2,
  )
  back_alike piece n (Ok None) h = absurd h
  back_alike piece n (Err reason) h = (omega arith, tt)

  pub piece_alike : (weighs : ℕ → Type 0) (hash : ℕ) (piece : Carried K V P) (n : ℕ) (b : Bool)
      (outcome : Result (Option (List (Held K V P))) Reason) → PieceArrives m b weighs hash piece n s outcome ls t
      → (length (entries_by outcome) ≤ n) × AreAlike (entries_by outcome)
  piece_alike weighs hash piece n true outcome h = back_alike piece n outcome h
  piece_alike weighs hash piece n false outcome h =
      arrives_alike Memory (record piece.kept { hash = hash; weight = h.0 }) n outcome h.2

-- an ending of an open fetch is not lost
found_some : {K V P N : Type 0} (ended : Ending K V P N) → ended.found ≡ true → ended.found ≡ false → ended ≡ lost
found_some ended open_now not_open = absurd (let e : true ≡ false = sym open_now ∙ not_open in cc)

module _ {K V P View C S W A N R : Type 0} (m : Meaning K P View C) (old : Core K V P View S W A)
    (f : List (Opens K N R)) (new : Core K V P View S W A) (g : List (Opens K N R)) (k : ℕ × K)
    (ended : Ending K V P N) where
  -- what is not open ends as lost
  lost_answers : ended ≡ lost → g ≡ f → Answering m.same k None f g ended
  lost_answers is same = record {
    waiters = ap (λ (x : Ending K V P N). x.waiters) is;
    each = rw is (omega arith);
    alike = rw is tt;
    closes = same;
    lost_is = λ e. is;
  }

  pub ends_answers : (p : Option (OpenFetch N R)) (reason : Reason) → EndsIn p m.same k reason f ended g →
      Answering m.same k p f g ended
  ends_answers None reason h = lost_answers h.0 h.1
  ends_answers (Some o) reason h = record {
    waiters = ap (λ (x : Ending K V P N). x.waiters) h.0;
    each = rw h.0 (omega arith);
    alike = rw h.0 tt;
    closes = h.1;
    lost_is = found_some ended (ap (λ (x : Ending K V P N). x.found) h.0);
  }

  completes_answers :
      (arrives : State K V P View → Result (Option (List (Held K V P))) Reason → List (Event × Gone K V P) →
      State K V P View → Type 0) (o : OpenFetch N R)
      → ((s t : State K V P View) → arrives s ended.outcome ended.leaves t →
      (length (entries_by ended.outcome) ≤ length o.tokens) × AreAlike (entries_by ended.outcome))
      → CompletesAt m arrives k o ended old f new g → Answering m.same k (Some o) f g ended
  completes_answers arrives o so h =
      let few = so h.arrived.before h.arrived.after h.arrived.stepped in
      record { waiters = h.waiters; each = few.0; alike = few.1; closes = h.closes; lost_is = found_some ended h.found }

  module _ (rules : Rules K V P)
      (source : Source) where
    piece_answers : (b : Bool) (piece : Carried K V P) (o : OpenFetch N R) →
        PieceCompletes m b (rules.weighs piece.kept.key piece.kept.value) (rules.hash piece.kept.key) piece k o ended old f new g
        → Answering m.same k (Some o) f g ended
    piece_answers true piece o h =
        completes_answers
        (λ s. PieceArrives m (is_known s (rules.hash piece.kept.key) piece) (rules.weighs piece.kept.key piece.kept.value)
        (rules.hash piece.kept.key) piece (length o.tokens) s) o
        (λ s t came. piece_alike m s t ended.leaves (rules.weighs piece.kept.key piece.kept.value) (rules.hash piece.kept.key)
        piece (length o.tokens) (is_known s (rules.hash piece.kept.key) piece) ended.outcome came) h
    piece_answers false piece o h = ends_answers (Some o) WrongKey h.0

    pub completed_answers : (target : FetchTarget K V P) (p : Option (OpenFetch N R)) →
        Completed m rules source target k p ended old f new g → Answering m.same k p f g ended
    completed_answers target None h = lost_answers h.0 h.2
    completed_answers (Entry value own) (Some o) h =
        let d : Data K V P =
        record {
          key = h.own;
          value = value;
          properties = rules.properties own h.admitted;
          hash = k.0;
          weight =
              h.weight;
        } in
        completes_answers (λ s. Arrives m source s (newcomer s d (length o.tokens))) o
        (λ s t came. arrives_alike m s t ended.leaves source d (length o.tokens) ended.outcome came) h.completes
    completed_answers (PieceOf piece) (Some o) h =
        piece_answers (is_of m old (rules.hash piece.kept.key) piece k (shard_at old k.0)) piece o h

-- who ends with a refusal gets no entry
pub ends_none : {K V P N R : Type 0} (eq : K → K → Bool) (k : ℕ × K) (ended : Ending K V P N) (p : Option (OpenFetch N R))
    (reason : Reason) (f g : List (Opens K N R)) → EndsIn p eq k reason f ended g → entries_by ended.outcome ≡ []
ends_none {K} {V} {P} {N} eq k ended None reason f g h = ap (λ (x : Ending K V P N). entries_by x.outcome) h.0
ends_none {K} {V} {P} {N} eq k ended (Some o) reason f g h = ap (λ (x : Ending K V P N). entries_by x.outcome) h.0

-- what a session owns after the end of a fetch
module _ {K V P View C S W A : Type 0} (m : Meaning K P View C) (core new : Core K V P View S W A)
    (handles : List (Option (Held K V P))) (owns : OwnsHandles core handles)
    (step : State K V P View → State K V P View → Type 0) (hash : ℕ) (at : AtShard step hash core new)
    (belongs : AllData (λ d. d.hash % length core.shards ≡ shard_of core hash) at.before)
    (unused : handles_in at.before at.before.next ≡ 0) (ls : List (Event × Gone K V P)) where
  -- so many were handed out that are alike
  all_owns : (entry : Held K V P) (n : ℕ) (entries : List (Held K V P)) → entries ≡ replicate n entry →
      OwnsHandles new (handles ++ replicate n (given entry)) → OwnsHandles new (handles ++ map given entries)
  all_owns entry n entries is own = subst (λ (l : List (Option (Held K V P))). OwnsHandles new (handles ++ l))
      (sym (ap (map given) is ∙ given_all n entry)) own

  none_owns : OwnsHandles new handles → OwnsHandles new (handles ++ [])
  none_owns own = subst (OwnsHandles new) (sym (append-nil handles)) own

  pub arrives_owns : (source : Source) (d : Data K V P) (n : ℕ) (outcome : Result (Option (List (Held K V P))) Reason)
      → d.hash ≡ hash → Arrives m source at.before (newcomer at.before d n) outcome ls at.after
      → OwnsHandles new (handles ++ map given (entries_by outcome))
  arrives_owns source d n (Ok (Some entries)) is h =
      all_owns h.0 n entries h.2 (given_owns m core new handles owns step hash at h.0 n
      (inserts_gives m (length core.shards) (shard_of core hash) at.before at.after belongs source
      (newcomer at.before d n) ls h.0 n h.1 (omega (arith, unused)) (ap (λ (x : ℕ). x % length core.shards) is)))
  arrives_owns source d n (Ok None) is h = absurd h
  arrives_owns source d n (Err reason) is h =
      none_owns
      (stayed_owns m core new handles owns step hash at
      (refused_by_alike m (is_phantom_record m d) at.before (newcomer at.before d n) reason ls at.after h))

  back_owns : (piece : Carried K V P) (n : ℕ) (outcome : Result (Option (List (Held K V P))) Reason) →
      piece.kept.hash % length core.shards ≡ shard_of core hash → ArrivesBack m at.before piece n outcome ls at.after
      → OwnsHandles new (handles ++ map given (entries_by outcome))
  back_owns piece n (Ok (Some entries)) home h =
      all_owns h.0 n entries h.2 (given_owns m core new handles owns step hash at h.0 n
      (returned_gives m (length core.shards) (shard_of core hash) at.before at.after belongs
      (is_in (at.before.records piece.id)) piece ls h.0 n h.1 home))
  back_owns piece n (Ok None) home h = absurd h
  back_owns piece n (Err reason) home h = none_owns
      (stayed_owns m core new handles owns step hash at
      (refused_alike m at.before at.after (is_in (at.before.records piece.id)) piece n reason ls h))

  pub piece_owns : (weighs : ℕ → Type 0) (from : ℕ) (piece : Carried K V P) (n : ℕ)
      (outcome : Result (Option (List (Held K V P))) Reason) → from % length core.shards ≡ shard_of core hash
      → PieceArrives m (is_known at.before from piece) weighs from piece n at.before outcome ls at.after →
      OwnsHandles new (handles ++ map given (entries_by outcome))
  piece_owns weighs from piece n outcome home h = go (is_known at.before from piece) refl h where
    go : (b : Bool) → is_known at.before from piece ≡ b →
        PieceArrives m b weighs from piece n at.before outcome ls at.after →
        OwnsHandles new (handles ++ map given (entries_by outcome))
    go true known h = back_owns piece n outcome
        (ap (λ (x : ℕ). x % length core.shards) (known_hash at.before from piece known) ∙ home) h
    go false known h = new_owns outcome h.2
      where
        new_owns : (outcome : Result (Option (List (Held K V P))) Reason) →
            Arrives m Memory at.before (newcomer at.before (record piece.kept { hash = from; weight = h.0 }) n)
            outcome ls at.after
            → OwnsHandles new (handles ++ map given (entries_by outcome))
        new_owns (Ok (Some entries)) came =
            all_owns came.0 n entries came.2 (given_owns m core new handles owns step hash at came.0 n
            (inserts_gives m (length core.shards) (shard_of core hash) at.before at.after belongs Memory
            (newcomer at.before (record piece.kept { hash = from; weight = h.0 }) n) ls came.0 n came.1
            (omega (arith, unused)) home))
        new_owns (Ok None) came = absurd came
        new_owns (Err reason) came =
            none_owns
            (stayed_owns m core new handles owns step hash at
            (refused_by_alike m _ at.before
            (newcomer at.before (record piece.kept { hash = from; weight = h.0 }) n) reason ls at.after
            came))
