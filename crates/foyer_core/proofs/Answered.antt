-- What an insert in one shard is for a core, refused or not.
use Rattle.std.proofs.Common.{◌≡◌, ℕ, ◌+◌, ◌%◌, ◌<◌, length, List, map, Option, Some, None, Ok, Err, Bool, true, false, refl, sym, ◌∙◌, ap, subst, arith}
use Rattle.std.proofs.Math.Logic.{∥∥₁_elim}
use Rattle.std.proofs.Props.{props}
use Rattle.std.specs.Prelude.{IfOk, MatchResult, OnErr, Result, slice_index_or, slice_set}
use Rattle.std.specs.Cmp.{IsEquivalence}
use Rattle.foyer_policy.specs.Policy.{IsPolicy}
use Rattle.foyer_policy.specs.declared.error.Reason.{Reason}
use Rattle.foyer_policy.specs.declared.types.Event.{Event}
use Rattle.foyer_policy.specs.declared.types.Location.{Location}
use Rattle.foyer_policy.specs.declared.types.Source.{Source}
use Rattle.foyer_core.specs.declared.outcome.InsertedOnto.{InsertedOnto}
use Rattle.foyer_core.specs.declared.record.Data.{Data}
use Rattle.foyer_core.specs.Core.{Core, AtShard, InsertsAnswering, shard_of}
use Rattle.foyer_core.specs.CoreFetches.{open_in}
use Rattle.foyer_core.specs.Inflight.{Opens, OpenFetch, closed, waiters_of}
use Rattle.foyer_core.specs.CallLaws.{AnswersIn, InsertLaws, IsNewEntry}
use Rattle.foyer_core.specs.Laws.{Finds, HandlesStay, IsBoundedAt, IsOutside}
use Rattle.foyer_core.specs.Observed.{IsTold, IsToldWith}
use Rattle.foyer_core.specs.Onto.{insertion_onto}
use Rattle.foyer_core.specs.Pieces.{is_in}
use Rattle.foyer_core.specs.State.{Meaning, State, IsKept, MakesPlain, coming_in, is_phantom_record, key_of}
use Rattle.foyer_core.specs.Steps.{Inserts, InsertsBy, InsertsPlain, RefusesInsert, newcomer}
use Rattle.foyer_core.specs.Values.{Denied, Gone, Held, Made, Rec}
use Rattle.foyer_core.specs.Waited.{AnswersEach, waiting_for}
use Rattle.foyer_core.proofs.CallsTold.{insert_told, refused_told}
use Rattle.foyer_core.proofs.CoreLaws.{Came, Stands, came_stands, bounded_at, finds_at, stays_at}
use Rattle.foyer_core.proofs.CoreLemmas.{at_over, core_over}
use Rattle.foyer_core.proofs.CoreTold.{AreSound}
use Rattle.foyer_core.proofs.FetchesOver.{fetches_become, fetches_stay, opened_over}
use Rattle.foyer_core.proofs.Inserting.{came_stays, made_plain, refused_stay}
use Rattle.foyer_core.proofs.Returning.{inserted_entry}
use Rattle.foyer_core.proofs.Staying.{RecordsStay, nothing}

-- a record comes in as a plain one, where its entry says so
module _ {K V P View C : Type 0} (m : Meaning K P View C) (source : Source) (d : Data K V P) (handles : ℕ)
    (s t : State K V P View) (ls : List (Event × Gone K V P)) (entry : Held K V P) where
  entry_data : Inserts m source s (newcomer s d handles) ls entry t → entry.kept ≡ d
  entry_data h = ap (λ (e : Held K V P). e.kept) (inserted_entry m source s (newcomer s d handles) ls entry t h)

  as_plain : is_phantom_record m entry.kept ≡ false → Inserts m source s (newcomer s d handles) ls entry t →
      InsertsPlain m source s (newcomer s d handles) ls entry t
  as_plain plain h =
      let same : is_phantom_record m d ≡ false = ap (λ (e : Data K V P). is_phantom_record m e) (sym (entry_data h))
      ∙ plain in
      subst (λ (b : Bool). InsertsBy m b source s (newcomer s d handles) ls entry t) same h

  -- its id is new
  entry_outside : ∥ IsKept m s ∥₁ → Inserts m source s (newcomer s d handles) ls entry t →
      is_in (s.records entry.id) ≡ false
  entry_outside kept h = ap (λ (e : Held K V P). is_in (s.records e.id))
      (inserted_entry m source s (newcomer s d handles) ls entry t h)
      ∙ ∥∥₁_elim kept (hlevel props) (λ k. none k (s.records s.next) refl) where
        none : IsKept m s → (o : Option (Rec K V P)) → s.records s.next ≡ o → is_in o ≡ false
        none k None is = refl
        none k (Some r) is = absurd (let less = k.fresh s.next r is in omega arith)

module _ {K V P View C S W A : Type 0} (m : Meaning K P View C) (laws : IsEquivalence m.same)
    (good : IsPolicy m.policy) (hash : K → ℕ) (equal : (a b : K) → m.same a b ≡ true → hash a ≡ hash b)
    (old new : Core K V P View S W A) (sound : AreSound m laws good hash equal (length old.shards) old.shards)
    (source : Source) (d : Data K V P) (hashed : d.hash ≡ hash d.key) (handles : ℕ) where
  abbrev pub Comes : Result (Made K V P) (Denied K V P) → Type 0
  Comes r = AtShard (λ s t. InsertsAnswering m source s (newcomer s d handles) r t) d.hash old new

  comes_told : (r : Result (Made K V P) (Denied K V P)) → Comes r
      → MatchResult r (λ made. IsToldWith m.same hash m.phantom old made.leaves made.entry.id made.entry.kept new)
      (λ denied. IsTold m.same hash old denied.leaves new)
  comes_told (Ok made) at = insert_told m laws good hash equal old new sound d hashed made.leaves handles source
      made.entry at
  comes_told (Err denied) at = refused_told m laws good hash equal old new sound d hashed denied.leaves handles
      denied.reason at

  comes_stay : (r : Result (Made K V P) (Denied K V P)) → Comes r → HandlesStay (λ e. 0) old new
  comes_stay r at = stays_at old new d.hash
      record { before = at.before; after = at.after; there = at.there; stepped = go r at.stepped; rest = at.rest } where
        go : (r : Result (Made K V P) (Denied K V P)) →
            InsertsAnswering m source at.before (newcomer at.before d handles) r at.after →
            RecordsStay nothing at.before at.after
        go (Ok made) h = came_stays m source at.before at.after d handles made.leaves made.entry
            (sound (shard_of old d.hash) at.before at.there).kept h
        go (Err denied) h = refused_stay m (is_phantom_record m d) at.before (newcomer at.before d handles)
            denied.reason denied.leaves at.after h

  comes_found : (r : Result (Made K V P) (Denied K V P)) → Comes r
      → IfOk r (λ made. is_phantom_record m made.entry.kept ≡ false →
      Finds m hash new made.entry.kept.key made.entry.kept.value made.entry.kept.properties)
  comes_found (Ok made) at = λ plain.
      let stands : AtShard (λ s t. Stands m laws good d t) d.hash old new = record {
        before = at.before;
        after = at.after;
        there = at.there;
        stepped = came_stands m laws good source at.before (newcomer at.before d handles) made.leaves made.entry
            at.after
            (as_plain m source d handles at.before at.after made.leaves made.entry plain at.stepped);
        rest = at.rest;
      } in
      subst (λ (e : Data K V P). Finds m hash new e.key e.value e.properties)
      (sym (entry_data m source d handles at.before at.after made.leaves made.entry at.stepped))
      (finds_at m laws good old new d d.hash refl stands hash (λ k same. sym (equal d.key k same) ∙ sym hashed))
  comes_found (Err denied) at = tt

  comes_bounded : (r : Result (Made K V P) (Denied K V P)) → Comes r
      → IfOk r (λ made. is_phantom_record m made.entry.kept ≡ false → IsOutside old d.hash made.entry.id →
      IsBoundedAt m d.hash made.entry.kept.weight old new)
  comes_bounded (Ok made) at = λ plain outside.
      let came : AtShard (Came m laws good source d made.leaves made.entry) d.hash old new = record {
        before = at.before;
        after = at.after;
        there = at.there;
        stepped = record {
          kept = (sound (shard_of old d.hash) at.before at.there).kept;
          inc = newcomer at.before d handles;
          inserts = as_plain m source d handles at.before at.after made.leaves made.entry plain at.stepped;
          data_are = refl;
        };
        rest = at.rest;
      } in
      bounded_at m laws good old new source d made.leaves made.entry d.hash came made.entry.kept.weight
      (ap (λ (e : Held K V P). e.kept.weight) came.stepped.inserts.entry_is)
  comes_bounded (Err denied) at = tt

  -- all that follows
  pub comes_laws : (r : Result (Made K V P) (Denied K V P)) → Comes r → InsertLaws m hash hash d.hash old r new
  comes_laws r at = record {
    stay = comes_stay r at;
    told = comes_told r at;
    found = comes_found r at;
    bounded = comes_bounded r at;
  }

  -- the entry is of these data
  pub comes_new : (r : Result (Made K V P) (Denied K V P)) → Comes r →
      IfOk r (λ made. IsNewEntry old d.hash d.key d.value made.entry)
  comes_new (Ok made) at =
      let is = entry_data m source d handles at.before at.after made.leaves made.entry at.stepped in
      record {
        hash_is = ap (λ (e : Data K V P). e.hash) is;
        key_is = ap (λ (e : Data K V P). e.key) is;
        value_is = ap (λ (e : Data K V P). e.value) is;
        outside = λ s there.
            let same : at.before ≡ s = (let e : Some at.before ≡ Some s = sym at.there ∙ there in cc) in
            subst (λ (x : State K V P View). is_in (x.records made.entry.id) ≡ false) same
            (entry_outside m source d handles at.before at.after made.leaves made.entry
            (sound (shard_of old d.hash) at.before at.there).kept at.stepped);
      }
  comes_new (Err denied) at = tt

  -- and it is plain, where the filter makes so of its properties
  pub comes_plain : (location : P → Option Location) (with_phantom : P → Bool → P) (admitted : Bool) (p : P) →
      MakesPlain m.phantom location p → admitted ≡ true
      → d.properties ≡ coming_in location with_phantom admitted p → (r : Result (Made K V P) (Denied K V P)) →
      Comes r → IfOk r (λ made. is_phantom_record m made.entry.kept ≡ false)
  comes_plain location with_phantom admitted p plain sure is (Ok made) at =
      ap (λ (e : Data K V P). is_phantom_record m e)
      (entry_data m source d handles at.before at.after made.leaves made.entry at.stepped)
      ∙ made_plain m location with_phantom admitted p plain sure d is
  comes_plain location with_phantom admitted p plain sure is (Err denied) at = tt

-- what holds of what contracts see of an answer holds of the answer
pub of_onto : {K V P N : Type 0} (r : Result (InsertedOnto K V P N) Reason) (ls : List (Event × Gone K V P))
    (Q : Held K V P → Type 0) → IfOk (insertion_onto r ls) (λ made. Q made.entry) → IfOk r (λ made. Q made.entry)
of_onto (Ok made) ls Q h = h
of_onto (Err reason) ls Q h = tt

pub given_here : {K V P N : Type 0} (r : Result (InsertedOnto K V P N) Reason) (d : Data K V P) (n i : ℕ) → d.hash % n
    ≡ i → IfOk r (λ made. made.entry.kept ≡ d) → IfOk r (λ made. made.entry.kept.hash % n ≡ i)
given_here {K} {V} {P} (Ok made) d n i here is = ap (λ (e : Data K V P). e.hash % n) is ∙ here
given_here (Err reason) d n i here is = tt

-- so for a core as what a list of shards shows
module _ {X K V P View C S W A N R : Type 0} (m : Meaning K P View C) (f : X → State K V P View) (h : X → Opens K N R)
    (capacity : ℕ) (b : S) (w : W) (a : A)
    (xs : List X) (hash n i : ℕ) (x y : X)
    (many : n ≡ length xs) (within : i < n) (place : i ≡ hash % n) (read : x ≡ slice_index_or xs i x)
    (r : Result (InsertedOnto K V P N) Reason) where
  pub comes_over : (source : Source) (d : Data K V P) → d.hash ≡ hash → (ls : List (Event × Gone K V P))
      → MatchResult r
      (λ made. Inserts m source (f x) (newcomer (f x) d (1 + waiting_for (h x) (key_of d))) ls made.entry (f y))
      (λ reason. RefusesInsert m (f x) (newcomer (f x) d (1 + waiting_for (h x) (key_of d))) reason ls (f y))
      → AtShard
      (λ s t. InsertsAnswering m source s
      (newcomer s d (1 + length (waiters_of (open_in (map h xs) (key_of d))))) (insertion_onto r ls) t)
      hash (core_over f capacity b w a xs) (core_over f capacity b w a (slice_set xs i y))
  comes_over source d here ls did = at_over f capacity b w a xs hash n i x many within place read
      (λ s t. InsertsAnswering m source s
      (newcomer s d (1 + length (waiters_of (open_in (map h xs) (key_of d))))) (insertion_onto r ls) t) y
      (subst (λ (o : Option (OpenFetch N R)). InsertsAnswering m source (f x)
      (newcomer (f x) d (1 + length (waiters_of o))) (insertion_onto r ls) (f y))
      (sym (opened_over h xs d.hash n i x many within (place ∙ ap (λ (k : ℕ). k % n) (sym here)) read d.key))
      (go r did)) where
        go : (q : Result (InsertedOnto K V P N) Reason)
            → MatchResult q
            (λ made. Inserts m source (f x) (newcomer (f x) d (1 + waiting_for (h x) (key_of d))) ls made.entry (f y))
            (λ reason. RefusesInsert m (f x) (newcomer (f x) d (1 + waiting_for (h x) (key_of d))) reason ls (f y))
            → InsertsAnswering m source (f x) (newcomer (f x) d (1 + waiting_for (h x) (key_of d)))
            (insertion_onto q ls) (f y)
        go (Ok made) did = did
        go (Err reason) did = did

  -- those who wait are answered in the shard
  pub answers_over : IfOk r (λ made. made.entry.kept.hash % n ≡ i)
      → IfOk r (λ made. AnswersEach (waiters_of ((h x).by_key (key_of made.entry.kept))) made.entry made.answers)
      → IfOk r (λ made. h y ≡ closed m.same (h x) (key_of made.entry.kept)) → OnErr r (h y ≡ h x)
      → MatchResult r
      (λ made. AnswersIn m.same hash made.entry made.answers (map h xs) (map h (slice_set xs i y)))
      (λ reason. map h (slice_set xs i y) ≡ map h xs)
  answers_over here each shut same = go r here each shut same where
    go : (q : Result (InsertedOnto K V P N) Reason) → IfOk q (λ made. made.entry.kept.hash % n ≡ i)
        → IfOk q (λ made. AnswersEach (waiters_of ((h x).by_key (key_of made.entry.kept))) made.entry made.answers)
        → IfOk q (λ made. h y ≡ closed m.same (h x) (key_of made.entry.kept)) → OnErr q (h y ≡ h x)
        → MatchResult q
        (λ made. AnswersIn m.same hash made.entry made.answers (map h xs) (map h (slice_set xs i y)))
        (λ reason. map h (slice_set xs i y) ≡ map h xs)
    go (Ok made) here each shut same = record {
      each = subst (λ (o : Option (OpenFetch N R)). AnswersEach (waiters_of o) made.entry made.answers)
          (sym (opened_over h xs made.entry.kept.hash n i x many within (sym here) read made.entry.kept.key)) each;
      closes = fetches_become h xs hash n i x many within place read
          (λ q. closed m.same q (key_of made.entry.kept)) y shut;
    }
    go (Err reason) here each shut same = fetches_stay h xs hash n i x many within place read y same
