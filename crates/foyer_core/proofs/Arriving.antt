-- The end of a fetch with a record, in its shard, is one in the core.
use Rattle.std.proofs.Common.{◌≡◌, ℕ, ◌%◌, ◌<◌, List, map, length, Bool, true, false, Option, Some, None, refl, sym, ◌∙◌, ap, subst}
use Rattle.std.specs.Prelude.{IsSomeAnd, Result, if◌then◌else◌, ◌==◌, option_and_then, option_map, slice_get, slice_set}
use Rattle.std.specs.Cmp.{IsEquivalence}
use Rattle.std.proofs.lemmas.Bool.{eq-eqb}
use Rattle.std.proofs.lemmas.Option.{slice_get-map}
use Rattle.foyer_policy.specs.declared.error.Reason.{Reason}
use Rattle.foyer_policy.specs.declared.types.Event.{Event}
use Rattle.foyer_policy.specs.declared.types.Source.{Source}
use Rattle.foyer_core.specs.declared.record.Data.{Data}
use Rattle.foyer_core.specs.Core.{Core, shard_at, shard_of}
use Rattle.foyer_core.specs.CoreFetches.{AtOpen, CompletesAt, PieceArrives, PieceCompletes, at_hash, is_of, open_in, replaced}
use Rattle.foyer_core.specs.Fetching.{Arrives, CompletesBy}
use Rattle.foyer_core.specs.Inflight.{Opens, OpenFetch, asked, closed}
use Rattle.foyer_core.specs.PieceEnds.{CompletesPiece, CompletesPieceBy, PieceComes, comes_under}
use Rattle.foyer_core.specs.Pieces.{is_known}
use Rattle.foyer_core.specs.State.{Meaning, State}
use Rattle.foyer_core.specs.Steps.{newcomer}
use Rattle.foyer_core.specs.Values.{Carried, Gone, Held}
use Rattle.foyer_core.specs.Waited.{Ending}
use Rattle.foyer_core.proofs.Completing.{closed_alike}
use Rattle.foyer_core.proofs.CoreLemmas.{set_same}

-- two keys have one fetch, where they have in each shard
pub place_alike : {X K N R : Type 0} (h : X → Opens K N R) (xs : List X) (hash : ℕ) (a b : K) →
    ((x : X) → (h x).by_key (hash, b) ≡ (h x).by_key (hash, a)) → open_in (map h xs) (hash, b)
    ≡ open_in (map h xs) (hash, a)
place_alike {X} {K} {N} {R} h xs hash a b alike = at b ∙ go (slice_get xs i) ∙ sym (at a) where
  i : ℕ
  i = hash % length (map h xs)

  at : (k : K) → open_in (map h xs) (hash, k)
      ≡ option_and_then (λ f. f.by_key (hash, k)) (option_map h (slice_get xs i))
  at k = ap (option_and_then (λ (f : Opens K N R). f.by_key (hash, k))) (slice_get-map h xs i)

  go : (o : Option X) → option_and_then (λ (f : Opens K N R). f.by_key (hash, b)) (option_map h o)
      ≡ option_and_then (λ (f : Opens K N R). f.by_key (hash, a)) (option_map h o)
  go None = refl
  go (Some x) = alike x

-- someone waits for each fetch that was asked for, where someone does in each shard's
pub place_waited : {X K N R : Type 0} (h : X → Opens K N R) (xs : List X) (k : ℕ × K) (fetch : ℕ) →
    ((x : X) (o : OpenFetch N R) → (h x).by_key k ≡ Some o → 0 < length o.tokens)
    → (o : OpenFetch N R) → asked (Some fetch) (open_in (map h xs) k) ≡ Some o → 0 < length o.tokens
place_waited {X} {K} {N} {R} h xs k fetch waited o found =
    go (slice_get xs (k.0 % length (map h xs)))
    (sym (ap (option_and_then (λ (f : Opens K N R). f.by_key k)) (slice_get-map h xs (k.0 % length (map h xs))))
    ∙ is (open_in (map h xs) k) found) where
      is : (p : Option (OpenFetch N R)) → asked (Some fetch) p ≡ Some o → p ≡ Some o
      is None e = absurd cc
      is (Some q) e = pick (q.fetch == fetch) e where
        pick : (b : Bool) → (let r : Option (OpenFetch N R) = if b then Some q else None in r) ≡ Some o → Some q ≡ Some o
        pick true e = e
        pick false e = absurd cc

      go : (x : Option X) → option_and_then (λ (f : Opens K N R). f.by_key k) (option_map h x) ≡ Some o →
          0 < length o.tokens
      go None e = absurd cc
      go (Some x) e = waited x o e

-- where a fetch is open, its fetch is the one that was asked for
pub asked_open : {N R : Type 0} (fetch : ℕ) (p : Option (OpenFetch N R)) → IsSomeAnd p (λ o. o.fetch ≡ fetch) →
    (o : OpenFetch N R) × (asked (Some fetch) p ≡ Some o)
asked_open fetch None h = absurd h
asked_open {N} {R} fetch (Some o) h =
    (o, ap (λ (b : Bool). let q : Option (OpenFetch N R) = if b then Some o else None in q) (eq-eqb o.fetch fetch h))

module _ {K V P View C S W A N R : Type 0} (m : Meaning K P View C) (laws : IsEquivalence m.same)
    (old new : Core K V P View S W A) (fs gs : List (Opens K N R)) (many : length fs ≡ length old.shards)
    (hash : ℕ) (key own : K) (same : m.same key own ≡ true)
    (alike : open_in fs (hash, own) ≡ open_in fs (hash, key)) (fetch : ℕ) (o : OpenFetch N R)
    (opened : asked (Some fetch) (open_in fs (hash, key)) ≡ Some o) (ended : Ending K V P N) where
  module _ (step : State K V P View → Opens K N R → State K V P View → Opens K N R → Type 0)
      (at : AtOpen step hash old fs new gs) where
    place_is : hash % length fs ≡ shard_of old hash
    place_is = ap (λ (n : ℕ). hash % n) many

    -- the shard of the hash has the fetch
    asked_is : asked (Some fetch) (at.open_before.by_key (hash, own)) ≡ Some o
    asked_is =
        let here : open_in fs (hash, own) ≡ at.open_before.by_key (hash, own) =
        ap (λ (i : ℕ). option_and_then (λ (f : Opens K N R). f.by_key (hash, own)) (slice_get fs i)) place_is
        ∙ ap (option_and_then (λ (f : Opens K N R). f.by_key (hash, own))) at.open_there in
        ap (asked (Some fetch)) (sym here ∙ alike) ∙ opened

    closes_is : at.open_after ≡ closed m.same at.open_before (hash, own) → gs
        ≡ at_hash (λ q. closed m.same q (hash, key)) fs hash
    closes_is shut =
        let step_of : Opens K N R → Opens K N R = λ (q : Opens K N R). closed m.same q (hash, key) in
        at.open_rest ∙ ap (λ (q : Opens K N R). slice_set fs (shard_of old hash) q)
        (shut ∙ closed_alike laws at.open_before hash hash key own refl same)
        ∙ ap (λ (q : Option (Opens K N R)). replaced fs (shard_of old hash) step_of q) (sym at.open_there)
        ∙ ap (λ (i : ℕ). replaced fs i step_of (slice_get fs i)) (sym place_is)

    completes_at :
        (arrives : State K V P View → Result (Option (List (Held K V P))) Reason → List (Event × Gone K V P) →
        State K V P View → Type 0) → ended.found ≡ true → ended.waiters ≡ o.tokens
        → arrives at.before ended.outcome ended.leaves at.after → at.open_after
        ≡ closed m.same at.open_before (hash, own) → CompletesAt m arrives (hash, key) o ended old fs new gs
    completes_at arrives found waiters came shut = record {
      found = found;
      waiters = waiters;
      arrived = record { before = at.before; after = at.after; there = at.there; stepped = came; rest = at.rest };
      closes = closes_is shut;
    }

  -- with a new record of an equal key
  pub arrives_at : (source : Source) (d : Data K V P) →
      AtOpen (λ s f t g. CompletesBy m (asked (Some fetch) (f.by_key (hash, own))) source s f (hash, own) d ended t g)
      hash old fs new gs
      → CompletesAt m (λ s. Arrives m source s (newcomer s d (length o.tokens))) (hash, key) o ended old fs new gs
  arrives_at source d at =
      let step = λ (s : State K V P View) (f : Opens K N R) (t : State K V P View) (g : Opens K N R). CompletesBy m
      (asked (Some fetch) (f.by_key (hash, own))) source s f (hash, own) d ended t g in
      let did = subst
      (λ (p : Option (OpenFetch N R)). CompletesBy m p source at.before at.open_before (hash, own) d ended at.after
      at.open_after) (asked_is step at) at.stepped in
      completes_at step at (λ s. Arrives m source s (newcomer s d (length o.tokens))) did.found did.waiters
      did.arrives did.closes

  -- with a piece, whose key has the hash `piece_hash`
  module _ (weighs : ℕ → Type 0) (piece_hash : ℕ) (piece : Carried K V P) (home : Bool)
      (at : AtOpen
      (λ s f t g. CompletesPieceBy m (asked (Some fetch) (f.by_key (hash, own))) weighs piece_hash piece home s f
      (hash, own) ended t g) hash old fs new gs) where
    abbrev PieceStep : State K V P View → Opens K N R → State K V P View → Opens K N R → Type 0
    PieceStep s f t g = CompletesPieceBy m (asked (Some fetch) (f.by_key (hash, own))) weighs piece_hash piece home s f
        (hash, own) ended t g

    abbrev Ends : Bool → Type 0
    Ends b = PieceCompletes m b weighs piece_hash piece (hash, key) o ended old fs new gs

    did : CompletesPiece m weighs piece_hash piece home at.before at.open_before (hash, own) o ended at.after
        at.open_after
    did = subst
        (λ (p : Option (OpenFetch N R)). CompletesPieceBy m p weighs piece_hash piece home at.before at.open_before
        (hash, own) ended at.after at.open_after) (asked_is PieceStep at) at.stepped

    comes : (b : Bool) → PieceComes m b weighs piece_hash piece (length o.tokens) at.before ended.outcome ended.leaves
        at.after → Ends b
    comes true h = completes_at PieceStep at
        (λ s. PieceArrives m (is_known s piece_hash piece) weighs piece_hash piece (length o.tokens) s) did.found
        did.waiters h did.closes
    comes false h = (
      (
        (λ j. record { found = did.found j; waiters = did.waiters j; outcome = h.0 j; leaves = h.1 j }),
        closes_is PieceStep at did.closes,
      ),
      at.rest ∙ ap (λ (ss : List (State K V P View)). let c : Core K V P View S W A = record old { shards = ss } in c)
          (ap (λ (s : State K V P View). slice_set old.shards (shard_of old hash) s) h.2
          ∙ set_same old.shards (shard_of old hash) at.before at.there),
    )

    pub piece_ends_at : (x : State K V P View) → shard_at old hash ≡ Some x →
        is_of m old piece_hash piece (hash, key) (Some x) ≡ comes_under m x piece_hash piece home (hash, own)
        → Ends (is_of m old piece_hash piece (hash, key) (shard_at old hash))
    piece_ends_at x there alike =
        let same : x ≡ at.before = (let e : Some x ≡ Some at.before = sym there ∙ at.there in cc) in
        subst Ends
        (sym (ap (is_of m old piece_hash piece (hash, key)) there ∙ alike
        ∙ ap (λ (z : State K V P View). comes_under m z piece_hash piece home (hash, own)) same))
        (comes (comes_under m at.before piece_hash piece home (hash, own)) did.arrives)
