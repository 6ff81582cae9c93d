-- A piece that comes into a shard: the record that the shard knows, or a new one.
use Rattle.std.proofs.Common.{◌≡◌, ℕ, ◌+◌, List, [], ◌∷◌, ◌++◌, Bool, true, false, Option, Some, None, length, replicate, refl, sym, ◌∙◌, ap, subst, arith}
use Rattle.std.proofs.lemmas.List.{replicate-append-replicate}
use Rattle.std.specs.Prelude.{Result, Ok, Err, IfOk, IsSomeAnd, MatchResult, if◌then◌else◌}
use Rattle.std.specs.Cmp.{IsEquivalence}
use Rattle.foyer_policy.specs.declared.error.Reason.{Reason}
use Rattle.foyer_policy.specs.declared.types.Event.{Event}
use Rattle.foyer_policy.specs.declared.types.Source.TheVariants.{Memory}
use Rattle.foyer_core.specs.declared.outcome.Handles.{Handles}
use Rattle.foyer_core.specs.declared.outcome.Waiting.{Waiting}
use Rattle.foyer_core.specs.declared.record.Data.{Data}
use Rattle.foyer_core.specs.Core.{InsertsAnswering}
use Rattle.foyer_core.specs.CoreFetches.{PieceArrives}
use Rattle.foyer_core.specs.Indexer.{same_key}
use Rattle.foyer_core.specs.Fetching.{Apart}
use Rattle.foyer_core.specs.Inflight.{Opens, OpenFetch, closed}
use Rattle.foyer_core.specs.Onto.{handles_onto, shared_out}
use Rattle.foyer_core.specs.PieceEnds.{CompletesPieceBy, PieceComes, comes_under}
use Rattle.foyer_core.specs.Pieces.{InsertsPiece, PieceBy, RefusesReturn, RefusesReturnBy, Returns, ReturnsAnswering, ReturnsBy, coming_under, held_or, is_in, is_known, returning}
use Rattle.foyer_core.specs.State.{Meaning, State, IsKept, handles_of, key_of}
use Rattle.foyer_core.specs.Steps.{Inserts, RefusesInsert, newcomer}
use Rattle.foyer_core.specs.Values.{Carried, Denied, Gone, Held, Incoming, Made, Rec}
use Rattle.foyer_core.specs.Waited.{Ending}
use Rattle.foyer_core.proofs.ApartLemmas.{arrived_apart, back_apart, closed_apart, new_apart, refuses_apart, refuses_return_apart}
use Rattle.foyer_core.proofs.Completing.{closed_same}
use Rattle.foyer_core.proofs.Returning.{inserted_entry, returned_kept}

module _ {K V P View C : Type 0} (m : Meaning K P View C) (s t : State K V P View) (hash : ℕ) (piece : Carried K V P)
    (more : ℕ) (r : Result (Handles K V P) Reason) (ls : List (Event × Gone K V P)) where
  -- the record that the shard knows comes in
  pub known_comes : (weighs : ℕ → Type 0) → is_known s hash piece ≡ true
      → MatchResult r (λ made. Returns m s piece more ls made.entry t) (λ error. RefusesReturn m s piece more error ls t)
      → InsertsPiece m weighs hash piece more (handles_onto r ls) s t
  known_comes weighs known h = subst (λ (b : Bool). PieceBy m b weighs hash piece more (handles_onto r ls) s t)
      (sym known) (go r h) where
        go : (q : Result (Handles K V P) Reason)
            → MatchResult q (λ made. Returns m s piece more ls made.entry t)
            (λ error. RefusesReturn m s piece more error ls t) → ReturnsAnswering m s piece more (handles_onto q ls) t
        go (Ok made) h = h
        go (Err error) h = h

  -- it is held nowhere
  pub absent_comes : s.records piece.id ≡ None
      → MatchResult r
      (λ made. Inserts m Memory s (record { id = piece.id; kept = piece.kept; handles = more }) ls made.entry t)
      (λ error. RefusesInsert m s (record { id = piece.id; kept = piece.kept; handles = more }) error ls t)
      → MatchResult r (λ made. Returns m s piece more ls made.entry t) (λ error. RefusesReturn m s piece more error ls t)
  absent_comes none h = go r h where
    coming : ℕ → Incoming K V P
    coming n = record { id = piece.id; kept = piece.kept; handles = n }

    inc_is : returning s piece more ≡ coming more
    inc_is = ap (λ (o : Option (Rec K V P)). let y : Incoming K V P =
        record { id = piece.id; kept = held_or piece.kept o; handles = handles_of o + more } in y) none
        ∙ ap coming (let e : 0 + more ≡ more = omega arith in e)

    go : (q : Result (Handles K V P) Reason)
        → MatchResult q (λ made. Inserts m Memory s (coming more) ls made.entry t)
        (λ error. RefusesInsert m s (coming more) error ls t)
        → MatchResult q (λ made. Returns m s piece more ls made.entry t)
        (λ error. RefusesReturn m s piece more error ls t)
    go (Ok made) h = subst (λ (b : Bool). ReturnsBy m b s piece more ls made.entry t) (sym (ap is_in none))
        (subst (λ (i : Incoming K V P). Inserts m Memory s i ls made.entry t) (sym inc_is) h)
    go (Err error) h = subst (λ (b : Bool). RefusesReturnBy m b s piece more error ls t) (sym (ap is_in none))
        (subst (λ (i : Incoming K V P). RefusesInsert m s i error ls t) (sym inc_is) h)

  -- a new record comes in, of this weight
  pub foreign_comes : (weight : ℕ) → is_known s hash piece ≡ false
      → MatchResult r
      (λ made. Inserts m Memory s (newcomer s (record piece.kept { hash = hash; weight = weight }) more) ls made.entry t)
      (λ error. RefusesInsert m s (newcomer s (record piece.kept { hash = hash; weight = weight }) more) error ls t)
      → InsertsPiece m (λ w. w ≡ weight) hash piece more (handles_onto r ls) s t
  foreign_comes weight known h =
      subst (λ (b : Bool). PieceBy m b (λ w. w ≡ weight) hash piece more (handles_onto r ls) s t) (sym known)
      (weight, refl, go r h) where
        new : Incoming K V P
        new = newcomer s (record piece.kept { hash = hash; weight = weight }) more

        go : (q : Result (Handles K V P) Reason)
            → MatchResult q (λ made. Inserts m Memory s new ls made.entry t) (λ error. RefusesInsert m s new error ls t)
            → InsertsAnswering m Memory s new (handles_onto q ls) t
        go (Ok made) h = h
        go (Err error) h = h

module _ {K V P View C : Type 0} (m : Meaning K P View C) (s t : State K V P View) (hash : ℕ) (piece : Carried K V P)
    (more : ℕ) (weighs : ℕ → Type 0) where
  -- an entry has the key under which the piece comes in
  pub came_under : (made : Made K V P) → InsertsPiece m weighs hash piece more (Ok made) s t → key_of made.entry.kept
      ≡ coming_under s hash piece
  came_under made h = go (is_known s hash piece) h where
    go : (b : Bool) → PieceBy m b weighs hash piece more (Ok made) s t → key_of made.entry.kept
        ≡ (let k : ℕ × K = if b then key_of (held_or piece.kept (s.records piece.id)) else (hash, piece.kept.key) in k)
    go true h = ap (λ (d : Data K V P). key_of d) (returned_kept m s piece more made.leaves made.entry t h)
    go false h = ap (λ (e : Held K V P). key_of e.kept)
        (inserted_entry m Memory s (newcomer s (record piece.kept { hash = hash; weight = h.0 }) more) made.leaves
        made.entry t h.2)

  -- what is in the index stays apart from the open fetches, where the entry's key's fetch is closed
  module _ (sound : ∥ IsKept m s ∥₁) {N R : Type 0} (f : Opens K N R) (apart : Apart m.expires s f) where
    pub came_apart : (made : Made K V P) → InsertsPiece m weighs hash piece more (Ok made) s t → (g : Opens K N R) → g
        ≡ closed m.same f (key_of made.entry.kept) → Apart m.expires t g
    came_apart made h g shut = go (is_known s hash piece) h where
      go : (b : Bool) → PieceBy m b weighs hash piece more (Ok made) s t → Apart m.expires t g
      go true h = back_apart m f s sound piece more made.leaves made.entry t h made.entry.kept.hash made.entry.kept.key refl
          refl g shut apart
      go false h = arrived_apart m f s sound (newcomer s (record piece.kept { hash = hash; weight = h.0 }) more)
          (new_apart m f s (record piece.kept { hash = hash; weight = h.0 }) more) Memory made.leaves made.entry t h.2 made.entry.kept.hash made.entry.kept.key refl refl g shut apart

    pub denied_apart : (denied : Denied K V P) → InsertsPiece m weighs hash piece more (Err denied) s t →
        Apart m.expires t f
    denied_apart denied h = go (is_known s hash piece) h where
      go : (b : Bool) → PieceBy m b weighs hash piece more (Err denied) s t → Apart m.expires t f
      go true h = refuses_return_apart m f s piece more denied.reason denied.leaves t h apart
      go false h = refuses_apart m f s (newcomer s (record piece.kept { hash = hash; weight = h.0 }) more)
          denied.reason denied.leaves t h.2 apart

    -- where that of a key is closed under which the piece comes in
    pub ended_apart : IsEquivalence m.same → (k : ℕ × K) → same_key m.same k (coming_under s hash piece) ≡ true →
        (r : Result (Made K V P) (Denied K V P)) → InsertsPiece m weighs hash piece more r s t
        → Apart m.expires t (closed m.same f k)
    ended_apart laws k same (Ok made) h = came_apart made h (closed m.same f k)
        (sym (closed_same laws f k (coming_under s hash piece) same)
        ∙ ap (λ (q : ℕ × K). closed m.same f q) (sym (came_under made h)))
    ended_apart laws k same (Err denied) h = closed_apart m.expires t f m.same k (denied_apart denied h)

-- a fetch ends with a piece
module _ {K V P View C : Type 0} (m : Meaning K P View C) (s t : State K V P View) (weighs : ℕ → Type 0) (own : ℕ)
    (piece : Carried K V P) where
  -- those who wait share what came in
  pub piece_arrives : (came : Result (Handles K V P) Reason) (ls : List (Event × Gone K V P)) (n count : ℕ) → n ≡ 1 + count
      → IfOk came (λ made. made.others.items ≡ replicate count made.entry) →
      InsertsPiece m weighs own piece (1 + count) (handles_onto came ls) s t
      → PieceArrives m (is_known s own piece) weighs own piece n s (shared_out came) ls t
  piece_arrives (Ok made) ls n count many others h =
      go (is_known s own piece) (subst (λ (i : ℕ). InsertsPiece m weighs own piece i
      (handles_onto {K = K} {V = V} {P = P} (Ok made) ls) s t) (sym many) h) where
        all : made.others.items ++ made.entry ∷ [] ≡ replicate n made.entry
        all = ap (λ (l : List (Held K V P)). l ++ made.entry ∷ []) others
            ∙ replicate-append-replicate count 1 made.entry
            ∙ ap (λ (i : ℕ). replicate i made.entry) (let e : count + 1 ≡ n = omega (arith, many) in e)

        go : (b : Bool) → PieceBy m b weighs own piece n (Ok record { entry = made.entry; leaves = ls }) s t →
            PieceArrives m b weighs own piece n s (Ok (Some (made.others.items ++ made.entry ∷ []))) ls t
        go true h = (made.entry, h, all)
        go false h = (h.0, h.1, (made.entry, h.2, all))
  piece_arrives (Err error) ls n count many others h =
      go (is_known s own piece) (subst (λ (i : ℕ). InsertsPiece m weighs own piece i
      (handles_onto {K = K} {V = V} {P = P} (Err error) ls) s t) (sym many) h) where
        go : (b : Bool) → PieceBy m b weighs own piece n (Err record { reason = error; leaves = ls }) s t →
            PieceArrives m b weighs own piece n s (Err error) ls t
        go true h = h
        go false h = h

  pub piece_ends : {N R : Type 0} (home : Bool) (f g : Opens K N R) (k : ℕ × K) → g ≡ closed m.same f k → (waiters : List (Waiting N))
      → (p : Option (OpenFetch N R)) → IsSomeAnd p (λ o. waiters ≡ o.tokens) →
      (outcome : Result (Option (List (Held K V P))) Reason) (ls : List (Event × Gone K V P)) (ended : Ending K V P N)
      → ended ≡ record { found = true; waiters = waiters; outcome = outcome; leaves = ls }
      → PieceComes m (comes_under m s own piece home k) weighs own piece (length waiters) s outcome ls t →
      CompletesPieceBy m p weighs own piece home s f k ended t g
  piece_ends home f g k shut waiters None there outcome ls ended is comes = absurd there
  piece_ends {N} {R} home f g k shut waiters (Some o) there outcome ls ended is comes =
      subst (λ (e : Ending K V P N). CompletesPieceBy m (Some o) weighs own piece home s f k e t g) (sym is) record {
        found = refl;
        waiters = there;
        arrives = subst
            (λ (w : List (Waiting N)). PieceComes m (comes_under m s own piece home k) weighs own piece (length w) s
            outcome ls t) there comes;
        closes = shut;
      }
