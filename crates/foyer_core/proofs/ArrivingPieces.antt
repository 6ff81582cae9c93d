-- A piece with which a fetch ends: whether it is of the key, and the weight of a new record.
use Rattle.std.proofs.Common.{◌≡◌, ℕ, Bool, true, false, Option, Some, None, length, refl, sym, ◌∙◌, ap, subst}
use Rattle.std.specs.Prelude.{Result, if◌then◌else◌, ◌&&◌, ◌==◌}
use Rattle.std.proofs.lemmas.Bool.{eq-eqb}
use Rattle.foyer_core.specs.Core.{Core, shard_of}
use Rattle.foyer_core.specs.CoreFetches.{PieceArrives, is_of}
use Rattle.foyer_core.specs.Indexer.{same_key}
use Rattle.foyer_core.specs.Inflight.{Opens, OpenFetch}
use Rattle.foyer_core.specs.PieceEnds.{CompletesPieceBy, PieceComes, comes_under}
use Rattle.foyer_core.specs.Pieces.{InsertsPiece, PieceBy, coming_under, held_or, is_known}
use Rattle.foyer_core.specs.State.{Meaning, State, key_of}
use Rattle.foyer_core.specs.Values.{Carried, Denied, Made}
use Rattle.foyer_core.specs.Waited.{Ending}

pub and_left : (b c : Bool) → (b && c) ≡ true → b ≡ true
and_left true c h = refl
and_left false c h = absurd cc

pub and_right : (b c : Bool) → (b && c) ≡ true → c ≡ true
and_right true c h = h
and_right false c h = absurd cc

and_false : (b : Bool) → (b && false) ≡ false
and_false true = refl
and_false false = refl

-- a piece is of a key, where what it comes in under is the key with its hash, in its own shard
pub of_alike : {K V P View C S W A : Type 0} (m : Meaning K P View C) (old : Core K V P View S W A) (hash own : ℕ)
    (key : K) (piece : Carried K V P) (s : State K V P View) (home : Bool) → home
    ≡ (shard_of old own == shard_of old hash)
    → (m.same key (coming_under s own piece).1 ≡ true → home ≡ true → hash ≡ (coming_under s own piece).0)
    → is_of m old own piece (hash, key) (Some s) ≡ comes_under m s own piece home (hash, key)
of_alike {K} m old hash own key piece s home here hashes =
    ap (λ (b : Bool). b && m.same key (coming_under s own piece).1) (sym here)
    ∙ go home (m.same key (coming_under s own piece).1) hashes where
      under : ℕ
      under = (coming_under s own piece).0

      go : (h b : Bool) → (b ≡ true → h ≡ true → hash ≡ under) → (h && b) ≡ (h && ((hash == under) && b))
      go false b so = refl
      go true false so = sym (and_false (hash == under))
      go true true so = sym (ap (λ (c : Bool). c && true) (eq-eqb hash under (so refl refl)))

-- a piece that comes in has a key that equals this one, where the shard does not know it
pub foreign_key : {K V P View C : Type 0} (m : Meaning K P View C) (s : State K V P View) (own : ℕ)
    (piece : Carried K V P) (home : Bool) (k : ℕ × K) → comes_under m s own piece home k ≡ true → is_known s own piece
    ≡ false → m.same k.1 piece.kept.key ≡ true
foreign_key {K} m s own piece home k comes foreign = subst
    (λ (b : Bool). let q : ℕ × K = if b then key_of (held_or piece.kept (s.records piece.id)) else (own, piece.kept.key) in
    m.same k.1 q.1 ≡ true) foreign
    (and_right (k.0 == (coming_under s own piece).0) (m.same k.1 (coming_under s own piece).1)
    (and_right home (same_key m.same k (coming_under s own piece)) comes))

-- what is said of a weight is said of any that the weighter may give
module _ {K V P View C : Type 0} (m : Meaning K P View C) (s t : State K V P View) (own : ℕ) (piece : Carried K V P)
    (weighs : ℕ → Type 0) (weight : ℕ) where
  pub insert_weighed : (more : ℕ) → (is_known s own piece ≡ false → weighs weight) →
      (r : Result (Made K V P) (Denied K V P))
      → InsertsPiece m (λ w. w ≡ weight) own piece more r s t → InsertsPiece m weighs own piece more r s t
  insert_weighed more so r h = go (is_known s own piece) refl h where
    go : (b : Bool) → is_known s own piece ≡ b → PieceBy m b (λ w. w ≡ weight) own piece more r s t →
        PieceBy m b weighs own piece more r s t
    go true is h = h
    go false is h = (h.0, subst weighs (sym h.1) (so is), h.2)

  module _ {N R : Type 0} (home : Bool) (f g : Opens K N R) (k : ℕ × K) (ended : Ending K V P N)
      (so : comes_under m s own piece home k ≡ true → is_known s own piece ≡ false → weighs weight) where
    comes_weighed : (n : ℕ) (b : Bool) → comes_under m s own piece home k ≡ b →
        PieceComes m b (λ w. w ≡ weight) own piece n s ended.outcome ended.leaves t
        → PieceComes m b weighs own piece n s ended.outcome ended.leaves t
    comes_weighed n false is h = h
    comes_weighed n true is h = go (is_known s own piece) refl h where
      go : (b : Bool) → is_known s own piece ≡ b →
          PieceArrives m b (λ w. w ≡ weight) own piece n s ended.outcome ended.leaves t
          → PieceArrives m b weighs own piece n s ended.outcome ended.leaves t
      go true known h = h
      go false known h = (h.0, subst weighs (sym h.1) (so is known), h.2)

    pub ends_weighed : (p : Option (OpenFetch N R)) →
        CompletesPieceBy m p (λ w. w ≡ weight) own piece home s f k ended t g
        → CompletesPieceBy m p weighs own piece home s f k ended t g
    ends_weighed None h = h
    ends_weighed (Some o) h = record {
      found = h.found;
      waiters = h.waiters;
      arrives = comes_weighed (length o.tokens) (comes_under m s own piece home k) refl h.arrives;
      closes = h.closes;
    }
