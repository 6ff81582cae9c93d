-- The end of a fetch with a piece, in the shard of its key.
use Rattle.std.specs.Prelude.{◌≡◌, ℕ, ◌&&◌, Bool, true, false, List, [], Option, Some, None, Result, Err, length}
use Rattle.foyer_policy.specs.declared.error.Reason.{Reason}
use Rattle.foyer_policy.specs.declared.error.Reason.TheVariants.{WrongKey}
use Rattle.foyer_policy.specs.declared.types.Event.{Event}
use Rattle.foyer_core.specs.CoreFetches.{PieceArrives}
use Rattle.foyer_core.specs.Fetching.{Loses}
use Rattle.foyer_core.specs.Indexer.{same_key}
use Rattle.foyer_core.specs.Inflight.{Opens, OpenFetch, closed}
use Rattle.foyer_core.specs.Pieces.{coming_under, is_known}
use Rattle.foyer_core.specs.State.{Meaning, State}
use Rattle.foyer_core.specs.Values.{Carried, Gone, Held}
use Rattle.foyer_core.specs.Waited.{Ending}

module _ {K V P View C : Type 0} (m : Meaning K P View C) where
  -- whether a piece, whose key has the hash `own`, comes in under this hashed key, in the shard of `own` if this is it
  abbrev pub comes_under : State K V P View → ℕ → Carried K V P → Bool → ℕ × K → Bool
  comes_under s own piece home k = home && same_key m.same k (coming_under s own piece)

  -- what those get who wait: handles of the piece's record, where it comes in under their key, and else F12
  abbrev pub PieceComes : Bool → (ℕ → Type 0) → ℕ → Carried K V P → ℕ → State K V P View →
      Result (Option (List (Held K V P))) Reason → List (Event × Gone K V P) → State K V P View → Type 0
  PieceComes true weighs own piece more s outcome ls t =
      PieceArrives m (is_known s own piece) weighs own piece more s outcome ls t
  PieceComes false weighs own piece more s outcome ls t = (outcome ≡ Err WrongKey) × (ls ≡ []) × (t ≡ s)

module _ {K V P View C N R : Type 0} (m : Meaning K P View C) where
  -- The end of an open fetch of a hashed key with a piece, whose key has the hash `own`. The fetch is closed, even where
  -- nothing comes in.
  pub record CompletesPiece (weighs : ℕ → Type 0) (own : ℕ) (piece : Carried K V P) (home : Bool)
      (old : State K V P View) (f : Opens K N R) (k : ℕ × K) (o : OpenFetch N R) (ended : Ending K V P N)
      (new : State K V P View) (g : Opens K N R) : Type 0 where
    pub found : ended.found ≡ true
    pub waiters : ended.waiters ≡ o.tokens
    pub arrives : PieceComes m (comes_under m old own piece home k) weighs own piece (length o.tokens) old
        ended.outcome ended.leaves new
    pub closes : g ≡ closed m.same f k

  abbrev pub CompletesPieceBy : Option (OpenFetch N R) → (ℕ → Type 0) → ℕ → Carried K V P → Bool → State K V P View →
      Opens K N R → ℕ × K → Ending K V P N → State K V P View → Opens K N R → Type 0
  CompletesPieceBy None weighs own piece home old f k ended new g = Loses m old f ended new g
  CompletesPieceBy (Some o) weighs own piece home old f k ended new g =
      CompletesPiece weighs own piece home old f k o ended new g
