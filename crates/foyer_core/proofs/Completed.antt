-- What comes into a shard by a piece, or as a fetch ends with a record.
use Rattle.std.proofs.Common.{◌≡◌, ℕ, List, Bool, true, false, Option, Some, None, Ok, Err, length, refl}
use Rattle.std.specs.Prelude.{Result}
use Rattle.foyer_policy.specs.declared.error.Reason.{Reason}
use Rattle.foyer_policy.specs.declared.types.Event.{Event}
use Rattle.foyer_policy.specs.declared.types.Source.{Source}
use Rattle.foyer_policy.specs.declared.types.Source.TheVariants.{Memory}
use Rattle.foyer_core.specs.declared.record.Data.{Data}
use Rattle.foyer_core.specs.CoreFetches.{PieceArrives}
use Rattle.foyer_core.specs.Fetching.{Arrives, ArrivesBack, CompletesBy}
use Rattle.foyer_core.specs.Inflight.{Opens, OpenFetch}
use Rattle.foyer_core.specs.PieceEnds.{CompletesPieceBy, PieceComes, comes_under}
use Rattle.foyer_core.specs.Pieces.{InsertsPiece, PieceBy, held_or, is_known}
use Rattle.foyer_core.specs.State.{Meaning, State}
use Rattle.foyer_core.specs.Steps.{newcomer}
use Rattle.foyer_core.specs.Values.{Carried, Denied, Gone, Held, Made}
use Rattle.foyer_core.specs.Waited.{Ending}
use Rattle.foyer_core.proofs.Origins.{RecordsFrom, emplaced_from, from_same, taken_back_from}

module _ {K V P View C : Type 0} (New : Data K V P → Type 0) (m : Meaning K P View C) (s t : State K V P View)
    (ls : List (Event × Gone K V P)) where
  arrives_from : (source : Source) (d : Data K V P) (many : ℕ) → New d →
      (outcome : Result (Option (List (Held K V P))) Reason) → Arrives m source s (newcomer s d many) outcome ls t →
      RecordsFrom New s t
  arrives_from source d many so (Ok (Some entries)) h =
      emplaced_from New m {A = Held K V P} {B = Reason} (Ok h.0) (λ e. ls) (λ e. e) (λ r. r) (λ r. ls) source s d many
      t h.1 so
  arrives_from source d many so (Ok None) h = absurd h
  arrives_from source d many so (Err reason) h =
      emplaced_from New m {A = Held K V P} {B = Reason} (Err reason) (λ e. ls) (λ e. e) (λ r. r) (λ r. ls) source s d
      many t h so

  back_from : (piece : Carried K V P) (more : ℕ) → New (held_or piece.kept (s.records piece.id)) →
      (outcome : Result (Option (List (Held K V P))) Reason) → ArrivesBack m s piece more outcome ls t →
      RecordsFrom New s t
  back_from piece more so (Ok (Some entries)) h =
      taken_back_from New m {A = Held K V P} {B = Reason} (Ok h.0) (λ e. ls) (λ e. e) (λ r. r) (λ r. ls) s piece more
      t h.1 so
  back_from piece more so (Ok None) h = absurd h
  back_from piece more so (Err reason) h =
      taken_back_from New m {A = Held K V P} {B = Reason} (Err reason) (λ e. ls) (λ e. e) (λ r. r) (λ r. ls) s piece
      more t h so

module _ {K V P View C N R : Type 0} (New : Data K V P → Type 0) (m : Meaning K P View C) (s : State K V P View)
    (f : Opens K N R) (k : ℕ × K) (ended : Ending K V P N) (t : State K V P View) (g : Opens K N R) where
  -- only a record of these data comes in
  pub completes_from : (p : Option (OpenFetch N R)) (source : Source) (d : Data K V P) →
      CompletesBy m p source s f k d ended t g → New d → RecordsFrom New s t
  completes_from None source d h so = from_same New s t h.same
  completes_from (Some o) source d h so = arrives_from New m s t ended.leaves source d _ so ended.outcome h.arrives

module _ {K V P View C : Type 0} (New : Data K V P → Type 0) (m : Meaning K P View C) (s t : State K V P View)
    (own : ℕ) (piece : Carried K V P) (weighs : ℕ → Type 0) where
  -- a piece comes in: the record for which it stands, or a new one
  pub piece_from : (is_known s own piece ≡ true → New (held_or piece.kept (s.records piece.id))) →
      ((w : ℕ) → New (record piece.kept { hash = own; weight = w }))
      → (more : ℕ) (r : Result (Made K V P) (Denied K V P)) → InsertsPiece m weighs own piece more r s t →
      RecordsFrom New s t
  piece_from known foreign more r h = go r (is_known s own piece) refl h where
    go : (q : Result (Made K V P) (Denied K V P)) (b : Bool) → is_known s own piece ≡ b →
        PieceBy m b weighs own piece more q s t → RecordsFrom New s t
    go (Ok made) true is h =
        taken_back_from New m {A = Held K V P} {B = Reason} (Ok made.entry) (λ e. made.leaves) (λ e. e) (λ r. r)
        (λ r. made.leaves) s piece more t h (known is)
    go (Ok made) false is h =
        emplaced_from New m {A = Held K V P} {B = Reason} (Ok made.entry) (λ e. made.leaves) (λ e. e) (λ r. r)
        (λ r. made.leaves) Memory s (record piece.kept { hash = own; weight = h.0 }) more t h.2 (foreign h.0)
    go (Err denied) true is h =
        taken_back_from New m {A = Held K V P} {B = Reason} (Err denied.reason) (λ e. denied.leaves) (λ e. e) (λ r. r)
        (λ r. denied.leaves) s piece more t h (known is)
    go (Err denied) false is h =
        emplaced_from New m {A = Held K V P} {B = Reason} (Err denied.reason) (λ e. denied.leaves) (λ e. e) (λ r. r)
        (λ r. denied.leaves) Memory s (record piece.kept { hash = own; weight = h.0 }) more t h.2 (foreign h.0)

  -- and as a fetch ends with it
  module _ {N R : Type 0} (home : Bool) (f g : Opens K N R) (k : ℕ × K) (ended : Ending K V P N)
      (known : comes_under m s own piece home k ≡ true → is_known s own piece ≡ true →
      New (held_or piece.kept (s.records piece.id)))
      (foreign : comes_under m s own piece home k ≡ true → (w : ℕ) → New (record piece.kept { hash = own; weight = w }))
    where
      comes_from : (n : ℕ) (b : Bool) → comes_under m s own piece home k ≡ b →
          PieceComes m b weighs own piece n s ended.outcome ended.leaves t → RecordsFrom New s t
      comes_from n false is h = from_same New s t h.2
      comes_from n true is h = go (is_known s own piece) refl h where
        go : (b : Bool) → is_known s own piece ≡ b → PieceArrives m b weighs own piece n s ended.outcome ended.leaves t
            → RecordsFrom New s t
        go true here h = back_from New m s t ended.leaves piece n (known is here) ended.outcome h
        go false here h = arrives_from New m s t ended.leaves Memory (record piece.kept { hash = own; weight = h.0 }) n
            (foreign is h.0) ended.outcome h.2

      pub completes_piece_from : (p : Option (OpenFetch N R)) →
          CompletesPieceBy m p weighs own piece home s f k ended t g → RecordsFrom New s t
      completes_piece_from None h = from_same New s t h.same
      completes_piece_from (Some o) h = comes_from (length o.tokens) (comes_under m s own piece home k) refl h.arrives
