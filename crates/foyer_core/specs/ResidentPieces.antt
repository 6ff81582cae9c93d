-- Pieces of the records in the index.
use Rattle.std.specs.Prelude.{◌≡◌, ◌==◌, ◌&&◌, ℕ, Bool, List, Some}
use Rattle.std.specs.List.{AllZip}
use Rattle.foyer_core.specs.Pieces.{is_in}
use Rattle.foyer_core.specs.State.{Meaning, State}
use Rattle.foyer_core.specs.Values.{Carried, Rec}

-- a piece is of the record that a shard has under an id
pub record IsPieceOf {K V P View : Type 0} (s : State K V P View) (id : ℕ) (piece : Carried K V P) : Type 0 where
  pub rec : Rec K V P
  pub there : s.records id ≡ Some rec
  pub piece_is : piece ≡ record { number = s.number; id = id; kept = rec.kept }

-- one piece of each record in the index, in the policy's order
abbrev pub ArePieces : {K V P View C : Type 0} → Meaning K P View C → State K V P View → List (Carried K V P) → Type 0
ArePieces m s pieces = AllZip (λ i. IsPieceOf s i.id) (m.policy.order s.view) pieces

-- whether a piece has the shard's core's number, and its id is that of a record in the index
abbrev pub is_resident : {K V P View : Type 0} → State K V P View → Carried K V P → Bool
is_resident s piece = (piece.number == s.number) && is_in (s.records piece.id)
