use Rattle.std.proofs.Common.{ℕ, ◌+◌, ◌≤◌, length, take, drop, vec_len, vec_capacity}
use Rattle.std.specs.List.{AllZip}
use Rattle.foyer_policy.specs.Items.{count_of}
use Rattle.foyer_core.specs.ResidentPieces.{IsPieceOf}
use Rattle.foyer_core.specs.Stores.{state_of}
use Rattle.foyer_core.proofs.store.Store.pieces.Given as goal

abbrev pub invariant-loop-item : goal.invariant-loop-item
invariant-loop-item g l = record {
  pieces : AllZip (λ i. IsPieceOf (state_of l.self) i.id) (take l.item-index l.item-items) l.pieces.items;
  rest : (id : ℕ) → count_of id (drop l.item-index l.item-items) ≤ count_of id
      (g.E.Eviction.model.order (g.E.Eviction.view l.self.eviction));
  room : vec_len l.pieces + length (drop l.item-index l.item-items) ≤ vec_capacity l.pieces;
}
