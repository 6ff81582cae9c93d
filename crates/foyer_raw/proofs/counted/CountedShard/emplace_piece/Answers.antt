use Rattle.std.proofs.Common.{◌≡◌, ◌+◌, ℕ, List, subst, sym}
use Rattle.foyer_policy.specs.declared.types.Event.{Event}
use Rattle.foyer_core.specs.Onto.{insertion_onto}
use Rattle.foyer_core.specs.Pieces.{InsertsPiece, coming_under}
use Rattle.foyer_core.specs.Shards.{meaning_of, opens_of, state_of}
use Rattle.foyer_core.specs.State.{at_moment}
use Rattle.foyer_core.specs.Values.{Gone}
use Rattle.foyer_core.specs.Waited.{waiting_for}
use Rattle.foyer_raw.proofs.Used.{from_nothing}
use Rattle.foyer_raw.proofs.counted.CountedShard.emplace_piece.Goals as goal

pub returns-clause-inserted : goal.returns-clause-inserted
returns-clause-inserted g c =
    let s = c.args.self.now in
    let made = c.emplace_piece-made in
    let so = λ (ls : List (Event × Gone g.row.K.Denot g.row.V.Denot g.row.P.Denot)).
    InsertsPiece (at_moment c.args.now.0 (meaning_of s.shard)) (λ (w : ℕ). w ≡ c.args.weight) c.args.hash c.args.piece
    (1 + waiting_for (opens_of s.shard) (coming_under (state_of s.shard) c.args.hash c.args.piece))
    (insertion_onto made.result ls) (state_of s.shard) (state_of made.new.self) in
    subst so (sym c.take.ensures.told) (from_nothing s.left.items made.new.leaves.items so s.taken made.ensures.inserted)
