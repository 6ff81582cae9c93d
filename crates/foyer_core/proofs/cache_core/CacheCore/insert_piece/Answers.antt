use Rattle.std.proofs.Common.{◌+◌, length, Ok, Err}
use Rattle.foyer_core.specs.Core.{AtShard}
use Rattle.foyer_core.specs.CoreFetches.{open_in}
use Rattle.foyer_core.specs.State.{at_moment}
use Rattle.foyer_core.specs.Cores.{core_of, fetches_of, hashes_of, meaning_of_core}
use Rattle.foyer_core.specs.Inflight.{waiters_of}
use Rattle.foyer_core.specs.CallLaws.{InsertLaws}
use Rattle.foyer_core.specs.Pieces.{InsertsPiece, coming_under}
use Rattle.foyer_core.proofs.Told.{goes_all}
use Rattle.foyer_core.proofs.cache_core.CacheCore.insert_piece.Goals as goal

pub returns-in-Ok-clause-inserted : goal.returns-in-Ok-clause-inserted
returns-in-Ok-clause-inserted g c =
    let s = c.args.self.now in
    let piece = c.args.piece in
    let hash = hashes_of s piece.kept.key in
    goes_all c.insert_piece_onto.new.leaves.items
    (λ ls. AtShard
    (λ a b. InsertsPiece (at_moment c.args.now (meaning_of_core s)) (g.W.Weighter.weighs (core_of s).weighter piece.kept.key piece.kept.value)
    hash piece (1 + length (waiters_of (open_in (fetches_of s) (coming_under a hash piece))))
    (Ok record { entry = c.in-Ok.made.entry; leaves = ls }) a b) hash (core_of s)
    (core_of c.insert_piece_onto.new.self))
    (rw c.new-leaves.ensures.items at c.in-Ok.ensures.inserted)

pub returns-in-Ok-clause-laws : goal.returns-in-Ok-clause-laws
returns-in-Ok-clause-laws g c =
    let s = c.args.self.now in
    let t = c.insert_piece_onto.new.self in
    goes_all c.insert_piece_onto.new.leaves.items
    (λ ls. InsertLaws (meaning_of_core s) (hashes_of s) (hashes_of t) (hashes_of s c.args.piece.kept.key) (core_of s)
    (Ok record { entry = c.in-Ok.made.entry; leaves = ls }) (core_of t))
    (rw c.new-leaves.ensures.items at c.in-Ok.ensures.laws)

pub returns-in-Err-clause-inserted : goal.returns-in-Err-clause-inserted
returns-in-Err-clause-inserted g c =
    let s = c.args.self.now in
    let piece = c.args.piece in
    let hash = hashes_of s piece.kept.key in
    goes_all c.insert_piece_onto.new.leaves.items
    (λ ls. AtShard
    (λ a b. InsertsPiece (at_moment c.args.now (meaning_of_core s)) (g.W.Weighter.weighs (core_of s).weighter piece.kept.key piece.kept.value)
    hash piece (1 + length (waiters_of (open_in (fetches_of s) (coming_under a hash piece))))
    (Err record { reason = c.in-Err.error; leaves = ls }) a b) hash (core_of s)
    (core_of c.insert_piece_onto.new.self))
    (rw c.new-leaves.ensures.items at c.in-Err.ensures.inserted)

pub returns-in-Err-clause-laws : goal.returns-in-Err-clause-laws
returns-in-Err-clause-laws g c =
    let s = c.args.self.now in
    let t = c.insert_piece_onto.new.self in
    goes_all c.insert_piece_onto.new.leaves.items
    (λ ls. InsertLaws (meaning_of_core s) (hashes_of s) (hashes_of t) (hashes_of s c.args.piece.kept.key) (core_of s)
    (Err record { reason = c.in-Err.error; leaves = ls }) (core_of t))
    (rw c.new-leaves.ensures.items at c.in-Err.ensures.laws)
