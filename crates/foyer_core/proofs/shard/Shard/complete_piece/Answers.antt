use Rattle.std.proofs.Common.{◌≡◌, ℕ, ◌+◌, ◌-◌, [], Bool, true, false, Some, Err, length, refl, sym, ◌∙◌, subst, arith}
use Rattle.std.proofs.Math.Logic.{∥∥₁_map}
use Rattle.foyer_policy.specs.declared.error.Reason.TheVariants.{WrongKey}
use Rattle.foyer_core.specs.Indexer.{same_key}
use Rattle.foyer_core.specs.Fetching.{Apart}
use Rattle.foyer_core.specs.Inflight.{Opens, asked, closed}
use Rattle.foyer_core.specs.Inflights.{opens_of}
use Rattle.foyer_core.specs.Onto.{handles_onto, shared_out}
use Rattle.foyer_core.specs.PieceEnds.{PieceComes, comes_under}
use Rattle.foyer_core.specs.Pieces.{InsertsPiece, coming_under}
use Rattle.foyer_core.specs.State.{at_moment}
use Rattle.foyer_core.specs.Stores.{meaning_of, state_of}
use Rattle.foyer_core.specs.Waited.{ending_of}
use Rattle.foyer_core.proofs.ApartLemmas.{closed_apart, step_apart}
use Rattle.foyer_core.proofs.ArrivingPieces.{and_right}
use Rattle.foyer_core.proofs.Moments.{kept_at}
use Rattle.foyer_core.proofs.PieceComing.{ended_apart, piece_arrives, piece_ends}
use Rattle.foyer_core.proofs.Told.{goes_all}
use Rattle.foyer_core.proofs.shard.Shard.complete_piece.Goals as goal

pub invariant_of-self : goal.invariant_of-self
invariant_of-self g c =
    let s = c.args.self.now in
    let f = opens_of s.inflights in
    let k : ℕ × g.row.K.Denot = (c.args.hash, c.args.key.now) in
    let shut = closed g.K.PartialEq.eq f k in
    record {
      apart = step_apart g.P.Properties.expiry_of (state_of s.store) f (opens_of c.take.new.self) shut c.take.result c.take.ensures.opens
          c.take.ensures.same s.apart
          (closed_apart g.P.Properties.expiry_of (state_of s.store) f g.K.PartialEq.eq k s.apart);
    }

pub invariant_of-self-2 : goal.invariant_of-self-2
invariant_of-self-2 g c =
    let s = c.args.self.now in
    let m = at_moment c.args.now (meaning_of s.store) in
    let f = opens_of s.inflights in
    let old = state_of s.store in
    let new = state_of c.emplace_piece-came.new.self in
    let k : ℕ × g.row.K.Denot = (c.args.hash, c.args.key.now) in
    let went = c.emplace_piece-came.ensures.inserted in
    let comes : comes_under m old c.args.own c.args.piece c.args.is_home k ≡ true =
    sym c.is_under.ensures ∙ c.if-not-is_under.false in
    record {
      apart = subst (λ (x : Opens g.row.K.Denot g.row.N.Denot g.row.R.Denot). Apart m.expires new x)
          (sym c.in-Some.ensures.opens)
          (ended_apart m old new c.args.own c.args.piece (1 + (c.len.result - 1)) (λ w. w ≡ c.args.weight)
          (∥∥₁_map s.store.sound (kept_at (meaning_of s.store) c.args.now old)) f s.apart
          g.met.K.Eq.laws k
          (and_right c.args.is_home (same_key m.same k (coming_under old c.args.own c.args.piece)) comes)
          (handles_onto c.emplace_piece-came.result went.more) went.so);
    }

pub returns-then-not-is_under : goal.returns-then-not-is_under
returns-then-not-is_under g c =
    let s = c.args.self.now in
    let m = at_moment c.args.now (meaning_of s.store) in
    let f = opens_of s.inflights in
    let old = state_of s.store in
    let k : ℕ × g.row.K.Denot = (c.args.hash, c.args.key.now) in
    let comes : comes_under m old c.args.own c.args.piece c.args.is_home k ≡ false =
    sym c.is_under.ensures ∙ c.if-not-is_under.true in
    record {
      completed = piece_ends m old old (λ w. w ≡ c.args.weight) c.args.own c.args.piece c.args.is_home f
          (opens_of c.take.new.self) k c.in-Some.ensures.opens c.in-Some.waiters.items
          (asked (Some c.args.fetch) (f.by_key k)) c.in-Some.ensures.taken (Err WrongKey) []
          (ending_of c.found.result)
          (rw (c.new-wrong.ensures, c.new-leaves.ensures.items) at c.found.ensures)
          (subst
          (λ (b : Bool). PieceComes m b (λ w. w ≡ c.args.weight) c.args.own c.args.piece
          (length c.in-Some.waiters.items) old (Err WrongKey) [] old) (sym comes) (refl, refl, refl));
    }

pub returns : goal.returns
returns g c =
    let s = c.args.self.now in
    let m = at_moment c.args.now (meaning_of s.store) in
    let f = opens_of s.inflights in
    let old = state_of s.store in
    let new = state_of c.emplace_piece-came.new.self in
    let k : ℕ × g.row.K.Denot = (c.args.hash, c.args.key.now) in
    let count = c.len.result - 1 in
    let many : length c.in-Some.waiters.items ≡ 1 + count =
    omega (arith, c.len.ensures, c.in-Some.ensures.waited, c.in-Some.waiters.ok.0) in
    let comes : comes_under m old c.args.own c.args.piece c.args.is_home k ≡ true =
    sym c.is_under.ensures ∙ c.if-not-is_under.false in
    let weighs = λ (w : ℕ). w ≡ c.args.weight in
    let outcome = shared_out c.emplace_piece-came.result in
    let ls = c.emplace_piece-came.new.leaves.items in
    record {
      completed = piece_ends m old new weighs c.args.own c.args.piece c.args.is_home f (opens_of c.take.new.self) k
          c.in-Some.ensures.opens c.in-Some.waiters.items (asked (Some c.args.fetch) (f.by_key k))
          c.in-Some.ensures.taken outcome ls (ending_of c.found-2.result) c.found-2.ensures
          (subst
          (λ (b : Bool). PieceComes m b weighs c.args.own c.args.piece (length c.in-Some.waiters.items) old outcome ls
          new) (sym comes)
          (piece_arrives m old new weighs c.args.own c.args.piece c.emplace_piece-came.result ls
          (length c.in-Some.waiters.items) count many c.emplace_piece-came.ensures.others
          (goes_all ls
          (λ l. InsertsPiece m weighs c.args.own c.args.piece (1 + count) (handles_onto c.emplace_piece-came.result l)
          old new) (rw c.new-leaves.ensures.items at c.emplace_piece-came.ensures.inserted))));
    }
