use Rattle.std.proofs.Math.Logic.{∥∥₁_elim, ∥∥₁_map}
use Rattle.std.proofs.Props.{props}
use Rattle.std.proofs.Common.{◌≡◌, ◌+◌, ◌%◌, ◌++◌, ℕ, Some, Ok, Err, length, inl, inr, refl, replicate, sym, ap, ◌∙◌, arith}
use Rattle.std.specs.Prelude.{slice_get}
use Rattle.foyer_core.specs.Core.{shard_of}
use Rattle.foyer_core.specs.CoreFetches.{open_in}
use Rattle.foyer_core.specs.Cores.{core_of, fetches_of, hashes_of}
use Rattle.foyer_core.specs.Inflight.{waiters_of}
use Rattle.foyer_core.specs.Pieces.{InsertsPiece, coming_under}
use Rattle.foyer_core.specs.State.{key_of, at_moment}
use Rattle.foyer_core.specs.Waited.{denied_of, made_of}
use Rattle.foyer_session.specs.Sessions.{meaning_of_session}
use Rattle.foyer_session.specs.Step.{given}
use Rattle.foyer_session.specs.Tokens.{handles_from, numbers_of}
use Rattle.foyer_session.proofs.CoreLemmas.{alike_at, kept_at, open_at}
use Rattle.foyer_session.proofs.FoundLemmas.{next_unused}
use Rattle.foyer_session.proofs.PieceLemmas.{piece_alike, piece_gives, piece_key}
use Rattle.foyer_session.proofs.PieceHome.{came_home}
use Rattle.foyer_session.proofs.StepLemmas.{given_owns, stayed_owns}
use Rattle.foyer_session.proofs.WaitsLemmas.{closed_waiting, still_waiting, waiting_counted}
use Rattle.foyer_session.proofs.session.Session.insert_piece.Goals as goal

pub tell_inserted-requires-clause-counted : goal.tell_inserted-requires-clause-counted
tell_inserted-requires-clause-counted g c =
    let s = c.args.self.now in
    let made = c.in-Ok-insert_piece.inserted in
    let hash = hashes_of s.core c.in-Ok.piece.kept.key in
    let few = waiting_counted g.K.PartialEq.eq (fetches_of s.core) (open_at s.core)
    (alike_at g.met.K.Eq.laws s.core) (key_of made.entry.kept) hash
    (came_home s.core c.args.now _ c.in-Ok.piece (made_of made) _ _ c.in-Ok-insert_piece.ensures.inserted) s.waiting s.waits in
    omega (arith, few, ap length c.in-Ok-insert_piece.ensures.fetches.each.0, made.answers.waiters.ok.0)

pub tell_inserted-requires-clause-room : goal.tell_inserted-requires-clause-room
tell_inserted-requires-clause-room g c =
    let s = c.args.self.now in
    let made = c.in-Ok-insert_piece.inserted in
    let hash = hashes_of s.core c.in-Ok.piece.kept.key in
    let few = waiting_counted g.K.PartialEq.eq (fetches_of s.core) (open_at s.core)
    (alike_at g.met.K.Eq.laws s.core) (key_of made.entry.kept) hash
    (came_home s.core c.args.now _ c.in-Ok.piece (made_of made) _ _ c.in-Ok-insert_piece.ensures.inserted) s.waiting s.waits in
    omega (arith, few, ap length c.in-Ok-insert_piece.ensures.fetches.each.0, made.answers.waiters.ok.0, c.requires.room)

pub tell_inserted-requires-clause-each : goal.tell_inserted-requires-clause-each
tell_inserted-requires-clause-each g c = (let each = c.in-Ok-insert_piece.ensures.fetches.each in rw each.0 each.1)

pub invariant_of-self-clause-owns : goal.invariant_of-self-clause-owns
invariant_of-self-clause-owns g c =
    let s = c.args.self.now in
    let m = at_moment c.args.now (meaning_of_session s) in
    let piece = c.in-Ok.piece in
    let made = c.in-Ok-insert_piece.inserted in
    let new = core_of c.insert_piece.new.self in
    let told = c.tell_inserted.ensures in
    let hash = hashes_of s.core piece.kept.key in
    let place = shard_of (core_of s.core) hash in
    let weighs = g.W.Weighter.weighs s.core.rules.weighter piece.kept.key piece.kept.value in
    let at = c.in-Ok-insert_piece.ensures.inserted in
    let n : ℕ = 1 + length (waiters_of (open_in (fetches_of s.core) (coming_under at.before hash piece))) in
    let each = c.in-Ok-insert_piece.ensures.fetches.each.0 in
    let key = piece_key m at.before at.after weighs hash piece (made_of made) n at.stepped in
    let shape = told.handles ∙ ap (λ ws. s.handles.items ++ replicate (1 + length ws) (given made.entry))
    (each ∙ ap (λ q. waiters_of (open_in (fetches_of s.core) q)) key) in
    rw shape (∥∥₁_elim (kept_at s.core hash at.before at.there) (hlevel props) (λ k. ∥∥₁_map s.owns (λ o.
    given_owns m (core_of s.core) new s.handles.items o
    (λ a b. InsertsPiece m weighs hash piece
    (1 + length (waiters_of (open_in (fetches_of s.core) (coming_under a hash piece)))) (Ok (made_of made)) a
    b) hash at made.entry n
    (piece_gives m (length (core_of s.core).shards) place at.before at.after (s.core.whole.belong place at.before at.there)
    weighs hash piece (made_of made) n at.stepped refl (next_unused (meaning_of_session s) at.before k)))))

pub invariant_of-self-clause-waits : goal.invariant_of-self-clause-waits
invariant_of-self-clause-waits g c =
    let s = c.args.self.now in
    let made = c.in-Ok-insert_piece.inserted in
    let hash = hashes_of s.core c.in-Ok.piece.kept.key in
    closed_waiting g.K.PartialEq.eq (fetches_of s.core) (open_at s.core)
    (alike_at g.met.K.Eq.laws s.core) (key_of made.entry.kept) hash
    (came_home s.core c.args.now _ c.in-Ok.piece (made_of made) _ _ c.in-Ok-insert_piece.ensures.inserted) s.waiting
    (fetches_of c.insert_piece.new.self) c.tell_inserted.new.waiting c.in-Ok-insert_piece.ensures.fetches.closes
    (omega (
      arith,
      c.tell_inserted.ensures.waiting,
      ap length c.in-Ok-insert_piece.ensures.fetches.each.0,
      made.answers.waiters.ok.0,
    )) s.waits

pub invariant_of-self-in-Err-insert_piece : goal.invariant_of-self-in-Err-insert_piece
invariant_of-self-in-Err-insert_piece g c =
    let s = c.args.self.now in
    let m = at_moment c.args.now (meaning_of_session s) in
    let piece = c.in-Ok.piece in
    let new = core_of c.insert_piece.new.self in
    let hash = hashes_of s.core piece.kept.key in
    let weighs = g.W.Weighter.weighs s.core.rules.weighter piece.kept.key piece.kept.value in
    let at = c.in-Err.ensures.inserted in
    let n : ℕ = 1 + length (waiters_of (open_in (fetches_of s.core) (coming_under at.before hash piece))) in
    record {
      owns = ∥∥₁_map s.owns (λ o. stayed_owns m (core_of s.core) new s.handles.items o
          (λ a b. InsertsPiece m weighs hash piece
          (1 + length (waiters_of (open_in (fetches_of s.core) (coming_under a hash piece))))
          (Err (denied_of c.in-Err.refused)) a b) hash at
          (piece_alike m at.before at.after weighs hash piece (denied_of c.in-Err.refused) n at.stepped));
      waits = (let s = c.args.self.now in still_waiting (fetches_of s.core) (fetches_of c.insert_piece.new.self)
          s.waiting c.in-Err.ensures.fetches s.waits);
      room = s.room;
    }

pub returns-in_default-clone-clause-step : goal.returns-in_default-clone-clause-step
returns-in_default-clone-clause-step g c =
    rw (c.new-in_default-clone-2.ensures.answer, c.new-in_default-clone-2.ensures.leaves) (
      c.in-Some.piece.now,
      rw c.as_slice.ensures.value at c.in-Some.ensures.some,
      inl (c.new-error.ensures, c.new-in_default-clone.ensures.items, refl),
    )

pub returns-in-Ok-insert_piece-clause-step : goal.returns-in-Ok-insert_piece-clause-step
returns-in-Ok-insert_piece-clause-step g c =
    let s = c.args.self.now in
    let piece = c.in-Ok.piece in
    let made = c.in-Ok-insert_piece.inserted in
    let told = c.tell_inserted.ensures in
    let each = c.in-Ok-insert_piece.ensures.fetches.each.0 in
    let there : slice_get s.pieces.items c.args.number ≡ Some piece =
    rw (c.as_slice.ensures.value, sym c.in-Ok.ensures.cases) at c.in-Some.ensures.some in
    rw (told.answer, told.leaves) (
      piece,
      made.entry,
      there,
      c.in-Ok-insert_piece.ensures.inserted,
      record {
        answered = ap (λ ws. handles_from (length s.handles.items) (numbers_of ws)) each;
        numbered = ap (λ ws. length s.handles.items + length ws) each;
        tells = refl;
        handles = told.handles ∙ ap (λ ws. s.handles.items ++ replicate (1 + length ws) (given made.entry)) each;
        pieces = refl;
      },
      c.in-Ok-insert_piece.ensures.fetches.closes,
    )

pub returns-in-Err-clause-step : goal.returns-in-Err-clause-step
returns-in-Err-clause-step g c =
    let s = c.args.self.now in
    let there : slice_get s.pieces.items c.args.number ≡ Some c.in-Ok.piece =
    rw (c.as_slice.ensures.value, sym c.in-Ok.ensures.cases) at c.in-Some.ensures.some in
    rw (c.tell_refused.ensures.answer, c.tell_refused.ensures.leaves)
    (c.in-Ok.piece, there, inr (c.in-Err.ensures.inserted, ((refl, refl), c.in-Err.ensures.fetches)))
