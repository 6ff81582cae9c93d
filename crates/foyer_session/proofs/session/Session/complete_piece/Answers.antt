use Rattle.std.proofs.Common.{◌≡◌, Some, sym, subst}
use Rattle.std.specs.Prelude.{slice_get}
use Rattle.foyer_session.specs.Sessions.{session_of, terms_of}
use Rattle.foyer_session.specs.Step.{CompletesPiece}
use Rattle.foyer_session.specs.Terms.{terms_at}
use Rattle.foyer_session.proofs.EndTells.{piece_completes}
use Rattle.foyer_session.proofs.session.Session.complete_piece.Goals as goal

pub returns-clause-step : goal.returns-clause-step
returns-clause-step g c =
    let s = c.args.self.now in
    let t = terms_at c.args.now (terms_of s) in
    let told = c.complete_with.result in
    let new = session_of c.complete_with.new.self in
    let piece = c.in-Ok.piece in
    let there : slice_get s.pieces.items c.args.number ≡ Some piece =
    rw (c.as_slice.ensures.value, sym c.in-Ok.ensures.cases) at c.in-Some.ensures.some in
    subst
    (λ held. CompletesPiece t (session_of s) c.args.key.now c.args.fetch held told.answer told.leaves new)
    (sym there)
    (piece_completes t (session_of s) c.args.key.now c.args.fetch piece told.answer told.leaves new
    c.complete_with.ensures.step)
