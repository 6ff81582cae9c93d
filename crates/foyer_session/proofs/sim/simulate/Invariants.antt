-- The lines so far were carried out, and their text was written.
use Rattle.std.specs.Hash.{u64 as u64_input}
use Rattle.foyer_session.specs.Sessions.{session_of, meaning_of_session}
use Rattle.foyer_session.specs.Simulated.{LineTold}
use Rattle.foyer_session.proofs.Joins.{SoFar}
use Rattle.foyer_session.proofs.sim.simulate.Given as goal

abbrev pub invariant-loop-turn : goal.invariant-loop-turn
invariant-loop-turn g l = SoFar
    (LineTold (meaning_of_session l.fn.session) (λ builder key. g.S.HashBuilder.hash_of builder (u64_input key)))
    (record { now = 0; session = session_of l.fn.session }) (record { now = l.moment; session = session_of l.session })
    (g.R.Read.remaining l.fn.reader) (g.R.Read.remaining l.reader)
    (g.W.Write.contents l.fn.writer) (g.W.Write.contents l.writer)
