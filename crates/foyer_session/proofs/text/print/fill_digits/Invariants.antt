-- The last digits stand at the end of the buffer.
use Rattle.foyer_session.proofs.PrintLemmas.{Fills}
use Rattle.foyer_session.proofs.text.print.fill_digits.Given as goal

abbrev pub invariant-loop-front : goal.invariant-loop-front
invariant-loop-front l = Fills l.number l.front l.start l.buffer

abbrev pub decreases-loop-front : goal.decreases-loop-front
decreases-loop-front l = l.front
