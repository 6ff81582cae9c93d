-- What the writer holds is known as before.
use Rattle.std.specs.Io.KnownBytes.{Keeps}
use Rattle.foyer_session.proofs.text.print.flush_out.Given as goal

abbrev pub invariant-loop-turn : goal.invariant-loop-turn
invariant-loop-turn g l = Keeps (g.W.Write.contents l.fn.writer) (g.W.Write.contents l.writer)
