-- The texts of the first leaves were written.
use Rattle.std.proofs.Common.{drop}
use Rattle.foyer_session.specs.Printed.{next_text}
use Rattle.foyer_session.proofs.PrintedLemmas.{Written}
use Rattle.foyer_session.proofs.sim.reply.write_more.Given as goal

abbrev pub invariant-loop-leave : goal.invariant-loop-leave
invariant-loop-leave g l = Written next_text (g.W.Write.contents l.fn.writer) (g.W.Write.contents l.writer) l.leaves
    (drop l.leave-index l.leaves)
