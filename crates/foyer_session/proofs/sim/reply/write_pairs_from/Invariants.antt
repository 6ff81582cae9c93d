-- The pairs from the first place on were written.
use Rattle.std.proofs.Common.{drop}
use Rattle.foyer_session.specs.Printed.{next_pair_text}
use Rattle.foyer_session.proofs.PrintedLemmas.{Written}
use Rattle.foyer_session.proofs.sim.reply.write_pairs_from.Given as goal

abbrev pub invariant-loop-at : goal.invariant-loop-at
invariant-loop-at g l = Written next_pair_text (g.W.Write.contents l.fn.writer) (g.W.Write.contents l.writer)
    (drop l.fn.from l.fn.answers) (drop l.at l.fn.answers)
