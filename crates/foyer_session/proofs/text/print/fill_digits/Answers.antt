use Rattle.std.proofs.Common.{arith}
use Rattle.foyer_session.proofs.PrintLemmas.{Fills-none, Fills-more, Fills-last}
use Rattle.foyer_session.proofs.text.print.fill_digits.Goals as goal

pub loop-front-init : goal.loop-front-init
loop-front-init c = Fills-none c.args.number c.args.buffer.now (omega arith) c.requires

pub loop-front-preserved : goal.loop-front-preserved
loop-front-preserved c = Fills-more c.args.number c.loop-front.front c.loop-front.start c.loop-front.buffer
    (omega arith) c.loop-front.invariant (omega arith)

pub returns-clause-digits : goal.returns-clause-digits
returns-clause-digits c = Fills-last c.args.number c.loop-front.front c.loop-front.start c.loop-front.buffer
    c.loop-front.invariant (omega arith)
