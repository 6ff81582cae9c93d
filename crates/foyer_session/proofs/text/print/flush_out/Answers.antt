use Rattle.std.proofs.KnownBytes.{Keeps-refl, Keeps-trans}
use Rattle.foyer_session.proofs.text.print.flush_out.Goals as goal

pub loop-turn-init : goal.loop-turn-init
loop-turn-init g c = Keeps-refl (g.W.Write.contents c.args.writer.now)

pub loop-turn-preserved : goal.loop-turn-preserved
loop-turn-preserved g c =
    Keeps-trans (g.W.Write.contents c.args.writer.now) (g.W.Write.contents c.loop-turn.writer)
    (g.W.Write.contents c.flush.new.self) c.loop-turn.invariant c.flush.ensures.bytes

pub returns-in-Ok-clause-kept : goal.returns-in-Ok-clause-kept
returns-in-Ok-clause-kept g c =
    Keeps-trans (g.W.Write.contents c.args.writer.now) (g.W.Write.contents c.loop-turn.writer)
    (g.W.Write.contents c.flush.new.self) c.loop-turn.invariant c.flush.ensures.bytes

pub returns-then-ne-clause-kept : goal.returns-then-ne-clause-kept
returns-then-ne-clause-kept g c =
    Keeps-trans (g.W.Write.contents c.args.writer.now) (g.W.Write.contents c.loop-turn.writer)
    (g.W.Write.contents c.flush.new.self) c.loop-turn.invariant c.flush.ensures.bytes
