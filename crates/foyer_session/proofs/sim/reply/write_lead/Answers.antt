use Rattle.std.specs.Prelude.{codes}
use Rattle.foyer_session.specs.Printed.{numbered}
use Rattle.foyer_session.proofs.Joins.{AppendsFront-append, WritesText-after, WritesText-stops}
use Rattle.foyer_session.proofs.sim.reply.write_lead.Goals as goal

pub returns-in_err-write_numbered : goal.returns-in_err-write_numbered
returns-in_err-write_numbered g c =
    let a = g.W.Write.contents c.args.writer.now in
    let b = g.W.Write.contents c.write_numbered.new.writer in
    WritesText-stops a b c.from_residual.result _ c.from_residual.ensures.0 (AppendsFront-append a b (numbered (codes "lead t") c.args.token) (numbered (codes " f") c.args.fetch) c.in_err-write_numbered.ensures)

pub returns : goal.returns
returns g c =
    let a = g.W.Write.contents c.args.writer.now in
    let b = g.W.Write.contents c.write_numbered.new.writer in
    let d = g.W.Write.contents c.write_numbered-2.new.writer in
    WritesText-after a b d c.write_numbered-2.result (numbered (codes "lead t") c.args.token) (numbered (codes " f") c.args.fetch) c.in_ok-write_numbered.ensures c.write_numbered-2.ensures
