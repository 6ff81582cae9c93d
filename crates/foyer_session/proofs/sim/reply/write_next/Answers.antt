use Rattle.std.proofs.Common.{◌++◌}
use Rattle.std.specs.Prelude.{codes}
use Rattle.foyer_session.specs.Printed.{leave_text}
use Rattle.foyer_session.proofs.Joins.{AppendsFront-append, WritesText-after, WritesText-stops}
use Rattle.foyer_session.proofs.sim.reply.write_next.Goals as goal

pub returns-in_err-write_out : goal.returns-in_err-write_out
returns-in_err-write_out g c = WritesText-stops (g.W.Write.contents c.args.writer.now) (g.W.Write.contents c.write_out.new.writer) c.from_residual.result (codes ", " ++ (leave_text (c.args.event, c.args.left.now))) c.from_residual.ensures.0 (AppendsFront-append (g.W.Write.contents c.args.writer.now) (g.W.Write.contents c.write_out.new.writer) (codes ", ") (leave_text (c.args.event, c.args.left.now)) c.in_err-write_out.ensures.text)

pub returns : goal.returns
returns g c = WritesText-after (g.W.Write.contents c.args.writer.now) (g.W.Write.contents c.write_out.new.writer) (g.W.Write.contents c.write_leave.new.writer) c.write_leave.result (codes ", ") (leave_text (c.args.event, c.args.left.now)) c.in_ok-write_out.ensures.text (c.write_leave.ensures)
