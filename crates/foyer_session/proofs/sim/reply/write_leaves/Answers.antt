use Rattle.foyer_session.specs.Printed.{leave_text, more_text}
use Rattle.foyer_session.proofs.Joins.{AppendsFront-append, WritesText-after, WritesText-stops}
use Rattle.foyer_session.proofs.sim.reply.write_leaves.Goals as goal

pub returns-in_err-write_leave : goal.returns-in_err-write_leave
returns-in_err-write_leave g c =
    let a = g.W.Write.contents c.args.writer.now in
    let b = g.W.Write.contents c.write_leave.new.writer in
    rw c.in-Some.ensures.cases.0 (WritesText-stops a b c.from_residual.result _ c.from_residual.ensures.0
    (AppendsFront-append a b (leave_text c.in-Some.first.now) (more_text c.in-Some.more.now)
    c.in_err-write_leave.ensures))

pub returns : goal.returns
returns g c =
    let a = g.W.Write.contents c.args.writer.now in
    let b = g.W.Write.contents c.write_leave.new.writer in
    let d = g.W.Write.contents c.write_more.new.writer in
    rw c.in-Some.ensures.cases.0
    (WritesText-after a b d c.write_more.result (leave_text c.in-Some.first.now) (more_text c.in-Some.more.now)
    c.in_ok-write_leave.ensures c.write_more.ensures)
