use Rattle.foyer_session.specs.Printed.{answer_text}
use Rattle.foyer_session.proofs.Joins.{AppendsFront-append, WritesText-after, WritesText-stops}
use Rattle.foyer_session.proofs.sim.tell.tell_reply.Goals as goal

pub returns-in_err-write_answer : goal.returns-in_err-write_answer
returns-in_err-write_answer g c =
    let a = g.W.Write.contents c.args.writer.now in
    let b = g.W.Write.contents c.write_answer.new.writer in
    WritesText-stops a b c.from_residual.result _ c.from_residual.ensures.0
    (AppendsFront-append a b (answer_text c.args.reply.now.answer) _ c.in_err-write_answer.ensures)

pub returns : goal.returns
returns g c =
    let a = g.W.Write.contents c.args.writer.now in
    let b = g.W.Write.contents c.write_answer.new.writer in
    let d = g.W.Write.contents c.write_rest.new.writer in
    WritesText-after a b d c.write_rest.result (answer_text c.args.reply.now.answer) _ c.in_ok-write_answer.ensures
    (rw c.as_slice.ensures at c.write_rest.ensures)
