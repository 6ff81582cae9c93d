use Rattle.foyer_policy.specs.Errors.{number_of}
use Rattle.foyer_session.specs.Printed.{refusal_text}
use Rattle.foyer_session.proofs.Joins.{AppendsFront-append, WritesText-after, WritesText-stops}
use Rattle.foyer_session.proofs.sim.tell.tell_refusal.Goals as goal

pub returns-in_err-write_refusal : goal.returns-in_err-write_refusal
returns-in_err-write_refusal g c =
    let a = g.W.Write.contents c.args.writer.now in
    let b = g.W.Write.contents c.write_refusal.new.writer in
    WritesText-stops a b c.from_residual.result _ c.from_residual.ensures.0
    (AppendsFront-append a b (refusal_text (number_of c.args.error.now)) _ c.in_err-write_refusal.ensures)

pub returns : goal.returns
returns g c =
    let a = g.W.Write.contents c.args.writer.now in
    let b = g.W.Write.contents c.write_refusal.new.writer in
    let d = g.W.Write.contents c.write_rest.new.writer in
    WritesText-after a b d c.write_rest.result (refusal_text (number_of c.args.error.now)) _
    c.in_ok-write_refusal.ensures
    c.write_rest.ensures
