use Rattle.foyer_session.specs.Printed.{handle_text, more_pairs_text}
use Rattle.foyer_session.proofs.Joins.{AppendsFront-append, WritesText-after, WritesText-stops}
use Rattle.foyer_session.proofs.sim.reply.write_entry.Goals as goal

pub returns-in_err-write_handle : goal.returns-in_err-write_handle
returns-in_err-write_handle g c =
    let a = g.W.Write.contents c.args.writer.now in
    let b = g.W.Write.contents c.write_handle.new.writer in
    WritesText-stops a b c.from_residual.result _ c.from_residual.ensures.0
    (AppendsFront-append a b (handle_text c.args.handle) (more_pairs_text c.args.answers.now)
    c.in_err-write_handle.ensures)

pub returns : goal.returns
returns g c =
    let a = g.W.Write.contents c.args.writer.now in
    let b = g.W.Write.contents c.write_handle.new.writer in
    let d = g.W.Write.contents c.write_pairs_from.new.writer in
    WritesText-after a b d c.write_pairs_from.result (handle_text c.args.handle) (more_pairs_text c.args.answers.now)
    c.in_ok-write_handle.ensures c.write_pairs_from.ensures
