use Rattle.foyer_session.proofs.Joins.{AppendsFront-append, WritesText-after, WritesText-stops}
use Rattle.foyer_session.proofs.sim.tell.tell_words.Goals as goal

pub returns-in_err-write_out : goal.returns-in_err-write_out
returns-in_err-write_out g c =
    let a = g.W.Write.contents c.args.writer.now in
    let b = g.W.Write.contents c.write_out.new.writer in
    WritesText-stops a b c.from_residual.result _ c.from_residual.ensures.0 (AppendsFront-append a b c.args.words.now _ c.in_err-write_out.ensures.text)

pub returns : goal.returns
returns g c =
    let a = g.W.Write.contents c.args.writer.now in
    let b = g.W.Write.contents c.write_out.new.writer in
    let d = g.W.Write.contents c.write_rest.new.writer in
    WritesText-after a b d c.write_rest.result c.args.words.now _ c.in_ok-write_out.ensures.text
    (rw (c.usage.ensures, c.entries.ensures) at c.write_rest.ensures)
