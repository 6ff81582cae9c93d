use Rattle.std.specs.Prelude.{codes, slice_get}
use Rattle.foyer_session.specs.Print.{WritesText}
use Rattle.foyer_session.specs.Printed.{next_pair_text, pair_text}
use Rattle.foyer_session.proofs.Joins.{AppendsFront-append, WritesText-after, WritesText-stops}
use Rattle.foyer_session.proofs.PrintedLemmas.{if_some, of_some}
use Rattle.foyer_session.proofs.sim.reply.write_next_pair.Goals as goal

pub returns-in_err-write_out : goal.returns-in_err-write_out
returns-in_err-write_out g c =
    let a = g.W.Write.contents c.args.writer.now in
    let b = g.W.Write.contents c.write_out.new.writer in
    if_some (slice_get c.args.answers.now c.args.at)
    (λ pair. WritesText a b c.from_residual.result (next_pair_text pair))
    (λ pair is. WritesText-stops a b c.from_residual.result _ c.from_residual.ensures.0 (AppendsFront-append a b (codes " ") (pair_text pair) c.in_err-write_out.ensures.text))

pub returns : goal.returns
returns g c =
    let a = g.W.Write.contents c.args.writer.now in
    let b = g.W.Write.contents c.write_out.new.writer in
    let d = g.W.Write.contents c.write_pair.new.writer in
    let o = slice_get c.args.answers.now c.args.at in
    if_some o (λ pair. WritesText a d c.write_pair.result (next_pair_text pair))
    (λ pair is. WritesText-after a b d c.write_pair.result (codes " ") (pair_text pair) c.in_ok-write_out.ensures.text
    (of_some o pair (λ p. WritesText b d c.write_pair.result (pair_text p)) is c.write_pair.ensures))
