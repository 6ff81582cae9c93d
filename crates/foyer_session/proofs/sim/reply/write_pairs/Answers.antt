use Rattle.std.proofs.Common.{drop, sym, ◌∙◌, subst}
use Rattle.std.specs.Prelude.{slice_get}
use Rattle.std.specs.Io.KnownBytes.{Appends}
use Rattle.foyer_session.specs.Print.{AppendsFront, WritesText}
use Rattle.foyer_session.specs.Printed.{more_pairs_text, pair_text}
use Rattle.foyer_session.proofs.Joins.{AppendsFront-append, WritesText-after, WritesText-stops}
use Rattle.foyer_session.proofs.PrintedLemmas.{of_some, pairs-split}
use Rattle.foyer_session.proofs.sim.reply.write_pairs.Goals as goal

pub returns-in_err-write_pair : goal.returns-in_err-write_pair
returns-in_err-write_pair g c =
    let a = g.W.Write.contents c.args.writer.now in
    let b = g.W.Write.contents c.write_pair.new.writer in
    let all = c.args.answers.now in
    let (x, is, text) = pairs-split all (sym c.is_empty.ensures ∙ c.if-is_empty.false) in
    subst (WritesText a b c.from_residual.result) (sym text)
    (WritesText-stops a b c.from_residual.result _ c.from_residual.ensures.0
    (AppendsFront-append a b (pair_text x) (more_pairs_text (drop 1 all))
    (of_some (slice_get all 0) x (λ pair. AppendsFront a b (pair_text pair)) is c.in_err-write_pair.ensures)))

pub returns : goal.returns
returns g c =
    let a = g.W.Write.contents c.args.writer.now in
    let b = g.W.Write.contents c.write_pair.new.writer in
    let d = g.W.Write.contents c.write_pairs_from.new.writer in
    let all = c.args.answers.now in
    let (x, is, text) = pairs-split all (sym c.is_empty.ensures ∙ c.if-is_empty.false) in
    subst (WritesText a d c.write_pairs_from.result) (sym text)
    (WritesText-after a b d c.write_pairs_from.result (pair_text x) (more_pairs_text (drop 1 all))
    (of_some (slice_get all 0) x (λ pair. Appends a b (pair_text pair)) is c.in_ok-write_pair.ensures)
    c.write_pairs_from.ensures)
