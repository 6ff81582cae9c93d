use Rattle.std.proofs.Common.{◌++◌, ◌≡◌, ap, ◌∙◌}
use Rattle.std.specs.Prelude.{codes, option_map, slice_get}
use Rattle.foyer_session.specs.Print.{WritesText}
use Rattle.foyer_session.specs.Printed.{got_text, numbered, pair_text}
use Rattle.foyer_session.proofs.Joins.{AppendsFront-append, AppendsFront-after, WritesText-after, WritesText-stops}
use Rattle.foyer_session.proofs.PrintedLemmas.{if_some, of_some, same_some}
use Rattle.foyer_session.proofs.sim.reply.write_pair.Goals as goal

pub returns-in_err-write_numbered : goal.returns-in_err-write_numbered
returns-in_err-write_numbered g c =
    let a = g.W.Write.contents c.args.writer.now in
    let b = g.W.Write.contents c.write_numbered.new.writer in
    let o = slice_get c.args.answers.now c.args.at in
    if_some o (λ pair. WritesText a b c.from_residual.result (pair_text pair)) (λ pair is.
    let token : c.in-Some.token ≡ pair.0 = same_some c.in-Some.token pair.0
    (c.in-Some.ensures ∙ ap (option_map (λ got. got.0)) is) in
    WritesText-stops a b c.from_residual.result _ c.from_residual.ensures.0
    (AppendsFront-append a b (numbered (codes "t") pair.0) (codes "=" ++ got_text pair.1) (rw token at c.in_err-write_numbered.ensures)))

pub returns-in_err-write_out : goal.returns-in_err-write_out
returns-in_err-write_out g c =
    let a = g.W.Write.contents c.args.writer.now in
    let b = g.W.Write.contents c.write_numbered.new.writer in
    let d = g.W.Write.contents c.write_out.new.writer in
    let o = slice_get c.args.answers.now c.args.at in
    if_some o (λ pair. WritesText a d c.from_residual-in_err-write_out.result (pair_text pair)) (λ pair is.
    let token : c.in-Some.token ≡ pair.0 = same_some c.in-Some.token pair.0
    (c.in-Some.ensures ∙ ap (option_map (λ got. got.0)) is) in
    WritesText-stops a d c.from_residual-in_err-write_out.result _ c.from_residual-in_err-write_out.ensures.0
    (AppendsFront-after a b d (numbered (codes "t") pair.0) (codes "=" ++ got_text pair.1) (rw token at c.in_ok-write_numbered.ensures) (AppendsFront-append b d (codes "=") (got_text pair.1) c.in_err-write_out.ensures.text)))

pub returns : goal.returns
returns g c =
    let a = g.W.Write.contents c.args.writer.now in
    let b = g.W.Write.contents c.write_numbered.new.writer in
    let d = g.W.Write.contents c.write_out.new.writer in
    let e = g.W.Write.contents c.write_got.new.writer in
    let o = slice_get c.args.answers.now c.args.at in
    if_some o (λ pair. WritesText a e c.write_got.result (pair_text pair)) (λ pair is.
    let token : c.in-Some.token ≡ pair.0 = same_some c.in-Some.token pair.0
    (c.in-Some.ensures ∙ ap (option_map (λ got. got.0)) is) in
    WritesText-after a b e c.write_got.result (numbered (codes "t") pair.0) (codes "=" ++ got_text pair.1) (rw token at c.in_ok-write_numbered.ensures)
    (WritesText-after b d e c.write_got.result (codes "=") (got_text pair.1) c.in_ok-write_out.ensures.text (of_some o pair (λ p. WritesText d e c.write_got.result (got_text p.1)) is c.write_got.ensures)))
