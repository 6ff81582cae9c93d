use Rattle.std.proofs.Common.{◌+◌, drop, arith}
use Rattle.std.specs.Prelude.{slice_get}
use Rattle.std.proofs.lemmas.List.{drop_all}
use Rattle.foyer_session.specs.Print.{AppendsFront}
use Rattle.std.specs.Io.KnownBytes.{Appends}
use Rattle.foyer_session.specs.Printed.{next_pair_text, more_pairs_text}
use Rattle.foyer_session.proofs.Joins.{WritesText-stops}
use Rattle.foyer_session.proofs.PrintedLemmas.{of_some, there, there-left, Written-none, Written-more, Written-stops, Written-ends}
use Rattle.foyer_session.proofs.sim.reply.write_pairs_from.Goals as goal

pub loop-at-init : goal.loop-at-init
loop-at-init g c = Written-none next_pair_text (g.W.Write.contents c.args.writer.now)
    (drop c.args.from c.args.answers.now)

pub returns-in_err-write_next_pair : goal.returns-in_err-write_next_pair
returns-in_err-write_next_pair g c =
    let a = g.W.Write.contents c.args.writer.now in
    let b = g.W.Write.contents c.loop-at.writer in
    let d = g.W.Write.contents c.write_next_pair.new.writer in
    let i = c.loop-at.at in
    let all = c.args.answers.now in
    let (x, is) = there all i (omega (arith, c.loop-at-test.true)) in
    let wrote = of_some (slice_get all i) x (λ pair. AppendsFront b d (next_pair_text pair)) is
    c.in_err-write_next_pair.ensures in
    WritesText-stops a d c.from_residual.result (more_pairs_text (drop c.args.from all)) c.from_residual.ensures.0
    (Written-stops next_pair_text a b d (drop c.args.from all) (drop i all) (drop (i + 1) all) x c.loop-at.invariant
    (there-left all i x is) wrote)

pub loop-at-preserved : goal.loop-at-preserved
loop-at-preserved g c =
    let a = g.W.Write.contents c.args.writer.now in
    let b = g.W.Write.contents c.loop-at.writer in
    let d = g.W.Write.contents c.write_next_pair.new.writer in
    let i = c.loop-at.at in
    let all = c.args.answers.now in
    let (x, is) = there all i (omega (arith, c.loop-at-test.true)) in
    let wrote = of_some (slice_get all i) x (λ pair. Appends b d (next_pair_text pair)) is
    c.in_ok-write_next_pair.ensures in
    Written-more next_pair_text a b d (drop c.args.from all) (drop i all) (drop (i + 1) all) x c.loop-at.invariant
    (there-left all i x is) wrote

pub returns : goal.returns
returns g c =
    let i = c.loop-at.at in
    let all = c.args.answers.now in
    Written-ends next_pair_text (g.W.Write.contents c.args.writer.now) (g.W.Write.contents c.loop-at.writer)
    (drop c.args.from all) (drop i all) c.loop-at.invariant (drop_all i all (omega (arith, c.loop-at-test.false)))
