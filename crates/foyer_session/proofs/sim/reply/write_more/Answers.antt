use Rattle.std.proofs.Common.{◌+◌, drop, arith}
use Rattle.std.proofs.lemmas.List.{drop_all}
use Rattle.foyer_session.specs.Printed.{next_text, more_text}
use Rattle.foyer_session.proofs.Joins.{WritesText-stops}
use Rattle.foyer_session.proofs.PrintedLemmas.{next-left, Written-none, Written-more, Written-stops, Written-ends}
use Rattle.foyer_session.proofs.sim.reply.write_more.Goals as goal

pub loop-leave-init : goal.loop-leave-init
loop-leave-init g c = Written-none next_text (g.W.Write.contents c.args.writer.now) c.args.leaves.now

pub returns-in_err-write_next : goal.returns-in_err-write_next
returns-in_err-write_next g c =
    let a = g.W.Write.contents c.args.writer.now in
    let b = g.W.Write.contents c.loop-leave.writer in
    let d = g.W.Write.contents c.write_next.new.writer in
    let i = c.loop-leave.leave-index in
    let all = c.args.leaves.now in
    let x = c.leave-item.result in
    WritesText-stops a d c.from_residual.result (more_text all) c.from_residual.ensures.0
    (Written-stops next_text a b d all (drop i all) (drop (i + 1) all) x c.loop-leave.invariant
    (next-left all i x c.loop-leave-test.true c.leave-item.is) c.in_err-write_next.ensures)

pub loop-leave-preserved : goal.loop-leave-preserved
loop-leave-preserved g c =
    let a = g.W.Write.contents c.args.writer.now in
    let b = g.W.Write.contents c.loop-leave.writer in
    let d = g.W.Write.contents c.write_next.new.writer in
    let i = c.loop-leave.leave-index in
    let all = c.args.leaves.now in
    let x = c.leave-item.result in
    Written-more next_text a b d all (drop i all) (drop (i + 1) all) x c.loop-leave.invariant
    (next-left all i x c.loop-leave-test.true c.leave-item.is) c.in_ok-write_next.ensures

pub returns : goal.returns
returns g c =
    let i = c.loop-leave.leave-index in
    let all = c.args.leaves.now in
    Written-ends next_text (g.W.Write.contents c.args.writer.now) (g.W.Write.contents c.loop-leave.writer) all
    (drop i all) c.loop-leave.invariant (drop_all i all (omega arith))
