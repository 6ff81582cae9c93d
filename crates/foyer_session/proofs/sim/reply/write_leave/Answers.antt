use Rattle.std.proofs.Common.{◌++◌}
use Rattle.std.specs.Prelude.{codes, decimal}
use Rattle.foyer_session.specs.Printed.{event_text}
use Rattle.foyer_session.proofs.Joins.{AppendsFront-append, AppendsFront-after, WritesText-after, WritesText-stops}
use Rattle.foyer_session.proofs.sim.reply.write_leave.Goals as goal

pub returns-in_err-write_out : goal.returns-in_err-write_out
returns-in_err-write_out g c = WritesText-stops (g.W.Write.contents c.args.writer.now) (g.W.Write.contents c.write_out.new.writer) c.from_residual.result (event_text c.args.event ++ (decimal c.args.left.now.kept.key ++ (codes "=" ++ (decimal c.args.left.now.kept.value.value)))) c.from_residual.ensures.0 (AppendsFront-append (g.W.Write.contents c.args.writer.now) (g.W.Write.contents c.write_out.new.writer) (event_text c.args.event) (decimal c.args.left.now.kept.key ++ (codes "=" ++ (decimal c.args.left.now.kept.value.value))) (rw c.event_name.ensures at c.in_err-write_out.ensures.text))

pub returns-in_err-write_number : goal.returns-in_err-write_number
returns-in_err-write_number g c = WritesText-stops (g.W.Write.contents c.args.writer.now) (g.W.Write.contents c.write_number.new.writer) c.from_residual-in_err-write_number.result (event_text c.args.event ++ (decimal c.args.left.now.kept.key ++ (codes "=" ++ (decimal c.args.left.now.kept.value.value)))) c.from_residual-in_err-write_number.ensures.0 (AppendsFront-after (g.W.Write.contents c.args.writer.now) (g.W.Write.contents c.write_out.new.writer) (g.W.Write.contents c.write_number.new.writer) (event_text c.args.event) (decimal c.args.left.now.kept.key ++ (codes "=" ++ (decimal c.args.left.now.kept.value.value))) (rw c.event_name.ensures at c.in_ok-write_out.ensures.text) (AppendsFront-append (g.W.Write.contents c.write_out.new.writer) (g.W.Write.contents c.write_number.new.writer) (decimal c.args.left.now.kept.key) (codes "=" ++ (decimal c.args.left.now.kept.value.value)) (rw c.key.ensures at c.in_err-write_number.ensures.text)))

pub returns-in_err-write_out-2 : goal.returns-in_err-write_out-2
returns-in_err-write_out-2 g c = WritesText-stops (g.W.Write.contents c.args.writer.now) (g.W.Write.contents c.write_out-2.new.writer) c.from_residual-in_err-write_out-2.result (event_text c.args.event ++ (decimal c.args.left.now.kept.key ++ (codes "=" ++ (decimal c.args.left.now.kept.value.value)))) c.from_residual-in_err-write_out-2.ensures.0 (AppendsFront-after (g.W.Write.contents c.args.writer.now) (g.W.Write.contents c.write_out.new.writer) (g.W.Write.contents c.write_out-2.new.writer) (event_text c.args.event) (decimal c.args.left.now.kept.key ++ (codes "=" ++ (decimal c.args.left.now.kept.value.value))) (rw c.event_name.ensures at c.in_ok-write_out.ensures.text) (AppendsFront-after (g.W.Write.contents c.write_out.new.writer) (g.W.Write.contents c.write_number.new.writer) (g.W.Write.contents c.write_out-2.new.writer) (decimal c.args.left.now.kept.key) (codes "=" ++ (decimal c.args.left.now.kept.value.value)) (rw c.key.ensures at c.in_ok-write_number.ensures.text) (AppendsFront-append (g.W.Write.contents c.write_number.new.writer) (g.W.Write.contents c.write_out-2.new.writer) (codes "=") (decimal c.args.left.now.kept.value.value) c.in_err-write_out-2.ensures.text)))

pub returns : goal.returns
returns g c = WritesText-after (g.W.Write.contents c.args.writer.now) (g.W.Write.contents c.write_out.new.writer) (g.W.Write.contents c.write_number-2.new.writer) c.write_number-2.result (event_text c.args.event) (decimal c.args.left.now.kept.key ++ (codes "=" ++ (decimal c.args.left.now.kept.value.value))) (rw c.event_name.ensures at c.in_ok-write_out.ensures.text) (WritesText-after (g.W.Write.contents c.write_out.new.writer) (g.W.Write.contents c.write_number.new.writer) (g.W.Write.contents c.write_number-2.new.writer) c.write_number-2.result (decimal c.args.left.now.kept.key) (codes "=" ++ (decimal c.args.left.now.kept.value.value)) (rw c.key.ensures at c.in_ok-write_number.ensures.text) (WritesText-after (g.W.Write.contents c.write_number.new.writer) (g.W.Write.contents c.write_out-2.new.writer) (g.W.Write.contents c.write_number-2.new.writer) c.write_number-2.result (codes "=") (decimal c.args.left.now.kept.value.value) c.in_ok-write_out-2.ensures.text ((rw c.value.ensures at c.write_number-2.ensures.text))))
