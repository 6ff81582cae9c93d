use Rattle.std.proofs.Common.{◌++◌}
use Rattle.std.specs.Prelude.{codes, decimal}
use Rattle.foyer_session.specs.Printed.{leaves_text}
use Rattle.foyer_session.proofs.Joins.{AppendsFront-append, AppendsFront-after, WritesText-after, WritesText-stops}
use Rattle.foyer_session.proofs.sim.reply.write_rest.Goals as goal

pub returns-in_err-write_out : goal.returns-in_err-write_out
returns-in_err-write_out g c = WritesText-stops (g.W.Write.contents c.args.writer.now) (g.W.Write.contents c.write_out.new.writer) c.from_residual.result (codes " | " ++ (leaves_text c.args.leaves.now ++ (codes " | usage " ++ (decimal c.args.usage ++ (codes " entries " ++ (decimal c.args.entries ++ (codes "\n"))))))) c.from_residual.ensures.0 (AppendsFront-append (g.W.Write.contents c.args.writer.now) (g.W.Write.contents c.write_out.new.writer) (codes " | ") (leaves_text c.args.leaves.now ++ (codes " | usage " ++ (decimal c.args.usage ++ (codes " entries " ++ (decimal c.args.entries ++ (codes "\n")))))) c.in_err-write_out.ensures.text)

pub returns-in_err-write_leaves : goal.returns-in_err-write_leaves
returns-in_err-write_leaves g c = WritesText-stops (g.W.Write.contents c.args.writer.now) (g.W.Write.contents c.write_leaves.new.writer) c.from_residual-in_err-write_leaves.result (codes " | " ++ (leaves_text c.args.leaves.now ++ (codes " | usage " ++ (decimal c.args.usage ++ (codes " entries " ++ (decimal c.args.entries ++ (codes "\n"))))))) c.from_residual-in_err-write_leaves.ensures.0 (AppendsFront-after (g.W.Write.contents c.args.writer.now) (g.W.Write.contents c.write_out.new.writer) (g.W.Write.contents c.write_leaves.new.writer) (codes " | ") (leaves_text c.args.leaves.now ++ (codes " | usage " ++ (decimal c.args.usage ++ (codes " entries " ++ (decimal c.args.entries ++ (codes "\n")))))) c.in_ok-write_out.ensures.text (AppendsFront-append (g.W.Write.contents c.write_out.new.writer) (g.W.Write.contents c.write_leaves.new.writer) (leaves_text c.args.leaves.now) (codes " | usage " ++ (decimal c.args.usage ++ (codes " entries " ++ (decimal c.args.entries ++ (codes "\n"))))) c.in_err-write_leaves.ensures))

pub returns-in_err-write_out-2 : goal.returns-in_err-write_out-2
returns-in_err-write_out-2 g c = WritesText-stops (g.W.Write.contents c.args.writer.now) (g.W.Write.contents c.write_out-2.new.writer) c.from_residual-in_err-write_out-2.result (codes " | " ++ (leaves_text c.args.leaves.now ++ (codes " | usage " ++ (decimal c.args.usage ++ (codes " entries " ++ (decimal c.args.entries ++ (codes "\n"))))))) c.from_residual-in_err-write_out-2.ensures.0 (AppendsFront-after (g.W.Write.contents c.args.writer.now) (g.W.Write.contents c.write_out.new.writer) (g.W.Write.contents c.write_out-2.new.writer) (codes " | ") (leaves_text c.args.leaves.now ++ (codes " | usage " ++ (decimal c.args.usage ++ (codes " entries " ++ (decimal c.args.entries ++ (codes "\n")))))) c.in_ok-write_out.ensures.text (AppendsFront-after (g.W.Write.contents c.write_out.new.writer) (g.W.Write.contents c.write_leaves.new.writer) (g.W.Write.contents c.write_out-2.new.writer) (leaves_text c.args.leaves.now) (codes " | usage " ++ (decimal c.args.usage ++ (codes " entries " ++ (decimal c.args.entries ++ (codes "\n"))))) c.in_ok-write_leaves.ensures (AppendsFront-append (g.W.Write.contents c.write_leaves.new.writer) (g.W.Write.contents c.write_out-2.new.writer) (codes " | usage ") (decimal c.args.usage ++ (codes " entries " ++ (decimal c.args.entries ++ (codes "\n")))) c.in_err-write_out-2.ensures.text)))

pub returns-in_err-write_wide_number : goal.returns-in_err-write_wide_number
returns-in_err-write_wide_number g c = WritesText-stops (g.W.Write.contents c.args.writer.now) (g.W.Write.contents c.write_wide_number.new.writer) c.from_residual-in_err-write_wide_number.result (codes " | " ++ (leaves_text c.args.leaves.now ++ (codes " | usage " ++ (decimal c.args.usage ++ (codes " entries " ++ (decimal c.args.entries ++ (codes "\n"))))))) c.from_residual-in_err-write_wide_number.ensures.0 (AppendsFront-after (g.W.Write.contents c.args.writer.now) (g.W.Write.contents c.write_out.new.writer) (g.W.Write.contents c.write_wide_number.new.writer) (codes " | ") (leaves_text c.args.leaves.now ++ (codes " | usage " ++ (decimal c.args.usage ++ (codes " entries " ++ (decimal c.args.entries ++ (codes "\n")))))) c.in_ok-write_out.ensures.text (AppendsFront-after (g.W.Write.contents c.write_out.new.writer) (g.W.Write.contents c.write_leaves.new.writer) (g.W.Write.contents c.write_wide_number.new.writer) (leaves_text c.args.leaves.now) (codes " | usage " ++ (decimal c.args.usage ++ (codes " entries " ++ (decimal c.args.entries ++ (codes "\n"))))) c.in_ok-write_leaves.ensures (AppendsFront-after (g.W.Write.contents c.write_leaves.new.writer) (g.W.Write.contents c.write_out-2.new.writer) (g.W.Write.contents c.write_wide_number.new.writer) (codes " | usage ") (decimal c.args.usage ++ (codes " entries " ++ (decimal c.args.entries ++ (codes "\n")))) c.in_ok-write_out-2.ensures.text (AppendsFront-append (g.W.Write.contents c.write_out-2.new.writer) (g.W.Write.contents c.write_wide_number.new.writer) (decimal c.args.usage) (codes " entries " ++ (decimal c.args.entries ++ (codes "\n"))) c.in_err-write_wide_number.ensures.text))))

pub returns-in_err-write_out-3 : goal.returns-in_err-write_out-3
returns-in_err-write_out-3 g c = WritesText-stops (g.W.Write.contents c.args.writer.now) (g.W.Write.contents c.write_out-3.new.writer) c.from_residual-in_err-write_out-3.result (codes " | " ++ (leaves_text c.args.leaves.now ++ (codes " | usage " ++ (decimal c.args.usage ++ (codes " entries " ++ (decimal c.args.entries ++ (codes "\n"))))))) c.from_residual-in_err-write_out-3.ensures.0 (AppendsFront-after (g.W.Write.contents c.args.writer.now) (g.W.Write.contents c.write_out.new.writer) (g.W.Write.contents c.write_out-3.new.writer) (codes " | ") (leaves_text c.args.leaves.now ++ (codes " | usage " ++ (decimal c.args.usage ++ (codes " entries " ++ (decimal c.args.entries ++ (codes "\n")))))) c.in_ok-write_out.ensures.text (AppendsFront-after (g.W.Write.contents c.write_out.new.writer) (g.W.Write.contents c.write_leaves.new.writer) (g.W.Write.contents c.write_out-3.new.writer) (leaves_text c.args.leaves.now) (codes " | usage " ++ (decimal c.args.usage ++ (codes " entries " ++ (decimal c.args.entries ++ (codes "\n"))))) c.in_ok-write_leaves.ensures (AppendsFront-after (g.W.Write.contents c.write_leaves.new.writer) (g.W.Write.contents c.write_out-2.new.writer) (g.W.Write.contents c.write_out-3.new.writer) (codes " | usage ") (decimal c.args.usage ++ (codes " entries " ++ (decimal c.args.entries ++ (codes "\n")))) c.in_ok-write_out-2.ensures.text (AppendsFront-after (g.W.Write.contents c.write_out-2.new.writer) (g.W.Write.contents c.write_wide_number.new.writer) (g.W.Write.contents c.write_out-3.new.writer) (decimal c.args.usage) (codes " entries " ++ (decimal c.args.entries ++ (codes "\n"))) c.in_ok-write_wide_number.ensures.text (AppendsFront-append (g.W.Write.contents c.write_wide_number.new.writer) (g.W.Write.contents c.write_out-3.new.writer) (codes " entries ") (decimal c.args.entries ++ (codes "\n")) c.in_err-write_out-3.ensures.text)))))

pub returns-in_err-write_wide_number-2 : goal.returns-in_err-write_wide_number-2
returns-in_err-write_wide_number-2 g c = WritesText-stops (g.W.Write.contents c.args.writer.now) (g.W.Write.contents c.write_wide_number-2.new.writer) c.from_residual-in_err-write_wide_number-2.result (codes " | " ++ (leaves_text c.args.leaves.now ++ (codes " | usage " ++ (decimal c.args.usage ++ (codes " entries " ++ (decimal c.args.entries ++ (codes "\n"))))))) c.from_residual-in_err-write_wide_number-2.ensures.0 (AppendsFront-after (g.W.Write.contents c.args.writer.now) (g.W.Write.contents c.write_out.new.writer) (g.W.Write.contents c.write_wide_number-2.new.writer) (codes " | ") (leaves_text c.args.leaves.now ++ (codes " | usage " ++ (decimal c.args.usage ++ (codes " entries " ++ (decimal c.args.entries ++ (codes "\n")))))) c.in_ok-write_out.ensures.text (AppendsFront-after (g.W.Write.contents c.write_out.new.writer) (g.W.Write.contents c.write_leaves.new.writer) (g.W.Write.contents c.write_wide_number-2.new.writer) (leaves_text c.args.leaves.now) (codes " | usage " ++ (decimal c.args.usage ++ (codes " entries " ++ (decimal c.args.entries ++ (codes "\n"))))) c.in_ok-write_leaves.ensures (AppendsFront-after (g.W.Write.contents c.write_leaves.new.writer) (g.W.Write.contents c.write_out-2.new.writer) (g.W.Write.contents c.write_wide_number-2.new.writer) (codes " | usage ") (decimal c.args.usage ++ (codes " entries " ++ (decimal c.args.entries ++ (codes "\n")))) c.in_ok-write_out-2.ensures.text (AppendsFront-after (g.W.Write.contents c.write_out-2.new.writer) (g.W.Write.contents c.write_wide_number.new.writer) (g.W.Write.contents c.write_wide_number-2.new.writer) (decimal c.args.usage) (codes " entries " ++ (decimal c.args.entries ++ (codes "\n"))) c.in_ok-write_wide_number.ensures.text (AppendsFront-after (g.W.Write.contents c.write_wide_number.new.writer) (g.W.Write.contents c.write_out-3.new.writer) (g.W.Write.contents c.write_wide_number-2.new.writer) (codes " entries ") (decimal c.args.entries ++ (codes "\n")) c.in_ok-write_out-3.ensures.text (AppendsFront-append (g.W.Write.contents c.write_out-3.new.writer) (g.W.Write.contents c.write_wide_number-2.new.writer) (decimal c.args.entries) (codes "\n") c.in_err-write_wide_number-2.ensures.text))))))

pub returns : goal.returns
returns g c = WritesText-after (g.W.Write.contents c.args.writer.now) (g.W.Write.contents c.write_out.new.writer) (g.W.Write.contents c.write_out-4.new.writer) c.write_out-4.result (codes " | ") (leaves_text c.args.leaves.now ++ (codes " | usage " ++ (decimal c.args.usage ++ (codes " entries " ++ (decimal c.args.entries ++ (codes "\n")))))) c.in_ok-write_out.ensures.text (WritesText-after (g.W.Write.contents c.write_out.new.writer) (g.W.Write.contents c.write_leaves.new.writer) (g.W.Write.contents c.write_out-4.new.writer) c.write_out-4.result (leaves_text c.args.leaves.now) (codes " | usage " ++ (decimal c.args.usage ++ (codes " entries " ++ (decimal c.args.entries ++ (codes "\n"))))) c.in_ok-write_leaves.ensures (WritesText-after (g.W.Write.contents c.write_leaves.new.writer) (g.W.Write.contents c.write_out-2.new.writer) (g.W.Write.contents c.write_out-4.new.writer) c.write_out-4.result (codes " | usage ") (decimal c.args.usage ++ (codes " entries " ++ (decimal c.args.entries ++ (codes "\n")))) c.in_ok-write_out-2.ensures.text (WritesText-after (g.W.Write.contents c.write_out-2.new.writer) (g.W.Write.contents c.write_wide_number.new.writer) (g.W.Write.contents c.write_out-4.new.writer) c.write_out-4.result (decimal c.args.usage) (codes " entries " ++ (decimal c.args.entries ++ (codes "\n"))) c.in_ok-write_wide_number.ensures.text (WritesText-after (g.W.Write.contents c.write_wide_number.new.writer) (g.W.Write.contents c.write_out-3.new.writer) (g.W.Write.contents c.write_out-4.new.writer) c.write_out-4.result (codes " entries ") (decimal c.args.entries ++ (codes "\n")) c.in_ok-write_out-3.ensures.text (WritesText-after (g.W.Write.contents c.write_out-3.new.writer) (g.W.Write.contents c.write_wide_number-2.new.writer) (g.W.Write.contents c.write_out-4.new.writer) c.write_out-4.result (decimal c.args.entries) (codes "\n") c.in_ok-write_wide_number-2.ensures.text (c.write_out-4.ensures.text))))))
