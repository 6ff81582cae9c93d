use Rattle.std.proofs.Common.{arith}
use Rattle.std.proofs.lemmas.Fmt.{length-decimal-le_wide}
use Rattle.foyer_session.proofs.text.print.write_wide_number.Goals as goal

pub fill_wide_digits-start-requires : goal.fill_wide_digits-start-requires
fill_wide_digits-start-requires g c = length-decimal-le_wide 39 c.args.number (omega arith) (omega arith) (omega arith)
