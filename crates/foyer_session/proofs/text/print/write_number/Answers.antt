use Rattle.std.proofs.Common.{arith}
use Rattle.std.proofs.lemmas.Fmt.{length-decimal-le}
use Rattle.foyer_session.proofs.PrintLemmas.{number_of-decimal}
use Rattle.foyer_session.proofs.text.print.write_number.Goals as goal

pub fill_digits-start-requires : goal.fill_digits-start-requires
fill_digits-start-requires g c = length-decimal-le 20 c.args.number (omega arith) (omega arith) (omega arith)

pub returns-clause-read_back : goal.returns-clause-read_back
returns-clause-read_back g c = number_of-decimal c.args.number (omega arith)
