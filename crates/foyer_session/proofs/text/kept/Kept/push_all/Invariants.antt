-- What is kept stands for what was kept, and the bytes so far.
use Rattle.std.proofs.Common.{◌++◌, take}
use Rattle.foyer_session.specs.Kept.{StandsFor}
use Rattle.foyer_session.proofs.text.kept.Kept.push_all.Given as goal

abbrev pub invariant-loop-byte : goal.invariant-loop-byte
invariant-loop-byte l = StandsFor l.self (l.fn.self ++ take l.byte-index l.bytes)
