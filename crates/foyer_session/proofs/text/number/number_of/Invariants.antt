-- The bytes so far are digits, and `value` is the number that they write.
use Rattle.std.proofs.Common.{◌<◌, ◌≤◌, length}
use Rattle.foyer_session.proofs.NumberLemmas.{IsFront}
use Rattle.foyer_session.proofs.text.number.number_of.Given as goal

abbrev pub invariant-loop-byte : goal.invariant-loop-byte
invariant-loop-byte l = (0 < length l.word) × (length l.word ≤ 20) × IsFront l.word l.byte-index l.value
