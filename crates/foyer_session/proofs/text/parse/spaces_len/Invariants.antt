use Rattle.std.proofs.Common.{◌≡◌, All, take}
use Rattle.foyer_session.proofs.text.parse.spaces_len.Given as goal

abbrev pub invariant-loop-i : goal.invariant-loop-i
invariant-loop-i l = All (λ b. b ≡ 32) (take l.i l.bytes)
