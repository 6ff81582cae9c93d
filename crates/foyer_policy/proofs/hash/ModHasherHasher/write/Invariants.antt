use Rattle.std.proofs.Common.{◌≡◌, take}
use Rattle.foyer_policy.specs.Hash.{Digits, with_bytes}
use Rattle.foyer_policy.proofs.hash.ModHasherHasher.write.Given as goal

-- the digits so far are those of the bytes that were read
abbrev pub invariant-loop-byte : goal.invariant-loop-byte
invariant-loop-byte l =
    let now : Digits = record { sum = l.self-inside.sum; place = l.self-inside.place } in
    now ≡ with_bytes l.fn.self (take l.byte-index l.bytes)
