use Rattle.std.proofs.Common.{◌≡◌, ◌+◌, ◌-◌, ◌^◌, ◌<◌, arith}
use Rattle.std.proofs.lemmas.Nat.{shr_below}
use Rattle.foyer_core.proofs.tags.buckets.home_of.Goals as goal

pub returns-clause-within : goal.returns-clause-within
returns-clause-within c =
    let sum : c.args.bits + (32 - c.args.bits) ≡ 32 = omega (arith, c.requires) in
    let small : c.from.result < 2 ^ 32 = omega (arith, c.ranges.fingerprint.fits) in
    let below : c.from.result < 2 ^ (c.args.bits + (32 - c.args.bits)) = rw sum small in
    shr_below c.from.result c.args.bits (32 - c.args.bits) below
