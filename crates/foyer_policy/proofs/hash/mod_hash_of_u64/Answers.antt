use Rattle.std.proofs.Common.{◌∙◌}
use Rattle.foyer_policy.proofs.HashLemmas.{mod_hash_of-u64}
use Rattle.foyer_policy.proofs.hash.mod_hash_of_u64.Goals as goal

pub returns : goal.returns
returns c = c.mod_hash.ensures ∙ mod_hash_of-u64 c.args.key c.ranges.key.fits
