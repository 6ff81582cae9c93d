use Rattle.std.proofs.Common.{◌∙◌}
use Rattle.foyer_policy.proofs.HashLemmas.{mod_hash_of}
use Rattle.foyer_policy.proofs.hash.mod_hash.Goals as goal

pub returns : goal.returns
returns g c = c.hash_one.ensures.number ∙ mod_hash_of (g.K.Hash.hash_input c.args.key.now)
