use Rattle.foyer_policy.specs.Any.{any}
use Rattle.luffapricot_c.proofs.OpenLemmas.{refused_number}
use Rattle.luffapricot_c.proofs.cache.ByteCache.new.Goals as goal

pub returns-in-Err-clause-refused : goal.returns-in-Err-clause-refused
returns-in-Err-clause-refused c = refused_number (any.fault c.args.config) c.in-Err.error c.new-made.result c.in-Err.is
    c.new-made.ensures.refused (c.in-Err.ensures.memory)
