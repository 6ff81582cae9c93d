use Rattle.foyer_core.proofs.ChainLemmas.{home_below}
use Rattle.foyer_core.proofs.indexer.chain.home_of.Goals as goal

pub returns-clause-within : goal.returns-clause-within
returns-clause-within c = home_below c.args.shift c.args.hash c.requires
