use Rattle.foyer_memory.proofs.Hits.{passed_on}
use Rattle.foyer_memory.specs.Faults.{build_fault}
use Rattle.foyer_memory.proofs.builder.CacheBuilder.build.Goals as goal

pub returns-in-Err-clause-refused : goal.returns-in-Err-clause-refused
returns-in-Err-clause-refused g c = passed_on _ _ (build_fault c.args.self.config) _ c.in-Err.ensures.refused
