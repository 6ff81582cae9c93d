use Rattle.std.proofs.Common.{sym}
use Rattle.foyer_memory.proofs.Hits.{passed_on}
use Rattle.foyer_memory.proofs.of.Of+C+Cache+H+K+V+S+P+W+A+L+Q+T+I.new.Goals as goal

pub returns-in-Err-clause-refused : goal.returns-in-Err-clause-refused
returns-in-Err-clause-refused g c = rw (sym c.into_any.ensures) (passed_on _ _ _ _ c.in-Err.ensures.refused)

pub returns-in-Err-clause-memory : goal.returns-in-Err-clause-memory
returns-in-Err-clause-memory g c = rw (sym c.into_any.ensures) c.in-Err.ensures.memory
