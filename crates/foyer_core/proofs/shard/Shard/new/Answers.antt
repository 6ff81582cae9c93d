use Rattle.foyer_core.proofs.InflightLemmas.{none_some}
use Rattle.foyer_core.proofs.shard.Shard.new.Goals as goal

pub invariant_of-result : goal.invariant_of-result
invariant_of-result g c = record { apart = λ q id r o is there is_open. absurd (none_some _ id (c.in-Ok.ensures.index q) is) }
