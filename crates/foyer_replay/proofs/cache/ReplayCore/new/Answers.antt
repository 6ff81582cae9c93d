use Rattle.std.proofs.Common.{map}
use Rattle.foyer_core.specs.Shards.{state_of}
use Rattle.foyer_replay.specs.Cores.{meaning}
use Rattle.foyer_replay.proofs.IdleLemmas.{new_none}
use Rattle.foyer_replay.proofs.cache.ReplayCore.new.Goals as goal

pub invariant_of-result-clause-idle : goal.invariant_of-result-clause-idle
invariant_of-result-clause-idle g c = record {
  no_handles = new_none (meaning g.E.Eviction.model) c.args.config c.args.config.shards
      (map state_of c.in_ok-shards.shards.items) c.in_ok-shards.ensures.made;
  no_fetches = c.in_ok-shards.ensures.opens;
}
