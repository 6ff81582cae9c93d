use Rattle.std.proofs.Common.{◌≡◌, ◌<◌, None, map}
use Rattle.std.specs.Prelude.{All}
use Rattle.foyer_core.specs.Core.{AreNewShards}
use Rattle.foyer_core.specs.Inflight.{no_opens}
use Rattle.foyer_core.specs.Shards.{opens_of, state_of}
use Rattle.foyer_core.specs.Stored.{meaning}
use Rattle.foyer_core.proofs.cache_core.CacheCore.new_shards.Given as goal

-- the shards so far are the first ones, and with a first one the configuration has no fault
abbrev pub invariant-loop-number : goal.invariant-loop-number
invariant-loop-number g l = record {
  made : AreNewShards (meaning g.K.PartialEq.eq g.E.Eviction.model g.P.Properties.hint_of g.P.Properties.phantom_of g.P.Properties.expiry_of)
      l.config l.number (map state_of l.shards.items);
  opens : All (λ f. f ≡ no_opens) (map opens_of l.shards.items);
  accepted : 0 < l.number → g.E.Eviction.model.fault l.config.eviction_config ≡ None;
}
