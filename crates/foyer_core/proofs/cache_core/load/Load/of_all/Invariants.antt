use Rattle.std.proofs.Common.{◌≤◌, ◌*◌, ◌^◌, map, take}
use Rattle.foyer_core.specs.Core.{AreSums}
use Rattle.foyer_core.specs.Shards.{state_of}
use Rattle.foyer_core.specs.Stored.{meaning}
use Rattle.foyer_core.proofs.cache_core.load.Load.of_all.Given as goal

-- the sums are those of the shards so far, each of which is below 2 ^ 64
abbrev pub invariant-loop-shard : goal.invariant-loop-shard
invariant-loop-shard g l = record {
  summed : AreSums (meaning g.K.PartialEq.eq g.E.Eviction.model g.P.Properties.hint_of g.P.Properties.phantom_of g.P.Properties.expiry_of)
      l.sum.usage l.sum.entries (map state_of (take l.shard-index l.shards));
  usage : l.sum.usage ≤ l.shard-index * 2 ^ 64;
  entries : l.sum.entries ≤ l.shard-index * 2 ^ 64;
}
