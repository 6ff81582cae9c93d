use Rattle.std.proofs.Common.{arith}
use Rattle.foyer_core.specs.Shards.{state_of}
use Rattle.foyer_core.specs.Stored.{meaning}
use Rattle.foyer_core.proofs.Loads.{sums_all, sums_more}
use Rattle.foyer_core.proofs.cache_core.load.Load.of_all.Goals as goal

pub loop-shard-preserved : goal.loop-shard-preserved
loop-shard-preserved g c =
    let m = meaning g.K.PartialEq.eq g.E.Eviction.model g.P.Properties.hint_of g.P.Properties.phantom_of g.P.Properties.expiry_of in
    let sum = c.loop-shard.sum in
    let load = c.of-load in
    let so_far = c.loop-shard.invariant in
    record {
      summed = sums_more m state_of c.args.shards.now c.loop-shard.shard-index c.shard-item.result sum.usage
          sum.entries load.result.usage load.result.entries c.loop-shard-test.true c.shard-item.is
          so_far.summed load.ensures.usage load.ensures.entries load.ensures.small;
      usage = omega (arith, so_far.usage, load.ensures.small.0);
      entries = omega (arith, so_far.entries, load.ensures.small.1);
    }

pub returns : goal.returns
returns g c =
    let m = meaning g.K.PartialEq.eq g.E.Eviction.model g.P.Properties.hint_of g.P.Properties.phantom_of g.P.Properties.expiry_of in
    sums_all m state_of c.args.shards.now c.loop-shard.shard-index c.loop-shard.sum.usage c.loop-shard.sum.entries
    (omega (arith, c.loop-shard-test.false)) c.loop-shard.invariant.summed
