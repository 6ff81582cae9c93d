use Rattle.std.proofs.Common.{◌∙◌, arith}
use Rattle.foyer_policy.specs.Items.{IsWithin}
use Rattle.foyer_core.specs.Bulk.{Picks, Says}
use Rattle.foyer_core.specs.Shards.{state_of}
use Rattle.foyer_core.specs.Stored.{meaning}
use Rattle.foyer_core.proofs.Zips.{zip-read}
use Rattle.foyer_core.proofs.cache_core.in_turn.pick_each.Goals as goal

pub loop-shard-preserved : goal.loop-shard-preserved
loop-shard-preserved g c =
    let m = meaning g.K.PartialEq.eq g.E.Eviction.model g.P.Properties.hint_of g.P.Properties.phantom_of g.P.Properties.expiry_of in
    record {
      picked = rw c.push_reserved.ensures.items
          (zip-read
          (λ s list. Picks m (Says g.F.Fn c.args.predicate.now) (state_of s) list.items
          × IsWithin list.items (g.E.Eviction.model.order (g.E.Eviction.view s.store.eviction)))
          c.args.shards.now c.loop-shard.lists.items c.loop-shard.shard-index c.shard-item.result c.in_ok-pick.field-0
          c.loop-shard-test.true c.shard-item.is
          c.loop-shard.invariant.picked (c.in_ok-pick.ensures.picks, c.in_ok-pick.ensures.within));
      many = omega (arith, c.push_reserved.ensures.len, c.loop-shard.invariant.many);
      room = c.push_reserved.ensures.capacity ∙ c.loop-shard.invariant.room;
    }
