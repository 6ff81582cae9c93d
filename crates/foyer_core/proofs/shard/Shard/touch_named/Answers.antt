use Rattle.foyer_core.specs.Inflights.{opens_of}
use Rattle.foyer_core.specs.NoEntry.{is_found}
use Rattle.foyer_core.specs.Stores.{meaning_of, state_of}
use Rattle.foyer_core.proofs.ApartLemmas.{within_apart, within_same}
use Rattle.foyer_core.proofs.Origins.{nothing_new, touches_from}
use Rattle.foyer_core.proofs.ShardTold.{touches_index}
use Rattle.foyer_core.proofs.shard.Shard.touch_named.Goals as goal

pub invariant_of-self : goal.invariant_of-self
invariant_of-self g c =
    let s = c.args.self.now in
    let f = opens_of s.inflights in
    let old = state_of s.store in
    let new = state_of c.touch_named.new.self in
    record {
      apart = within_apart (meaning_of s.store).expires f old new
          (within_same old new
          (touches_index (meaning_of s.store) c.args.now old (c.args.hash, c.args.key.now) (is_found c.touch_named.result) new
          c.touch_named.ensures.reads.touches)
          (touches_from nothing_new (meaning_of s.store) c.args.now old (c.args.hash, c.args.key.now) (is_found c.touch_named.result)
          new c.touch_named.ensures.reads.touches)) s.apart;
    }
