use Rattle.foyer_core.specs.Inflights.{opens_of}
use Rattle.foyer_core.specs.Stores.{meaning_of, state_of}
use Rattle.foyer_core.proofs.ApartLemmas.{within_apart, within_same}
use Rattle.foyer_core.proofs.Named.{holds_got}
use Rattle.foyer_core.proofs.Origins.{gets_from, nothing_new}
use Rattle.foyer_core.proofs.ShardTold.{gets_index}
use Rattle.foyer_core.proofs.shard.Shard.hold.Goals as goal

pub invariant_of-self : goal.invariant_of-self
invariant_of-self g c =
    let s = c.args.self.now in
    let m = meaning_of s.store in
    let old = state_of s.store in
    let new = state_of c.hold_key.new.self in
    let got = holds_got m c.args.now old (c.args.hash, c.args.key.now) c.hold_key.result new c.hold_key.ensures.holds in
    record {
      apart = within_apart m.expires (opens_of s.inflights) old new
          (within_same old new (gets_index m c.args.now old (c.args.hash, c.args.key.now) got.answer new got.gets)
          (gets_from nothing_new m c.args.now old (c.args.hash, c.args.key.now) got.answer new got.gets)) s.apart;
    }
