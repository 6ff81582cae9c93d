use Rattle.foyer_core.specs.Inflights.{opens_of}
use Rattle.foyer_core.specs.Stores.{meaning_of, state_of}
use Rattle.foyer_core.proofs.ApartLemmas.{answer_apart, within_equal, within_same}
use Rattle.foyer_core.proofs.Origins.{gives_back_from, nothing_new}
use Rattle.foyer_core.proofs.ShardTold.{back_index}
use Rattle.foyer_core.proofs.shard.Shard.unhold.Goals as goal

pub invariant_of-self : goal.invariant_of-self
invariant_of-self g c =
    let s = c.args.self.now in
    let f = opens_of s.inflights in
    let old = state_of s.store in
    let new = state_of c.unhold.new.self in
    record {
      apart = answer_apart (meaning_of s.store).expires f old new c.unhold.result c.unhold.ensures.taken c.unhold.ensures.err
          (λ leave h. within_same old new (back_index (meaning_of s.store) old c.args.hold.id leave new h)
          (gives_back_from nothing_new (meaning_of s.store) old c.args.hold.id leave new h))
          (λ h. within_equal old new h) s.apart;
    }
