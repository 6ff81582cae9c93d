use Rattle.foyer_core.specs.Inflights.{opens_of}
use Rattle.foyer_core.specs.Stores.{meaning_of, state_of}
use Rattle.foyer_core.proofs.ApartLemmas.{leave_apart}
use Rattle.foyer_core.proofs.shard.Shard.clear.Goals as goal

pub invariant_of-self : goal.invariant_of-self
invariant_of-self g c =
    let s = c.args.self.now in
    let f = opens_of s.inflights in
    let old = state_of s.store in
    let new = state_of c.clear.new.self in
    record {
      apart = leave_apart (meaning_of s.store) f _ _ old c.clear.ensures.told.more _ new
          c.clear.ensures.told.so s.apart;
    }
