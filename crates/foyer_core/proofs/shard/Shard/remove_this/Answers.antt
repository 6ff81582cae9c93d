use Rattle.foyer_core.specs.Inflights.{opens_of}
use Rattle.foyer_core.specs.Stores.{meaning_of, state_of}
use Rattle.foyer_core.proofs.ApartLemmas.{taken_apart}
use Rattle.foyer_core.proofs.shard.Shard.remove_this.Goals as goal

pub invariant_of-self : goal.invariant_of-self
invariant_of-self g c =
    let s = c.args.self.now in
    record {
      apart = taken_apart (meaning_of s.store) (opens_of s.inflights) (state_of s.store) c.args.hold.id
          c.remove_this.result (state_of c.remove_this.new.self) c.remove_this.ensures.removed
          c.remove_this.ensures.none s.apart;
    }
