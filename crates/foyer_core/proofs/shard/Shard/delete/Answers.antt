use Rattle.foyer_core.specs.Inflights.{opens_of}
use Rattle.foyer_core.specs.Stores.{meaning_of, state_of}
use Rattle.foyer_core.proofs.NoEntryLemmas.{deletes_apart}
use Rattle.foyer_core.proofs.shard.Shard.delete.Goals as goal

pub invariant_of-self : goal.invariant_of-self
invariant_of-self g c =
    let s = c.args.self.now in
    let f = opens_of s.inflights in
    let old = state_of s.store in
    let new = state_of c.delete.new.self in
    record {
      apart = deletes_apart (meaning_of s.store) f old (c.args.hash, c.args.key.now) c.delete.result new
          c.delete.ensures.deletes s.apart;
    }
