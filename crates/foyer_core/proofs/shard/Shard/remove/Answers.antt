use Rattle.foyer_core.specs.Inflights.{opens_of}
use Rattle.foyer_core.specs.Stores.{meaning_of, state_of}
use Rattle.foyer_core.proofs.ApartLemmas.{removes_apart}
use Rattle.foyer_core.proofs.Asked.{removed_key}
use Rattle.foyer_core.proofs.shard.Shard.remove.Goals as goal

pub invariant_of-self : goal.invariant_of-self
invariant_of-self g c =
    let s = c.args.self.now in
    let f = opens_of s.inflights in
    let old = state_of s.store in
    let new = state_of c.remove.new.self in
    record {
      apart = removes_apart (meaning_of s.store) f old (c.args.hash, c.args.key.now) c.remove.result new
          c.remove.ensures.removes s.apart;
    }

pub returns-clause-asked : goal.returns-clause-asked
returns-clause-asked g c =
    let s = c.args.self.now in
    removed_key (meaning_of s.store) (state_of s.store) s.store.sound (c.args.hash, c.args.key.now)
    (state_of c.remove.new.self) c.remove.result c.remove.ensures.removes
