use Rattle.foyer_core.specs.Inflights.{opens_of}
use Rattle.foyer_core.specs.Stores.{meaning_of, state_of}
use Rattle.foyer_core.proofs.ApartLemmas.{within_apart, within_same}
use Rattle.foyer_core.proofs.Origins.{clones_from, nothing_new}
use Rattle.foyer_core.proofs.ShardTold.{clones_index}
use Rattle.foyer_core.proofs.Asked.{cloned_data}
use Rattle.foyer_core.proofs.shard.Shard.clone_handle.Goals as goal

pub invariant_of-self : goal.invariant_of-self
invariant_of-self g c =
    let s = c.args.self.now in
    let f = opens_of s.inflights in
    let old = state_of s.store in
    let new = state_of c.clone_handle.new.self in
    record {
      apart = within_apart (meaning_of s.store).expires f old new
          (within_same old new
          (clones_index old c.args.entry.now c.clone_handle.result new c.clone_handle.ensures.clones)
          (clones_from nothing_new old c.args.entry.now c.clone_handle.result new c.clone_handle.ensures.clones))
          s.apart;
    }

pub returns-clause-kept : goal.returns-clause-kept
returns-clause-kept g c =
    let s = c.args.self.now in
    cloned_data (state_of s.store) c.args.entry.now c.clone_handle.result (state_of c.clone_handle.new.self)
    c.clone_handle.ensures.clones
