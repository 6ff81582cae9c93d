use Rattle.foyer_core.specs.Inflights.{opens_of}
use Rattle.foyer_core.specs.State.{at_moment}
use Rattle.foyer_core.specs.Stores.{meaning_of, state_of}
use Rattle.foyer_core.proofs.ApartLemmas.{goes_apart, leave_apart}
use Rattle.foyer_core.proofs.shard.Shard.evict_unpinned.Goals as goal

pub invariant_of-self : goal.invariant_of-self
invariant_of-self g c =
    let s = c.args.self.now in
    let f = opens_of s.inflights in
    let old = state_of s.store in
    let new = state_of c.evict_unpinned.new.self in
    record {
      apart = goes_apart (meaning_of s.store).expires f old new c.args.leaves.now.items c.evict_unpinned.new.leaves.items c.evict_unpinned.result
          c.evict_unpinned.ensures.done c.evict_unpinned.ensures.refused
          (λ ls h. leave_apart (at_moment c.args.now (meaning_of s.store)) f _ _ old ls _ new h s.apart)
          (λ ls h. leave_apart (at_moment c.args.now (meaning_of s.store)) f _ _ old ls _ new h.leave s.apart);
    }
