use Rattle.foyer_core.specs.Inflights.{opens_of}
use Rattle.foyer_core.specs.Stores.{state_of}
use Rattle.foyer_core.proofs.ApartLemmas.{within_apart, within_equal}
use Rattle.foyer_core.proofs.shard.Shard.reserve_clear.Goals as goal

pub invariant_of-self : goal.invariant_of-self
invariant_of-self g c =
    let s = c.args.self.now in
    let f = opens_of s.inflights in
    let old = state_of s.store in
    let new = state_of c.reserve_clear.new.self in
    record { apart = within_apart g.P.Properties.expiry_of f old new (within_equal old new c.reserve_clear.ensures.same) s.apart }
