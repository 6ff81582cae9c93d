use Rattle.std.proofs.Common.{sym, subst}
use Rattle.foyer_core.specs.Inflights.{opens_of}
use Rattle.foyer_core.specs.Stores.{state_of}
use Rattle.foyer_core.specs.State.{State}
use Rattle.foyer_core.specs.Fetching.{Apart}
use Rattle.foyer_core.proofs.shard.Shard.configure.Goals as goal

pub invariant_of-self : goal.invariant_of-self
invariant_of-self g c =
    let s = c.args.self.now in
    let f = opens_of s.inflights in
    let old = state_of s.store in
    let new = state_of c.configure.new.self in
    record {
      apart = subst (λ (x : State g.row.K.Denot g.row.V.Denot g.row.P.Denot g.E.Eviction.View).
          Apart g.P.Properties.expiry_of x f) (sym c.configure.ensures) s.apart;
    }
