use Rattle.std.proofs.Common.{ℕ}
use Rattle.foyer_core.specs.Inflight.{closed}
use Rattle.foyer_core.specs.Inflights.{opens_of}
use Rattle.foyer_core.specs.Stores.{state_of}
use Rattle.foyer_core.proofs.ApartLemmas.{closed_apart, step_apart}
use Rattle.foyer_core.proofs.shard.Shard.end.Goals as goal

pub invariant_of-self : goal.invariant_of-self
invariant_of-self g c =
    let s = c.args.self.now in
    let f = opens_of s.inflights in
    let k : ℕ × g.row.K.Denot = (c.args.hash, c.args.key.now) in
    let shut = closed g.K.PartialEq.eq f k in
    record {
      apart = step_apart g.P.Properties.expiry_of (state_of s.store) f (opens_of c.take.new.self) shut c.take.result c.take.ensures.opens
          c.take.ensures.same s.apart
          (closed_apart g.P.Properties.expiry_of (state_of s.store) f g.K.PartialEq.eq k s.apart);
    }
