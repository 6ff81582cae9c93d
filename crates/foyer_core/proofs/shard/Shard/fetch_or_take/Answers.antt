use Rattle.std.proofs.Common.{ℕ}
use Rattle.foyer_core.specs.Inflight.{after_nothing}
use Rattle.foyer_core.specs.Inflights.{opens_of}
use Rattle.foyer_core.specs.Stores.{state_of}
use Rattle.foyer_core.proofs.ApartLemmas.{nothing_apart, step_apart}
use Rattle.foyer_core.proofs.InflightLemmas.{opens_alike}
use Rattle.foyer_core.proofs.shard.Shard.fetch_or_take.Goals as goal

pub invariant_of-self : goal.invariant_of-self
invariant_of-self g c =
    let s = c.args.self.now in
    let f = opens_of s.inflights in
    let old = state_of s.store in
    let expires = g.P.Properties.expiry_of in
    let k : ℕ × g.row.K.Denot = (c.args.hash, c.args.key.now) in
    let to = after_nothing g.K.PartialEq.eq f k in
    record {
      apart = step_apart expires old f (opens_of c.fetch_or_take.new.self) to c.fetch_or_take.result
          c.fetch_or_take.ensures.opens c.fetch_or_take.ensures.same s.apart
          (nothing_apart expires old f g.K.PartialEq.eq k (λ q same. opens_alike g.met.K.Eq.laws s.inflights k q same)
          s.apart);
    }
