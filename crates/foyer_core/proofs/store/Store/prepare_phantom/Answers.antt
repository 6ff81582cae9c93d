use Rattle.std.proofs.Common.{refl}
use Rattle.foyer_core.specs.Stores.{meaning_of}
use Rattle.foyer_core.proofs.Holdings.{holding}
use Rattle.foyer_core.proofs.Reserving.{reserved_stored, reserved_same, reserved_kept}
use Rattle.foyer_core.proofs.store.Store.prepare_phantom.Goals as goal

pub invariant_of-self : goal.invariant_of-self
invariant_of-self g c =
    let s = c.args.self.now in
    let m = meaning_of s in
    let t = c.reserve-2.new.self in
    record {
      sound = reserved_kept m (holding s) t c.reserve-2.ensures.slots c.reserve-2.ensures.ids
          (g.E.Eviction.view s.eviction) refl;
      stored = reserved_stored m (holding s) t c.reserve-2.ensures.slots (g.E.Eviction.at s.eviction) (λ p. refl);
      weighed = s.weighed;
      counted = s.counted;
      numbered = s.numbered;
    }

pub returns-clause-same : goal.returns-clause-same
returns-clause-same g c = reserved_same (meaning_of c.args.self.now) (holding c.args.self.now) c.reserve-2.new.self
    c.reserve-2.ensures.slots c.reserve-2.ensures.ids (g.E.Eviction.view c.args.self.now.eviction) refl
