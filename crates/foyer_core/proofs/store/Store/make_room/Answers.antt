use Rattle.std.proofs.Common.{refl}
use Rattle.foyer_core.specs.Stores.{meaning_of}
use Rattle.foyer_core.proofs.Holdings.{holding}
use Rattle.foyer_core.proofs.Reserving.{reserved_stored, reserved_same, reserved_kept}
use Rattle.foyer_core.proofs.store.Store.make_room.Goals as goal

pub invariant_of-self : goal.invariant_of-self
invariant_of-self g c =
    let s = c.args.self.now in
    let m = meaning_of s in
    let t = c.reserve.new.self in
    record {
      sound = reserved_kept m (holding s) t c.reserve.ensures.slots c.reserve.ensures.ids
          (g.E.Eviction.view s.eviction) refl;
      stored = reserved_stored m (holding s) t c.reserve.ensures.slots (g.E.Eviction.at s.eviction) (λ p. refl);
      weighed = s.weighed;
      counted = s.counted;
      numbered = s.numbered;
    }

pub invariant_of-self-in_default : goal.invariant_of-self-in_default
invariant_of-self-in_default g c =
    let s = c.args.self.now in
    let m = meaning_of s in
    let t = c.reserve.new.self in
    record {
      sound = reserved_kept m (holding s) t c.reserve.ensures.slots c.reserve.ensures.ids
          (g.E.Eviction.view s.eviction) refl;
      stored = reserved_stored m (holding s) t c.reserve.ensures.slots (g.E.Eviction.at s.eviction) (λ p. refl);
      weighed = s.weighed;
      counted = s.counted;
      numbered = s.numbered;
    }

pub invariant_of-self-2 : goal.invariant_of-self-2
invariant_of-self-2 g c =
    let s = c.args.self.now in
    let m = meaning_of s in
    let t = c.reserve.new.self in
    let e = c.reserve_to.new.self in
    record {
      sound = reserved_kept m (holding s) t c.reserve.ensures.slots c.reserve.ensures.ids (g.E.Eviction.view e)
          c.reserve_to.ensures.view;
      stored = reserved_stored m (holding s) t c.reserve.ensures.slots (g.E.Eviction.at e) c.reserve_to.ensures.places;
      weighed = rw c.reserve_to.ensures.view s.weighed;
      counted = rw c.reserve_to.ensures.view s.counted;
      numbered = s.numbered;
    }

pub returns-clause-same : goal.returns-clause-same
returns-clause-same g c = reserved_same (meaning_of c.args.self.now) (holding c.args.self.now) c.reserve.new.self
    c.reserve.ensures.slots c.reserve.ensures.ids (g.E.Eviction.view c.reserve_to.new.self) c.reserve_to.ensures.view
