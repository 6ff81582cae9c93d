use Rattle.std.proofs.Common.{◌≡◌, ◌+◌, ℕ, max, ◌∙◌, ap, arith}
use Rattle.foyer_core.specs.Stores.{meaning_of}
use Rattle.foyer_core.specs.Values.{Incoming, incoming_of}
use Rattle.foyer_core.proofs.AdmitLemmas.{led_not, no_item}
use Rattle.foyer_core.proofs.Holdings.{holding}
use Rattle.foyer_core.proofs.HoldLemmas.{held_stored, held_after, held_kept}
use Rattle.foyer_core.proofs.store.Store.hold.Goals as goal

pub above-self-requires : goal.above-self-requires
above-self-requires g c = rw c.id-id.ensures c.requires.number

pub invariant_of-self : goal.invariant_of-self
invariant_of-self g c =
    let s = c.args.self.now in
    let m = meaning_of s in
    let inc : Incoming g.row.K.Denot g.row.V.Denot g.row.P.Denot = incoming_of c.args.slot in
    let n = c.put-place.result.0 in
    let unled = led_not m g.met.K.Eq.laws g.met.E.Eviction.lawful (holding s) n c.put-place.result.1
    c.put-place.ensures.stood (λ r h. c.requires.out r (c.put-place.ensures.was ∙ h)) in
    let next : c.above-self.result ≡ max s.next (inc.id + 1) = c.above-self.ensures
    ∙ ap (λ (a : ℕ). max s.next (a + 1)) c.id-id.ensures in
    record {
      sound = held_kept m (holding s) inc n unled c.args.slot c.requires.apart c.put-place.new.self
          c.put-place.ensures.slots c.put-place.ensures.records c.above-self.result next c.requires.out
          c.requires.held c.requires.handles;
      stored = held_stored m (holding s) inc n unled c.args.slot c.requires.apart c.put-place.new.self
          c.put-place.ensures.slots c.put-place.ensures.records
          (no_item m g.met.K.Eq.laws g.met.E.Eviction.lawful (holding s) n c.put-place.result.1
          c.put-place.ensures.stood (λ r h. c.requires.out r (c.put-place.ensures.was ∙ h)));
      weighed = s.weighed;
      counted = s.counted;
      numbered = rw next (omega (arith, s.numbered));
    }

pub returns : goal.returns
returns g c =
    let s = c.args.self.now in
    let m = meaning_of s in
    let inc : Incoming g.row.K.Denot g.row.V.Denot g.row.P.Denot = incoming_of c.args.slot in
    let n = c.put-place.result.0 in
    let unled = led_not m g.met.K.Eq.laws g.met.E.Eviction.lawful (holding s) n c.put-place.result.1
    c.put-place.ensures.stood (λ r h. c.requires.out r (c.put-place.ensures.was ∙ h)) in
    let next : c.above-self.result ≡ max s.next (inc.id + 1) = c.above-self.ensures
    ∙ ap (λ (a : ℕ). max s.next (a + 1)) c.id-id.ensures in
    held_after m (holding s) inc n unled c.args.slot c.requires.apart c.put-place.new.self c.put-place.ensures.slots
    c.put-place.ensures.records c.above-self.result next
