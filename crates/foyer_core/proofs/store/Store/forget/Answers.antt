use Rattle.std.proofs.Common.{◌≡◌, true, false, sym, ◌∙◌, ap}
use Rattle.foyer_policy.specs.Properties.{is_phantom}
use Rattle.foyer_core.specs.Stores.{meaning_of}
use Rattle.foyer_core.proofs.Holdings.{holding}
use Rattle.foyer_core.proofs.Forgetting.{forgot_stored, forgot_kept, forgot_gives}
use Rattle.foyer_core.proofs.store.Store.forget.Goals as goal

pub invariant_of-self : goal.invariant_of-self
invariant_of-self g c =
    let s = c.args.self.now in
    let m = meaning_of s in
    let x = c.forget-gone.result in
    let there = c.forget-gone.ensures.slot in
    let needs : (x.handles ≡ 1) × (x.resident ≡ false) = rw there at c.requires in
    let t = c.forget-gone.new.self in
    record {
      sound = forgot_kept m g.met.K.Eq.laws g.met.E.Eviction.lawful (holding s) c.args.slot x there needs.1 t
          c.forget-gone.ensures.slots c.forget-gone.ensures.records needs.0;
      stored = forgot_stored m g.met.K.Eq.laws g.met.E.Eviction.lawful (holding s) c.args.slot x there needs.1 t
          c.forget-gone.ensures.slots;
      weighed = s.weighed;
      counted = s.counted;
      numbered = s.numbered;
    }

pub returns-then-unwrap_or : goal.returns-then-unwrap_or
returns-then-unwrap_or g c s is =
    let o = c.args.self.now in
    let m = meaning_of o in
    let x = c.forget-gone.result in
    let there = c.forget-gone.ensures.slot in
    let needs : (x.handles ≡ 1) × (x.resident ≡ false) = rw there at c.requires in
    let phantom : is_phantom (m.phantom x.kept.properties) ≡ true =
    sym (c.unwrap_or.ensures ∙ ap is_phantom (c.phantom.ensures ∙ ap m.phantom c.properties.ensures))
    ∙ c.if-unwrap_or.true in
    rw c.into_left.ensures
    (forgot_gives m g.met.K.Eq.laws g.met.E.Eviction.lawful (holding o) c.args.slot x there needs.1
    c.forget-gone.new.self c.forget-gone.ensures.slots c.forget-gone.ensures.records needs.0 true phantom s is)

pub returns : goal.returns
returns g c s is =
    let o = c.args.self.now in
    let m = meaning_of o in
    let x = c.forget-gone.result in
    let there = c.forget-gone.ensures.slot in
    let needs : (x.handles ≡ 1) × (x.resident ≡ false) = rw there at c.requires in
    let phantom : is_phantom (m.phantom x.kept.properties) ≡ false =
    sym (c.unwrap_or.ensures ∙ ap is_phantom (c.phantom.ensures ∙ ap m.phantom c.properties.ensures))
    ∙ c.if-unwrap_or.false in
    forgot_gives m g.met.K.Eq.laws g.met.E.Eviction.lawful (holding o) c.args.slot x there needs.1
    c.forget-gone.new.self c.forget-gone.ensures.slots c.forget-gone.ensures.records needs.0 false phantom s is
