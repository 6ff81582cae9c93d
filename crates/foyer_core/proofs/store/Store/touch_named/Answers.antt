use Rattle.std.proofs.Common.{◌≡◌, ◌<◌, ℕ, Some, refl, ◌∙◌, ap, subst, sym, arith, rules}
use Rattle.std.specs.Prelude.{IsSomeAnd}
use Rattle.foyer_core.specs.Stores.{meaning_of, state_of}
use Rattle.foyer_core.specs.Table.{rec_of}
use Rattle.foyer_core.specs.Records.{slot_in}
use Rattle.foyer_core.specs.Values.{Rec}
use Rattle.foyer_core.proofs.Holdings.{holding}
use Rattle.foyer_core.proofs.ShardLemmas.{found, placed}
use Rattle.foyer_core.proofs.Touched.{used, used_held, used_last, touched, touched_kept, touched_stored, touched_weight, touched_entries}
use Rattle.foyer_core.proofs.store.Store.touch_named.Goals as goal

pub returns-then-handles-self : goal.returns-then-handles-self
returns-then-handles-self g c =
    let s = c.args.self.now in
    let x = c.in-Some.found.now in
    let there : slot_in s.records c.in-Some.slot ≡ Some x = c.in-Some.ensures.there in
    let led = c.in-Some.ensures.led in
    let live = c.in-Some.ensures.hits in
    rw c.new.ensures record {
      reads = record {
        touches = (
          x.id,
          rec_of x,
          live,
          found (meaning_of s) g.met.K.Eq.laws g.met.E.Eviction.lawful (holding s) (c.args.hash, c.args.key.now)
              c.in-Some.slot led x there,
          omega (arith, c.handles-handles.ensures, c.if-handles-self.true),
          refl,
        );
        seen = tt;
      };
    }

pub look_ahead-requires : goal.look_ahead-requires
look_ahead-requires g c =
    let s = c.args.self.now in
    let x = c.in-Some.found.now in
    let there : slot_in s.records c.in-Some.slot ≡ Some x = c.in-Some.ensures.there in
    let at = ap (g.E.Eviction.at s.eviction) c.at-place.ensures
    ∙ placed (meaning_of s) g.met.K.Eq.laws g.met.E.Eviction.lawful (holding s) (c.args.hash, c.args.key.now)
    c.in-Some.slot c.in-Some.ensures.led x there in
    rw at (search rules)

pub acquire-requires : goal.acquire-requires
acquire-requires g c =
    let s = c.args.self.now in
    let x = c.in-Some.found.now in
    let there : slot_in s.records c.in-Some.slot ≡ Some x = c.in-Some.ensures.there in
    let at = ap (g.E.Eviction.at s.eviction) c.at-place.ensures
    ∙ placed (meaning_of s) g.met.K.Eq.laws g.met.E.Eviction.lawful (holding s) (c.args.hash, c.args.key.now)
    c.in-Some.slot c.in-Some.ensures.led x there in
    rw at (search rules)

pub invariant_of-self : goal.invariant_of-self
invariant_of-self g c =
    let s = c.args.self.now in
    let lawful = g.met.E.Eviction.lawful in
    let laws = g.met.K.Eq.laws in
    let m = meaning_of s in
    let k : ℕ × g.row.K.Denot = (c.args.hash, c.args.key.now) in
    let x = c.in-Some.found.now in
    let there : slot_in s.records c.in-Some.slot ≡ Some x = c.in-Some.ensures.there in
    let led = c.in-Some.ensures.led in
    let live = c.in-Some.ensures.hits in
    let at = ap (g.E.Eviction.at s.eviction) c.at-place.ensures
    ∙ placed m laws lawful (holding s) k c.in-Some.slot led x there in
    let view = g.E.Eviction.view c.acquire.new.self in
    let viewed : view ≡ m.policy.acquire (g.E.Eviction.view s.eviction) x.id = rw at at c.acquire.ensures.view in
    let is : view ≡ used m laws lawful (holding s) x.id x.handles = viewed ∙ used_held m laws lawful (holding s) x.id
    x.handles (omega (arith, c.handles-handles.ensures, c.if-handles-gt0.true)) in
    let room : x.handles < s.limits.handles = omega (arith, c.handles-handles.ensures, c.if-handles-self.false) in
    record {
      sound = touched_kept m laws lawful (holding s) k c.in-Some.slot led x there c.args.now live room view is;
      stored = touched_stored m laws lawful (holding s) k c.in-Some.slot led x there c.args.now live room view is
          (g.E.Eviction.at c.acquire.new.self) c.acquire.ensures.places;
      weighed = touched_weight m laws lawful (holding s) k c.in-Some.slot led x there c.args.now live room view is s.usage s.weighed;
      counted = touched_entries m laws lawful (holding s) k c.in-Some.slot led x there c.args.now live room view is s.entries s.counted;
      numbered = s.numbered;
    }

pub returns-then-handles-gt0 : goal.returns-then-handles-gt0
returns-then-handles-gt0 g c =
    let s = c.args.self.now in
    let lawful = g.met.E.Eviction.lawful in
    let laws = g.met.K.Eq.laws in
    let m = meaning_of s in
    let k : ℕ × g.row.K.Denot = (c.args.hash, c.args.key.now) in
    let x = c.in-Some.found.now in
    let there : slot_in s.records c.in-Some.slot ≡ Some x = c.in-Some.ensures.there in
    let led = c.in-Some.ensures.led in
    let live = c.in-Some.ensures.hits in
    let at = ap (g.E.Eviction.at s.eviction) c.at-place.ensures
    ∙ placed m laws lawful (holding s) k c.in-Some.slot led x there in
    let view = g.E.Eviction.view c.acquire.new.self in
    let viewed : view ≡ m.policy.acquire (g.E.Eviction.view s.eviction) x.id = rw at at c.acquire.ensures.view in
    let is : view ≡ used m laws lawful (holding s) x.id x.handles = viewed ∙ used_held m laws lawful (holding s) x.id
    x.handles (omega (arith, c.handles-handles.ensures, c.if-handles-gt0.true)) in
    let room : x.handles < s.limits.handles = omega (arith, c.handles-handles.ensures, c.if-handles-self.false) in
    record {
      reads = record {
        touches = touched m laws lawful (holding s) k c.in-Some.slot led x there c.args.now live room view is;
        seen = record {
          id = x.id;
          rec = rec_of x;
          hits = live;
          there = found m laws lawful (holding s) k c.in-Some.slot led x there;
          made = (
            refl,
            subst (λ o. IsSomeAnd o (λ (r : Rec g.row.K.Denot g.row.V.Denot g.row.P.Denot). r.kept.value ≡ x.kept.value))
                (sym (ap (state_of s).records c.id-id.ensures
                ∙ found m laws lawful (holding s) k c.in-Some.slot led x there))
                refl,
          );
        };
      };
    }

pub release-requires : goal.release-requires
release-requires g c =
    let s = c.args.self.now in
    let x = c.in-Some.found.now in
    let there : slot_in s.records c.in-Some.slot ≡ Some x = c.in-Some.ensures.there in
    let at = ap (g.E.Eviction.at s.eviction) c.at-place.ensures
    ∙ placed (meaning_of s) g.met.K.Eq.laws g.met.E.Eviction.lawful (holding s) (c.args.hash, c.args.key.now)
    c.in-Some.slot c.in-Some.ensures.led x there in
    rw (c.acquire.ensures.places c.at-place.result, at) (search rules)

pub invariant_of-self-2 : goal.invariant_of-self-2
invariant_of-self-2 g c =
    let s = c.args.self.now in
    let lawful = g.met.E.Eviction.lawful in
    let laws = g.met.K.Eq.laws in
    let m = meaning_of s in
    let k : ℕ × g.row.K.Denot = (c.args.hash, c.args.key.now) in
    let x = c.in-Some.found.now in
    let there : slot_in s.records c.in-Some.slot ≡ Some x = c.in-Some.ensures.there in
    let led = c.in-Some.ensures.led in
    let live = c.in-Some.ensures.hits in
    let at = ap (g.E.Eviction.at s.eviction) c.at-place.ensures
    ∙ placed m laws lawful (holding s) k c.in-Some.slot led x there in
    let at2 = c.acquire.ensures.places c.at-place.result ∙ at in
    let view = g.E.Eviction.view c.release.new.self in
    let viewed : g.E.Eviction.view c.acquire.new.self ≡ m.policy.acquire (g.E.Eviction.view s.eviction) x.id =
    rw at at c.acquire.ensures.view in
    let released : view ≡ m.policy.release (g.E.Eviction.view c.acquire.new.self) x.id =
    rw at2 at c.release.ensures.view in
    let is : view ≡ used m laws lawful (holding s) x.id x.handles =
    released ∙ ap (λ (v : g.E.Eviction.View). m.policy.release v x.id) viewed ∙ used_last m laws lawful (holding s)
    x.id x.handles (omega (arith, c.handles-handles.ensures, c.if-handles-gt0.false)) in
    let room : x.handles < s.limits.handles = omega (arith, c.handles-handles.ensures, c.if-handles-self.false) in
    record {
      sound = touched_kept m laws lawful (holding s) k c.in-Some.slot led x there c.args.now live room view is;
      stored = touched_stored m laws lawful (holding s) k c.in-Some.slot led x there c.args.now live room view is
          (g.E.Eviction.at c.release.new.self) (λ p. c.release.ensures.places p ∙ c.acquire.ensures.places p);
      weighed = touched_weight m laws lawful (holding s) k c.in-Some.slot led x there c.args.now live room view is s.usage s.weighed;
      counted = touched_entries m laws lawful (holding s) k c.in-Some.slot led x there c.args.now live room view is s.entries s.counted;
      numbered = s.numbered;
    }

pub returns : goal.returns
returns g c =
    let s = c.args.self.now in
    let lawful = g.met.E.Eviction.lawful in
    let laws = g.met.K.Eq.laws in
    let m = meaning_of s in
    let k : ℕ × g.row.K.Denot = (c.args.hash, c.args.key.now) in
    let x = c.in-Some.found.now in
    let there : slot_in s.records c.in-Some.slot ≡ Some x = c.in-Some.ensures.there in
    let led = c.in-Some.ensures.led in
    let live = c.in-Some.ensures.hits in
    let at = ap (g.E.Eviction.at s.eviction) c.at-place.ensures
    ∙ placed m laws lawful (holding s) k c.in-Some.slot led x there in
    let at2 = c.acquire.ensures.places c.at-place.result ∙ at in
    let view = g.E.Eviction.view c.release.new.self in
    let viewed : g.E.Eviction.view c.acquire.new.self ≡ m.policy.acquire (g.E.Eviction.view s.eviction) x.id =
    rw at at c.acquire.ensures.view in
    let released : view ≡ m.policy.release (g.E.Eviction.view c.acquire.new.self) x.id =
    rw at2 at c.release.ensures.view in
    let is : view ≡ used m laws lawful (holding s) x.id x.handles =
    released ∙ ap (λ (v : g.E.Eviction.View). m.policy.release v x.id) viewed ∙ used_last m laws lawful (holding s)
    x.id x.handles (omega (arith, c.handles-handles.ensures, c.if-handles-gt0.false)) in
    let room : x.handles < s.limits.handles = omega (arith, c.handles-handles.ensures, c.if-handles-self.false) in
    record {
      reads = record {
        touches = touched m laws lawful (holding s) k c.in-Some.slot led x there c.args.now live room view is;
        seen = record {
          id = x.id;
          rec = rec_of x;
          hits = live;
          there = found m laws lawful (holding s) k c.in-Some.slot led x there;
          made = (
            refl,
            subst (λ o. IsSomeAnd o (λ (r : Rec g.row.K.Denot g.row.V.Denot g.row.P.Denot). r.kept.value ≡ x.kept.value))
                (sym (ap (state_of s).records c.id-id.ensures
                ∙ found m laws lawful (holding s) k c.in-Some.slot led x there))
                refl,
          );
        };
      };
    }
