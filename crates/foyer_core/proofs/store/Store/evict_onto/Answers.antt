use Rattle.std.proofs.Common.{◌≡◌, ◌<◌, ◌≤◌, ℕ, arith, ap, subst}
use Rattle.foyer_policy.specs.declared.types.Event.TheVariants.{Evict}
use Rattle.foyer_core.specs.Steps.{EvictsOne, Evicts}
use Rattle.foyer_core.specs.State.{at_moment, usage_of}
use Rattle.foyer_core.specs.Stores.{meaning_of, state_of}
use Rattle.foyer_core.proofs.Evictions.{Begun, begun-start, begun-evicts, begun-low, begun-none, popped_shorter}
use Rattle.foyer_core.proofs.Moments.{timed_lawful}
use Rattle.foyer_core.proofs.Told.{goes_start, goes_more, goes_so}
use Rattle.foyer_core.proofs.store.Store.evict_onto.Goals as goal

pub loop-self-init : goal.loop-self-init
loop-self-init g c =
    let s = c.args.self.now in
    let m = at_moment c.args.now (meaning_of s) in
    record {
      begun = goes_start c.args.leaves.now.items (λ ls. Begun m c.args.target (state_of s) ls (state_of s))
          (begun-start m c.args.target (state_of s));
      one_more = λ h. h;
      room = λ h. h;
      places = λ h. h;
    }

pub loop-self-smaller : goal.loop-self-smaller
loop-self-smaller g c =
    let m = at_moment c.args.now (meaning_of c.args.self.now) in
    let e : EvictsOne m (state_of c.loop-self.self) c.in-Ok-Some.left (state_of c.evict_one.new.self) =
    rw c.in-Ok-Some.field-0-is at c.in-Ok-Some.ensures.some in
    let shorter = popped_shorter m (timed_lawful c.args.now g.E.Eviction.model g.met.E.Eviction.lawful) (state_of c.loop-self.self) e.item e.view e.popped in
    let view : (state_of c.evict_one.new.self).view ≡ e.view = ap (λ s. s.view) e.after in
    rw view (omega arith)

pub loop-self-preserved : goal.loop-self-preserved
loop-self-preserved g c =
    let m = at_moment c.args.now (meaning_of c.args.self.now) in
    let old = state_of c.args.self.now in
    let mid = state_of c.loop-self.self in
    let new = state_of c.evict_one.new.self in
    let e : EvictsOne m mid c.in-Ok-Some.left new = rw c.in-Ok-Some.field-0-is at c.in-Ok-Some.ensures.some in
    let inv = c.loop-self.invariant in
    let above : c.args.target < usage_of m mid =
    subst (λ (n : ℕ). c.args.target < n) c.loop-self.self.weighed c.loop-self-test.true in
    record {
      begun = rw (c.push_reserved.ensures.items, c.in-Ok.ensures.items)
          (goes_more c.args.leaves.now.items c.loop-self.leaves.items (λ ls. Begun m c.args.target old ls mid)
          (λ ls. Begun m c.args.target old ls new) (Evict, c.in-Ok-Some.left)
          (λ ls h. begun-evicts m (timed_lawful c.args.now g.E.Eviction.model g.met.E.Eviction.lawful) c.args.target old ls mid h above c.in-Ok-Some.left new e)
          inv.begun);
      one_more = λ h. omega (arith, c.in-Ok.ensures.ok, c.push_reserved.ensures.len, c.push_reserved.ensures.capacity);
      room = λ r. c.in-Ok-Some.ensures.room (inv.room r);
      places = λ h. c.in-Ok-Some.ensures.places (inv.places h);
    }

pub returns-in-Ok-None-clause-done : goal.returns-in-Ok-None-clause-done
returns-in-Ok-None-clause-done g c =
    let m = at_moment c.args.now (meaning_of c.args.self.now) in
    let old = state_of c.args.self.now in
    let mid = state_of c.loop-self.self in
    let none = rw c.in-Ok-None.field-0-is at c.in-Ok-None.ensures.none in
    rw (c.in-Ok.ensures.items, none.1)
    (goes_so c.args.leaves.now.items c.loop-self.leaves.items (λ ls. Begun m c.args.target old ls mid)
    (λ ls. Evicts m c.args.target old ls mid)
    (λ ls h. begun-none m c.args.target old ls mid h none.0) c.loop-self.invariant.begun)

pub returns-clause-done : goal.returns-clause-done
returns-clause-done g c =
    let m = at_moment c.args.now (meaning_of c.args.self.now) in
    let old = state_of c.args.self.now in
    let mid = state_of c.loop-self.self in
    let low : usage_of m mid ≤ c.args.target =
    subst (λ (n : ℕ). n ≤ c.args.target) c.loop-self.self.weighed c.loop-self-test.false in
    goes_so c.args.leaves.now.items c.loop-self.leaves.items (λ ls. Begun m c.args.target old ls mid)
    (λ ls. Evicts m c.args.target old ls mid)
    (λ ls h. begun-low m c.args.target old ls mid h low) c.loop-self.invariant.begun
