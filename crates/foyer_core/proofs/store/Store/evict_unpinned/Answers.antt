use Rattle.std.proofs.Common.{◌≡◌, ap, arith}
use Rattle.foyer_policy.specs.declared.types.Event.TheVariants.{Evict}
use Rattle.foyer_core.specs.Steps.{EvictsOne}
use Rattle.foyer_core.specs.Bulk.{EvictsUnpinned, EvictingUnpinned}
use Rattle.foyer_core.specs.State.{at_moment}
use Rattle.foyer_core.specs.Stores.{meaning_of, state_of}
use Rattle.foyer_core.proofs.Evictions.{popped_shorter}
use Rattle.foyer_core.proofs.Moments.{timed_lawful}
use Rattle.foyer_core.proofs.Told.{goes_start, goes_more, goes_so}
use Rattle.foyer_core.proofs.Unpinned.{BegunAll, all-start, all-refused, all-none, all-evicts}
use Rattle.foyer_core.proofs.store.Store.evict_unpinned.Goals as goal

pub loop-self-init : goal.loop-self-init
loop-self-init g c =
    let s = c.args.self.now in
    goes_start c.args.leaves.now.items (λ ls. BegunAll (at_moment c.args.now (meaning_of s)) (state_of s) ls (state_of s))
    (all-start (at_moment c.args.now (meaning_of s)) (state_of s))

pub returns-in_default-clause-refused : goal.returns-in_default-clause-refused
returns-in_default-clause-refused g c =
    let m = at_moment c.args.now (meaning_of c.args.self.now) in
    let old = state_of c.args.self.now in
    let mid = state_of c.loop-self.self in
    rw c.reserve.ensures.items
    (goes_so c.args.leaves.now.items c.loop-self.leaves.items (λ ls. BegunAll m old ls mid)
    (λ ls. EvictingUnpinned m old ls mid)
    (λ ls h. all-refused m old ls mid h) c.loop-self.invariant)

pub loop-self-smaller : goal.loop-self-smaller
loop-self-smaller g c =
    let m = at_moment c.args.now (meaning_of c.args.self.now) in
    let e : EvictsOne m (state_of c.loop-self.self) c.in-Ok-Some.left (state_of c.evict_one.new.self) =
    rw c.in-Ok-Some.field-0-is at c.in-Ok-Some.ensures.some in
    let shorter = popped_shorter m (timed_lawful c.args.now g.E.Eviction.model g.met.E.Eviction.lawful) (state_of c.loop-self.self) e.item e.view e.popped in
    let view : (state_of c.evict_one.new.self).view ≡ e.view = ap (λ s. s.view) e.after in
    rw view (omega arith)

pub loop-self-preserved : goal.loop-self-preserved
loop-self-preserved g c =
    let m = at_moment c.args.now (meaning_of c.args.self.now) in
    let old = state_of c.args.self.now in
    let mid = state_of c.loop-self.self in
    let new = state_of c.evict_one.new.self in
    let e : EvictsOne m mid c.in-Ok-Some.left new = rw c.in-Ok-Some.field-0-is at c.in-Ok-Some.ensures.some in
    rw (c.push_reserved.ensures.items, c.reserve.ensures.items)
    (goes_more c.args.leaves.now.items c.loop-self.leaves.items (λ ls. BegunAll m old ls mid)
    (λ ls. BegunAll m old ls new) (Evict, c.in-Ok-Some.left)
    (λ ls h. all-evicts m (timed_lawful c.args.now g.E.Eviction.model g.met.E.Eviction.lawful) old ls mid h c.in-Ok-Some.left new e) c.loop-self.invariant)

pub returns-in-Ok-None-clause-done : goal.returns-in-Ok-None-clause-done
returns-in-Ok-None-clause-done g c =
    let m = at_moment c.args.now (meaning_of c.args.self.now) in
    let old = state_of c.args.self.now in
    let mid = state_of c.loop-self.self in
    let none = rw c.in-Ok-None.field-0-is at c.in-Ok-None.ensures.none in
    rw (c.reserve.ensures.items, none.1)
    (goes_so c.args.leaves.now.items c.loop-self.leaves.items (λ ls. BegunAll m old ls mid)
    (λ ls. EvictsUnpinned m old ls mid)
    (λ ls h. all-none m old ls mid h none.0) c.loop-self.invariant)

pub returns-in-Err-clause-refused : goal.returns-in-Err-clause-refused
returns-in-Err-clause-refused g c =
    let m = at_moment c.args.now (meaning_of c.args.self.now) in
    let old = state_of c.args.self.now in
    let mid = state_of c.loop-self.self in
    rw (c.reserve.ensures.items, c.in-Err.ensures.err)
    (goes_so c.args.leaves.now.items c.loop-self.leaves.items (λ ls. BegunAll m old ls mid)
    (λ ls. EvictingUnpinned m old ls mid)
    (λ ls h. all-refused m old ls mid h) c.loop-self.invariant)
