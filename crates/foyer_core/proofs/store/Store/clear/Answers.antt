use Rattle.std.proofs.Common.{[], sym, arith}
use Rattle.foyer_core.specs.Stores.{meaning_of, state_of}
use Rattle.foyer_core.specs.Stored.{state}
use Rattle.foyer_core.specs.Bulk.{Clears, Passes}
use Rattle.foyer_core.proofs.Holdings.{holding}
use Rattle.foyer_core.proofs.Told.{goes_so}
use Rattle.foyer_core.proofs.Clearing.{line, clears, cleared_kept, cleared_stored, cleared_weight, cleared_length}
use Rattle.foyer_core.proofs.store.Store.clear.Goals as goal

pub invariant_of-self : goal.invariant_of-self
invariant_of-self g c =
    let s = c.args.self.now in
    let m = meaning_of s in
    let keys = g.I.Finder.view c.leave_all.new.index in
    let t = c.leave_all.new.records in
    let view = g.E.Eviction.view c.clear.new.self in
    let all = sym c.requires.items in
    let left = c.leave_all.ensures.told
    (line m g.met.K.Eq.laws g.met.E.Eviction.lawful (holding s) c.args.items.now all keys t view
    c.clear.ensures.view) in
    record {
      sound = cleared_kept m g.met.K.Eq.laws g.met.E.Eviction.lawful (holding s) c.args.items.now all keys t view
          c.clear.ensures.view left.more left.so;
      stored = cleared_stored m g.met.K.Eq.laws g.met.E.Eviction.lawful (holding s) c.args.items.now all keys t view
          c.clear.ensures.view left.more left.so (g.E.Eviction.at c.clear.new.self) c.clear.ensures.places;
      weighed = cleared_weight m g.met.K.Eq.laws g.met.E.Eviction.lawful (holding s) c.args.items.now all keys t view
          c.clear.ensures.view;
      counted = cleared_length m g.met.K.Eq.laws g.met.E.Eviction.lawful (holding s) c.args.items.now all keys t view
          c.clear.ensures.view;
      numbered = omega arith;
    }

pub returns-clause-told : goal.returns-clause-told
returns-clause-told g c =
    let s = c.args.self.now in
    let m = meaning_of s in
    let keys = g.I.Finder.view c.leave_all.new.index in
    let t = c.leave_all.new.records in
    let view = g.E.Eviction.view c.clear.new.self in
    let all = sym c.requires.items in
    let line' = line m g.met.K.Eq.laws g.met.E.Eviction.lawful (holding s) c.args.items.now all keys t view
    c.clear.ensures.view in
    goes_so c.args.leaves.now.items c.leave_all.new.leaves.items (λ ls. Passes m line' c.args.items.now [] ls keys t)
    (λ ls. Clears m (state_of s) ls (state s.number s.capacity s.limits view keys t s.next))
    (λ ls p. clears m g.met.K.Eq.laws g.met.E.Eviction.lawful (holding s) c.args.items.now all keys t view
    c.clear.ensures.view ls p)
    (c.leave_all.ensures.told line')
