use Rattle.std.proofs.Common.{arith}
use Rattle.foyer_core.specs.Stored.{meaning}
use Rattle.foyer_core.proofs.Opening.{opened_kept, opened_stored, opened_weight, opened_entries}
use Rattle.foyer_core.proofs.store.Store.new.Goals as goal

pub invariant_of-result : goal.invariant_of-result
invariant_of-result g c =
    let m = meaning g.K.PartialEq.eq g.E.Eviction.model g.P.Properties.hint_of g.P.Properties.phantom_of g.P.Properties.expiry_of in
    let s = c.in_ok-eviction.eviction in
    let keys = g.I.Finder.view c.args.index in
    let t = c.new-2.result in
    let sound = c.in_ok-eviction.ensures.accepted in
    record {
      sound = opened_kept m keys t c.requires c.new-2.ensures.slots c.new-2.ensures.ids g.met.K.Eq.laws
          g.met.E.Eviction.lawful c.args.capacity c.args.config.now (g.E.Eviction.view s) sound
          c.in_ok-eviction.ensures.view c.args.number c.args.limits;
      stored = opened_stored m keys t c.requires c.new-2.ensures.slots c.new-2.ensures.ids (g.E.Eviction.at s)
          c.in_ok-eviction.ensures.places;
      weighed = opened_weight m keys t c.requires c.new-2.ensures.slots c.new-2.ensures.ids g.met.K.Eq.laws
          g.met.E.Eviction.lawful c.args.capacity c.args.config.now (g.E.Eviction.view s) sound
          c.in_ok-eviction.ensures.view;
      counted = opened_entries m keys t c.requires c.new-2.ensures.slots c.new-2.ensures.ids g.met.K.Eq.laws
          g.met.E.Eviction.lawful c.args.capacity c.args.config.now (g.E.Eviction.view s) sound
          c.in_ok-eviction.ensures.view;
      numbered = omega arith;
    }
