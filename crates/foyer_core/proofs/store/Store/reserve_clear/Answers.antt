use Rattle.foyer_core.specs.Stores.{meaning_of}
use Rattle.foyer_core.proofs.Holdings.{holding}
use Rattle.foyer_core.proofs.LeftLemmas.{still_kept, still_stored, still_weighed, still_counted}
use Rattle.foyer_core.proofs.store.Store.reserve_clear.Goals as goal

pub invariant_of-self : goal.invariant_of-self
invariant_of-self g c =
    let s = c.args.self.now in
    let m = meaning_of s in
    let view = g.E.Eviction.view c.reserve_clear.new.self in
    let same = c.reserve_clear.ensures.view in
    record {
      sound = still_kept m g.met.K.Eq.laws g.met.E.Eviction.lawful (holding s) view same;
      stored = still_stored m g.met.K.Eq.laws g.met.E.Eviction.lawful (holding s) view same
          (g.E.Eviction.at c.reserve_clear.new.self) c.reserve_clear.ensures.places;
      weighed = still_weighed m g.met.K.Eq.laws g.met.E.Eviction.lawful (holding s) view same s.usage s.weighed;
      counted = still_counted m g.met.K.Eq.laws g.met.E.Eviction.lawful (holding s) view same s.entries s.counted;
      numbered = s.numbered;
    }
