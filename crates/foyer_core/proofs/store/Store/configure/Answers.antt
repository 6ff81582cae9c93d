use Rattle.std.proofs.Common.{Some, refl}
use Rattle.foyer_core.specs.Stores.{meaning_of}
use Rattle.foyer_core.proofs.Holdings.{holding}
use Rattle.foyer_core.proofs.LeftLemmas.{still_stored}
use Rattle.foyer_core.proofs.Views.{update_kept, update_weighed, update_counted}
use Rattle.foyer_core.proofs.store.Store.configure.Goals as goal

pub invariant_of-self : goal.invariant_of-self
invariant_of-self g c =
    let s = c.args.self.now in
    let m = meaning_of s in
    let config = Some c.args.config.now in
    let v = g.E.Eviction.view c.tell_config.new.eviction in
    let same = c.tell_config.ensures.view in
    record {
      sound = update_kept m g.met.K.Eq.laws g.met.E.Eviction.lawful (holding s) s.capacity config v same;
      stored = still_stored m g.met.K.Eq.laws g.met.E.Eviction.lawful (holding s) (g.E.Eviction.view s.eviction) refl
          (g.E.Eviction.at c.tell_config.new.eviction) c.tell_config.ensures.places;
      weighed = update_weighed m g.met.K.Eq.laws g.met.E.Eviction.lawful (holding s) s.capacity config v same s.usage
          s.weighed;
      counted = update_counted m g.met.K.Eq.laws g.met.E.Eviction.lawful (holding s) s.capacity config v same
          s.entries s.counted;
      numbered = s.numbered;
    }
