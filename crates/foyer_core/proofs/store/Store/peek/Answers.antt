use Rattle.std.proofs.Common.{◌≡◌, ℕ, Some, refl, subst}
use Rattle.std.specs.Fn.{FnOnceReturnsAt}
use Rattle.std.proofs.lemmas.Fn.{gave_at}
use Rattle.foyer_core.specs.Stores.{meaning_of}
use Rattle.foyer_core.specs.Table.{rec_of}
use Rattle.foyer_core.specs.Records.{slot_in}
use Rattle.foyer_core.proofs.Holdings.{holding}
use Rattle.foyer_core.proofs.ShardLemmas.{found}
use Rattle.foyer_core.proofs.store.Store.peek.Goals as goal

pub returns : goal.returns
returns g c =
    let s = c.args.self.now in
    let k : ℕ × g.row.K.Denot = (c.args.hash, c.args.key.now) in
    let x = c.in-Some.found.now in
    let there : slot_in s.records c.in-Some._slot ≡ Some x = c.in-Some.ensures.there in
    record {
      id = x.id;
      rec = rec_of x;
      hits = c.in-Some.ensures.hits;
      there = found (meaning_of s) g.met.K.Eq.laws g.met.E.Eviction.lawful (holding s) k c.in-Some._slot
          c.in-Some.ensures.led x there;
      made = subst (λ v. FnOnceReturnsAt g.F.FnOnce c.args.look v c.look.result) c.value.ensures
          (gave_at g.F.FnOnce c.look.ensures refl);
    }
