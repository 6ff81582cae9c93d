use Rattle.std.proofs.Common.{◌≡◌, ℕ, Some}
use Rattle.foyer_core.specs.Stores.{meaning_of}
use Rattle.foyer_core.specs.Table.{rec_of}
use Rattle.foyer_core.specs.Records.{slot_in}
use Rattle.foyer_core.proofs.Holdings.{holding}
use Rattle.foyer_core.proofs.ShardLemmas.{found}
use Rattle.foyer_core.proofs.store.Store.value.Goals as goal

pub returns : goal.returns
returns g c =
    let s = c.args.self.now in
    let k : ℕ × g.row.K.Denot = (c.args.hash, c.args.key.now) in
    let x = c.in_ok-_slot.found.now in
    let there : slot_in s.records c.in_ok-_slot._slot ≡ Some x = c.in_ok-_slot.ensures.there in
    record {
      id = x.id;
      rec = rec_of x;
      hits = c.in_ok-_slot.ensures.hits;
      there = found (meaning_of s) g.met.K.Eq.laws g.met.E.Eviction.lawful (holding s) k c.in_ok-_slot._slot
          c.in_ok-_slot.ensures.led x there;
      made = c.value.ensures;
    }
