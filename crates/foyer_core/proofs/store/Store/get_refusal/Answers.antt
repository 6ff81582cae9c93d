use Rattle.std.proofs.Common.{◌≡◌, Some, refl, arith}
use Rattle.foyer_core.specs.Stores.{meaning_of}
use Rattle.foyer_core.specs.Table.{rec_of}
use Rattle.foyer_core.specs.Records.{slot_in}
use Rattle.foyer_core.proofs.Holdings.{holding}
use Rattle.foyer_core.proofs.ShardLemmas.{found}
use Rattle.foyer_core.proofs.store.Store.get_refusal.Goals as goal

pub returns-then-handles-self-clause-some : goal.returns-then-handles-self-clause-some
returns-then-handles-self-clause-some g c =
    let s = c.args.self.now in
    let x = c.in_ok-_slot.found.now in
    let there : slot_in s.records c.in_ok-_slot._slot ≡ Some x = c.in_ok-_slot.ensures.there in
    let led = c.in_ok-_slot.ensures.led in (
      refl,
      (
        x.id,
        rec_of x,
        c.in_ok-_slot.ensures.hits,
        found (meaning_of s) g.met.K.Eq.laws g.met.E.Eviction.lawful (holding s) (c.args.hash, c.args.key.now)
            c.in_ok-_slot._slot led x there,
        omega (arith, c.handles.ensures, c.if-handles-self.true),
        refl,
      ),
    )
