use Rattle.std.proofs.Common.{◌≡◌, None, sym}
use Rattle.foyer_core.specs.Records.{slot_in}
use Rattle.foyer_core.proofs.StoredLemmas.{none_not}
use Rattle.foyer_core.proofs.store.Store.live_under.Goals as goal

pub unreachable-requires : goal.unreachable-requires
unreachable-requires g c =
    let s = c.args.self.now in
    let none : slot_in s.records c.in_ok-slot.slot ≡ None = sym (rw c.in_default.is at c.get.ensures) in
    none_not (slot_in s.records c.in_ok-slot.slot)
    (s.stored.led (c.args.hash, c.args.key.now) c.in_ok-slot.slot (sym c.in_ok-slot.ensures)) none
