use Rattle.std.proofs.Common.{◌≡◌, Some, None, sym, ◌∙◌}
use Rattle.foyer_core.specs.Records.{slot_in}
use Rattle.foyer_core.proofs.StoredLemmas.{none_not}
use Rattle.foyer_core.proofs.store.Store.has_id.Goals as goal

pub unreachable-requires : goal.unreachable-requires
unreachable-requires g c =
    let s = c.args.self.now in
    let none : slot_in s.records c.in-Some.slot ≡ None = sym (rw c.in-None.is at c.get.ensures) in
    none_not (slot_in s.records c.in-Some.slot)
    (s.stored.led (c.args.hash, c.args.key.now) c.in-Some.slot (sym c.slot_under.ensures ∙ c.in-Some.is)) none
