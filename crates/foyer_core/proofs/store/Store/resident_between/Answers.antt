use Rattle.std.proofs.Common.{◌≡◌, ◌∙◌, Some, sym}
use Rattle.foyer_core.specs.Records.{slot_in}
use Rattle.foyer_core.specs.Stores.{meaning_of}
use Rattle.foyer_core.proofs.Holdings.{holding}
use Rattle.foyer_core.proofs.Naming.{names_slot}
use Rattle.foyer_core.proofs.store.Store.resident_between.Goals as goal

pub returns-in-Some-clause-some : goal.returns-in-Some-clause-some
returns-in-Some-clause-some g c =
    let s = c.args.self.now in
    let x = c.in-Some.found.now in
    let there : slot_in s.records c.loop-slot.slot ≡ Some x = sym (rw c.in-Some.is at c.get.ensures) in
    names_slot (meaning_of s) (holding s) c.loop-slot.slot x there (sym c.is_resident.ensures ∙ c.if-is_resident.true)
    (record { hash = c.hash-hash.result; id = c.id-id.result; slot = c.loop-slot.slot }) c.id-id.ensures c.hash-hash.ensures
