use Rattle.std.proofs.Common.{◌≡◌, Some, None, true, sym, ◌∙◌, rules}
use Rattle.foyer_core.specs.Stores.{meaning_of}
use Rattle.foyer_core.specs.Records.{slot_in, number_of}
use Rattle.foyer_core.proofs.StoredLemmas.{none_not}
use Rattle.foyer_core.proofs.Holdings.{holding}
use Rattle.foyer_core.proofs.StandsLemmas.{stands_there, resident_counted}
use Rattle.foyer_core.proofs.store.Store.remove_this.Goals as goal

pub unreachable-requires : goal.unreachable-requires
unreachable-requires g c =
    let s = c.args.self.now in
    let slot = c.in_ok-slot.slot in
    let known : number_of s.records c.args.hold.id ≡ Some slot = sym c.find.ensures ∙ c.in_ok-slot.was in
    none_not (slot_in s.records slot) (stands_there (meaning_of s) (holding s) c.args.hold.id slot known)
    (sym (rw c.in_default.is at c.get.ensures))

pub take_out-requires-after_bounds : goal.take_out-requires-after_bounds
take_out-requires-after_bounds g c κs within =
    let s = c.args.self.now in
    let slot = c.in_ok-slot.slot in
    let known : number_of s.records c.args.hold.id ≡ Some slot = sym c.find.ensures ∙ c.in_ok-slot.was in
    let x = c.in-Some.found.now in
    let there : slot_in s.records slot ≡ Some x = sym (rw c.in-Some.is at c.get.ensures) in
    let resident : x.resident ≡ true = search rules in
    resident_counted (meaning_of s) (holding s) c.args.hold.id slot known x there resident
