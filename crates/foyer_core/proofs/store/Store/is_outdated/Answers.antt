use Rattle.std.proofs.Common.{◌≡◌, ℕ, Some, sym, ◌∙◌, subst}
use Rattle.std.specs.Prelude.{◌↔◌, not, true}
use Rattle.foyer_core.specs.Stores.{meaning_of, state_of}
use Rattle.foyer_core.specs.Steps.{IsOutdated}
use Rattle.foyer_core.specs.Records.{slot_in, number_of}
use Rattle.foyer_core.proofs.Holdings.{holding}
use Rattle.foyer_core.proofs.GivingBack.{named_id}
use Rattle.foyer_core.proofs.Cloned.{outdated_tells, tells_not}
use Rattle.foyer_core.proofs.store.Store.is_outdated.Goals as goal

pub returns : goal.returns
returns g c =
    let s = c.args.self.now in
    let named : number_of s.records c.args.entry.now.id ≡ Some c.in-Some.slot =
    rw c.id.ensures at (sym c.find.ensures ∙ c.in-Some.is) in
    let x = c.in-Some-get.found.now in
    let there : slot_in s.records c.in-Some.slot ≡ Some x = sym (rw c.in-Some-get.is at c.get.ensures) in
    let tells = outdated_tells (meaning_of s) g.met.K.Eq.laws g.met.E.Eviction.lawful (holding s) c.in-Some.slot x
    there in
    rw c.is_resident.ensures
    (subst (λ (id : ℕ). not x.resident ≡ true ↔ IsOutdated (state_of s) id)
    (named_id s.records c.args.entry.now.id c.in-Some.slot named x there)
    (tells_not x.resident (IsOutdated (state_of s) x.id) tells))
