use Rattle.std.proofs.Common.{◌≡◌, ℕ, Some, None, refl, sym, ◌∙◌, ap, subst, arith, rules, true}
use Rattle.foyer_core.specs.Stores.{meaning_of, state_of}
use Rattle.foyer_core.specs.Steps.{GivesBack}
use Rattle.foyer_core.specs.Records.{slot_in, number_of}
use Rattle.foyer_core.proofs.Holdings.{holding}
use Rattle.foyer_core.proofs.StoredLemmas.{none_not, item_there}
use Rattle.foyer_core.proofs.GivingBack.{
  named_there,
  named_id,
  took_stored,
  took_kept,
  took_gives,
  released_kept,
  released_gives,
  released_weight,
  released_entries,
}
use Rattle.foyer_core.proofs.store.Store.take_back_at.Goals as goal

pub unreachable-requires : goal.unreachable-requires
unreachable-requires g c =
    let s = c.args.self.now in
    let named : number_of s.records c.args.id ≡ Some c.in-Some.slot = sym c.find.ensures ∙ c.in-Some.is in
    let none : slot_in s.records c.in-Some.slot ≡ None = sym (rw c.in_default-get.is at c.get.ensures) in
    none_not (slot_in s.records c.in-Some.slot) (named_there s.records c.args.id c.in-Some.slot named) none

pub invariant_of-self : goal.invariant_of-self
invariant_of-self g c =
    let s = c.args.self.now in
    let lawful = g.met.E.Eviction.lawful in
    let laws = g.met.K.Eq.laws in
    let m = meaning_of s in
    let x = c.in-Some-get.found.now in
    let there : slot_in s.records c.in-Some.slot ≡ Some x = sym (rw c.in-Some-get.is at c.get.ensures) in
    let t = c.take_handle.new.self in
    let write = c.take_handle.ensures.slots x there in
    record {
      sound = took_kept m laws lawful (holding s) c.in-Some.slot x there t write c.take_handle.ensures.ids
          (omega (arith, c.handles-handles.ensures, c.if-handles-gt1.true));
      stored = took_stored m laws lawful (holding s) c.in-Some.slot x there t write c.take_handle.ensures.ids
          (g.E.Eviction.at s.eviction) (λ p. refl);
      weighed = s.weighed;
      counted = s.counted;
      numbered = s.numbered;
    }

pub returns-then-handles-gt1-clause-taken : goal.returns-then-handles-gt1-clause-taken
returns-then-handles-gt1-clause-taken g c =
    let s = c.args.self.now in
    let m = meaning_of s in
    let named : number_of s.records c.args.id ≡ Some c.in-Some.slot =
    sym c.find.ensures ∙ c.in-Some.is in
    let x = c.in-Some-get.found.now in
    let there : slot_in s.records c.in-Some.slot ≡ Some x = sym (rw c.in-Some-get.is at c.get.ensures) in
    let t = c.take_handle.new.self in
    let write = c.take_handle.ensures.slots x there in
    took_gives m g.met.K.Eq.laws g.met.E.Eviction.lawful (holding s) c.in-Some.slot x there t write
    c.take_handle.ensures.ids (omega (arith, c.handles-handles.ensures, c.if-handles-gt1.true)) c.args.id named

pub returns-then-not-is_resident-clause-taken : goal.returns-then-not-is_resident-clause-taken
returns-then-not-is_resident-clause-taken g c =
    let s = c.args.self.now in
    let named : number_of s.records c.args.id ≡ Some c.in-Some.slot =
    sym c.find.ensures ∙ c.in-Some.is in
    let x = c.in-Some-get.found.now in
    let there : slot_in s.records c.in-Some.slot ≡ Some x = sym (rw c.in-Some-get.is at c.get.ensures) in
    subst (λ (id : ℕ). GivesBack (meaning_of s) (state_of s) id c.forget.result (state_of c.forget.new.self))
    (named_id s.records c.args.id c.in-Some.slot named x there) (c.forget.ensures x there)

pub release-requires : goal.release-requires
release-requires g c =
    let s = c.args.self.now in
    let x = c.in-Some-get.found.now in
    let there : slot_in s.records c.in-Some.slot ≡ Some x = sym (rw c.in-Some-get.is at c.get.ensures) in
    let res : x.resident ≡ true = sym c.is_resident.ensures ∙ c.if-not-is_resident.false in
    let at = ap (g.E.Eviction.at s.eviction) c.at.ensures ∙ item_there (meaning_of s) (g.E.Eviction.at s.eviction) (g.I.Finder.view s.index) s.records s.stored
    c.in-Some.slot x there res in
    rw at (search rules)

pub invariant_of-self-2 : goal.invariant_of-self-2
invariant_of-self-2 g c =
    let s = c.args.self.now in
    let lawful = g.met.E.Eviction.lawful in
    let laws = g.met.K.Eq.laws in
    let m = meaning_of s in
    let x = c.in-Some-get.found.now in
    let there : slot_in s.records c.in-Some.slot ≡ Some x = sym (rw c.in-Some-get.is at c.get.ensures) in
    let res : x.resident ≡ true = sym c.is_resident.ensures ∙ c.if-not-is_resident.false in
    let one : x.handles ≡ 1 =
    omega (arith, c.handles-handles.ensures, c.if-handles-eq0.false, c.if-handles-gt1.false) in
    let at = ap (g.E.Eviction.at s.eviction) c.at.ensures ∙ item_there m (g.E.Eviction.at s.eviction) (g.I.Finder.view s.index) s.records s.stored c.in-Some.slot x there res in
    let view = g.E.Eviction.view c.release.new.self in
    let viewed : view ≡ m.policy.release (g.E.Eviction.view s.eviction) x.id = rw at at c.release.ensures.view in
    let t = c.take_handle-2.new.self in
    let write = c.take_handle-2.ensures.slots x there in
    record {
      sound = released_kept m laws lawful (holding s) c.in-Some.slot x there t write c.take_handle-2.ensures.ids one
          res view viewed;
      stored = took_stored m laws lawful (holding s) c.in-Some.slot x there t write c.take_handle-2.ensures.ids
          (g.E.Eviction.at c.release.new.self) c.release.ensures.places;
      weighed = released_weight m laws lawful (holding s) c.in-Some.slot x there t write c.take_handle-2.ensures.ids
          one res view viewed s.usage s.weighed;
      counted = released_entries m laws lawful (holding s) c.in-Some.slot x there t write c.take_handle-2.ensures.ids
          one res view viewed s.entries s.counted;
      numbered = s.numbered;
    }

pub returns-clause-taken : goal.returns-clause-taken
returns-clause-taken g c =
    let s = c.args.self.now in
    let m = meaning_of s in
    let named : number_of s.records c.args.id ≡ Some c.in-Some.slot =
    sym c.find.ensures ∙ c.in-Some.is in
    let x = c.in-Some-get.found.now in
    let there : slot_in s.records c.in-Some.slot ≡ Some x = sym (rw c.in-Some-get.is at c.get.ensures) in
    let res : x.resident ≡ true = sym c.is_resident.ensures ∙ c.if-not-is_resident.false in
    let one : x.handles ≡ 1 =
    omega (arith, c.handles-handles.ensures, c.if-handles-eq0.false, c.if-handles-gt1.false) in
    let at = ap (g.E.Eviction.at s.eviction) c.at.ensures ∙ item_there m (g.E.Eviction.at s.eviction) (g.I.Finder.view s.index) s.records s.stored c.in-Some.slot x there res in
    let view = g.E.Eviction.view c.release.new.self in
    let viewed : view ≡ m.policy.release (g.E.Eviction.view s.eviction) x.id = rw at at c.release.ensures.view in
    let t = c.take_handle-2.new.self in
    let write = c.take_handle-2.ensures.slots x there in
    released_gives m g.met.K.Eq.laws g.met.E.Eviction.lawful (holding s) c.in-Some.slot x there t write
    c.take_handle-2.ensures.ids one res view viewed c.args.id named
