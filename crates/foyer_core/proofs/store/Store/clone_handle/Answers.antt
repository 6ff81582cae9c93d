use Rattle.std.proofs.Common.{◌≡◌, Some, refl, sym, ◌∙◌, arith}
use Rattle.foyer_core.specs.Stores.{meaning_of, state_of}
use Rattle.foyer_core.specs.Steps.{ClonesHandle}
use Rattle.foyer_core.specs.Table.{rec_of}
use Rattle.foyer_core.specs.Records.{slot_in, number_of}
use Rattle.foyer_core.proofs.Holdings.{holding}
use Rattle.foyer_core.proofs.StoredLemmas.{err_is}
use Rattle.foyer_core.proofs.Cloned.{record_named, cloned_named, cloned_kept, cloned_stored}
use Rattle.foyer_core.proofs.store.Store.clone_handle.Goals as goal

pub returns-then-handles-self : goal.returns-then-handles-self
returns-then-handles-self g c =
    let s = c.args.self.now in
    let named : number_of s.records c.args.entry.now.id ≡ Some c.in-Some.slot =
    rw c.id.ensures at (sym c.find.ensures ∙ c.in-Some.is) in
    let x = c.in-Some-get.found.now in
    let there : slot_in s.records c.in-Some.slot ≡ Some x = sym (rw c.in-Some-get.is at c.get.ensures) in
    rw c.new.ensures
    record {
      clones = (
        rec_of x,
        record_named s.records c.args.entry.now.id c.in-Some.slot named x there,
        omega (arith, c.handles.ensures, c.if-handles-self.true),
        refl,
      );
    }

pub returns-in_err-clone : goal.returns-in_err-clone
returns-in_err-clone g c =
    let s = c.args.self.now in
    let named : number_of s.records c.args.entry.now.id ≡ Some c.in-Some.slot =
    rw c.id.ensures at (sym c.find.ensures ∙ c.in-Some.is) in
    let x = c.in-Some-get.found.now in
    let there : slot_in s.records c.in-Some.slot ≡ Some x = sym (rw c.in-Some-get.is at c.get.ensures) in
    record {
      clones = err_is c.from_residual.result c.in_err-clone.field-0.0
          (λ r. ClonesHandle (state_of s) c.args.entry.now r (state_of s)) c.from_residual.ensures.1
          (rw c.in_err-clone.ensures.refused (
            rec_of x,
            record_named s.records c.args.entry.now.id c.in-Some.slot named x there,
            omega (arith, c.handles.ensures, c.if-handles-self.false),
            refl,
          ));
    }

pub invariant_of-self : goal.invariant_of-self
invariant_of-self g c =
    let s = c.args.self.now in
    let m = meaning_of s in
    let x = c.in-Some-get.found.now in
    let there : slot_in s.records c.in-Some.slot ≡ Some x = sym (rw c.in-Some-get.is at c.get.ensures) in
    let t = c.add_handle.new.self in
    let write = c.add_handle.ensures.slots x there in
    record {
      sound = cloned_kept m g.met.K.Eq.laws g.met.E.Eviction.lawful (holding s) c.in-Some.slot x there t write
          c.add_handle.ensures.ids (omega (arith, c.handles.ensures, c.if-handles-self.false));
      stored = cloned_stored m g.met.K.Eq.laws g.met.E.Eviction.lawful (holding s) c.in-Some.slot x there t write
          c.add_handle.ensures.ids;
      weighed = s.weighed;
      counted = s.counted;
      numbered = s.numbered;
    }

pub returns : goal.returns
returns g c =
    let s = c.args.self.now in
    let m = meaning_of s in
    let named : number_of s.records c.args.entry.now.id ≡ Some c.in-Some.slot =
    rw c.id.ensures at (sym c.find.ensures ∙ c.in-Some.is) in
    let x = c.in-Some-get.found.now in
    let there : slot_in s.records c.in-Some.slot ≡ Some x = sym (rw c.in-Some-get.is at c.get.ensures) in
    let write = c.add_handle.ensures.slots x there in
    rw c.in_ok-clone.ensures.entry record {
      clones = (
        rec_of x,
        record_named s.records c.args.entry.now.id c.in-Some.slot named x there,
        omega (arith, c.handles.ensures, c.if-handles-self.false),
        refl,
        cloned_named m g.met.K.Eq.laws g.met.E.Eviction.lawful (holding s) c.in-Some.slot x there
            c.add_handle.new.self write c.add_handle.ensures.ids c.args.entry.now.id named,
      );
    }
