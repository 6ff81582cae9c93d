use Rattle.std.proofs.Common.{◌≡◌, ◌+◌, Some, refl, sym, ◌∙◌, arith}
use Rattle.foyer_core.specs.Stores.{meaning_of, state_of}
use Rattle.foyer_core.specs.Table.{rec_of}
use Rattle.foyer_core.specs.Records.{slot_in}
use Rattle.foyer_core.proofs.Cloned.{gained_after, gained_kept, gained_stored}
use Rattle.foyer_core.proofs.Holdings.{holding}
use Rattle.foyer_core.proofs.InflightLemmas.{one}
use Rattle.foyer_core.proofs.StoredLemmas.{slot_record}
use Rattle.foyer_core.proofs.store.Store.hand_out.Goals as goal

pub invariant_of-self : goal.invariant_of-self
invariant_of-self g c =
    let s = c.args.self.now in
    let lawful = g.met.E.Eviction.lawful in
    let laws = g.met.K.Eq.laws in
    let m = meaning_of s in
    let x = c.in-Some.found.now in
    let there : slot_in s.records c.args.slot ≡ Some x = sym (rw c.in-Some.is at c.get.ensures) in
    let rec : (state_of s).records x.id ≡ Some (rec_of x) = slot_record m (g.E.Eviction.at s.eviction)
    (g.I.Finder.view s.index) s.records c.args.slot x there in
    let t = c.add_handles.new.self in
    let write = c.add_handles.ensures.slots x there in
    record {
      sound = gained_kept m laws lawful (holding s) c.args.slot x there (1 + c.args.further.count) t write
          c.add_handles.ensures.ids (omega arith) (omega
          (arith, c.handles.ensures, c.passes_limit.ensures.within c.if-passes_limit.false));
      stored = gained_stored m laws lawful (holding s) c.args.slot x there (1 + c.args.further.count) t write
          c.add_handles.ensures.ids;
      weighed = s.weighed;
      counted = s.counted;
      numbered = s.numbered;
    }

pub returns-then-passes_limit-clause-handed : goal.returns-then-passes_limit-clause-handed
returns-then-passes_limit-clause-handed g c y is =
    let s = c.args.self.now in
    let m = meaning_of s in
    let x = c.in-Some.found.now in
    let there : slot_in s.records c.args.slot ≡ Some x = sym (rw c.in-Some.is at c.get.ensures) in
    let rec : (state_of s).records x.id ≡ Some (rec_of x) = slot_record m (g.E.Eviction.at s.eviction)
    (g.I.Finder.view s.index) s.records c.args.slot x there in
    let same : x ≡ y = one x y (sym there ∙ is) in
    rw (c.new.ensures, sym same)
    (rec_of x, rec, omega (arith, c.handles.ensures, c.passes_limit.ensures.passes.0 c.if-passes_limit.true), refl)

pub returns-in_default-entry-clause-handed : goal.returns-in_default-entry-clause-handed
returns-in_default-entry-clause-handed g c y is =
    let s = c.args.self.now in
    let m = meaning_of s in
    let x = c.in-Some.found.now in
    let there : slot_in s.records c.args.slot ≡ Some x = sym (rw c.in-Some.is at c.get.ensures) in
    let rec : (state_of s).records x.id ≡ Some (rec_of x) = slot_record m (g.E.Eviction.at s.eviction)
    (g.I.Finder.view s.index) s.records c.args.slot x there in
    let same : x ≡ y = one x y (sym there ∙ is) in
    rw (c.new-in_default-entry.ensures, sym same)
    (rec_of x, rec, omega (arith, c.handles.ensures, c.passes_limit.ensures.within c.if-passes_limit.false), refl)

pub returns-in_default-entries-clause-handed : goal.returns-in_default-entries-clause-handed
returns-in_default-entries-clause-handed g c y is =
    let s = c.args.self.now in
    let m = meaning_of s in
    let x = c.in-Some.found.now in
    let there : slot_in s.records c.args.slot ≡ Some x = sym (rw c.in-Some.is at c.get.ensures) in
    let rec : (state_of s).records x.id ≡ Some (rec_of x) = slot_record m (g.E.Eviction.at s.eviction)
    (g.I.Finder.view s.index) s.records c.args.slot x there in
    let same : x ≡ y = one x y (sym there ∙ is) in
    rw (c.new-in_default-entries.ensures, sym same)
    (rec_of x, rec, omega (arith, c.handles.ensures, c.passes_limit.ensures.within c.if-passes_limit.false), refl)

pub returns-clause-handed : goal.returns-clause-handed
returns-clause-handed g c y is =
    let s = c.args.self.now in
    let m = meaning_of s in
    let x = c.in-Some.found.now in
    let there : slot_in s.records c.args.slot ≡ Some x = sym (rw c.in-Some.is at c.get.ensures) in
    let rec : (state_of s).records x.id ≡ Some (rec_of x) = slot_record m (g.E.Eviction.at s.eviction)
    (g.I.Finder.view s.index) s.records c.args.slot x there in
    let same : x ≡ y = one x y (sym there ∙ is) in
    let after = gained_after m g.met.K.Eq.laws g.met.E.Eviction.lawful (holding s) c.args.slot x there
    (1 + c.args.further.count) c.add_handles.new.self (c.add_handles.ensures.slots x there)
    c.add_handles.ensures.ids in
    rw (sym same) record {
      rec = rec_of x;
      there = rec;
      may = omega (arith, c.handles.ensures, c.passes_limit.ensures.within c.if-passes_limit.false);
      leaves = refl;
      entry_is = c.in-Some-entry.ensures;
      after = after;
    }
