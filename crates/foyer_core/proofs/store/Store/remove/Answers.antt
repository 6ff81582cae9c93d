use Rattle.std.proofs.Common.{◌≡◌, ◌<◌, ℕ, Some, None, refl, sym, ◌∙◌, ap, subst, arith, rules}
use Rattle.std.specs.Prelude.{Option, IsSomeAnd, true}
use Rattle.foyer_policy.specs.Policy.{without}
use Rattle.foyer_policy.specs.declared.types.Item.{Item}
use Rattle.foyer_core.specs.Values.{Kept}
use Rattle.foyer_core.specs.Stores.{meaning_of, state_of}
use Rattle.foyer_core.specs.Table.{rec_of}
use Rattle.foyer_core.specs.Records.{slot_in}
use Rattle.foyer_core.proofs.StoredLemmas.{none_not}
use Rattle.foyer_core.proofs.Holdings.{holding}
use Rattle.foyer_core.proofs.ShardLemmas.{hits, found, resident, placed}
use Rattle.foyer_core.proofs.Removed.{some_item, more_there, removed_lighter, removed_usage, removed_entries, removed_kept, removed_stored, removes}
use Rattle.foyer_core.proofs.store.Store.remove.Goals as goal

pub unreachable-requires : goal.unreachable-requires
unreachable-requires g c =
    let s = c.args.self.now in
    let none : slot_in s.records c.in-Some.slot ≡ None = sym (rw c.in_default-get.is at c.get.ensures) in
    none_not (slot_in s.records c.in-Some.slot)
    (s.stored.led (c.args.hash, c.args.key.now) c.in-Some.slot (sym c.slot_under.ensures ∙ c.in-Some.is)) none

pub returns-then-handles-self : goal.returns-then-handles-self
returns-then-handles-self g c =
    let s = c.args.self.now in
    let lawful = g.met.E.Eviction.lawful in
    let laws = g.met.K.Eq.laws in
    let k : ℕ × g.row.K.Denot = (c.args.hash, c.args.key.now) in
    let x = c.in-Some-get.found.now in
    let there : slot_in s.records c.in-Some.slot ≡ Some x = sym (rw c.in-Some-get.is at c.get.ensures) in
    let led = sym c.slot_under.ensures ∙ c.in-Some.is in
    rw c.new.ensures record {
      removes = (
        x.id,
        hits (meaning_of s) laws lawful (holding s) k c.in-Some.slot led x there,
        (
          rec_of x,
          found (meaning_of s) laws lawful (holding s) k c.in-Some.slot led x there,
          omega (arith, c.handles.ensures, c.if-handles-self.true),
          refl,
        ),
      );
    }

pub returns-in_default-entry : goal.returns-in_default-entry
returns-in_default-entry g c =
    let s = c.args.self.now in
    let lawful = g.met.E.Eviction.lawful in
    let laws = g.met.K.Eq.laws in
    let k : ℕ × g.row.K.Denot = (c.args.hash, c.args.key.now) in
    let x = c.in-Some-get.found.now in
    let there : slot_in s.records c.in-Some.slot ≡ Some x = sym (rw c.in-Some-get.is at c.get.ensures) in
    let led = sym c.slot_under.ensures ∙ c.in-Some.is in
    rw c.new-in_default-entry.ensures record {
      removes = (
        x.id,
        hits (meaning_of s) laws lawful (holding s) k c.in-Some.slot led x there,
        (
          rec_of x,
          found (meaning_of s) laws lawful (holding s) k c.in-Some.slot led x there,
          omega
              (arith, c.handles.ensures, c.if-handles-self.false),
          refl,
        ),
      );
    }

pub remove-item-requires : goal.remove-item-requires
remove-item-requires g c =
    let s = c.args.self.now in
    let k : ℕ × g.row.K.Denot = (c.args.hash, c.args.key.now) in
    let x = c.in-Some-get.found.now in
    let there : slot_in s.records c.in-Some.slot ≡ Some x = sym (rw c.in-Some-get.is at c.get.ensures) in
    let at = ap (g.E.Eviction.at s.eviction) c.at.ensures
    ∙ placed (meaning_of s) g.met.K.Eq.laws g.met.E.Eviction.lawful (holding s) k c.in-Some.slot
    (sym c.slot_under.ensures ∙ c.in-Some.is) x there in
    rw at (search rules)

pub overflow_sub-self : goal.overflow_sub-self
overflow_sub-self g c =
    let s = c.args.self.now in
    let lawful = g.met.E.Eviction.lawful in
    let laws = g.met.K.Eq.laws in
    let k : ℕ × g.row.K.Denot = (c.args.hash, c.args.key.now) in
    let x = c.in-Some-get.found.now in
    let there : slot_in s.records c.in-Some.slot ≡ Some x = sym (rw c.in-Some-get.is at c.get.ensures) in
    let led = sym c.slot_under.ensures ∙ c.in-Some.is in
    let at = ap (g.E.Eviction.at s.eviction) c.at.ensures
    ∙ placed (meaning_of s) laws lawful (holding s) k c.in-Some.slot led x there in
    let item = some_item (sym c.remove-item.ensures.item ∙ at) in
    rw item (removed_lighter (meaning_of s) laws lawful (holding s) k c.in-Some.slot led x there s.usage s.weighed)

pub leave-requires : goal.leave-requires
leave-requires g c =
    let s = c.args.self.now in
    let k : ℕ × g.row.K.Denot = (c.args.hash, c.args.key.now) in
    let x = c.in-Some-get.found.now in
    let there : slot_in s.records c.in-Some.slot ≡ Some x = sym (rw c.in-Some-get.is at c.get.ensures) in
    let res = resident (meaning_of s) g.met.K.Eq.laws g.met.E.Eviction.lawful (holding s) k c.in-Some.slot
    (sym c.slot_under.ensures ∙ c.in-Some.is) x there in
    let there1 = more_there s.records c.add_handle.new.self c.in-Some.slot x (c.add_handle.ensures.slots x there) in
    subst (λ (o : Option (Kept g.row.K.Denot g.row.V.Denot g.row.P.Denot)). IsSomeAnd o (λ y. y.resident ≡ true))
    (sym there1) res

pub invariant_of-self : goal.invariant_of-self
invariant_of-self g c =
    let s = c.args.self.now in
    let lawful = g.met.E.Eviction.lawful in
    let laws = g.met.K.Eq.laws in
    let m = meaning_of s in
    let k : ℕ × g.row.K.Denot = (c.args.hash, c.args.key.now) in
    let x = c.in-Some-get.found.now in
    let there : slot_in s.records c.in-Some.slot ≡ Some x = sym (rw c.in-Some-get.is at c.get.ensures) in
    let led = sym c.slot_under.ensures ∙ c.in-Some.is in
    let at = ap (g.E.Eviction.at s.eviction) c.at.ensures
    ∙ placed m laws lawful (holding s) k c.in-Some.slot led x there in
    let item = some_item (sym c.remove-item.ensures.item ∙ at) in
    let view = g.E.Eviction.view c.remove-item.new.self in
    let viewed : view ≡ m.policy.remove (g.E.Eviction.view s.eviction) x.id = c.remove-item.ensures.view ∙ ap
    (λ (i : Item). m.policy.remove (g.E.Eviction.view s.eviction) i.id) item in
    let places : (p : ℕ) → g.E.Eviction.at c.remove-item.new.self p ≡ without x.id (g.E.Eviction.at s.eviction p) =
    λ p. c.remove-item.ensures.places p ∙ ap (λ (i : Item). without i.id (g.E.Eviction.at s.eviction p)) item in
    let write1 = c.add_handle.ensures.slots x there in
    let there1 = more_there s.records c.add_handle.new.self c.in-Some.slot x write1 in
    let room : x.handles < s.limits.handles = omega (arith, c.handles.ensures, c.if-handles-self.false) in
    record {
      sound = removed_kept m laws lawful (holding s) k c.in-Some.slot led x there room c.add_handle.new.self
          c.leave.new.self write1 c.add_handle.ensures.ids (c.leave.ensures.slots _ there1)
          (c.leave.ensures.records _ there1) (g.I.Finder.view c.take.new.self) c.take.ensures
          (g.E.Eviction.at c.remove-item.new.self) places view viewed;
      stored = removed_stored m laws lawful (holding s) k c.in-Some.slot led x there room c.add_handle.new.self
          c.leave.new.self write1 c.add_handle.ensures.ids (c.leave.ensures.slots _ there1)
          (c.leave.ensures.records _ there1) (g.I.Finder.view c.take.new.self) c.take.ensures
          (g.E.Eviction.at c.remove-item.new.self) places view viewed;
      weighed = rw (item, viewed)
          (removed_usage m laws lawful (holding s) k c.in-Some.slot led x there s.usage s.weighed);
      counted = rw viewed (removed_entries m laws lawful (holding s) k c.in-Some.slot led x there s.entries s.counted);
      numbered = omega (arith, s.numbered);
    }

pub returns : goal.returns
returns g c =
    let s = c.args.self.now in
    let lawful = g.met.E.Eviction.lawful in
    let laws = g.met.K.Eq.laws in
    let m = meaning_of s in
    let k : ℕ × g.row.K.Denot = (c.args.hash, c.args.key.now) in
    let x = c.in-Some-get.found.now in
    let there : slot_in s.records c.in-Some.slot ≡ Some x = sym (rw c.in-Some-get.is at c.get.ensures) in
    let led = sym c.slot_under.ensures ∙ c.in-Some.is in
    let at = ap (g.E.Eviction.at s.eviction) c.at.ensures
    ∙ placed m laws lawful (holding s) k c.in-Some.slot led x there in
    let item = some_item (sym c.remove-item.ensures.item ∙ at) in
    let view = g.E.Eviction.view c.remove-item.new.self in
    let viewed : view ≡ m.policy.remove (g.E.Eviction.view s.eviction) x.id = c.remove-item.ensures.view ∙ ap
    (λ (i : Item). m.policy.remove (g.E.Eviction.view s.eviction) i.id) item in
    let places : (p : ℕ) → g.E.Eviction.at c.remove-item.new.self p ≡ without x.id (g.E.Eviction.at s.eviction p) =
    λ p. c.remove-item.ensures.places p ∙ ap (λ (i : Item). without i.id (g.E.Eviction.at s.eviction p)) item in
    let write1 = c.add_handle.ensures.slots x there in
    let there1 = more_there s.records c.add_handle.new.self c.in-Some.slot x write1 in
    let room : x.handles < s.limits.handles = omega (arith, c.handles.ensures, c.if-handles-self.false) in
    rw (c.in-Some-entry.ensures, c.leave.ensures.left _ there1) record {
      removes = removes m laws lawful (holding s) k c.in-Some.slot led x there room c.add_handle.new.self
          c.leave.new.self write1 c.add_handle.ensures.ids (c.leave.ensures.slots _ there1)
          (c.leave.ensures.records _ there1) (g.I.Finder.view c.take.new.self) c.take.ensures
          (g.E.Eviction.at c.remove-item.new.self) places view viewed;
    }
