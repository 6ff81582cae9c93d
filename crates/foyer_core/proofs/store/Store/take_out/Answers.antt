use Rattle.std.proofs.Common.{◌≡◌, ℕ, Some, sym, ◌∙◌, ap, subst, arith, rules}
use Rattle.std.specs.Prelude.{Option, IsSomeAnd, true}
use Rattle.foyer_policy.specs.Policy.{without}
use Rattle.foyer_policy.specs.declared.types.Item.{Item}
use Rattle.foyer_core.specs.Values.{Kept, Gone}
use Rattle.foyer_core.specs.State.{key_of}
use Rattle.foyer_core.specs.Stores.{meaning_of}
use Rattle.foyer_core.specs.Table.{rec_of}
use Rattle.foyer_core.specs.Records.{slot_in, number_of}
use Rattle.foyer_core.proofs.StoredLemmas.{none_not, some_of}
use Rattle.foyer_core.proofs.Holdings.{holding}
use Rattle.foyer_core.proofs.ShardLemmas.{resident, placed}
use Rattle.foyer_core.proofs.Removed.{some_item, removed_lighter, removed_usage, removed_entries}
use Rattle.foyer_core.proofs.Outgoing.{out_known, out_there, out_id, out_led, out_record, out_after, out_kept, out_stored}
use Rattle.foyer_core.proofs.store.Store.take_out.Goals as goal

pub unreachable-requires : goal.unreachable-requires
unreachable-requires g c =
    let s = c.args.self.now in
    let m = meaning_of s in
    none_not (number_of s.records c.args.id) (out_known m g.met.K.Eq.laws g.met.E.Eviction.lawful (holding s)
    c.args.id c.requires) (sym c.find.ensures ∙ c.in_default.is)

pub remove-item-requires : goal.remove-item-requires
remove-item-requires g c =
    let s = c.args.self.now in
    let lawful = g.met.E.Eviction.lawful in
    let laws = g.met.K.Eq.laws in
    let m = meaning_of s in
    let known : number_of s.records c.args.id ≡ Some c.in-Some.slot = sym c.find.ensures ∙ c.in-Some.is in
    let y = some_of (slot_in s.records c.in-Some.slot)
    (out_there m laws lawful (holding s) c.args.id c.requires c.in-Some.slot known) in
    let x = y.0 in
    let there : slot_in s.records c.in-Some.slot ≡ Some x = y.1 in
    let led = out_led m laws lawful (holding s) c.args.id c.requires c.in-Some.slot known x there in
    let at = ap (g.E.Eviction.at s.eviction) c.at.ensures
    ∙ placed m laws lawful (holding s) (key_of x.kept) c.in-Some.slot led x there in
    rw at (search rules)

pub overflow_sub-self : goal.overflow_sub-self
overflow_sub-self g c =
    let s = c.args.self.now in
    let lawful = g.met.E.Eviction.lawful in
    let laws = g.met.K.Eq.laws in
    let m = meaning_of s in
    let known : number_of s.records c.args.id ≡ Some c.in-Some.slot = sym c.find.ensures ∙ c.in-Some.is in
    let y = some_of (slot_in s.records c.in-Some.slot)
    (out_there m laws lawful (holding s) c.args.id c.requires c.in-Some.slot known) in
    let x = y.0 in
    let there : slot_in s.records c.in-Some.slot ≡ Some x = y.1 in
    let led = out_led m laws lawful (holding s) c.args.id c.requires c.in-Some.slot known x there in
    let at = ap (g.E.Eviction.at s.eviction) c.at.ensures
    ∙ placed m laws lawful (holding s) (key_of x.kept) c.in-Some.slot led x there in
    let item = some_item (sym c.remove-item.ensures.item ∙ at) in
    rw item (removed_lighter m laws lawful (holding s) (key_of x.kept) c.in-Some.slot led x there s.usage s.weighed)

pub leave_slot-requires-after_bounds : goal.leave_slot-requires-after_bounds
leave_slot-requires-after_bounds g c κs within =
    let s = c.args.self.now in
    let lawful = g.met.E.Eviction.lawful in
    let laws = g.met.K.Eq.laws in
    let m = meaning_of s in
    let known : number_of s.records c.args.id ≡ Some c.in-Some.slot = sym c.find.ensures ∙ c.in-Some.is in
    let y = some_of (slot_in s.records c.in-Some.slot)
    (out_there m laws lawful (holding s) c.args.id c.requires c.in-Some.slot known) in
    let x = y.0 in
    let there : slot_in s.records c.in-Some.slot ≡ Some x = y.1 in
    let led = out_led m laws lawful (holding s) c.args.id c.requires c.in-Some.slot known x there in
    let res = resident m laws lawful (holding s) (key_of x.kept) c.in-Some.slot led x there in
    subst (λ (o : Option (Kept g.row.K.Denot g.row.V.Denot g.row.P.Denot)). IsSomeAnd o
    (λ y. (y.resident ≡ true) × (g.I.Finder.view s.index (key_of y.kept) ≡ Some c.in-Some.slot))) (sym there)
    (res, led)

pub invariant_of-self : goal.invariant_of-self
invariant_of-self g c =
    let s = c.args.self.now in
    let lawful = g.met.E.Eviction.lawful in
    let laws = g.met.K.Eq.laws in
    let m = meaning_of s in
    let known : number_of s.records c.args.id ≡ Some c.in-Some.slot = sym c.find.ensures ∙ c.in-Some.is in
    let y = some_of (slot_in s.records c.in-Some.slot)
    (out_there m laws lawful (holding s) c.args.id c.requires c.in-Some.slot known) in
    let x = y.0 in
    let there : slot_in s.records c.in-Some.slot ≡ Some x = y.1 in
    let led = out_led m laws lawful (holding s) c.args.id c.requires c.in-Some.slot known x there in
    let at = ap (g.E.Eviction.at s.eviction) c.at.ensures
    ∙ placed m laws lawful (holding s) (key_of x.kept) c.in-Some.slot led x there in
    let item = some_item (sym c.remove-item.ensures.item ∙ at) in
    let id = out_id m laws lawful (holding s) c.args.id c.requires c.in-Some.slot known x there in
    let view = g.E.Eviction.view c.remove-item.new.self in
    let viewed : view ≡ m.policy.remove (g.E.Eviction.view s.eviction) x.id = c.remove-item.ensures.view ∙ ap
    (λ (i : Item). m.policy.remove (g.E.Eviction.view s.eviction) i.id) item in
    let viewed_id : view ≡ m.policy.remove (g.E.Eviction.view s.eviction) c.args.id = viewed
    ∙ ap (m.policy.remove (g.E.Eviction.view s.eviction)) id in
    let places : (p : ℕ) → g.E.Eviction.at c.remove-item.new.self p ≡ without x.id (g.E.Eviction.at s.eviction p) =
    λ p. c.remove-item.ensures.places p ∙ ap (λ (i : Item). without i.id (g.E.Eviction.at s.eviction p)) item in
    record {
      sound = out_kept m laws lawful (holding s) c.args.id c.requires c.in-Some.slot known x there
          c.leave_slot.new.records (c.leave_slot.ensures.slots x there) (c.leave_slot.ensures.records x there)
          (g.E.Eviction.at c.remove-item.new.self) places (g.I.Finder.view c.leave_slot.new.index)
          (c.leave_slot.ensures.index x there) view viewed_id;
      stored = out_stored m laws lawful (holding s) c.args.id c.requires c.in-Some.slot known x there
          c.leave_slot.new.records (c.leave_slot.ensures.slots x there) (c.leave_slot.ensures.records x there)
          (g.E.Eviction.at c.remove-item.new.self) places (g.I.Finder.view c.leave_slot.new.index)
          (c.leave_slot.ensures.index x there) view viewed_id;
      weighed = rw (item, viewed)
          (removed_usage m laws lawful (holding s) (key_of x.kept) c.in-Some.slot led x there s.usage s.weighed);
      counted = rw viewed
          (removed_entries m laws lawful (holding s) (key_of x.kept) c.in-Some.slot led x there s.entries s.counted);
      numbered = omega (arith, s.numbered);
    }

pub returns-clause-taken : goal.returns-clause-taken
returns-clause-taken g c =
    let s = c.args.self.now in
    let lawful = g.met.E.Eviction.lawful in
    let laws = g.met.K.Eq.laws in
    let m = meaning_of s in
    let known : number_of s.records c.args.id ≡ Some c.in-Some.slot = sym c.find.ensures ∙ c.in-Some.is in
    let y = some_of (slot_in s.records c.in-Some.slot)
    (out_there m laws lawful (holding s) c.args.id c.requires c.in-Some.slot known) in
    let x = y.0 in
    let there : slot_in s.records c.in-Some.slot ≡ Some x = y.1 in
    let led = out_led m laws lawful (holding s) c.args.id c.requires c.in-Some.slot known x there in
    let at = ap (g.E.Eviction.at s.eviction) c.at.ensures
    ∙ placed m laws lawful (holding s) (key_of x.kept) c.in-Some.slot led x there in
    let item = some_item (sym c.remove-item.ensures.item ∙ at) in
    let id = out_id m laws lawful (holding s) c.args.id c.requires c.in-Some.slot known x there in
    let view = g.E.Eviction.view c.remove-item.new.self in
    let viewed : view ≡ m.policy.remove (g.E.Eviction.view s.eviction) x.id = c.remove-item.ensures.view ∙ ap
    (λ (i : Item). m.policy.remove (g.E.Eviction.view s.eviction) i.id) item in
    let viewed_id : view ≡ m.policy.remove (g.E.Eviction.view s.eviction) c.args.id = viewed
    ∙ ap (m.policy.remove (g.E.Eviction.view s.eviction)) id in
    let places : (p : ℕ) → g.E.Eviction.at c.remove-item.new.self p ≡ without x.id (g.E.Eviction.at s.eviction p) =
    λ p. c.remove-item.ensures.places p ∙ ap (λ (i : Item). without i.id (g.E.Eviction.at s.eviction p)) item in
    let gone = λ (id : ℕ).
    (let y : Gone g.row.K.Denot g.row.V.Denot g.row.P.Denot =
    record { number = s.number; id = id; kept = x.kept } in y) in
    record {
      rec = rec_of x;
      there = out_record m laws lawful (holding s) c.args.id c.requires c.in-Some.slot known x there;
      gone_is = c.leave_slot.ensures.left x there ∙ ap gone id;
      after = out_after m laws lawful (holding s) c.args.id c.requires c.in-Some.slot known x there
          c.leave_slot.new.records (c.leave_slot.ensures.slots x there) (c.leave_slot.ensures.records x there)
          (g.E.Eviction.at c.remove-item.new.self) places (g.I.Finder.view c.leave_slot.new.index)
          (c.leave_slot.ensures.index x there) view viewed_id;
    }
