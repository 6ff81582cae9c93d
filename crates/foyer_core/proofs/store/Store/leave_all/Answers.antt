use Rattle.std.proofs.Common.{◌≡◌, ◌+◌, List, ◌∷◌, ◌++◌, [], Some, None, length, take, drop, refl, sym, ◌∙◌, ap, subst, subst₂, arith}
use Rattle.std.specs.Prelude.{Option, IsSomeAnd, true, slice_index_or}
use Rattle.std.proofs.lemmas.List.{take_more, drop_more, take_all, drop_all}
use Rattle.foyer_policy.specs.declared.types.Item.{Item}
use Rattle.foyer_policy.specs.declared.types.Hint.TheVariants.{Normal}
use Rattle.foyer_policy.specs.declared.types.Event.TheVariants.{Clear}
use Rattle.foyer_core.specs.Values.{Kept}
use Rattle.foyer_core.specs.State.{key_of}
use Rattle.foyer_core.specs.Stored.{meaning}
use Rattle.foyer_core.specs.Records.{slot_in, number_of}
use Rattle.foyer_core.specs.Bulk.{Passes}
use Rattle.foyer_core.proofs.StoredLemmas.{none_not, some_of}
use Rattle.foyer_core.proofs.ShardLemmas.{resident}
use Rattle.foyer_core.proofs.Outgoing.{out_known, out_there, out_led}
use Rattle.foyer_core.proofs.Told.{goes_start, goes_more, goes_so}
use Rattle.foyer_core.proofs.Clearing.{lined_holding, first_in, passes-start, passes-more}
use Rattle.foyer_core.proofs.store.Store.leave_all.Goals as goal

pub loop-item-init : goal.loop-item-init
loop-item-init g c =
    let m = meaning g.K.PartialEq.eq g.E.Eviction.model g.P.Properties.hint_of g.P.Properties.phantom_of g.P.Properties.expiry_of in
    let is = c.args.items.now in
    record {
      begun = λ o. goes_start c.args.leaves.now.items
          (λ ls. Passes m o [] is ls (g.I.Finder.view c.args.index.now) c.args.records.now) (passes-start m o);
      len = refl;
      capacity = refl;
    }

pub unreachable-requires : goal.unreachable-requires
unreachable-requires g c =
    let m = meaning g.K.PartialEq.eq g.E.Eviction.model g.P.Properties.hint_of g.P.Properties.phantom_of g.P.Properties.expiry_of in
    let is = c.args.items.now in
    let k = c.loop-item.item-index in
    let none : Item = record { id = 0; hash = 0; weight = 0; hint = Normal; expires = None } in
    let i : Item = slice_index_or is k none in
    let more : drop k is ≡ i ∷ drop (k + 1) is = drop_more is k none c.loop-item-test.true in
    let keys = g.I.Finder.view c.loop-item.index in
    let t = c.loop-item.records in
    let begun = c.loop-item.invariant.begun c.requires.lined in
    let p : Passes m c.requires.lined (take k is) (i ∷ drop (k + 1) is) begun.more keys t = subst
    (λ (l : List Item). Passes m c.requires.lined (take k is) l begun.more keys t) more begun.so in
    let inside = first_in m i (drop (k + 1) is) p.after in
    let h = lined_holding m p.after in
    none_not (number_of t i.id) (out_known m g.met.K.Eq.laws g.met.E.Eviction.lawful h i.id inside)
    (sym c.find.ensures ∙ c.in_default.is)

pub leave_slot-left-requires-after_bounds : goal.leave_slot-left-requires-after_bounds
leave_slot-left-requires-after_bounds g c κs within =
    let m = meaning g.K.PartialEq.eq g.E.Eviction.model g.P.Properties.hint_of g.P.Properties.phantom_of g.P.Properties.expiry_of in
    let is = c.args.items.now in
    let k = c.loop-item.item-index in
    let none : Item = record { id = 0; hash = 0; weight = 0; hint = Normal; expires = None } in
    let i : Item = slice_index_or is k none in
    let more : drop k is ≡ i ∷ drop (k + 1) is = drop_more is k none c.loop-item-test.true in
    let keys = g.I.Finder.view c.loop-item.index in
    let t = c.loop-item.records in
    let begun = c.loop-item.invariant.begun c.requires.lined in
    let p : Passes m c.requires.lined (take k is) (i ∷ drop (k + 1) is) begun.more keys t = subst
    (λ (l : List Item). Passes m c.requires.lined (take k is) l begun.more keys t) more begun.so in
    let inside = first_in m i (drop (k + 1) is) p.after in
    let h = lined_holding m p.after in
    let known : number_of t i.id ≡ Some c.in-Some.slot = sym c.find.ensures ∙ c.in-Some.is in
    let x = some_of (slot_in t c.in-Some.slot)
    (out_there m g.met.K.Eq.laws g.met.E.Eviction.lawful h i.id inside c.in-Some.slot known) in
    let led = out_led m g.met.K.Eq.laws g.met.E.Eviction.lawful h i.id inside c.in-Some.slot known x.0 x.1 in
    let res = resident m g.met.K.Eq.laws g.met.E.Eviction.lawful h (key_of x.0.kept) c.in-Some.slot led x.0 x.1 in
    subst (λ (o : Option (Kept g.row.K.Denot g.row.V.Denot g.row.P.Denot)). IsSomeAnd o
    (λ y. (y.resident ≡ true) × (keys (key_of y.kept) ≡ Some c.in-Some.slot))) (sym x.1) (res, led)

pub loop-item-preserved : goal.loop-item-preserved
loop-item-preserved g c =
    let m = meaning g.K.PartialEq.eq g.E.Eviction.model g.P.Properties.hint_of g.P.Properties.phantom_of g.P.Properties.expiry_of in
    let is = c.args.items.now in
    let k = c.loop-item.item-index in
    let none : Item = record { id = 0; hash = 0; weight = 0; hint = Normal; expires = None } in
    let i : Item = slice_index_or is k none in
    let more : drop k is ≡ i ∷ drop (k + 1) is = drop_more is k none c.loop-item-test.true in
    let keys = g.I.Finder.view c.loop-item.index in
    let t = c.loop-item.records in
    let begun = c.loop-item.invariant.begun c.requires.lined in
    let p : Passes m c.requires.lined (take k is) (i ∷ drop (k + 1) is) begun.more keys t = subst
    (λ (l : List Item). Passes m c.requires.lined (take k is) l begun.more keys t) more begun.so in
    let inside = first_in m i (drop (k + 1) is) p.after in
    let h = lined_holding m p.after in
    let known : number_of t i.id ≡ Some c.in-Some.slot = sym c.find.ensures ∙ c.in-Some.is in
    let x = some_of (slot_in t c.in-Some.slot)
    (out_there m g.met.K.Eq.laws g.met.E.Eviction.lawful h i.id inside c.in-Some.slot known) in
    let further : take (k + 1) is ≡ take k is ++ i ∷ [] = take_more is k none c.loop-item-test.true in
    let keys' = g.I.Finder.view c.leave_slot-left.new.index in
    let t' = c.leave_slot-left.new.records in
    let len = c.loop-item.invariant.len in
    let capacity = c.loop-item.invariant.capacity in
    let left = c.leave_slot-left.ensures.left x.0 x.1 in
    record {
      begun = λ o. rw (c.push_reserved.ensures.items, further, left)
          (goes_more c.args.leaves.now.items c.loop-item.leaves.items
          (λ ls. Passes m o (take k is) (drop k is) ls keys t)
          (λ ls. Passes m o (take k is ++ i ∷ []) (drop (k + 1) is) ls keys' t')
          (Clear, record { number = c.args.number; id = x.0.id; kept = x.0.kept })
          (λ ls q. passes-more m g.met.K.Eq.laws g.met.E.Eviction.lawful o (take k is) i (drop (k + 1) is) ls keys t
          (subst (λ (l : List Item). Passes m o (take k is) l ls keys t) more q)
          c.in-Some.slot known x.0 x.1 t' (c.leave_slot-left.ensures.slots x.0 x.1)
          (c.leave_slot-left.ensures.records x.0 x.1) keys' (c.leave_slot-left.ensures.index x.0 x.1))
          (c.loop-item.invariant.begun o));
      len = omega (arith, ap length more, len, c.push_reserved.ensures.len);
      capacity = omega (arith, capacity, c.push_reserved.ensures.capacity);
    }

pub returns-clause-told : goal.returns-clause-told
returns-clause-told g c o =
    let m = meaning g.K.PartialEq.eq g.E.Eviction.model g.P.Properties.hint_of g.P.Properties.phantom_of g.P.Properties.expiry_of in
    let is = c.args.items.now in
    let k = c.loop-item.item-index in
    let keys = g.I.Finder.view c.loop-item.index in
    let t = c.loop-item.records in
    let all : take k is ≡ is = take_all k is (omega (arith, c.loop-item-test.false)) in
    let over : drop k is ≡ [] = drop_all k is (omega (arith, c.loop-item-test.false)) in
    goes_so c.args.leaves.now.items c.loop-item.leaves.items (λ ls. Passes m o (take k is) (drop k is) ls keys t)
    (λ ls. Passes m o is [] ls keys t)
    (λ ls q. subst₂ (λ (l r : List Item). Passes m o l r ls keys t) all over q) (c.loop-item.invariant.begun o)

pub returns-clause-len : goal.returns-clause-len
returns-clause-len g c =
    let over : length (drop c.loop-item.item-index c.args.items.now) ≡ 0 = ap length
    (drop_all c.loop-item.item-index c.args.items.now (omega (arith, c.loop-item-test.false))) in
    let len = c.loop-item.invariant.len in
    omega (arith, len, over)
