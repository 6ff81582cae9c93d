use Rattle.std.proofs.Common.{◌≡◌, ◌<◌, ◌≤◌, ◌+◌, List, ◌∷◌, ◌++◌, [], None, length, take, drop, refl, sym, ◌∙◌, ap, subst, arith, append-nil, vec_len, vec_capacity}
use Rattle.std.specs.Prelude.{slice_index_or, if◌then◌else◌}
use Rattle.std.proofs.lemmas.List.{take_more, drop_more, take_all}
use Rattle.foyer_policy.specs.Items.{count_of, IsWithin}
use Rattle.foyer_policy.specs.declared.types.Item.{Item}
use Rattle.foyer_policy.specs.declared.types.Hint.TheVariants.{Normal}
use Rattle.foyer_policy.proofs.ItemLemmas.{count-cons}
use Rattle.foyer_core.specs.Bulk.{Says}
use Rattle.foyer_core.specs.Stores.{state_of}
use Rattle.foyer_core.proofs.Outs.{counted_first}
use Rattle.foyer_core.proofs.Picking.{picked-start, picked-more, picked_within}
use Rattle.foyer_core.proofs.store.Store.pick.Goals as goal
use Rattle.foyer_core.proofs.store.Store.pick.Goals.{then-says, else-says}

pub loop-item-init : goal.loop-item-init
loop-item-init g c =
    let s = c.args.self.now in
    let all : c.deref-item-items.result.now ≡ g.E.Eviction.model.order (g.E.Eviction.view s.eviction) =
    c.deref-item-items.ensures.value ∙ c.in_ok-items.ensures.items in
    record {
      picked = rw (c.reserve.ensures.items, c.new-picked.ensures.items)
          (picked-start (Says g.F.Fn c.args.predicate.now) (state_of s));
      rest = λ id. rw all (omega arith);
      room = omega (arith, c.in-Ok.ensures.ok, c.len.ensures, c.deref-item-items.ensures.len);
    }

pub says-requires-clause-there : goal.says-requires-clause-there
says-requires-clause-there g c κs within =
    let is = c.deref-item-items.result.now in
    let k = c.loop-item.item-index in
    let none : Item = record { id = 0; hash = 0; weight = 0; hint = Normal; expires = None } in
    let i : Item = slice_index_or is k none in
    let more : drop k is ≡ i ∷ drop (k + 1) is = drop_more is k none c.loop-item-test.true in
    let first : 0 < count_of i.id (drop k is) = rw more (counted_first i (drop (k + 1) is)) in
    let rest = c.loop-item.invariant.rest i.id in
    omega (arith, first, rest)

pub loop-item-preserved : goal.loop-item-preserved
loop-item-preserved g c =
    let s = c.args.self.now in
    let is = c.deref-item-items.result.now in
    let k = c.loop-item.item-index in
    let none : Item = record { id = 0; hash = 0; weight = 0; hint = Normal; expires = None } in
    let i : Item = slice_index_or is k none in
    let more : drop k is ≡ i ∷ drop (k + 1) is = drop_more is k none c.loop-item-test.true in
    let further : take (k + 1) is ≡ take k is ++ i ∷ [] = take_more is k none c.loop-item-test.true in
    let room = c.loop-item.invariant.room in
    let picked : c.if-says.picked.items ≡ c.loop-item.picked.items ++ (if c.says.result then i ∷ [] else []) =
    elim c.if-says.branch [
      | then-says w ↦ rw (w.picked-is, w.push_reserved.ensures.items, w.if-says.true) refl
      | else-says w ↦ rw (w.picked-is, w.if-says.false) (sym (append-nil c.loop-item.picked.items))
    ] in
    let len : vec_len c.if-says.picked ≤ vec_len c.loop-item.picked + 1 = elim c.if-says.branch [
      | then-says w ↦ rw w.picked-is (omega (arith, w.push_reserved.ensures.len))
      | else-says w ↦ rw w.picked-is (omega arith)
    ] in
    let capacity : vec_capacity c.if-says.picked ≡ vec_capacity c.loop-item.picked = elim c.if-says.branch [
      | then-says w ↦ rw w.picked-is w.push_reserved.ensures.capacity
      | else-says w ↦ rw w.picked-is refl
    ] in
    record {
      picked = rw (picked, further)
          (picked-more (Says g.F.Fn c.args.predicate.now) (state_of s) (take k is) c.loop-item.picked.items i
          c.says.result c.loop-item.invariant.picked c.says.ensures);
      rest = λ id.
          omega (arith, c.loop-item.invariant.rest id, ap (count_of id) more, count-cons id i (drop (k + 1) is));
      room = omega (arith, ap length more, room, len, capacity);
    }

pub returns-clause-within : goal.returns-clause-within
returns-clause-within g c =
    let s = c.args.self.now in
    let is = c.deref-item-items.result.now in
    let k = c.loop-item.item-index in
    let all : is ≡ g.E.Eviction.model.order (g.E.Eviction.view s.eviction) = c.deref-item-items.ensures.value
    ∙ c.in_ok-items.ensures.items in
    let over : take k is ≡ g.E.Eviction.model.order (g.E.Eviction.view s.eviction) =
    take_all k is (omega (arith, c.loop-item-test.false)) ∙ all in
    subst (λ (l : List Item). IsWithin c.loop-item.picked.items l) over
    (picked_within (Says g.F.Fn c.args.predicate.now) (state_of s) (take k is) c.loop-item.picked.items
    c.loop-item.invariant.picked)
