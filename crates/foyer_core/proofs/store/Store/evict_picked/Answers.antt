use Rattle.std.proofs.Common.{◌≡◌, ◌+◌, List, ◌∷◌, ◌++◌, [], None, length, take, drop, refl, ap, subst, arith}
use Rattle.std.specs.Prelude.{slice_index_or}
use Rattle.std.proofs.lemmas.List.{take_more, drop_more, take_all, drop_all}
use Rattle.foyer_policy.specs.declared.types.Item.{Item}
use Rattle.foyer_policy.specs.declared.types.Hint.TheVariants.{Normal}
use Rattle.foyer_policy.specs.declared.types.Event.TheVariants.{Evict}
use Rattle.foyer_policy.proofs.ItemLemmas.{one_if}
use Rattle.foyer_core.specs.Bulk.{TakesOut}
use Rattle.foyer_core.specs.Stores.{meaning_of, state_of}
use Rattle.foyer_core.proofs.Outs.{OutSoFar, outs-start, outs-next, outs-more}
use Rattle.foyer_core.proofs.Told.{goes_start, goes_more, goes_so}
use Rattle.foyer_core.proofs.store.Store.evict_picked.Goals as goal

pub loop-item-init : goal.loop-item-init
loop-item-init g c =
    let s = c.args.self.now in
    let m = meaning_of s in
    record {
      begun = goes_start c.args.leaves.now.items
          (λ ls. OutSoFar m Evict (state_of s) [] c.args.picked.now ls (state_of s))
          (outs-start m Evict (state_of s) c.args.picked.now (λ id. c.requires.within (one_if id)));
      len = refl;
      capacity = refl;
    }

pub take_out-left-requires-after_bounds : goal.take_out-left-requires-after_bounds
take_out-left-requires-after_bounds g c κs within =
    let s = c.args.self.now in
    let m = meaning_of s in
    let k = c.loop-item.item-index in
    let none : Item = record { id = 0; hash = 0; weight = 0; hint = Normal; expires = None } in
    let i : Item = slice_index_or c.args.picked.now k none in
    let more : drop k c.args.picked.now ≡ i ∷ drop (k + 1) c.args.picked.now =
    drop_more c.args.picked.now k none c.loop-item-test.true in
    let begun = c.loop-item.invariant.begun in
    outs-next m g.met.E.Eviction.lawful Evict (state_of s) (take k c.args.picked.now) i
    (drop (k + 1) c.args.picked.now) begun.more (state_of c.loop-item.self)
    (subst (λ (l : List Item). OutSoFar m Evict (state_of s) (take k c.args.picked.now) l begun.more
    (state_of c.loop-item.self)) more begun.so)

pub push_reserved-requires : goal.push_reserved-requires
push_reserved-requires g c =
    let k = c.loop-item.item-index in
    let none : Item = record { id = 0; hash = 0; weight = 0; hint = Normal; expires = None } in
    let i : Item = slice_index_or c.args.picked.now k none in
    let more : drop k c.args.picked.now ≡ i ∷ drop (k + 1) c.args.picked.now =
    drop_more c.args.picked.now k none c.loop-item-test.true in
    let len = c.loop-item.invariant.len in
    let capacity = c.loop-item.invariant.capacity in
    omega (arith, ap length more, len, capacity, c.requires.room)

pub loop-item-preserved : goal.loop-item-preserved
loop-item-preserved g c =
    let s = c.args.self.now in
    let m = meaning_of s in
    let k = c.loop-item.item-index in
    let ps = c.args.picked.now in
    let none : Item = record { id = 0; hash = 0; weight = 0; hint = Normal; expires = None } in
    let i : Item = slice_index_or ps k none in
    let more : drop k ps ≡ i ∷ drop (k + 1) ps = drop_more ps k none c.loop-item-test.true in
    let further : take (k + 1) ps ≡ take k ps ++ i ∷ [] = take_more ps k none c.loop-item-test.true in
    let mid = state_of c.loop-item.self in
    let new = state_of c.take_out-left.new.self in
    let len = c.loop-item.invariant.len in
    let capacity = c.loop-item.invariant.capacity in
    record {
      begun = rw (c.push_reserved.ensures.items, further)
          (goes_more c.args.leaves.now.items c.loop-item.leaves.items
          (λ ls. OutSoFar m Evict (state_of s) (take k ps) (drop k ps) ls mid)
          (λ ls. OutSoFar m Evict (state_of s) (take k ps ++ i ∷ []) (drop (k + 1) ps) ls new)
          (Evict, c.take_out-left.result)
          (λ ls h. outs-more m g.met.E.Eviction.lawful Evict (state_of s) (take k ps) i (drop (k + 1) ps) ls mid
          (subst (λ (l : List Item). OutSoFar m Evict (state_of s) (take k ps) l ls mid) more h)
          c.take_out-left.result new c.take_out-left.ensures.taken) c.loop-item.invariant.begun);
      len = omega (arith, ap length more, len, c.push_reserved.ensures.len);
      capacity = omega (arith, capacity, c.push_reserved.ensures.capacity);
    }

pub returns-clause-told : goal.returns-clause-told
returns-clause-told g c =
    let s = c.args.self.now in
    let m = meaning_of s in
    let k = c.loop-item.item-index in
    let ps = c.args.picked.now in
    let mid = state_of c.loop-item.self in
    let all : take k ps ≡ ps = take_all k ps (omega (arith, c.loop-item-test.false)) in
    goes_so c.args.leaves.now.items c.loop-item.leaves.items
    (λ ls. OutSoFar m Evict (state_of s) (take k ps) (drop k ps) ls mid)
    (λ ls. TakesOut m Evict ps (state_of s) ls mid)
    (λ ls h. subst (λ (l : List Item). TakesOut m Evict l (state_of s) ls mid) all h.leave) c.loop-item.invariant.begun

pub returns-clause-len : goal.returns-clause-len
returns-clause-len g c =
    let over : length (drop c.loop-item.item-index c.args.picked.now) ≡ 0 =
    ap length (drop_all c.loop-item.item-index c.args.picked.now (omega (arith, c.loop-item-test.false))) in
    let len = c.loop-item.invariant.len in
    omega (arith, len, over)
