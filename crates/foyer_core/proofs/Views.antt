-- A shard whose policy's view changes, and no record leaves.
use Rattle.std.proofs.Common.{◌≡◌, ℕ, ◌<◌, Option, length, sym, ap, ◌∙◌, subst, arith}
use Rattle.std.proofs.Math.Logic.{∥∥₁_elim, ∥∥₁_map}
use Rattle.std.proofs.Props.{props}
use Rattle.std.specs.Cmp.{IsEquivalence}
use Rattle.std.specs.List.Sorted.{IsPermutation}
use Rattle.std.proofs.lemmas.List.Sorted.{sum_by-IsPermutation, length_permutation, IsPermutation-sym}
use Rattle.foyer_policy.specs.Items.{weight_of, count_of, HasIdsOnce}
use Rattle.foyer_policy.specs.Policy.{IsPolicy}
use Rattle.foyer_policy.specs.declared.types.Item.{Item}
use Rattle.foyer_policy.proofs.ItemLemmas.{one_if}
use Rattle.foyer_core.specs.State.{Meaning, State, IsKept}
use Rattle.foyer_core.specs.Stored.{state}
use Rattle.foyer_core.specs.Bulk.{after_update}
use Rattle.foyer_core.proofs.Found.{found-permuted, once-permuted}
use Rattle.foyer_core.proofs.ShardLemmas.{Holding, now_of}

-- a view with the same items, in any order, which pins nothing new
pub rearranged_keeps : {K V P View C : Type 0} (m : Meaning K P View C) (s : State K V P View) → IsKept m s →
    (capacity : ℕ) (v : View) → IsPermutation (m.policy.order s.view) (m.policy.order v)
    → ((j : ℕ) → 0 < count_of j (m.policy.pinned v) → 0 < count_of j (m.policy.pinned s.view)) →
    IsKept m (record s { capacity = capacity; view = v })
rearranged_keeps m s kept capacity v perm pins = record {
  once = now_once;
  placed = λ j h. kept.placed j
      (found-permuted j.id j (m.policy.order v) (m.policy.order s.view) now_once
      (IsPermutation-sym (m.policy.order s.view) (m.policy.order v) perm) h);
  indexed = λ k j h. (omega (arith, (kept.indexed k j h).0, same_count j), (kept.indexed k j h).1);
  resident = λ j q h res. omega (arith, same_count j, kept.resident j q h res);
  respects = kept.respects;
  needed = kept.needed;
  limited = kept.limited;
  pinned = λ j q h pos. kept.pinned j q h (pins j pos);
  plain = kept.plain;
  fresh = kept.fresh;
  fits = omega
      (arith, kept.fits, sum_by-IsPermutation (λ (i : Item). i.weight) (m.policy.order s.view) (m.policy.order v) perm);
} where
  now_once : HasIdsOnce (m.policy.order v)
  now_once = once-permuted (m.policy.order s.view) (m.policy.order v) perm kept.once

  same_count : (j : ℕ) → count_of j (m.policy.order v) ≡ count_of j (m.policy.order s.view)
  same_count j = sum_by-IsPermutation (one_if j) (m.policy.order s.view) (m.policy.order v) perm

-- another capacity, and another configuration where one is given
module _ {K V P View C : Type 0} (m : Meaning K P View C) (laws : IsEquivalence m.same) (good : IsPolicy m.policy)
    (o : Holding V m) (capacity' : ℕ) (config : Option C)
    (v : View) (updated : v ≡ m.policy.update o.view capacity' config) where
  open o use {keys, t, number, limits, view, next, sound}

  update_after : state number capacity' limits v keys t next ≡ after_update m (now_of o) capacity' config
  update_after = ap (λ (w : View). state number capacity' limits w keys t next) updated

  kept_by : IsKept m (now_of o) → IsKept m (after_update m (now_of o) capacity' config)
  kept_by k' = rearranged_keeps m (now_of o) k' capacity' (m.policy.update view capacity' config)
      (good.update_order view capacity' config k'.once)
      (λ j pos. subst (λ l. 0 < count_of j l) (good.update_pinned view capacity' config) pos)

  pub update_kept : ∥ IsKept m (state number capacity' limits v keys t next) ∥₁
  update_kept = ∥∥₁_map sound (λ k'. subst (IsKept m) (sym update_after) (kept_by k'))

  same_weight : IsKept m (now_of o) → weight_of (m.policy.order v) ≡ weight_of (m.policy.order view)
  same_weight k' = ap (λ (w : View). weight_of (m.policy.order w)) updated
      ∙ sum_by-IsPermutation (λ (i : Item). i.weight) (m.policy.order view)
      (m.policy.order (m.policy.update view capacity' config)) (good.update_order view capacity' config k'.once)

  same_length : IsKept m (now_of o) → length (m.policy.order v) ≡ length (m.policy.order view)
  same_length k' = ap (λ (w : View). length (m.policy.order w)) updated
      ∙ length_permutation (m.policy.order view) (m.policy.order (m.policy.update view capacity' config))
      (good.update_order view capacity' config k'.once)

  pub update_weighed : (usage : ℕ) → usage ≡ weight_of (m.policy.order view) → usage ≡ weight_of (m.policy.order v)
  update_weighed usage h = h ∙ sym (∥∥₁_elim sound (hlevel props) same_weight)

  pub update_counted : (entries : ℕ) → entries ≡ length (m.policy.order view) → entries ≡ length (m.policy.order v)
  update_counted entries h = h ∙ sym (∥∥₁_elim sound (hlevel props) same_length)
