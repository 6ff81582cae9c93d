-- Pinned weights: what a key's own record has of them.
use Rattle.std.proofs.Common.{◌≡◌, ◌≢◌, ℕ, ◌+◌, ◌-◌, ◌<◌, ◌≤◌, true, false, cond, List, [], ◌∷◌, Option, Some, None, refl, ap, arith}
use Rattle.std.specs.Prelude.{◌==◌, sum_by}
use Rattle.std.specs.Cmp.{IsEquivalence}
use Rattle.std.proofs.Math.Logic.{∥∥₁_elim}
use Rattle.std.proofs.Props.{props}
use Rattle.std.proofs.lemmas.Bool.Decides.{nat_tests}
use Rattle.std.proofs.lemmas.List.Sums.{sum_by-cons}
use Rattle.foyer_policy.specs.Items.{weight_of, count_of, IsNewIn, HasIdsOnce, IsWithin, remove_id, find_id}
use Rattle.foyer_policy.specs.Policy.{IsPolicy}
use Rattle.foyer_policy.specs.declared.types.Item.{Item}
use Rattle.foyer_policy.proofs.ItemLemmas.{one_if, new-head, new-tail, found-id, found-where, sum-remove_id}
use Rattle.foyer_core.specs.Values.{Kept}
use Rattle.foyer_core.specs.Table.{rec_of}
use Rattle.foyer_core.specs.Records.{slot_in}
use Rattle.foyer_core.specs.State.{Meaning, State, IsKept, item_of, pinned_beside, without_own}
use Rattle.foyer_core.proofs.Found.{sum-removed}
use Rattle.foyer_core.proofs.Keeps.{resident_in}
use Rattle.foyer_core.proofs.ShardLemmas.{Holding, now, hits, found, resident}
use Rattle.foyer_core.proofs.Weights.{removed_new}

-- a measure of the items of one id alone
abbrev only : (Item → ℕ) → ℕ → Item → ℕ
only f id i = cond (i.id == id) (f i) 0

only_new : (f : Item → ℕ) (id : ℕ) (l : List Item) → IsNewIn id l → sum_by (only f id) l ≡ 0
only_new f id [] new = refl
only_new f id (x ∷ xs) new =
    let apart : x.id ≢ id = new-head id x xs new in
    let z : only f id x ≡ 0 = (let e : (x.id == id) ≡ false = grind (arith, nat_tests) in rw e refl) in
    omega (arith, sum_by-cons (only f id) x xs, only_new f id xs (new-tail id x xs new))

only_found : (f : Item → ℕ) (id : ℕ) (i : Item) (l : List Item) → HasIdsOnce l → find_id id l ≡ Some i →
    sum_by (only f id) l ≡ f i
only_found f id i l once here =
    let same : i.id ≡ id = found-id id i l here in
    let e : (i.id == id) ≡ true = grind (arith, nat_tests) in
    let own : only f id i ≡ f i = rw e refl in
    let one : one_if id i ≡ 1 = rw e refl in
    let new : IsNewIn id (remove_id id l) = omega (arith, sum-remove_id (one_if id) id i l here, once id) in
    omega (arith, sum-remove_id (only f id) id i l here, only_new f id (remove_id id l) new)

-- of what is within a list, the item of an id is that of the list
module _ (xs ys : List Item) (once : HasIdsOnce ys) (within : IsWithin xs ys) (id : ℕ) (i : Item)
    (here : find_id id ys ≡ Some i) where
  within_once : HasIdsOnce xs
  within_once j = omega (arith, within (one_if j), once j)

  -- so it measures at most as much, whatever is measured
  at_most : (f : Item → ℕ) (j : Item) → find_id id xs ≡ Some j → f j ≤ f i
  at_most f j there =
      omega (arith, within (only f id), only_found f id j xs within_once there, only_found f id i ys once here)

  own_weight : 0 < count_of id xs → i.weight + weight_of (remove_id id xs) ≡ weight_of xs
  own_weight pos =
      let j = found-where id xs pos in
      let below : j.0.weight ≤ i.weight = at_most (λ (x : Item). x.weight) j.0 j.1 in
      let above : i.weight - j.0.weight ≤ i.weight - i.weight = at_most (λ (x : Item). i.weight - x.weight) j.0 j.1 in
      omega (arith, sum-remove_id (λ (x : Item). x.weight) id j.0 xs j.1)

-- without an id that has no item, the weight is the same
no_weight : (id : ℕ) (l : List Item) → ¬ (0 < count_of id l) → weight_of (remove_id id l) ≡ weight_of l
no_weight id l none =
    let new : IsNewIn id l = omega arith in
    omega (arith, removed_new id l new, sum-removed (λ (i : Item). i.weight) id l)

-- what a key's own record has of the pinned weight
module _ {K P V View C : Type 0} (m : Meaning K P View C) (laws : IsEquivalence m.same) (good : IsPolicy m.policy)
    (o : Holding V m)
    (k : ℕ × K) (n : ℕ) (led : o.keys k ≡ Some n) (x : Kept K V P) (there : slot_in o.t n ≡ Some x) where
  beside : pinned_beside m (now m laws good o) k ≡ weight_of (remove_id x.id (m.policy.pinned o.view))
  beside = ap (λ (own : Option ℕ). weight_of (without_own own (m.policy.pinned o.view)))
      (hits m laws good o k n led x there)

  own_pinned_by : 0 < count_of x.id (m.policy.pinned o.view) → IsKept m (now m laws good o) →
      x.kept.weight + pinned_beside m (now m laws good o) k ≡ weight_of (m.policy.pinned o.view)
  own_pinned_by pos k' =
      let here = resident_in m laws good (now m laws good o) k' x.id (rec_of x) (found m laws good o k n led x there)
      (resident m laws good o k n led x there) in
      omega (
        arith,
        beside,
        own_weight (m.policy.pinned o.view) (m.policy.order o.view) k'.once
            (good.pinned_within o.view) x.id (item_of m x.id x.kept) here pos,
      )

  pub own_pinned_weight : 0 < count_of x.id (m.policy.pinned o.view) →
      x.kept.weight + pinned_beside m (now m laws good o) k ≡ weight_of (m.policy.pinned o.view)
  own_pinned_weight pos = ∥∥₁_elim o.sound (hlevel props) (own_pinned_by pos)

  pub own_free_weight : ¬ (0 < count_of x.id (m.policy.pinned o.view)) → 0 + pinned_beside m (now m laws good o) k
      ≡ weight_of (m.policy.pinned o.view)
  own_free_weight none = omega (arith, beside, no_weight x.id (m.policy.pinned o.view) none)

-- the pinned weight of other keys is at most all of it
pub beside_at_most : {K V P View C : Type 0} (m : Meaning K P View C) (s : State K V P View) (k : ℕ × K) →
    pinned_beside m s k ≤ weight_of (m.policy.pinned s.view)
beside_at_most m s k = go (s.index k) where
  go : (own : Option ℕ) → weight_of (without_own own (m.policy.pinned s.view)) ≤ weight_of (m.policy.pinned s.view)
  go None = omega arith
  go (Some id) = sum-removed (λ (i : Item). i.weight) id (m.policy.pinned s.view)
