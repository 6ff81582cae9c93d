-- Weights of lists without the items of an id.
use Rattle.std.proofs.Common.{◌≡◌, ◌≢◌, ℕ, ◌≤◌, Bool, true, false, cond, List, [], ◌∷◌, refl, subst, arith}
use Rattle.std.specs.Prelude.{◌==◌, sum_by}
use Rattle.std.proofs.lemmas.Bool.Decides.{nat_tests}
use Rattle.std.proofs.lemmas.List.Sums.{sum_by-cons}
use Rattle.foyer_policy.specs.Items.{weight_of, IsNewIn, HasIdsOnce, IsWithin, remove_id}
use Rattle.foyer_policy.specs.declared.types.Item.{Item}
use Rattle.foyer_policy.proofs.ItemLemmas.{new-head, new-tail, once-head, once-tail}

-- an item's weight, unless it has the id
abbrev weighs_but : ℕ → Item → ℕ
weighs_but id i = cond (i.id == id) 0 i.weight

but_le : (id : ℕ) (l : List Item) → sum_by (weighs_but id) l ≤ weight_of l
but_le id [] = omega arith
but_le id (x ∷ xs) = go (x.id == id) refl (but_le id xs) where
  go : (b : Bool) → (x.id == id) ≡ b → sum_by (weighs_but id) xs ≤ weight_of xs →
      sum_by (weighs_but id) (x ∷ xs) ≤ weight_of (x ∷ xs)
  go true e rec =
      (let z : weighs_but id x ≡ 0 = rw e refl in
      omega (arith, sum_by-cons (weighs_but id) x xs, sum_by-cons (λ (i : Item). i.weight) x xs))
  go false e rec =
      (let z : weighs_but id x ≡ x.weight = rw e refl in
      omega (arith, sum_by-cons (weighs_but id) x xs, sum_by-cons (λ (i : Item). i.weight) x xs))

but_new : (id : ℕ) (l : List Item) → IsNewIn id l → sum_by (weighs_but id) l ≡ weight_of l
but_new id [] new = refl
but_new id (x ∷ xs) new =
    let apart : x.id ≢ id = new-head id x xs new in
    let z : weighs_but id x ≡ x.weight = (let e : (x.id == id) ≡ false = grind (arith, nat_tests) in rw e refl) in
    omega (
      arith,
      sum_by-cons (weighs_but id) x xs,
      sum_by-cons (λ (i : Item). i.weight) x xs,
      but_new id xs (new-tail id x xs new),
    )

but_removed_le : (id : ℕ) (l : List Item) → sum_by (weighs_but id) l ≤ weight_of (remove_id id l)
but_removed_le id [] = omega arith
but_removed_le id (x ∷ xs) = go (x.id == id) refl (but_removed_le id xs) where
  go : (b : Bool) → (x.id == id) ≡ b → sum_by (weighs_but id) xs ≤ weight_of (remove_id id xs) →
      sum_by (weighs_but id) (x ∷ xs) ≤ weight_of (cond b xs (x ∷ remove_id id xs))
  go true e rec =
      (let z : weighs_but id x ≡ 0 = rw e refl in omega (arith, sum_by-cons (weighs_but id) x xs, but_le id xs))
  go false e rec =
      (let z : weighs_but id x ≡ x.weight = rw e refl in
      omega (arith, sum_by-cons (weighs_but id) x xs, sum_by-cons (λ (i : Item). i.weight) x (remove_id id xs)))

but_removed : (id : ℕ) (l : List Item) → HasIdsOnce l → sum_by (weighs_but id) l ≡ weight_of (remove_id id l)
but_removed id [] once = refl
but_removed id (x ∷ xs) once = go (x.id == id) refl (but_removed id xs (once-tail x xs once)) where
  go : (b : Bool) → (x.id == id) ≡ b → sum_by (weighs_but id) xs ≡ weight_of (remove_id id xs) →
      sum_by (weighs_but id) (x ∷ xs) ≡ weight_of (cond b xs (x ∷ remove_id id xs))
  go true e rec =
      let z : weighs_but id x ≡ 0 = rw e refl in
      let n : x.id ≡ id = grind (arith, nat_tests) in
      omega (
        arith,
        sum_by-cons (weighs_but id) x xs,
        but_new id xs (subst (λ (a : ℕ). IsNewIn a xs) n (once-head x xs once)),
      )
  go false e rec =
      (let z : weighs_but id x ≡ x.weight = rw e refl in
      omega (arith, sum_by-cons (weighs_but id) x xs, sum_by-cons (λ (i : Item). i.weight) x (remove_id id xs)))

-- what is within a list is so without the item of an id
pub removed_within : (id : ℕ) (xs ys : List Item) → HasIdsOnce xs → IsWithin xs ys →
    weight_of (remove_id id xs) ≤ weight_of (remove_id id ys)
removed_within id xs ys once within =
    omega (arith, but_removed id xs once, within (weighs_but id), but_removed_le id ys)

-- without an id that is not there, the weight is the same
pub removed_new : (id : ℕ) (l : List Item) → IsNewIn id l → weight_of l ≤ weight_of (remove_id id l)
removed_new id l new = omega (arith, but_new id l new, but_removed_le id l)
