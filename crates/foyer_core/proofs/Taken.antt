-- A list of items without one of them.
use Rattle.std.proofs.Common.{◌≡◌, ◌≢◌, ℕ, ◌+◌, List, ◌∷◌, Some, refl, sym, ap, ◌∙◌, subst, arith, true, false}
use Rattle.std.specs.Prelude.{◌==◌}
use Rattle.std.specs.List.Sorted.{IsPermutation}
use Rattle.std.proofs.lemmas.Bool.Decides.{nat_tests}
use Rattle.std.proofs.lemmas.List.Sorted.{sum_by-IsPermutation, sum_by_popped, IsPermutation-sym}
use Rattle.foyer_policy.specs.Items.{weight_of, count_of, IsNewIn, HasIdsOnce, remove_id, find_id}
use Rattle.foyer_policy.specs.declared.types.Item.{Item}
use Rattle.foyer_policy.proofs.ItemLemmas.{one_if, count-other, once-head, once-tail, once-remove_id, found-where, sum-remove_id}
use Rattle.foyer_core.proofs.Found.{found-counted, found-permuted, once-permuted, found-head, found-tail, found-remove_id}

-- ys is xs without the item i, whose id no other has
pub record TakesOut (xs ys : List Item) (i : Item) : Type 0 where
  pub here : find_id i.id xs ≡ Some i
  pub once : HasIdsOnce ys
  pub gone : IsNewIn i.id ys
  pub others : (id : ℕ) → id ≢ i.id → count_of id ys ≡ count_of id xs
  pub finds : (id : ℕ) (j : Item) → find_id id ys ≡ Some j → find_id id xs ≡ Some j
  pub weight : weight_of ys + i.weight ≡ weight_of xs

module _ (xs ys : List Item) (i : Item) (once : HasIdsOnce xs) (perm : IsPermutation xs (i ∷ ys)) where
  back : IsPermutation (i ∷ ys) xs
  back = IsPermutation-sym xs (i ∷ ys) perm

  both_once : HasIdsOnce (i ∷ ys)
  both_once = once-permuted xs (i ∷ ys) perm once

  rest_new : IsNewIn i.id ys
  rest_new = once-head i ys both_once

  rest_finds : (id : ℕ) (j : Item) → find_id id ys ≡ Some j → find_id id xs ≡ Some j
  rest_finds id j h =
      let apart : i.id ≢ id = λ e.
      absurd (let new : count_of id ys ≡ 0 = subst (λ (a : ℕ). count_of a ys ≡ 0) e rest_new in
      omega (arith, found-counted id j ys h)) in
      found-permuted id j (i ∷ ys) xs both_once back (found-tail id i j ys apart h)

  pub taken_by_permutation : TakesOut xs ys i
  taken_by_permutation = record {
    here = found-permuted i.id i (i ∷ ys) xs both_once back (found-head i ys);
    once = once-tail i ys both_once;
    gone = rest_new;
    others = λ id apart. sym (count-other id i ys (λ e. apart (sym e)))
        ∙ sum_by-IsPermutation (one_if id) xs (i ∷ ys) perm;
    finds = rest_finds;
    weight = sum_by_popped (λ (j : Item). j.weight) i xs ys perm;
  }

module _ (xs : List Item) (i : Item) (once : HasIdsOnce xs) (here : find_id i.id xs ≡ Some i) where
  removed_new : IsNewIn i.id (remove_id i.id xs)
  removed_new =
      let one : one_if i.id i ≡ 1 = (let e : (i.id == i.id) ≡ true = grind (arith, nat_tests) in rw e refl) in
      omega (arith, sum-remove_id (one_if i.id) i.id i xs here, once i.id)

  removed_others : (id : ℕ) → id ≢ i.id → count_of id (remove_id i.id xs) ≡ count_of id xs
  removed_others id apart =
      let none : one_if id i ≡ 0 = (let e : (i.id == id) ≡ false = grind (arith, nat_tests) in rw e refl) in
      omega (arith, sum-remove_id (one_if id) i.id i xs here)

  pub taken_by_remove_id : TakesOut xs (remove_id i.id xs) i
  taken_by_remove_id = record {
    here = here;
    once = once-remove_id i.id xs once;
    gone = removed_new;
    others = removed_others;
    finds = λ id j h. found-remove_id i.id j id xs once h;
    weight = sum-remove_id (λ (j : Item). j.weight) i.id i xs here;
  }

-- what is not taken out is found as before
pub stays_found : (xs ys : List Item) (i : Item) → TakesOut xs ys i → (id : ℕ) (j : Item) → id ≢ i.id → find_id id xs
    ≡ Some j → find_id id ys ≡ Some j
stays_found xs ys i out id j apart h =
    let k = found-where id ys (omega (arith, out.others id apart, found-counted id j xs h)) in
    let same : k.0 ≡ j = cc (out.finds id k.0 k.1, h) in
    k.1 ∙ ap (λ (x : Item). Some x) same
