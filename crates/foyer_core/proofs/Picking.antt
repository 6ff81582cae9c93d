-- The records of which a predicate says yes.
use Rattle.std.proofs.Common.{◌≡◌, ℕ, ◌≤◌, List, [], ◌∷◌, ◌++◌, Bool, true, false, refl, sym, ◌∙◌, ap, subst, arith}
use Rattle.std.specs.Prelude.{sum_by, if◌then◌else◌}
use Rattle.std.specs.List.{AllZip, items_where_true}
use Rattle.std.proofs.lemmas.List.Sums.{sum_by-cons}
use Rattle.foyer_policy.specs.Items.{IsWithin}
use Rattle.foyer_policy.specs.declared.types.Item.{Item}
use Rattle.foyer_core.specs.State.{Meaning, State}
use Rattle.foyer_core.specs.Bulk.{Answers, Picks}

-- one pair more
zip_more : {A B : Type 0} (R : A → B → Type 0) (xs : List A) (ys : List B) (x : A) (y : B) → AllZip R xs ys → R x y →
    AllZip R (xs ++ x ∷ []) (ys ++ y ∷ [])
zip_more R [] [] x y h r = (r, tt)
zip_more R [] (b ∷ ys) x y h r = absurd h
zip_more R (a ∷ xs) [] x y h r = absurd h
zip_more R (a ∷ xs) (b ∷ ys) x y h r = (h.0, zip_more R xs ys x y h.1 r)

yes_more : {A : Type 0} (R : A → Bool → Type 0) (xs : List A) (bs : List Bool) (x : A) (b : Bool) → AllZip R xs bs →
    items_where_true (bs ++ b ∷ []) (xs ++ x ∷ []) ≡ items_where_true bs xs ++ (if b then x ∷ [] else [])
yes_more R [] [] x true h = refl
yes_more R [] [] x false h = refl
yes_more R [] (c ∷ bs) x b h = absurd h
yes_more R (a ∷ xs) [] x b h = absurd h
yes_more {A} R (a ∷ xs) (true ∷ bs) x b h = ap (λ (l : List A). a ∷ l) (yes_more R xs bs x b h.1)
yes_more R (a ∷ xs) (false ∷ bs) x b h = yes_more R xs bs x b h.1

pub yes_within : (f : Item → ℕ) (bs : List Bool) (xs : List Item) → sum_by f (items_where_true bs xs) ≤ sum_by f xs
yes_within f [] xs = omega arith
yes_within f (b ∷ bs) [] = omega arith
yes_within f (true ∷ bs) (x ∷ xs) =
    omega (arith, sum_by-cons f x (items_where_true bs xs), sum_by-cons f x xs, yes_within f bs xs)
yes_within f (false ∷ bs) (x ∷ xs) = omega (arith, sum_by-cons f x xs, yes_within f bs xs)

module _ {K V P View : Type 0} (says : K → V → Bool → Type 0) (s : State K V P View) where
  -- the items so far have one answer each
  pub record PickedSoFar (items picked : List Item) : Type 0 where
    pub answers : List Bool
    pub each : AllZip (λ i. Answers says s i.id) items answers
    pub picked_is : picked ≡ items_where_true answers items

  pub picked-start : PickedSoFar [] []
  picked-start = record { answers = []; each = tt; picked_is = refl }

  pub picked-more : (items picked : List Item) (i : Item) (b : Bool) → PickedSoFar items picked →
      Answers says s i.id b → PickedSoFar (items ++ i ∷ []) (picked ++ (if b then i ∷ [] else []))
  picked-more items picked i b h a = record {
    answers = h.answers ++ b ∷ [];
    each = zip_more (λ (j : Item). Answers says s j.id) items h.answers i b h.each a;
    picked_is = ap (λ (l : List Item). l ++ (if b then i ∷ [] else [])) h.picked_is
        ∙ sym (yes_more (λ (j : Item) (c : Bool). Answers says s j.id c) items h.answers i b h.each);
  }

  pub picked_within : (items picked : List Item) → PickedSoFar items picked → IsWithin picked items
  picked_within items picked h f = rw h.picked_is (yes_within f h.answers items)

  pub picks : {C : Type 0} (m : Meaning K P View C) (items picked : List Item) → items ≡ m.policy.order s.view →
      PickedSoFar items picked → Picks m says s picked
  picks m items picked all h =
      let g : PickedSoFar (m.policy.order s.view) picked = subst (λ (l : List Item). PickedSoFar l picked) all h in
      record { answers = g.answers; each = g.each; picked_is = g.picked_is }
