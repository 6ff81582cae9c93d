-- The entries of all lists as one list.
use Rattle.std.proofs.Common.{◌≡◌, ℕ, suc, ◌<◌, List, [], ◌∷◌, ◌++◌, Option, Some, None, length, map, refl, ◌∙◌, ap, arith, sum_by, length-append}
use Rattle.std.proofs.lemmas.List.Sums.{sum_by-cons}
use Rattle.foyer_policy.specs.Lists.{list_at, find_in, find, or_else, drop_place, with_value, flat, IsFree, IsDistinct, AreLists}
use Rattle.foyer_policy.proofs.PlaceLemmas.{IsFree-none, IsFree-append, IsDistinct-append, find_in-append, drop_place-free, drop_place-append_free, drop_place-append_found, with_value-free, with_value-append_free, with_value-append_found}
use Rattle.foyer_policy.proofs.ListsLemmas.{AreLists-rest}

module _ {T : Type 0} where
  -- what no list has changes no list
  map-drop_free : (p : ℕ) (ls : List (List (ℕ × T))) → ((k : ℕ) → k < length ls → IsFree p (list_at ls k)) →
      map (drop_place p) ls ≡ ls
  map-drop_free p [] h = refl
  map-drop_free p (l ∷ ls) h = ap (λ (x : List (ℕ × T)). x ∷ map (drop_place p) ls)
      (drop_place-free p l (h 0 (omega arith))) ∙ ap (λ r. l ∷ r) (map-drop_free p ls (λ k lt. h (suc k) (omega arith)))

  map-with_free : (p : ℕ) (w : T) (ls : List (List (ℕ × T))) → ((k : ℕ) → k < length ls → IsFree p (list_at ls k)) →
      map (with_value p w) ls ≡ ls
  map-with_free p w [] h = refl
  map-with_free p w (l ∷ ls) h = ap (λ (x : List (ℕ × T)). x ∷ map (with_value p w) ls)
      (with_value-free p w l (h 0 (omega arith)))
      ∙ ap (λ r. l ∷ r) (map-with_free p w ls (λ k lt. h (suc k) (omega arith)))

  -- what is found in one of the lists is found in all
  pub find_in-flat : (p : ℕ) (ls : List (List (ℕ × T))) → find_in p (flat ls) ≡ find p ls
  find_in-flat p [] = refl
  find_in-flat p (l ∷ ls) = find_in-append p l (flat ls) ∙ ap (or_else (find_in p l)) (find_in-flat p ls)

  -- a value taken out of its list is taken out of all
  pub flat-drop_place : (n p : ℕ) (ls : List (List (ℕ × T))) → AreLists n ls → flat (map (drop_place p) ls)
      ≡ drop_place p (flat ls)
  flat-drop_place n p [] s = refl
  flat-drop_place n p (l ∷ ls) s = go (find_in p l) refl
      (flat-drop_place (length ls) p ls (AreLists-rest n l ls s)) where
        go : (o : Option T) → find_in p l ≡ o → flat (map (drop_place p) ls) ≡ drop_place p (flat ls) → drop_place p l
            ++ flat (map (drop_place p) ls) ≡ drop_place p (l ++ flat ls)
        go None is rec = let f : IsFree p l = IsFree-none p l is in
            rw (drop_place-free p l f, drop_place-append_free p l (flat ls) f, rec) refl
        go (Some v) is rec =
            let all : map (drop_place p) ls ≡ ls = map-drop_free p ls
            (λ k lt. s.between 0 (suc k) p v (omega arith) (omega arith) (λ e. omega arith) is) in
            rw (drop_place-append_found p v l (flat ls) is, all) refl

  -- a value written in its list is written in all
  pub flat-with_value : (n p : ℕ) (w : T) (ls : List (List (ℕ × T))) → AreLists n ls → flat (map (with_value p w) ls)
      ≡ with_value p w (flat ls)
  flat-with_value n p w [] s = refl
  flat-with_value n p w (l ∷ ls) s = go (find_in p l) refl
      (flat-with_value (length ls) p w ls (AreLists-rest n l ls s)) where
        go : (o : Option T) → find_in p l ≡ o → flat (map (with_value p w) ls) ≡ with_value p w (flat ls) →
            with_value p w l ++ flat (map (with_value p w) ls) ≡ with_value p w (l ++ flat ls)
        go None is rec = let f : IsFree p l = IsFree-none p l is in
            rw (with_value-free p w l f, with_value-append_free p w l (flat ls) f, rec) refl
        go (Some v) is rec =
            let all : map (with_value p w) ls ≡ ls =
            map-with_free p w ls (λ k lt. s.between 0 (suc k) p v (omega arith) (omega arith) (λ e. omega arith) is) in
            rw (with_value-append_found p v w l (flat ls) is, all) refl

  pub length-flat : (ls : List (List (ℕ × T))) → length (flat ls) ≡ sum_by length ls
  length-flat [] = refl
  length-flat (l ∷ ls) = omega (arith, length-append l (flat ls), sum_by-cons length l ls, length-flat ls)

  IsFree-flat : (p : ℕ) (ls : List (List (ℕ × T))) → ((k : ℕ) → k < length ls → IsFree p (list_at ls k)) →
      IsFree p (flat ls)
  IsFree-flat p [] h = tt
  IsFree-flat p (l ∷ ls) h = IsFree-append p l (flat ls) (h 0 (omega arith))
      (IsFree-flat p ls (λ k lt. h (suc k) (omega arith)))

  -- each place stands once in all lists
  pub IsDistinct-flat : (n : ℕ) (ls : List (List (ℕ × T))) → AreLists n ls → IsDistinct (flat ls)
  IsDistinct-flat n [] s = tt
  IsDistinct-flat n (l ∷ ls) s =
      IsDistinct-append l (flat ls) (s.within 0 (omega arith)) (IsDistinct-flat (length ls) ls (AreLists-rest n l ls s))
      (λ q v is. IsFree-flat q ls (λ k lt. s.between 0 (suc k) q v (omega arith) (omega arith) (λ e. omega arith) is))
