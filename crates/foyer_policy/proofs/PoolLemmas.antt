-- Three lists of nodes: the first of the pool goes to the low list.
use Rattle.std.proofs.Common.{◌≡◌, ℕ, ◌<◌, true, List, [], ◌∷◌, ◌++◌, Some, None, length, map, refl, sym, ◌∙◌, ap, arith, sum_by}
use Rattle.std.specs.Prelude.{◌==◌}
use Rattle.foyer_policy.specs.Lists.{list_at, find, find_in, with_value, moved, first_or, IsFree, AreLists}
use Rattle.foyer_policy.proofs.PlaceLemmas.{same_place, with_value-free, drop_place-free, find_in-free}

-- a list that is not empty
pub record Cons {X : Type 0} (l : List X) : Type 0 where
  pub head : X
  pub tail : List X
  pub is : l ≡ head ∷ tail

pub cons_of : {X : Type 0} (weight : X → ℕ) (limit : ℕ) (l : List X) → limit < sum_by weight l → Cons l
cons_of weight limit [] h = absurd (omega arith)
cons_of weight limit (x ∷ xs) h = record { head = x; tail = xs; is = refl }

pub cons-length : {X : Type 0} (l : List X) → Cons l → 0 < length l
cons-length l k = rw k.is (omega arith)

module _ {T : Type 0} where
  -- a list of three lists
  pub three : (ls : List (List (ℕ × T))) → length ls ≡ 3 → ls ≡ list_at ls 0 ∷ list_at ls 1 ∷ list_at ls 2 ∷ []
  three [] h = absurd (omega arith)
  three (a ∷ []) h = absurd (omega arith)
  three (a ∷ (b ∷ [])) h = absurd (omega arith)
  three (a ∷ (b ∷ (c ∷ []))) h = refl
  three (a ∷ (b ∷ (c ∷ (d ∷ ds)))) h = absurd (omega arith)

  lowered : (a es c : List (ℕ × T)) (e : ℕ × T) (w : T) → IsFree e.0 a → IsFree e.0 c
      → moved e.0 0 (map (with_value e.0 w) (a ∷ (e ∷ es) ∷ c ∷ [])) ≡ (a ++ (e.0, w) ∷ []) ∷ es ∷ c ∷ []
  lowered a es c e w fa fc =
      let x : (e.0 == e.0) ≡ true = same_place e.0 in
      rw (with_value-free e.0 w a fa, with_value-free e.0 w c fc, x)
      (rw (find_in-free e.0 a fa, x) (rw (drop_place-free e.0 a fa, drop_place-free e.0 c fc) refl))

  -- the front of list 1, where a call of `front` has found it
  module _ (ls : List (List (ℕ × T))) (sound : AreLists 3 ls) (p : ℕ) (n : T) (e : ℕ × T) (es : List (ℕ × T))
      (at : Some p ≡ first_or (list_at ls 1) None) (found : find p ls ≡ Some n) (is : list_at ls 1 ≡ e ∷ es) where
    place-first : p ≡ e.0
    place-first = (let x : Some p ≡ Some e.0 = rw is at at in cc)

    in_one : find_in e.0 (list_at ls 1) ≡ Some e.1
    in_one = rw (is, same_place e.0) refl

    off_zero : IsFree e.0 (list_at ls 0)
    off_zero = sound.between 1 0 e.0 e.1 (omega (arith, sound.count)) (omega (arith, sound.count)) (λ h. omega arith)
        in_one

    off_two : IsFree e.0 (list_at ls 2)
    off_two = sound.between 1 2 e.0 e.1 (omega (arith, sound.count)) (omega (arith, sound.count)) (λ h. omega arith)
        in_one

    whole : ls ≡ list_at ls 0 ∷ (e ∷ es) ∷ list_at ls 2 ∷ []
    whole = three ls sound.count ∙ ap (λ (l : List (ℕ × T)). list_at ls 0 ∷ l ∷ list_at ls 2 ∷ []) is

    pub node_is : n ≡ e.1
    node_is =
        let f : find e.0 ls ≡ Some n = rw (← place-first) found in
        let g : find e.0 (list_at ls 0 ∷ (e ∷ es) ∷ list_at ls 2 ∷ []) ≡ Some n = sym (ap (find e.0) whole) ∙ f in
        let h : Some e.1 ≡ Some n = rw (find_in-free e.0 (list_at ls 0) off_zero, same_place e.0) at g in
        cc

    pub lowers : (w : T) → moved p 0 (map (with_value p w) ls)
        ≡ (list_at ls 0 ++ (e.0, w) ∷ []) ∷ es ∷ list_at ls 2 ∷ []
    lowers w = rw place-first
        (ap (λ (x : List (List (ℕ × T))). moved e.0 0 (map (with_value e.0 w) x)) whole
        ∙ lowered (list_at ls 0) es (list_at ls 2) e w off_zero off_two)
