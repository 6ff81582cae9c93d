-- Lists of items: what the first of a list and a move of it leave.
use Rattle.std.proofs.Common.{◌≡◌, ◌≢◌, ℕ, ◌<◌, List, [], ◌∷◌, ◌++◌, Some, None, length, map, set, refl, sym, ◌∙◌, ap, arith}
use Rattle.foyer_policy.specs.Items.{weight_of}
use Rattle.foyer_policy.specs.Lists.{list_at, find, find_in, first_or, first_value, rest, drop_place, moved, AreLists}
use Rattle.foyer_policy.specs.declared.types.Item.{Item}
use Rattle.foyer_policy.proofs.PlaceLemmas.{Begins, begins}
use Rattle.foyer_policy.proofs.ListsLemmas.{find-mid, found_here, pop-some, moved-here, moved-there, moved-other}

-- a list that is not empty
pub record Cons {X : Type 0} (l : List X) : Type 0 where
  pub head : X
  pub tail : List X
  pub is : l ≡ head ∷ tail

pub cons_of : {X : Type 0} (l : List X) → 0 < length l → Cons l
cons_of [] h = absurd (omega arith)
cons_of (x ∷ xs) h = record { head = x; tail = xs; is = refl }

pub cons_over : (limit : ℕ) (l : List (ℕ × Item)) → limit < weight_of (map (λ e. e.1) l) → Cons l
cons_over limit [] h = absurd (omega arith)
cons_over limit (x ∷ xs) h = record { head = x; tail = xs; is = refl }

module _ (ls : List (List (ℕ × Item))) (sound : AreLists 3 ls) (k p : ℕ)
    (front : Some p ≡ first_or (list_at ls k) None) where
  -- what is found at a list's first place is its first value
  pub first-value : (i : Item) → find p ls ≡ Some i → first_value (list_at ls k) ≡ Some i
  first-value i found =
      let b : Begins p (list_at ls k) = begins p (list_at ls k) (sym front) in
      let same : Some b.value ≡ Some i = sym (find-mid 3 ls sound k p b.value [] b.back b.is) ∙ found in
      ap first_value b.is ∙ same

  -- and the list's first entry stands at that place
  pub first-place : (e : ℕ × Item) (es : List (ℕ × Item)) → list_at ls k ≡ e ∷ es → p ≡ e.0
  first-place e es is = (let h : Some p ≡ Some e.0 = front ∙ ap (λ (l : List (ℕ × Item)). first_or l None) is in cc)

  module _ (ls2 : List (List (ℕ × Item))) (moved_is : ls2 ≡ moved p 1 ls) (ne : k ≢ 1) where
    pub demoted-from : (e : ℕ × Item) (es : List (ℕ × Item)) → list_at ls k ≡ e ∷ es → list_at ls2 k ≡ es
    demoted-from e es is = rw (moved_is, first-place e es is)
        (moved-here 3 ls sound k e.0 e.1 [] es is 1 (λ h. ne (sym h)))

    pub demoted-probation : (e : ℕ × Item) (es : List (ℕ × Item)) → list_at ls k ≡ e ∷ es → list_at ls2 1
        ≡ list_at ls 1 ++ e ∷ []
    demoted-probation e es is = rw (moved_is, first-place e es is)
        (moved-there 3 ls sound k e.0 e.1 [] es is 1 (λ h. ne (sym h)) (omega (arith, sound.count)))

    pub demoted-others : (j : ℕ) → j ≢ k → j ≢ 1 → list_at ls2 j ≡ list_at ls j
    demoted-others j nk n1 =
        let b : Begins p (list_at ls k) = begins p (list_at ls k) (sym front) in
        rw moved_is (moved-other 3 ls sound k p b.value [] b.back b.is j 1 n1 nk)

  pub first-weight : (i : Item) → find p ls ≡ Some i → (e : ℕ × Item) (es : List (ℕ × Item)) → list_at ls k ≡ e ∷ es →
      i.weight ≡ e.1.weight
  first-weight i found e es is =
      let h : Some e.1 ≡ Some i = ap first_value (sym is) ∙ first-value i found in
      let same : i ≡ e.1 = cc in
      ap (λ (x : Item). x.weight) same

-- the first of a list, popped, was taken out at its place
pub record Popped (ls : List (List (ℕ × Item))) (k : ℕ) (i : Item) : Type 0 where
  pub place : ℕ
  pub there : find_in place (list_at ls k) ≡ Some i
  pub gone : set ls k (rest (list_at ls k)) ≡ map (drop_place place) ls

pub popped : (ls : List (List (ℕ × Item))) (k : ℕ) (i : Item) → AreLists 3 ls → Some i ≡ first_value (list_at ls k) →
    Popped ls k i
popped ls k i sound first = go (list_at ls k) refl first where
  go : (l : List (ℕ × Item)) → list_at ls k ≡ l → Some i ≡ first_value l → Popped ls k i
  go [] is h = absurd cc
  go (e ∷ es) is h =
      let same : e.1 ≡ i = cc in
      let whole : list_at ls k ≡ (e.0, i) ∷ es = is ∙ ap (λ (x : Item). (e.0, x) ∷ es) same in
      record {
        place = e.0;
        there = found_here 3 ls sound k e.0 i [] es whole;
        gone =
            pop-some 3 ls sound k e.0 i es whole;
      }

-- three lists, once each is emptied
pub emptied : (ls : List (List (ℕ × Item))) → length (set ls 0 []) ≡ 3 → set (set (set ls 0 []) 1 []) 2 []
    ≡ [] ∷ [] ∷ [] ∷ []
emptied [] h = absurd (omega (arith, h))
emptied (a ∷ []) h = absurd (omega (arith, h))
emptied (a ∷ b ∷ []) h = absurd (omega (arith, h))
emptied (a ∷ b ∷ c ∷ []) h = refl
emptied (a ∷ b ∷ c ∷ d ∷ ds) h = absurd (omega (arith, h))
