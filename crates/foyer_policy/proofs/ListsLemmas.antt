-- All lists of values under places: where an entry stands, and what a call of `Lists` leaves.
use Rattle.std.proofs.Common.{◌≡◌, ◌≢◌, ℕ, zero, suc, ◌<◌, ◌≤◌, List, [], ◌∷◌, ◌++◌, Option, Some, None, length, map, get_or, set, refl, sym, ◌∙◌, ap, arith, ◌⊎◌, inl, inr, ⊎_elim, sum_by, length-append, length-set, IsSome, rules}
use Rattle.std.proofs.lemmas.Bool.Decides.{eqb_tells, leb_tells}
use Rattle.std.proofs.lemmas.List.{get_or-set_same, get_or-set_other, ext_get_or, set-get_or, set-set, get_or_past}
use Rattle.std.proofs.lemmas.List.Sums.{get_or-le-sum_by}
use Rattle.std.proofs.Math.ListN.{get_or-map, length-map}
use Rattle.foyer_policy.specs.Lists.{list_at, first_entry, first_or, first_value, find_in, find, or_else, rest, drop_place, with_value, moved, IsFree, IsDistinct, AreLists}
use Rattle.foyer_policy.proofs.PlaceLemmas.{IsFree-none, find_in-free, drop_place-free, with_value-free, find_in-mid, drop_place-mid, with_value-mid, IsDistinct-mid, Split, split}

pub same_or_not : (j k : ℕ) → (j ≡ k) ⊎ (j ≢ k)
same_or_not j k = ⊎_elim (λ e. inl e.1) (λ e. inr e.1) (eqb_tells j k)

pub below_or_past : (j n : ℕ) → (j < n) ⊎ (n ≤ j)
below_or_past j n = ⊎_elim (λ h. inr h.1) (λ h. inl h.1) (leb_tells n j)

module _ {T : Type 0} where
  pub or_else-none : (a b : Option T) → or_else a b ≡ None → (a ≡ None) × (b ≡ None)
  or_else-none None b h = (refl, h)
  or_else-none (Some x) b h = absurd cc

  -- which list has a place
  pub record Member (p : ℕ) (v : T) (ls : List (List (ℕ × T))) : Type 0 where
    pub list : ℕ
    pub within : list < length ls
    pub there : find_in p (list_at ls list) ≡ Some v

  pub member : (p : ℕ) (v : T) (ls : List (List (ℕ × T))) → find p ls ≡ Some v → Member p v ls
  member p v [] h = absurd cc
  member p v (l ∷ ls) h = go (find_in p l) refl h (member p v ls) where
    go : (o : Option T) → find_in p l ≡ o → or_else o (find p ls) ≡ Some v → (find p ls ≡ Some v → Member p v ls) →
        Member p v (l ∷ ls)
    go None is h rec =
        let m : Member p v ls = rec h in
        record { list = suc m.list; within = omega (arith, m.within); there = m.there }
    go (Some x) is h rec = record { list = 0; within = omega arith; there = is ∙ h }

  -- where in its list a place stands
  pub record Stands (p : ℕ) (v : T) (ls : List (List (ℕ × T))) : Type 0 where
    pub list : ℕ
    pub within : list < length ls
    pub front : List (ℕ × T)
    pub back : List (ℕ × T)
    pub is : list_at ls list ≡ front ++ (p, v) ∷ back

  pub stands : (p : ℕ) (v : T) (ls : List (List (ℕ × T))) → find p ls ≡ Some v → Stands p v ls
  stands p v ls h =
      let m : Member p v ls = member p v ls h in
      let s : Split p v (list_at ls m.list) = split p v (list_at ls m.list) m.there in
      record { list = m.list; within = m.within; front = s.front; back = s.back; is = s.is }

  -- a place that is in some list
  pub record IsIn (p : ℕ) (ls : List (List (ℕ × T))) : Type 0 where
    pub value : T
    pub found : find p ls ≡ Some value
    pub stands : Stands p value ls

  pub is_in : (p : ℕ) (ls : List (List (ℕ × T))) → IsSome (find p ls) → IsIn p ls
  is_in p ls h = go (find p ls) refl h where
    go : (o : Option T) → find p ls ≡ o → IsSome o → IsIn p ls
    go None e h = absurd (search rules)
    go (Some v) e h = record { value = v; found = e; stands = stands p v ls e }

  -- a free place is in no list
  pub free_at : (p : ℕ) (ls : List (List (ℕ × T))) (k : ℕ) → find p ls ≡ None → IsFree p (list_at ls k)
  free_at p [] k h = tt
  free_at p (l ∷ ls) zero h = IsFree-none p l (or_else-none (find_in p l) (find p ls) h).0
  free_at p (l ∷ ls) (suc k) h = free_at p ls k (or_else-none (find_in p l) (find p ls) h).1

  pub AreLists-rest : (n : ℕ) (l : List (ℕ × T)) (ls : List (List (ℕ × T))) → AreLists n (l ∷ ls) →
      AreLists (length ls) ls
  AreLists-rest n l ls s = record {
    count = refl;
    within = λ k lt. s.within (suc k) (omega arith);
    between = λ j k q v lj lk ne f. s.between (suc j) (suc k) q v (omega arith) (omega arith) (λ e. ne (omega arith)) f;
  }

  -- what stands in one of the lists is found
  pub find-at : (n : ℕ) (ls : List (List (ℕ × T))) (k p : ℕ) (v : T) → AreLists n ls → k < length ls →
      find_in p (list_at ls k) ≡ Some v → find p ls ≡ Some v
  find-at n [] k p v s lt h = absurd (omega arith)
  find-at n (l ∷ ls) zero p v s lt h = rw h refl
  find-at n (l ∷ ls) (suc k) p v s lt h =
      let f : IsFree p l = s.between (suc k) 0 p v lt (omega arith) (λ e. omega arith) h in
      rw (find_in-free p l f) (find-at (length ls) ls k p v (AreLists-rest n l ls s) (omega arith) h)

  -- few lists, one by one
  pub single : (ls : List (List (ℕ × T))) → length ls ≡ 1 → ls ≡ list_at ls 0 ∷ []
  single [] h = absurd (omega arith)
  single (a ∷ []) h = refl
  single (a ∷ (b ∷ bs)) h = absurd (omega arith)

  pub two : (ls : List (List (ℕ × T))) → length ls ≡ 2 → ls ≡ list_at ls 0 ∷ list_at ls 1 ∷ []
  two [] h = absurd (omega arith)
  two (a ∷ []) h = absurd (omega arith)
  two (a ∷ (b ∷ [])) h = refl
  two (a ∷ (b ∷ (c ∷ cs))) h = absurd (omega arith)

  pub three : (ls : List (List (ℕ × T))) → length ls ≡ 3 → ls ≡ list_at ls 0 ∷ list_at ls 1 ∷ list_at ls 2 ∷ []
  three [] h = absurd (omega arith)
  three (a ∷ []) h = absurd (omega arith)
  three (a ∷ (b ∷ [])) h = absurd (omega arith)
  three (a ∷ (b ∷ (c ∷ []))) h = refl
  three (a ∷ (b ∷ (c ∷ (d ∷ ds)))) h = absurd (omega arith)

  pub find-single : (p : ℕ) (l : List (ℕ × T)) → find p (l ∷ []) ≡ find_in p l
  find-single p l = go (find_in p l) where
    go : (o : Option T) → or_else o None ≡ o
    go None = refl
    go (Some x) = refl

  -- the first value is that of the first entry
  pub entry-value : (l : List (ℕ × T)) (e : ℕ × T) → Some e ≡ first_entry l → Some e.1 ≡ first_value l
  entry-value [] e h = absurd cc
  entry-value (x ∷ xs) e h = (let same : e ≡ x = cc in ap (λ (y : ℕ × T). Some y.1) same)

  pub entry-none : (l : List (ℕ × T)) → None ≡ first_entry l → None ≡ first_value l
  entry-none [] h = refl
  entry-none (x ∷ xs) h = absurd cc

  -- no list is longer than all of them
  pub length-list_at : (ls : List (List (ℕ × T))) (k : ℕ) → length (list_at ls k) ≤ sum_by length ls
  length-list_at ls k = go (below_or_past k (length ls)) where
    go : (k < length ls) ⊎ (length ls ≤ k) → length (list_at ls k) ≤ sum_by length ls
    go (inl lt) = get_or-le-sum_by length ls k [] lt
    go (inr past) = omega (arith, ap length (get_or_past ls k [] past))

  pub within_if_found : (ls : List (List (ℕ × T))) (k : ℕ) (e : ℕ × T) (xs ys : List (ℕ × T)) → list_at ls k ≡ xs
      ++ e ∷ ys → k < length ls
  within_if_found ls k e xs ys is = go (below_or_past k (length ls)) where
    go : (k < length ls) ⊎ (length ls ≤ k) → k < length ls
    go (inl lt) = lt
    go (inr past) = absurd (omega (arith, ap length (sym (get_or_past ls k [] past) ∙ is), length-append xs (e ∷ ys)))

  -- one list is changed by f, and the others have nothing that f changes
  map_at : (f : List (ℕ × T) → List (ℕ × T)) (ls : List (List (ℕ × T))) (k : ℕ) (l : List (ℕ × T)) → f [] ≡ [] →
      k < length ls → f (list_at ls k) ≡ l
      → ((j : ℕ) → j ≢ k → f (list_at ls j) ≡ list_at ls j) → map f ls ≡ set ls k l
  map_at f ls k l nil lt here other = ext_get_or [] (map f ls) (set ls k l)
      (length-map ls f ∙ sym (length-set ls k l)) (λ j less.
      ap (get_or (map f ls) j) (sym nil) ∙ get_or-map f ls j [] ∙ go j (same_or_not j k)) where
        go : (j : ℕ) → (j ≡ k) ⊎ (j ≢ k) → f (get_or ls j []) ≡ get_or (set ls k l) j []
        go j (inl q) = rw (q, get_or-set_same ls k l [] lt) here
        go j (inr ne) = other j ne ∙ sym (get_or-set_other ls k j l [] ne)

  -- an entry of list k, and what a call at its place leaves
  module _ (n : ℕ) (ls : List (List (ℕ × T))) (sound : AreLists n ls) (k p : ℕ) (v : T) (xs ys : List (ℕ × T))
      (is : list_at ls k ≡ xs ++ (p, v) ∷ ys) where
    within : k < length ls
    within = within_if_found ls k (p, v) xs ys is

    pub free_beside : IsFree p xs × IsFree p ys
    free_beside =
        let d : IsDistinct (list_at ls k) = sound.within k within in
        let d' : IsDistinct (xs ++ (p, v) ∷ ys) = rw is at d in
        IsDistinct-mid p v xs ys d'

    pub found_here : find_in p (list_at ls k) ≡ Some v
    found_here = rw is (find_in-mid p v xs ys free_beside.0)

    pub free_elsewhere : (j : ℕ) → j ≢ k → IsFree p (list_at ls j)
    free_elsewhere j ne = go (below_or_past j (length ls)) where
      go : (j < length ls) ⊎ (length ls ≤ j) → IsFree p (list_at ls j)
      go (inl lt) = sound.between k j p v within lt (λ e. ne (sym e)) found_here
      go (inr past) = rw (get_or_past ls j [] past) tt

    pub find-mid : find p ls ≡ Some v
    find-mid = find-at n ls k p v sound within found_here

    -- a write
    pub write-all : (w : T) → map (with_value p w) ls ≡ set ls k (xs ++ (p, w) ∷ ys)
    write-all w = map_at (with_value p w) ls k (xs ++ (p, w) ∷ ys) refl within
        (rw is (with_value-mid p v w xs ys free_beside.0))
        (λ j ne. with_value-free p w (list_at ls j) (free_elsewhere j ne))

    pub write-here : (w : T) → list_at (map (with_value p w) ls) k ≡ xs ++ (p, w) ∷ ys
    write-here w = rw (write-all w) (get_or-set_same ls k (xs ++ (p, w) ∷ ys) [] within)

    pub write-other : (w : T) (j : ℕ) → j ≢ k → list_at (map (with_value p w) ls) j ≡ list_at ls j
    write-other w j ne = rw (write-all w) (get_or-set_other ls k j (xs ++ (p, w) ∷ ys) [] ne)

    -- a removal
    pub drop-all : map (drop_place p) ls ≡ set ls k (xs ++ ys)
    drop-all = map_at (drop_place p) ls k (xs ++ ys) refl within (rw is (drop_place-mid p v xs ys free_beside.0))
        (λ j ne. drop_place-free p (list_at ls j) (free_elsewhere j ne))

    pub drop-here : list_at (map (drop_place p) ls) k ≡ xs ++ ys
    drop-here = rw drop-all (get_or-set_same ls k (xs ++ ys) [] within)

    pub drop-other : (j : ℕ) → j ≢ k → list_at (map (drop_place p) ls) j ≡ list_at ls j
    drop-other j ne = rw drop-all (get_or-set_other ls k j (xs ++ ys) [] ne)

    -- a move to another list, and to the end of its own
    pub moved-is : (j : ℕ) → moved p j ls ≡ set (set ls k (xs ++ ys)) j (list_at (set ls k (xs ++ ys)) j ++ (p, v) ∷ [])
    moved-is j = rw (find-mid, drop-all) refl

    pub moved-all : (j : ℕ) → j ≢ k → moved p j ls ≡ set (set ls k (xs ++ ys)) j (list_at ls j ++ (p, v) ∷ [])
    moved-all j ne = moved-is j ∙ ap (λ (l : List (ℕ × T)). set (set ls k (xs ++ ys)) j (l ++ (p, v) ∷ []))
        (get_or-set_other ls k j (xs ++ ys) [] ne)

    pub moved-here : (j : ℕ) → j ≢ k → list_at (moved p j ls) k ≡ xs ++ ys
    moved-here j ne = rw (moved-all j ne)
        (get_or-set_other (set ls k (xs ++ ys)) j k (list_at ls j ++ (p, v) ∷ []) [] (λ e. ne (sym e))
        ∙ get_or-set_same ls k (xs ++ ys) [] within)

    pub moved-there : (j : ℕ) → j ≢ k → j < length ls → list_at (moved p j ls) j ≡ list_at ls j ++ (p, v) ∷ []
    moved-there j ne lt = rw (moved-all j ne)
        (get_or-set_same (set ls k (xs ++ ys)) j (list_at ls j ++ (p, v) ∷ []) [] (rw length-set lt))

    pub moved-other : (i j : ℕ) → i ≢ j → i ≢ k → list_at (moved p j ls) i ≡ list_at ls i
    moved-other i j ni nk = rw (moved-is j)
        (get_or-set_other (set ls k (xs ++ ys)) j i (list_at (set ls k (xs ++ ys)) j ++ (p, v) ∷ []) [] ni
        ∙ get_or-set_other ls k i (xs ++ ys) [] nk)

    pub moved-own : moved p k ls ≡ set ls k ((xs ++ ys) ++ (p, v) ∷ [])
    moved-own =
        moved-is k
        ∙ ap (λ (l : List (ℕ × T)). set (set ls k (xs ++ ys)) k (l ++ (p, v) ∷ []))
        (get_or-set_same ls k (xs ++ ys) [] within)
        ∙ set-set ls k (xs ++ ys) ((xs ++ ys) ++ (p, v) ∷ [])

  -- the first of what stands behind a part of a list
  pub first_found : (n : ℕ) (ls : List (List (ℕ × T))) → AreLists n ls → (k q : ℕ) (xs ys : List (ℕ × T)) →
      list_at ls k ≡ xs ++ ys → first_or ys None ≡ Some q → IsSome (find q ls)
  first_found n ls sound k q xs [] is h = absurd cc
  first_found n ls sound k q xs (y ∷ ys) is h = let e : y.0 ≡ q = cc in
      rw (← e, find-mid n ls sound k y.0 y.1 xs ys is) (search rules)

  -- the front of a list that leaves
  pub pop-some : (n : ℕ) (ls : List (List (ℕ × T))) → AreLists n ls → (k p : ℕ) (v : T) (ys : List (ℕ × T)) →
      list_at ls k ≡ (p, v) ∷ ys → set ls k (rest (list_at ls k)) ≡ map (drop_place p) ls
  pop-some n ls sound k p v ys is = ap (λ (l : List (ℕ × T)). set ls k (rest l)) is
      ∙ sym (drop-all n ls sound k p v [] ys is)

  pub pop-none : (ls : List (List (ℕ × T))) (k : ℕ) → list_at ls k ≡ [] → set ls k (rest (list_at ls k)) ≡ ls
  pop-none ls k is = ap (λ (l : List (ℕ × T)). set ls k (rest l)) is ∙ ap (set ls k) (sym is) ∙ set-get_or ls k []
