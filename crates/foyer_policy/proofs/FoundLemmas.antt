-- What is found at each place after a call of `Lists`, and that each place stands once.
use Rattle.std.proofs.Common.{◌≡◌, ◌≢◌, ℕ, zero, suc, ◌<◌, Bool, true, false, cond, List, [], ◌∷◌, ◌++◌, Option, Some, None, length, map, set, refl, sym, ◌∙◌, ap, arith, ◌⊎◌, inl, inr, length-set, IsSome, rules}
use Rattle.std.specs.Prelude.{◌==◌, if◌then◌else◌}
use Rattle.std.proofs.lemmas.List.{get_or-set_same, get_or-set_other}
use Rattle.std.proofs.Math.ListN.{get_or-map, length-map}
use Rattle.foyer_policy.specs.Lists.{list_at, find_in, find, or_else, drop_place, with_value, moved, IsFree, IsDistinct, AreLists}
use Rattle.foyer_policy.proofs.PlaceLemmas.{place_is, other_place, place_differs, same_place, IsFree-none, find_in-free, with_value-free, IsDistinct-snoc, IsFree-append, find_in-snoc, IsFree-drop_place, IsDistinct-drop_place, dropped_is_free, find_in-drop_other, IsFree-with_value, IsDistinct-with_value, find_in-with_other, find_in-with_same}
use Rattle.foyer_policy.proofs.ListsLemmas.{same_or_not, or_else-none, free_at, IsIn, is_in}

module _ {T : Type 0} where
  -- a write
  pub find-write_other : (p q : ℕ) (w : T) (ls : List (List (ℕ × T))) → p ≢ q → find q (map (with_value p w) ls)
      ≡ find q ls
  find-write_other p q w [] ne = refl
  find-write_other p q w (l ∷ ls) ne = rw (find_in-with_other q p w l ne, find-write_other p q w ls ne) refl

  pub find-write_same : (p : ℕ) (v w : T) (ls : List (List (ℕ × T))) → find p ls ≡ Some v →
      find p (map (with_value p w) ls) ≡ Some w
  find-write_same p v w [] h = absurd cc
  find-write_same p v w (l ∷ ls) h = go (find_in p l) refl h (find-write_same p v w ls) where
    go : (o : Option T) → find_in p l ≡ o → or_else o (find p ls) ≡ Some v →
        (find p ls ≡ Some v → find p (map (with_value p w) ls) ≡ Some w)
        → or_else (find_in p (with_value p w l)) (find p (map (with_value p w) ls)) ≡ Some w
    go None is h rec = rw (with_value-free p w l (IsFree-none p l is), is) (rec h)
    go (Some x) is h rec = rw (find_in-with_same p x w l is) refl

  pub find-write : (p q : ℕ) (v w : T) (ls : List (List (ℕ × T))) → find p ls ≡ Some v →
      find q (map (with_value p w) ls) ≡ (if p == q then Some w else find q ls)
  find-write p q v w ls h = go (p == q) refl where
    go : (b : Bool) → (p == q) ≡ b → find q (map (with_value p w) ls) ≡ cond b (Some w) (find q ls)
    go true is = rw (← place_is p q is) (find-write_same p v w ls h)
    go false is = find-write_other p q w ls (place_differs p q is)

  pub write_found : (p q : ℕ) (w : T) (ls : List (List (ℕ × T))) → IsSome (find q ls) →
      IsSome (find q (map (with_value p w) ls))
  write_found p q w ls h = go (p == q) refl where
    go : (b : Bool) → (p == q) ≡ b → IsSome (find q (map (with_value p w) ls))
    go true is =
        let e : p ≡ q = place_is p q is in
        let i : IsIn q ls = is_in q ls h in
        rw (e, find-write_same q i.value w ls i.found) (search rules)
    go false is = rw (find-write_other p q w ls (place_differs p q is)) h

  -- a removal
  pub find-drop_other : (p q : ℕ) (ls : List (List (ℕ × T))) → p ≢ q → find q (map (drop_place p) ls) ≡ find q ls
  find-drop_other p q [] ne = refl
  find-drop_other p q (l ∷ ls) ne = rw (find_in-drop_other q p l ne, find-drop_other p q ls ne) refl

  pub find-drop_same : (p : ℕ) (ls : List (List (ℕ × T))) → ((k : ℕ) → k < length ls → IsDistinct (list_at ls k)) →
      find p (map (drop_place p) ls) ≡ None
  find-drop_same p [] d = refl
  find-drop_same p (l ∷ ls) d =
      let e : find_in p (drop_place p l) ≡ None =
      find_in-free p (drop_place p l) (dropped_is_free p l (d 0 (omega arith))) in
      rw e (find-drop_same p ls (λ k lt. d (suc k) (omega arith)))

  pub find-drop : (n p q : ℕ) (ls : List (List (ℕ × T))) → AreLists n ls → find q (map (drop_place p) ls)
      ≡ (if p == q then None else find q ls)
  find-drop n p q ls sound = go (p == q) refl where
    go : (b : Bool) → (p == q) ≡ b → find q (map (drop_place p) ls) ≡ cond b None (find q ls)
    go true is = rw (← place_is p q is) (find-drop_same p ls sound.within)
    go false is = find-drop_other p q ls (place_differs p q is)

  -- a value that comes in at a free place
  pub find-push : (p q : ℕ) (v : T) (ls : List (List (ℕ × T))) (k : ℕ) → find p ls ≡ None → k < length ls
      → find q (set ls k (list_at ls k ++ (p, v) ∷ [])) ≡ (if p == q then Some v else find q ls)
  find-push p q v [] k free lt = absurd (omega arith)
  find-push p q v (l ∷ ls) zero free lt = rw (find_in-snoc q p v l) (go (p == q) refl) where
    none : (p == q) ≡ true → find_in q l ≡ None
    none is = rw (← place_is p q is) (or_else-none (find_in p l) (find p ls) free).0

    both : (a b : Option T) → or_else (or_else a None) b ≡ or_else a b
    both None b = refl
    both (Some x) b = refl

    go : (b : Bool) → (p == q) ≡ b → or_else (or_else (find_in q l) (cond b (Some v) None)) (find q ls)
        ≡ cond b (Some v) (or_else (find_in q l) (find q ls))
    go true is = rw (none is) refl
    go false is = both (find_in q l) (find q ls)
  find-push p q v (l ∷ ls) (suc k) free lt =
      rw (find-push p q v ls k (or_else-none (find_in p l) (find p ls) free).1 (omega arith)) (go (p == q) refl) where
        none : (p == q) ≡ true → find_in q l ≡ None
        none is = rw (← place_is p q is) (or_else-none (find_in p l) (find p ls) free).0

        go : (b : Bool) → (p == q) ≡ b → or_else (find_in q l) (cond b (Some v) (find q ls))
            ≡ cond b (Some v) (or_else (find_in q l) (find q ls))
        go true is = rw (none is) refl
        go false is = refl

  pub find-push_same : (p : ℕ) (v : T) (ls : List (List (ℕ × T))) (k : ℕ) → find p ls ≡ None → k < length ls →
      find p (set ls k (list_at ls k ++ (p, v) ∷ [])) ≡ Some v
  find-push_same p v ls k free lt = find-push p p v ls k free lt ∙ rw (same_place p) refl

  pub find-push_other : (p q : ℕ) (v : T) (ls : List (List (ℕ × T))) (k : ℕ) → find p ls ≡ None → k < length ls →
      q ≢ p → find q (set ls k (list_at ls k ++ (p, v) ∷ [])) ≡ find q ls
  find-push_other p q v ls k free lt ne = find-push p q v ls k free lt ∙ rw (other_place p q (λ e. ne (sym e))) refl

  -- a move: each place keeps its value
  pub find-back : (n p q : ℕ) (v : T) (ls : List (List (ℕ × T))) (k : ℕ) → AreLists n ls → find p ls ≡ Some v →
      k < length ls
      → find q (set (map (drop_place p) ls) k (list_at (map (drop_place p) ls) k ++ (p, v) ∷ [])) ≡ find q ls
  find-back n p q v ls k sound h lt =
      let left = map (drop_place p) ls in
      let free : find p left ≡ None = find-drop_same p ls sound.within in
      let pushed : find q (set left k (list_at left k ++ (p, v) ∷ [])) ≡ cond (p == q) (Some v) (find q left) =
      find-push p q v left k free (rw length-map lt) in
      pushed ∙ ap (cond (p == q) (Some v)) (find-drop n p q ls sound) ∙ go (p == q) refl where
        go : (b : Bool) → (p == q) ≡ b → cond b (Some v) (cond b None (find q ls)) ≡ find q ls
        go true is = rw (← place_is p q is) (sym h)
        go false is = refl

  pub find-moved : (n p q : ℕ) (v : T) (ls : List (List (ℕ × T))) (k : ℕ) → AreLists n ls → find p ls ≡ Some v →
      k < length ls → find q (moved p k ls) ≡ find q ls
  find-moved n p q v ls k sound h lt = rw h (find-back n p q v ls k sound h lt)

  -- the lists stay lists
  pub AreLists-write : (n p : ℕ) (w : T) (ls : List (List (ℕ × T))) → AreLists n ls →
      AreLists n (map (with_value p w) ls)
  AreLists-write n p w ls s = record {
    count = length-map ls (with_value p w) ∙ s.count;
    within = λ k lt. rw (get_or-map (with_value p w) ls k [])
        (IsDistinct-with_value p w (list_at ls k) (s.within k (rw length-map at lt)));
    between = λ j k q v lj lk ne f. rw (get_or-map (with_value p w) ls k [])
        (go j k q v (rw length-map at lj) (rw length-map at lk) ne (rw (get_or-map (with_value p w) ls j []) at f)
        (find_in q (list_at ls j)) refl);
  } where
    go : (j k q : ℕ) (v : T) → j < length ls → k < length ls → j ≢ k → find_in q (with_value p w (list_at ls j))
        ≡ Some v → (o : Option T) → find_in q (list_at ls j) ≡ o → IsFree q (with_value p w (list_at ls k))
    go j k q v lj lk ne f None is =
        (let x = find_in-free q (with_value p w (list_at ls j))
        (IsFree-with_value q p w (list_at ls j) (IsFree-none q (list_at ls j) is)) in absurd cc)
    go j k q v lj lk ne f (Some x) is = IsFree-with_value q p w (list_at ls k) (s.between j k q x lj lk ne is)

  pub AreLists-drop : (n p : ℕ) (ls : List (List (ℕ × T))) → AreLists n ls → AreLists n (map (drop_place p) ls)
  AreLists-drop n p ls s = record {
    count = length-map ls (drop_place p) ∙ s.count;
    within = λ k lt. rw (get_or-map (drop_place p) ls k [])
        (IsDistinct-drop_place p (list_at ls k) (s.within k (rw length-map at lt)));
    between = λ j k q v lj lk ne f. rw (get_or-map (drop_place p) ls k [])
        (go j k q v (rw length-map at lj) (rw length-map at lk) ne (rw (get_or-map (drop_place p) ls j []) at f)
        (find_in q (list_at ls j)) refl);
  } where
    go : (j k q : ℕ) (v : T) → j < length ls → k < length ls → j ≢ k → find_in q (drop_place p (list_at ls j))
        ≡ Some v → (o : Option T) → find_in q (list_at ls j) ≡ o → IsFree q (drop_place p (list_at ls k))
    go j k q v lj lk ne f None is =
        (let x = find_in-free q (drop_place p (list_at ls j))
        (IsFree-drop_place q p (list_at ls j) (IsFree-none q (list_at ls j) is)) in absurd cc)
    go j k q v lj lk ne f (Some x) is = IsFree-drop_place q p (list_at ls k) (s.between j k q x lj lk ne is)

  pub AreLists-push : (n p : ℕ) (v : T) (ls : List (List (ℕ × T))) (k : ℕ) → AreLists n ls → find p ls ≡ None →
      k < length ls → AreLists n (set ls k (list_at ls k ++ (p, v) ∷ []))
  AreLists-push n p v ls k s free lt = record {
    count = length-set ls k (list_at ls k ++ (p, v) ∷ []) ∙ s.count;
    within = λ j lj. distinct j (rw length-set at lj) (same_or_not j k);
    between = λ i j q x li lj ne f. apart i j q x (rw length-set at li) (rw length-set at lj) ne f (same_or_not i k)
        (same_or_not j k);
  } where
    longer : List (ℕ × T)
    longer = list_at ls k ++ (p, v) ∷ []

    distinct : (j : ℕ) → j < length ls → (j ≡ k) ⊎ (j ≢ k) → IsDistinct (list_at (set ls k longer) j)
    distinct j lj (inl e) = rw (e, get_or-set_same ls k longer [] lt)
        (IsDistinct-snoc p v (list_at ls k) (s.within k lt) (free_at p ls k free))
    distinct j lj (inr ne) = rw (get_or-set_other ls k j longer [] ne) (s.within j lj)

    not_free : (i q : ℕ) (x : T) → find_in q (list_at ls i) ≡ Some x → p ≢ q
    not_free i q x f e =
        (let y : find_in q (list_at ls i) ≡ None = rw (← e) (find_in-free p (list_at ls i) (free_at p ls i free)) in cc)

    -- an entry of the longer list
    new_entry : (j q : ℕ) (x : T) → j < length ls → j ≢ k → (o : Option T) → find_in q (list_at ls k) ≡ o →
        or_else o (cond (p == q) (Some v) None) ≡ Some x → (b : Bool) → (p == q) ≡ b → IsFree q (list_at ls j)
    new_entry j q x lj ne (Some y) is f b t = s.between k j q y lt lj (λ e. ne (sym e)) is
    new_entry j q x lj ne None is f true t = rw (← place_is p q t) (free_at p ls j free)
    new_entry j q x lj ne None is f false t = (let y : cond false (Some v) None ≡ Some x = rw t at f in absurd cc)

    apart : (i j q : ℕ) (x : T) → i < length ls → j < length ls → i ≢ j → find_in q (list_at (set ls k longer) i)
        ≡ Some x → (i ≡ k) ⊎ (i ≢ k) → (j ≡ k) ⊎ (j ≢ k) → IsFree q (list_at (set ls k longer) j)
    apart i j q x li lj ne f (inl e) (inl e') = absurd (ne (e ∙ sym e'))
    apart i j q x li lj ne f (inl e) (inr nj) =
        let f' : find_in q longer ≡ Some x = rw (e, get_or-set_same ls k longer [] lt) at f in
        rw (get_or-set_other ls k j longer [] nj)
        (new_entry j q x lj nj (find_in q (list_at ls k)) refl (sym (find_in-snoc q p v (list_at ls k)) ∙ f')
        (p == q) refl)
    apart i j q x li lj ne f (inr ni) (inl e) =
        let f' : find_in q (list_at ls i) ≡ Some x = rw (get_or-set_other ls k i longer [] ni) at f in
        rw (e, get_or-set_same ls k longer [] lt)
        (IsFree-append q (list_at ls k) ((p, v) ∷ []) (s.between i k q x li lt ni f') (not_free i q x f', tt))
    apart i j q x li lj ne f (inr ni) (inr nj) =
        let f' : find_in q (list_at ls i) ≡ Some x = rw (get_or-set_other ls k i longer [] ni) at f in
        rw (get_or-set_other ls k j longer [] nj) (s.between i j q x li lj ne f')

  pub AreLists-moved : (n p : ℕ) (v : T) (ls : List (List (ℕ × T))) (k : ℕ) → AreLists n ls → find p ls ≡ Some v →
      k < length ls → AreLists n (moved p k ls)
  AreLists-moved n p v ls k s h lt = rw h
      (AreLists-push n p v (map (drop_place p) ls) k (AreLists-drop n p ls s) (find-drop_same p ls s.within)
      (rw length-map lt))
