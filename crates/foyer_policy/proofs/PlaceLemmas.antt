-- One list of values under places: an entry is found, dropped and written.
use Rattle.std.proofs.Common.{◌≡◌, ◌≢◌, ℕ, ◌+◌, Bool, true, false, cond, List, [], ◌∷◌, ◌++◌, Option, Some, None, length, refl, sym, ◌∙◌, ap, arith}
use Rattle.std.specs.Prelude.{◌==◌, if◌then◌else◌}
use Rattle.std.proofs.lemmas.Bool.Decides.{nat_tests}
use Rattle.foyer_policy.specs.Lists.{first_or, last_or, find_in, or_else, drop_place, with_value, IsFree, IsDistinct}

pub same_place : (p : ℕ) → (p == p) ≡ true
same_place p = grind (arith, nat_tests)

pub other_place : (p q : ℕ) → p ≢ q → (p == q) ≡ false
other_place p q h = grind (arith, nat_tests)

pub place_is : (p q : ℕ) → (p == q) ≡ true → p ≡ q
place_is p q h = grind (arith, nat_tests)

pub place_differs : (p q : ℕ) → (p == q) ≡ false → p ≢ q
place_differs p q h = grind (arith, nat_tests)

module _ {T : Type 0} where
  -- a list, where one of its entries stands
  pub record Split (p : ℕ) (v : T) (l : List (ℕ × T)) : Type 0 where
    pub front : List (ℕ × T)
    pub back : List (ℕ × T)
    pub is : l ≡ front ++ (p, v) ∷ back
    pub without : drop_place p l ≡ front ++ back

  pub split : (p : ℕ) (v : T) (l : List (ℕ × T)) → find_in p l ≡ Some v → Split p v l
  split p v [] h = absurd cc
  split p v (e ∷ es) h = go (e.0 == p) refl (split p v es) where
    go : (b : Bool) → (e.0 == p) ≡ b → (find_in p es ≡ Some v → Split p v es) → Split p v (e ∷ es)
    go true is rec =
        let q : e.0 ≡ p = place_is e.0 p is in
        let w : Some e.1 ≡ Some v = rw is at h in
        let x : e.1 ≡ v = cc in
        record {
          front = [];
          back = es;
          is = rw (← q, ← x) refl;
          without = rw is refl;
        }
    go false is rec =
        let s : Split p v es = rec (rw is at h) in
        record {
          front = e ∷ s.front;
          back = s.back;
          is = ap (λ r. e ∷ r) s.is;
          without = rw is (ap (λ r. e ∷ r) s.without);
        }

  -- a list, where its first place is known
  pub record Begins (p : ℕ) (l : List (ℕ × T)) : Type 0 where
    pub value : T
    pub back : List (ℕ × T)
    pub is : l ≡ (p, value) ∷ back

  pub begins : (p : ℕ) (l : List (ℕ × T)) → first_or l None ≡ Some p → Begins p l
  begins p [] h = absurd cc
  begins p (e ∷ es) h = let q : e.0 ≡ p = cc in record { value = e.1; back = es; is = rw (← q) refl }

  -- free places
  pub IsFree-append : (p : ℕ) (xs ys : List (ℕ × T)) → IsFree p xs → IsFree p ys → IsFree p (xs ++ ys)
  IsFree-append p [] ys h w = w
  IsFree-append p (x ∷ xs) ys h w = (h.0, IsFree-append p xs ys h.1 w)

  pub IsFree-append_left : (p : ℕ) (xs ys : List (ℕ × T)) → IsFree p (xs ++ ys) → IsFree p xs
  IsFree-append_left p [] ys h = tt
  IsFree-append_left p (x ∷ xs) ys h = (h.0, IsFree-append_left p xs ys h.1)

  pub IsFree-append_right : (p : ℕ) (xs ys : List (ℕ × T)) → IsFree p (xs ++ ys) → IsFree p ys
  IsFree-append_right p [] ys h = h
  IsFree-append_right p (x ∷ xs) ys h = IsFree-append_right p xs ys h.1

  pub IsFree-without : (q p : ℕ) (v : T) (xs ys : List (ℕ × T)) → IsFree q (xs ++ (p, v) ∷ ys) → IsFree q (xs ++ ys)
  IsFree-without q p v xs ys h = IsFree-append q xs ys (IsFree-append_left q xs ((p, v) ∷ ys) h)
      (IsFree-append_right q xs ((p, v) ∷ ys) h).1

  pub IsFree-none : (p : ℕ) (l : List (ℕ × T)) → find_in p l ≡ None → IsFree p l
  IsFree-none p [] h = tt
  IsFree-none p (e ∷ es) h = go (e.0 == p) refl h (IsFree-none p es) where
    go : (b : Bool) → (e.0 == p) ≡ b → cond b (Some e.1) (find_in p es) ≡ None → (find_in p es ≡ None → IsFree p es) →
        (e.0 ≢ p) × IsFree p es
    go true is h rec = absurd cc
    go false is h rec = (place_differs e.0 p is, rec h)

  pub find_in-free : (p : ℕ) (l : List (ℕ × T)) → IsFree p l → find_in p l ≡ None
  find_in-free p [] h = refl
  find_in-free p (e ∷ es) h = rw (other_place e.0 p h.0) (find_in-free p es h.1)

  pub drop_place-free : (p : ℕ) (l : List (ℕ × T)) → IsFree p l → drop_place p l ≡ l
  drop_place-free p [] h = refl
  drop_place-free p (e ∷ es) h = rw (other_place e.0 p h.0) (ap (λ r. e ∷ r) (drop_place-free p es h.1))

  pub with_value-free : (p : ℕ) (w : T) (l : List (ℕ × T)) → IsFree p l → with_value p w l ≡ l
  with_value-free p w [] h = refl
  with_value-free p w (e ∷ es) h = rw (other_place e.0 p h.0) (ap (λ r. e ∷ r) (with_value-free p w es h.1))

  -- where an entry stands
  pub find_in-mid : (p : ℕ) (v : T) (xs ys : List (ℕ × T)) → IsFree p xs → find_in p (xs ++ (p, v) ∷ ys) ≡ Some v
  find_in-mid p v [] ys f = rw (same_place p) refl
  find_in-mid p v (e ∷ es) ys f = rw (other_place e.0 p f.0) (find_in-mid p v es ys f.1)

  pub drop_place-mid : (p : ℕ) (v : T) (xs ys : List (ℕ × T)) → IsFree p xs → drop_place p (xs ++ (p, v) ∷ ys) ≡ xs
      ++ ys
  drop_place-mid p v [] ys f = rw (same_place p) refl
  drop_place-mid p v (e ∷ es) ys f = rw (other_place e.0 p f.0) (ap (λ r. e ∷ r) (drop_place-mid p v es ys f.1))

  pub with_value-mid : (p : ℕ) (v w : T) (xs ys : List (ℕ × T)) → IsFree p xs → with_value p w (xs ++ (p, v) ∷ ys)
      ≡ xs ++ (p, w) ∷ ys
  with_value-mid p v w [] ys f = rw (same_place p) refl
  with_value-mid p v w (e ∷ es) ys f = rw (other_place e.0 p f.0) (ap (λ r. e ∷ r) (with_value-mid p v w es ys f.1))

  pub IsDistinct-mid : (p : ℕ) (v : T) (xs ys : List (ℕ × T)) → IsDistinct (xs ++ (p, v) ∷ ys) → IsFree p xs
      × IsFree p ys
  IsDistinct-mid p v [] ys d = (tt, d.0)
  IsDistinct-mid p v (e ∷ es) ys d =
      let r = IsDistinct-mid p v es ys d.1 in
      (((λ q. (IsFree-append_right e.0 es ((p, v) ∷ ys) d.0).0 (sym q)), r.0), r.1)

  pub IsDistinct-without : (p : ℕ) (v : T) (xs ys : List (ℕ × T)) → IsDistinct (xs ++ (p, v) ∷ ys) →
      IsDistinct (xs ++ ys)
  IsDistinct-without p v [] ys d = d.1
  IsDistinct-without p v (e ∷ es) ys d = (IsFree-without e.0 p v es ys d.0, IsDistinct-without p v es ys d.1)

  pub IsDistinct-snoc : (p : ℕ) (v : T) (l : List (ℕ × T)) → IsDistinct l → IsFree p l → IsDistinct (l ++ (p, v) ∷ [])
  IsDistinct-snoc p v [] d h = (tt, tt)
  IsDistinct-snoc p v (e ∷ es) d h =
      (IsFree-append e.0 es ((p, v) ∷ []) d.0 ((λ r. h.0 (sym r)), tt), IsDistinct-snoc p v es d.1 h.1)

  -- one list before another
  pub IsDistinct-append : (xs ys : List (ℕ × T)) → IsDistinct xs → IsDistinct ys →
      ((q : ℕ) (v : T) → find_in q xs ≡ Some v → IsFree q ys) → IsDistinct (xs ++ ys)
  IsDistinct-append [] ys d e off = e
  IsDistinct-append (x ∷ xs) ys d e off = (
    IsFree-append x.0 xs ys d.0 (off x.0 x.1 (rw (same_place x.0) refl)),
    IsDistinct-append xs ys d.1 e (λ q v is. go q v is (x.0 == q) refl),
  ) where
    go : (q : ℕ) (v : T) → find_in q xs ≡ Some v → (b : Bool) → (x.0 == q) ≡ b → IsFree q ys
    go q v is true t = off q x.1 (rw t refl)
    go q v is false t = off q v (rw t is)

  pub find_in-append : (p : ℕ) (xs ys : List (ℕ × T)) → find_in p (xs ++ ys) ≡ or_else (find_in p xs) (find_in p ys)
  find_in-append p [] ys = refl
  find_in-append p (e ∷ es) ys = go (e.0 == p) (find_in-append p es ys) where
    go : (b : Bool) → find_in p (es ++ ys) ≡ or_else (find_in p es) (find_in p ys) →
        cond b (Some e.1) (find_in p (es ++ ys)) ≡ or_else (cond b (Some e.1) (find_in p es)) (find_in p ys)
    go true rec = refl
    go false rec = rec

  pub find_in-snoc : (q p : ℕ) (v : T) (l : List (ℕ × T)) → find_in q (l ++ (p, v) ∷ [])
      ≡ or_else (find_in q l) (if p == q then Some v else None)
  find_in-snoc q p v l = find_in-append q l ((p, v) ∷ [])

  pub drop_place-append_free : (p : ℕ) (xs ys : List (ℕ × T)) → IsFree p xs → drop_place p (xs ++ ys) ≡ xs
      ++ drop_place p ys
  drop_place-append_free p [] ys h = refl
  drop_place-append_free p (e ∷ es) ys h = rw (other_place e.0 p h.0)
      (ap (λ r. e ∷ r) (drop_place-append_free p es ys h.1))

  pub drop_place-append_found : (p : ℕ) (v : T) (xs ys : List (ℕ × T)) → find_in p xs ≡ Some v →
      drop_place p (xs ++ ys) ≡ drop_place p xs ++ ys
  drop_place-append_found p v [] ys h = absurd cc
  drop_place-append_found p v (e ∷ es) ys h = go (e.0 == p) h (drop_place-append_found p v es ys) where
    go : (b : Bool) → cond b (Some e.1) (find_in p es) ≡ Some v →
        (find_in p es ≡ Some v → drop_place p (es ++ ys) ≡ drop_place p es ++ ys) →
        cond b (es ++ ys) (e ∷ drop_place p (es ++ ys)) ≡ cond b es (e ∷ drop_place p es) ++ ys
    go true h rec = refl
    go false h rec = ap (λ r. e ∷ r) (rec h)

  pub with_value-append_free : (p : ℕ) (w : T) (xs ys : List (ℕ × T)) → IsFree p xs → with_value p w (xs ++ ys) ≡ xs
      ++ with_value p w ys
  with_value-append_free p w [] ys h = refl
  with_value-append_free p w (e ∷ es) ys h =
      rw (other_place e.0 p h.0) (ap (λ r. e ∷ r) (with_value-append_free p w es ys h.1))

  pub with_value-append_found : (p : ℕ) (v w : T) (xs ys : List (ℕ × T)) → find_in p xs ≡ Some v →
      with_value p w (xs ++ ys) ≡ with_value p w xs ++ ys
  with_value-append_found p v w [] ys h = absurd cc
  with_value-append_found p v w (e ∷ es) ys h = go (e.0 == p) h (with_value-append_found p v w es ys) where
    go : (b : Bool) → cond b (Some e.1) (find_in p es) ≡ Some v →
        (find_in p es ≡ Some v → with_value p w (es ++ ys) ≡ with_value p w es ++ ys) →
        cond b ((p, w) ∷ (es ++ ys)) (e ∷ with_value p w (es ++ ys))
        ≡ cond b ((p, w) ∷ es) (e ∷ with_value p w es) ++ ys
    go true h rec = refl
    go false h rec = ap (λ r. e ∷ r) (rec h)

  -- without a place
  pub IsFree-drop_place : (q p : ℕ) (l : List (ℕ × T)) → IsFree q l → IsFree q (drop_place p l)
  IsFree-drop_place q p [] h = tt
  IsFree-drop_place q p (e ∷ es) h = go (e.0 == p) (IsFree-drop_place q p es h.1) where
    go : (b : Bool) → IsFree q (drop_place p es) → IsFree q (cond b es (e ∷ drop_place p es))
    go true rec = h.1
    go false rec = (h.0, rec)

  pub IsDistinct-drop_place : (p : ℕ) (l : List (ℕ × T)) → IsDistinct l → IsDistinct (drop_place p l)
  IsDistinct-drop_place p [] d = tt
  IsDistinct-drop_place p (e ∷ es) d = go (e.0 == p) (IsDistinct-drop_place p es d.1) where
    go : (b : Bool) → IsDistinct (drop_place p es) → IsDistinct (cond b es (e ∷ drop_place p es))
    go true rec = d.1
    go false rec = (IsFree-drop_place e.0 p es d.0, rec)

  pub dropped_is_free : (p : ℕ) (l : List (ℕ × T)) → IsDistinct l → IsFree p (drop_place p l)
  dropped_is_free p [] d = tt
  dropped_is_free p (e ∷ es) d = go (e.0 == p) refl (dropped_is_free p es d.1) where
    go : (b : Bool) → (e.0 == p) ≡ b → IsFree p (drop_place p es) → IsFree p (cond b es (e ∷ drop_place p es))
    go true is rec = let q : e.0 ≡ p = place_is e.0 p is in rw (← q) d.0
    go false is rec = (place_differs e.0 p is, rec)

  pub find_in-drop_other : (q p : ℕ) (l : List (ℕ × T)) → p ≢ q → find_in q (drop_place p l) ≡ find_in q l
  find_in-drop_other q p [] ne = refl
  find_in-drop_other q p (e ∷ es) ne = go (e.0 == p) refl (find_in-drop_other q p es ne) where
    go : (b : Bool) → (e.0 == p) ≡ b → find_in q (drop_place p es) ≡ find_in q es →
        find_in q (cond b es (e ∷ drop_place p es)) ≡ cond (e.0 == q) (Some e.1) (find_in q es)
    go true is rec = let x : (e.0 == q) ≡ false = rw (place_is e.0 p is) (other_place p q ne) in rw x refl
    go false is rec = ap (cond (e.0 == q) (Some e.1)) rec

  pub find_in-drop_place : (q p : ℕ) (l : List (ℕ × T)) → IsDistinct l → find_in q (drop_place p l)
      ≡ (if p == q then None else find_in q l)
  find_in-drop_place q p l d = go (p == q) refl where
    go : (b : Bool) → (p == q) ≡ b → find_in q (drop_place p l) ≡ cond b None (find_in q l)
    go true is = let e : p ≡ q = place_is p q is in rw (← e) (find_in-free p (drop_place p l) (dropped_is_free p l d))
    go false is = find_in-drop_other q p l (place_differs p q is)

  pub length-drop_place : (p : ℕ) (v : T) (l : List (ℕ × T)) → find_in p l ≡ Some v → length (drop_place p l) + 1
      ≡ length l
  length-drop_place p v [] h = absurd cc
  length-drop_place p v (e ∷ es) h = go (e.0 == p) h (length-drop_place p v es) where
    go : (b : Bool) → cond b (Some e.1) (find_in p es) ≡ Some v →
        (find_in p es ≡ Some v → length (drop_place p es) + 1 ≡ length es) →
        length (cond b es (e ∷ drop_place p es)) + 1 ≡ length (e ∷ es)
    go true h rec = omega arith
    go false h rec = omega (arith, rec h)

  -- with another value at a place
  pub first_or-with_value : (p : ℕ) (w : T) (l : List (ℕ × T)) (d : Option ℕ) → first_or (with_value p w l) d
      ≡ first_or l d
  first_or-with_value p w [] d = refl
  first_or-with_value p w (e ∷ es) d = go (e.0 == p) refl where
    go : (b : Bool) → (e.0 == p) ≡ b → first_or (cond b ((p, w) ∷ es) (e ∷ with_value p w es)) d ≡ Some e.0
    go true is = ap Some (sym (place_is e.0 p is))
    go false is = refl

  pub last_or-with_value : (p : ℕ) (w : T) (l : List (ℕ × T)) (d : Option ℕ) → last_or (with_value p w l) d
      ≡ last_or l d
  last_or-with_value p w [] d = refl
  last_or-with_value p w (e ∷ es) d = go (e.0 == p) refl (last_or-with_value p w es (Some e.0)) where
    go : (b : Bool) → (e.0 == p) ≡ b → last_or (with_value p w es) (Some e.0) ≡ last_or es (Some e.0) →
        last_or (cond b ((p, w) ∷ es) (e ∷ with_value p w es)) d ≡ last_or es (Some e.0)
    go true is rec = ap (λ (x : ℕ). last_or es (Some x)) (sym (place_is e.0 p is))
    go false is rec = rec

  pub IsFree-with_value : (q p : ℕ) (w : T) (l : List (ℕ × T)) → IsFree q l → IsFree q (with_value p w l)
  IsFree-with_value q p w [] h = tt
  IsFree-with_value q p w (e ∷ es) h = go (e.0 == p) refl (IsFree-with_value q p w es h.1) where
    go : (b : Bool) → (e.0 == p) ≡ b → IsFree q (with_value p w es) →
        IsFree q (cond b ((p, w) ∷ es) (e ∷ with_value p w es))
    go true is rec = ((λ y. h.0 (place_is e.0 p is ∙ y)), h.1)
    go false is rec = (h.0, rec)

  pub IsDistinct-with_value : (p : ℕ) (w : T) (l : List (ℕ × T)) → IsDistinct l → IsDistinct (with_value p w l)
  IsDistinct-with_value p w [] d = tt
  IsDistinct-with_value p w (e ∷ es) d = go (e.0 == p) refl (IsDistinct-with_value p w es d.1) where
    go : (b : Bool) → (e.0 == p) ≡ b → IsDistinct (with_value p w es) →
        IsDistinct (cond b ((p, w) ∷ es) (e ∷ with_value p w es))
    go true is rec = (let x : e.0 ≡ p = place_is e.0 p is in (rw (← x) d.0, d.1))
    go false is rec = (IsFree-with_value e.0 p w es d.0, rec)

  pub length-with_value : (p : ℕ) (w : T) (l : List (ℕ × T)) → length (with_value p w l) ≡ length l
  length-with_value p w [] = refl
  length-with_value p w (e ∷ es) = go (e.0 == p) (length-with_value p w es) where
    go : (b : Bool) → length (with_value p w es) ≡ length es → length (cond b ((p, w) ∷ es) (e ∷ with_value p w es))
        ≡ length (e ∷ es)
    go true rec = refl
    go false rec = omega (arith, rec)

  pub find_in-with_other : (q p : ℕ) (w : T) (l : List (ℕ × T)) → p ≢ q → find_in q (with_value p w l) ≡ find_in q l
  find_in-with_other q p w [] ne = refl
  find_in-with_other q p w (e ∷ es) ne = go (e.0 == p) refl (find_in-with_other q p w es ne) where
    go : (b : Bool) → (e.0 == p) ≡ b → find_in q (with_value p w es) ≡ find_in q es →
        find_in q (cond b ((p, w) ∷ es) (e ∷ with_value p w es)) ≡ cond (e.0 == q) (Some e.1) (find_in q es)
    go true is rec =
        let x : (p == q) ≡ false = other_place p q ne in
        let y : (e.0 == q) ≡ false = rw (place_is e.0 p is) x in
        rw (x, y) refl
    go false is rec = ap (cond (e.0 == q) (Some e.1)) rec

  pub find_in-with_same : (p : ℕ) (v w : T) (l : List (ℕ × T)) → find_in p l ≡ Some v → find_in p (with_value p w l)
      ≡ Some w
  find_in-with_same p v w [] h = absurd cc
  find_in-with_same p v w (e ∷ es) h = go (e.0 == p) refl h (find_in-with_same p v w es) where
    go : (b : Bool) → (e.0 == p) ≡ b → cond b (Some e.1) (find_in p es) ≡ Some v →
        (find_in p es ≡ Some v → find_in p (with_value p w es) ≡ Some w) →
        find_in p (cond b ((p, w) ∷ es) (e ∷ with_value p w es)) ≡ Some w
    go true is h rec = rw (same_place p) refl
    go false is h rec = rw is (rec h)
