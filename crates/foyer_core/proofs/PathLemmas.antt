-- Lists of places, and the links that lead through them.
use Rattle.std.proofs.Common.{◌≡◌, ◌≢◌, ℕ, zero, suc, ◌<◌, ◌≤◌, List, [], ◌∷◌, Bool, true, false, cond, Option, Some, None, length, get_or, set, refl, sym, ap, subst, arith, nat_eq}
use Rattle.std.specs.Prelude.{◌&&◌, ◌||◌, ◌==◌, not}
use Rattle.std.specs.List.{IsDistinct, AllByRecursion}
use Rattle.std.proofs.lemmas.Bool.Decides.{nat_tests}
use Rattle.std.proofs.lemmas.List.{length-set, length-map, get_or-map, get_or-set_same, get_or-set_other}
use Rattle.std.proofs.lemmas.Map.Keys.{IsDistinct-head, IsDistinct-tail, IsDistinct-cons}
use Rattle.std.proofs.lemmas.Map.Steps.{length-le_from_distinct_below}
use Rattle.foyer_core.specs.declared.indexer.chain.Pair.{Pair}
use Rattle.foyer_core.specs.Chains.{nexts_of, walk, IsPath, has, before_in}

-- ---- which places stand in a list

pub has_not : (p : ℕ) (xs : List ℕ) → has p xs ≡ false → AllByRecursion (λ y. nat_eq p y ≡ false) xs
has_not p [] h = tt
has_not p (x ∷ xs) h = go (nat_eq p x) refl h (has_not p xs) where
  go : (b : Bool) → nat_eq p x ≡ b → (b || has p xs) ≡ false →
      (has p xs ≡ false → AllByRecursion (λ y. nat_eq p y ≡ false) xs) →
      AllByRecursion (λ y. nat_eq p y ≡ false) (x ∷ xs)
  go true is h rec = absurd cc
  go false is h rec = (is, rec h)

pub has-none : (p : ℕ) (xs : List ℕ) → AllByRecursion (λ y. nat_eq p y ≡ false) xs → has p xs ≡ false
has-none p [] h = refl
has-none p (x ∷ xs) h = rw h.0 (has-none p xs h.1)

-- the first stands in it, and in the rest no more
pub has-first : (x : ℕ) (xs : List ℕ) → has x (x ∷ xs) ≡ true
has-first x xs = let same : nat_eq x x ≡ true = grind (arith, nat_tests) in rw same

pub has-rest : (p x : ℕ) (xs : List ℕ) → has p xs ≡ true → has p (x ∷ xs) ≡ true
has-rest p x xs h = go (nat_eq p x) where
  go : (b : Bool) → (b || has p xs) ≡ true
  go true = refl
  go false = h

pub first-once : (x : ℕ) (xs : List ℕ) → IsDistinct nat_eq (x ∷ xs) → has x xs ≡ false
first-once x xs d = has-none x xs (IsDistinct-head nat_eq x xs d)

-- what stands in a list differs from what does not
pub apart : (p q : ℕ) (xs : List ℕ) → has p xs ≡ true → has q xs ≡ false → p ≢ q
apart p q xs here gone same = let h : has q xs ≡ true = rw same at here in absurd cc

-- ---- links that lead through a list of places

-- where the links of its places are the same, it is a path yet
pub IsPath-same : (old new : List (Option ℕ)) (link : Option ℕ) (xs : List ℕ) →
    ((x : ℕ) → has x xs ≡ true → (x < length new) × (get_or new x None ≡ get_or old x None)) → IsPath old link xs →
    IsPath new link xs
IsPath-same old new link [] same path = path
IsPath-same old new link (x ∷ xs) same path =
    let here = same x (has-first x xs) in
    (path.0, here.0, rw here.1 (IsPath-same old new (get_or old x None) xs (λ y h. same y (has-rest y x xs h)) path.2))

-- its places are those of links
pub within : (nexts : List (Option ℕ)) (link : Option ℕ) (xs : List ℕ) (p : ℕ) → IsPath nexts link xs → has p xs
    ≡ true → p < length nexts
within nexts link [] p path h = absurd cc
within nexts link (x ∷ xs) p path h = go (nat_eq p x) refl h (within nexts (get_or nexts x None) xs p path.2) where
  go : (b : Bool) → nat_eq p x ≡ b → (b || has p xs) ≡ true → (has p xs ≡ true → p < length nexts) → p < length nexts
  go true is h rec = let same : p ≡ x = grind (arith, nat_tests) in let lt : x < length nexts = path.1 in
      omega (arith, lt, same)
  go false is h rec = rec h

pub IsPath-set : (nexts : List (Option ℕ)) (p : ℕ) (to : Option ℕ) (link : Option ℕ) (xs : List ℕ) → has p xs ≡ false
    → IsPath nexts link xs → IsPath (set nexts p to) link xs
IsPath-set nexts p to link xs gone path = IsPath-same nexts (set nexts p to) link xs (λ x h.
    let lt : x < length nexts = within nexts link xs x path h in
    (omega (arith, length-set nexts p to), get_or-set_other nexts p x to None (apart x p xs h gone))) path

-- ---- a walk

pub length-walk : (nexts : List (Option ℕ)) (n : ℕ) (link : Option ℕ) → length (walk nexts n link) ≤ n
length-walk nexts zero link = omega arith
length-walk nexts (suc n) None = omega arith
length-walk nexts (suc n) (Some p) = omega (arith, length-walk nexts n (get_or nexts p None))

-- it goes through a path that is not too long
pub walk-path : (nexts : List (Option ℕ)) (n : ℕ) (link : Option ℕ) (xs : List ℕ) → IsPath nexts link xs →
    length xs ≤ n → walk nexts n link ≡ xs
walk-path nexts zero link [] path le = refl
walk-path nexts zero link (x ∷ xs) path le = absurd (omega arith)
walk-path nexts (suc n) link [] path le = rw path refl
walk-path nexts (suc n) link (x ∷ xs) path le =
    rw path.0 (ap (λ (ys : List ℕ). x ∷ ys) (walk-path nexts n (get_or nexts x None) xs path.2 (omega arith)))

-- distinct places of a path are not too many
pub walk-distinct : (nexts : List (Option ℕ)) (link : Option ℕ) (xs : List ℕ) → IsPath nexts link xs →
    IsDistinct nat_eq xs → walk nexts (length nexts) link ≡ xs
walk-distinct nexts link xs path d =
    walk-path nexts (length nexts) link xs path
    (length-le_from_distinct_below xs (length nexts) d (λ q h. within nexts link xs q path h))

-- the walk of a loop, from one place to the next
pub record Steps (nexts : List (Option ℕ)) (p : ℕ) : Type 0 where
  pub within : p < length nexts
  pub is : walk nexts (length nexts) (Some p) ≡ p ∷ walk nexts (length nexts) (get_or nexts p None)
  pub path : IsPath nexts (get_or nexts p None) (walk nexts (length nexts) (get_or nexts p None))

steps_of : (nexts : List (Option ℕ)) (p n : ℕ) → length nexts ≡ suc n →
    IsPath nexts (Some p) (walk nexts (length nexts) (Some p)) → Steps nexts p
steps_of nexts p n len path =
    let there : IsPath nexts (Some p) (p ∷ walk nexts n (get_or nexts p None)) = rw len at path in
    let rest : walk nexts (length nexts) (get_or nexts p None) ≡ walk nexts n (get_or nexts p None) =
    walk-path nexts (length nexts) (get_or nexts p None) (walk nexts n (get_or nexts p None)) there.2
    (omega (arith, len, length-walk nexts n (get_or nexts p None))) in
    record { within = there.1; is = rw (rest, len) refl; path = rw rest there.2 }

pub steps : (nexts : List (Option ℕ)) (p : ℕ) → IsPath nexts (Some p) (walk nexts (length nexts) (Some p)) →
    Steps nexts p
steps nexts p path = go (length nexts) refl where
  go : (n : ℕ) → length nexts ≡ n → Steps nexts p
  go zero len = let no : IsPath nexts (Some p) [] = rw len at path in absurd cc
  go (suc n) len = steps_of nexts p n len path

-- a loop goes on from one place to the next
pub record Onward (nexts : List (Option ℕ)) (link : Option ℕ) (p : ℕ) (next : Option ℕ) : Type 0 where
  pub within : p < length nexts
  pub is : walk nexts (length nexts) link ≡ p ∷ walk nexts (length nexts) next
  pub path : IsPath nexts next (walk nexts (length nexts) next)

pub onward : {K : Type 0} (pairs : List (Pair K)) (link : Option ℕ) (p : ℕ) (d : Pair K) → link ≡ Some p →
    IsPath (nexts_of pairs) link (walk (nexts_of pairs) (length (nexts_of pairs)) link)
    → Onward (nexts_of pairs) link p (get_or pairs p d).next
onward {K} pairs link p d is path =
    let st : Steps (nexts_of pairs) p = steps (nexts_of pairs) p (rw is at path) in
    let next : get_or (nexts_of pairs) p None ≡ (get_or pairs p d).next =
    get_or-map (λ (q : Pair K). q.next) pairs p d None
    (omega (arith, st.within, length-map pairs (λ (q : Pair K). q.next))) in
    rw (is, ← next) record { within = st.within; is = st.is; path = st.path }

pub walk-none : (nexts : List (Option ℕ)) (n : ℕ) (link : Option ℕ) → link ≡ None → walk nexts n link ≡ []
walk-none nexts zero link is = refl
walk-none nexts (suc n) link is = rw is refl

-- ---- the place before another

pub before_in-here : (b : Option ℕ) (p x : ℕ) (xs ys : List ℕ) → ys ≡ x ∷ xs → x ≡ p → before_in b p ys ≡ b
before_in-here b p x xs ys is same = let here : (x == p) ≡ true = grind (arith, nat_tests) in rw (is, here) refl

pub before_in-past : (b : Option ℕ) (p x : ℕ) (xs ys : List ℕ) → ys ≡ x ∷ xs → x ≢ p → before_in b p ys
    ≡ before_in (Some x) p xs
before_in-past b p x xs ys is other = let past : (x == p) ≡ false = grind (arith, nat_tests) in rw (is, past) refl

pub before_in-end : (b : Option ℕ) (p : ℕ) (nexts : List (Option ℕ)) (n : ℕ) (link : Option ℕ) → link ≡ None →
    before_in b p (walk nexts n link) ≡ b
before_in-end b p nexts n link is = rw (walk-none nexts n link is) refl

-- where there is one before the rest, there is one
pub before_in-some : (x p : ℕ) (xs : List ℕ) → before_in (Some x) p xs ≡ None → ⊥
before_in-some x p [] h = cc
before_in-some x p (y ∷ ys) h = go (y == p) h (before_in-some y p ys) where
  go : (b : Bool) → cond b (Some x) (before_in (Some y) p ys) ≡ None → (before_in (Some y) p ys ≡ None → ⊥) → ⊥
  go true h rec = cc
  go false h rec = rec h

-- and it is one of them
pub before_in-has : (x p q : ℕ) (xs : List ℕ) → before_in (Some x) p xs ≡ Some q → has q (x ∷ xs) ≡ true
before_in-has x p q [] h = let same : x ≡ q = cc in rw same (has-first q [])
before_in-has x p q (y ∷ ys) h = go (y == p) h (before_in-has y p q ys) where
  go : (b : Bool) → cond b (Some x) (before_in (Some y) p ys) ≡ Some q →
      (before_in (Some y) p ys ≡ Some q → has q (y ∷ ys) ≡ true) → has q (x ∷ y ∷ ys) ≡ true
  go true h rec = let same : x ≡ q = cc in rw same (has-first q (y ∷ ys))
  go false h rec = has-rest q x (y ∷ ys) (rec h)

-- ---- a list without one of its places

abbrev pub without : ℕ → List ℕ → List ℕ
without p [] = []
without p (x ∷ xs) = cond (x == p) xs (x ∷ without p xs)

pub has-without : (i p : ℕ) (xs : List ℕ) → IsDistinct nat_eq xs → has i (without p xs) ≡ (not (i == p) && has i xs)
has-without i p [] d = go (i == p) where
  go : (b : Bool) → false ≡ (not b && false)
  go true = refl
  go false = refl
has-without i p (x ∷ xs) d = go (x == p) refl (i == p) refl (nat_eq i x) refl
    (has-without i p xs (IsDistinct-tail nat_eq x xs d)) where
      go : (here : Bool) → (x == p) ≡ here → (same : Bool) → (i == p) ≡ same → (first : Bool) → nat_eq i x ≡ first →
          has i (without p xs) ≡ (not same && has i xs)
          → has i (cond here xs (x ∷ without p xs)) ≡ (not same && (first || has i xs))
      go true h true s first f rec = let e : i ≡ x = grind (arith, nat_tests) in rw e (first-once x xs d)
      go true h false s true f rec =
          absurd (let e : i ≡ x = grind (arith, nat_tests) in let k : x ≡ p = grind (arith, nat_tests) in let t : (i == p)
          ≡ true = grind (arith, nat_tests) in cc)
      go true h false s false f rec = refl
      go false h true s true f rec =
          absurd (let e : i ≡ x = grind (arith, nat_tests) in let k : i ≡ p = grind (arith, nat_tests) in let t : (x == p)
          ≡ true = grind (arith, nat_tests) in cc)
      go false h true s false f rec = rw f rec
      go false h false s true f rec = rw f refl
      go false h false s false f rec = rw f rec

pub IsDistinct-without : (p : ℕ) (xs : List ℕ) → IsDistinct nat_eq xs → IsDistinct nat_eq (without p xs)
IsDistinct-without p [] d = d
IsDistinct-without p (x ∷ xs) d = go (x == p) refl (IsDistinct-without p xs (IsDistinct-tail nat_eq x xs d)) where
  go : (b : Bool) → (x == p) ≡ b → IsDistinct nat_eq (without p xs) → IsDistinct nat_eq (cond b xs (x ∷ without p xs))
  go true is rest = IsDistinct-tail nat_eq x xs d
  go false is rest = IsDistinct-cons nat_eq x (without p xs) (has_not x (without p xs) (still (x == p) refl)) rest where
    still : (b : Bool) → (x == p) ≡ b → has x (without p xs) ≡ false
    still b e = rw (has-without x p xs (IsDistinct-tail nat_eq x xs d), first-once x xs d, e) (none b) where
      none : (b : Bool) → (not b && false) ≡ false
      none true = refl
      none false = refl

-- a path without its first place, and without a later one
pub IsPath-rest : (nexts : List (Option ℕ)) (link : Option ℕ) (p : ℕ) (xs : List ℕ) → has p xs ≡ true →
    before_in None p xs ≡ None → IsPath nexts link xs → IsPath nexts (get_or nexts p None) (without p xs)
IsPath-rest nexts link p [] h first path = absurd cc
IsPath-rest nexts link p (x ∷ xs) h first path = go (x == p) refl first where
  go : (b : Bool) → (x == p) ≡ b → cond b None (before_in (Some x) p xs) ≡ None →
      IsPath nexts (get_or nexts p None) (cond b xs (x ∷ without p xs))
  go true is f = let same : p ≡ x = grind (arith, nat_tests) in rw same path.2
  go false is f = absurd (before_in-some x p xs f)

path_past : (nexts : List (Option ℕ)) (link : Option ℕ) (p q x : ℕ) (xs : List ℕ) → has p xs ≡ true →
    before_in (Some x) p xs ≡ Some q → IsDistinct nat_eq (x ∷ xs) → IsPath nexts link (x ∷ xs)
    → IsPath (set nexts q (get_or nexts p None)) link (x ∷ without p xs)
path_past nexts link p q x [] h before d path = absurd cc
path_past nexts link p q x (y ∷ ys) h before d path =
    go (y == p) refl h before (path_past nexts (get_or nexts x None) p q y ys) where
      rest : IsDistinct nat_eq (y ∷ ys)
      rest = IsDistinct-tail nat_eq x (y ∷ ys) d

      gone : has x (y ∷ ys) ≡ false
      gone = first-once x (y ∷ ys) d

      later : has x ys ≡ false
      later = by (nat_eq x y) gone where
        by : (b : Bool) → (b || has x ys) ≡ false → has x ys ≡ false
        by true e = absurd cc
        by false e = e

      short : p ≢ y → has p (y ∷ ys) ≡ true → has p ys ≡ true
      short ne e = let other : nat_eq p y ≡ false = grind (arith, nat_tests) in rw other at e

      go : (b : Bool) → (y == p) ≡ b → has p (y ∷ ys) ≡ true → cond b (Some x) (before_in (Some y) p ys) ≡ Some q
          → (has p ys ≡ true → before_in (Some y) p ys ≡ Some q → IsDistinct nat_eq (y ∷ ys) →
          IsPath nexts (get_or nexts x None) (y ∷ ys) →
          IsPath (set nexts q (get_or nexts p None)) (get_or nexts x None) (y ∷ without p ys))
          → IsPath (set nexts q (get_or nexts p None)) link (x ∷ cond b ys (y ∷ without p ys))
      go true is e f rec =
          let here : q ≡ x = cc in
          let same : p ≡ y = grind (arith, nat_tests) in
          let lt : x < length nexts = path.1 in
          let to : Option ℕ = get_or nexts y None in
          let there : IsPath (set nexts x to) link (x ∷ ys) = (
            path.0,
            omega (arith, length-set nexts x to),
            rw (get_or-set_same nexts x to None lt) (IsPath-set nexts x to to ys later path.2.2),
          ) in
          let at_q : IsPath (set nexts q to) link (x ∷ ys) =
          subst (λ (a : ℕ). IsPath (set nexts a to) link (x ∷ ys)) (sym here) there in
          subst (λ (b : ℕ). IsPath (set nexts q (get_or nexts b None)) link (x ∷ ys)) (sym same) at_q
      go false is e f rec =
          let ne : p ≢ y = grind (arith, nat_tests) in
          let lt : x < length nexts = path.1 in
          let other : x ≢ q = λ same. apart q x (y ∷ ys) (before_in-has y p q ys f) gone (sym same) in (
            path.0,
            omega (arith, length-set nexts q (get_or nexts p None)),
            rw (get_or-set_other nexts q x (get_or nexts p None) None other) (rec (short ne e) f rest path.2),
          )

pub IsPath-without : (nexts : List (Option ℕ)) (link : Option ℕ) (p q : ℕ) (xs : List ℕ) → has p xs ≡ true →
    before_in None p xs ≡ Some q → IsDistinct nat_eq xs → IsPath nexts link xs
    → IsPath (set nexts q (get_or nexts p None)) link (without p xs) × (has q xs ≡ true)
IsPath-without nexts link p q [] h before d path = absurd cc
IsPath-without nexts link p q (x ∷ xs) h before d path = go (x == p) refl before where
  short : p ≢ x → has p xs ≡ true
  short ne = let other : nat_eq p x ≡ false = grind (arith, nat_tests) in rw other at h

  go : (b : Bool) → (x == p) ≡ b → cond b None (before_in (Some x) p xs) ≡ Some q →
      IsPath (set nexts q (get_or nexts p None)) link (cond b xs (x ∷ without p xs)) × (has q (x ∷ xs) ≡ true)
  go true is f = absurd cc
  go false is f = let ne : p ≢ x = grind (arith, nat_tests) in
      (path_past nexts link p q x xs (short ne) f d path, before_in-has x p q xs f)

-- the same by the pair that was read there
pub onward_read : {K : Type 0} (pairs : List (Pair K)) (link : Option ℕ) (p : ℕ) (x : Pair K) → x ≡ get_or pairs p x →
    link ≡ Some p → IsPath (nexts_of pairs) link (walk (nexts_of pairs) (length (nexts_of pairs)) link)
    → Onward (nexts_of pairs) link p x.next
onward_read {K} pairs link p x read is path =
    subst (λ (y : Pair K). Onward (nexts_of pairs) link p y.next) (sym read) (onward pairs link p x is path)

-- a loop stands at a place of a pair
pub stands_within : {K : Type 0} (pairs : List (Pair K)) (link : Option ℕ) (p : ℕ) → link ≡ Some p →
    IsPath (nexts_of pairs) link (walk (nexts_of pairs) (length (nexts_of pairs)) link) → p < length pairs
stands_within {K} pairs link p is path =
    let st : Steps (nexts_of pairs) p = steps (nexts_of pairs) p (rw is at path) in
    omega (arith, st.within, length-map pairs (λ (q : Pair K). q.next))
