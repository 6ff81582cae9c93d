-- The first of the slots that is due, and that of a place.
use Rattle.std.proofs.Common.{◌≡◌, ℕ, ◌*◌, ◌/◌, ◌<◌, ◌≤◌, IsSome, Bool, true, false, cond, inl, inr, [], ◌∷◌, List, Option, Some, None, length, drop, nat_eq, nat_le, slice_index, ap, refl, sym, zero, suc, arith, rules}
use Rattle.std.specs.Prelude.{IfNone, IfSome, is_some, slice_get}
use Rattle.std.proofs.lemmas.Bool.{cases_lt}
use Rattle.std.proofs.lemmas.Bool.Decides.{nat_tests}
use Rattle.std.proofs.lemmas.Option.{slice_get_within}
use Rattle.foyer_policy.specs.Dates.{first_by}
use Rattle.foyer_policy.specs.DateSlots.{on_of, AreAbove, IsAt}
use Rattle.foyer_policy.specs.Lists.{find_in}
use Rattle.foyer_policy.proofs.PlaceLemmas.{place_is}

-- the first entry is found from a slot on before which none is due
pub first_by-drop : (now n : ℕ) (ss : List (Option (ℕ × ℕ))) →
    ((j : ℕ) (e : ℕ × ℕ) → slice_get ss j ≡ Some (Some e) → j < n → now < e.1) → first_by now (on_of ss)
    ≡ first_by now (on_of (drop n ss))
first_by-drop now zero ss h = refl
first_by-drop now (suc n) [] h = refl
first_by-drop now (suc n) (None ∷ ss) h = first_by-drop now n ss (λ j e is lt. h (suc j) e is (omega (arith, lt)))
first_by-drop now (suc n) (Some x ∷ ss) h =
    let late : now < x.1 = h 0 x refl (omega arith) in
    let b : nat_le x.1 now ≡ false = grind (arith, nat_tests) in
    let rest = first_by-drop now n ss (λ j e is lt. h (suc j) e is (omega (arith, lt))) in
    rw b rest

-- the first entry that is due is that of the first such slot
pub first_by-at : (now start j : ℕ) (ss : List (Option (ℕ × ℕ))) (e : ℕ × ℕ) → start ≤ j →
    slice_get ss j ≡ Some (Some e) → e.1 ≤ now →
    ((i : ℕ) (d : ℕ × ℕ) → slice_get ss i ≡ Some (Some d) → start ≤ i → i < j → now < d.1) →
    first_by now (on_of (drop start ss)) ≡ Some e.0
first_by-at now start j [] e le is due before = absurd cc
first_by-at now zero zero (None ∷ ss) e le is due before = absurd cc
first_by-at now zero zero (Some x ∷ ss) e le is due before =
    let same : x ≡ e = cc in
    let date : x.1 ≡ e.1 = ap (λ (u : ℕ × ℕ). u.1) same in
    let by : x.1 ≤ now = omega (arith, date, due) in
    let b : nat_le x.1 now ≡ true = grind (arith, nat_tests) in
    rw b (ap (λ (u : ℕ × ℕ). Some u.0) same)
first_by-at now zero (suc j) (None ∷ ss) e le is due before =
    first_by-at now zero j ss e (omega arith) is due
    (λ i d there low high. before (suc i) d there (omega arith) (omega (arith, high)))
first_by-at now zero (suc j) (Some x ∷ ss) e le is due before =
    let late : now < x.1 = before 0 x refl (omega arith) (omega arith) in
    let b : nat_le x.1 now ≡ false = grind (arith, nat_tests) in
    let rest = first_by-at now zero j ss e (omega arith) is due
    (λ i d there low high. before (suc i) d there (omega arith) (omega (arith, high))) in
    rw b rest
first_by-at now (suc start) zero (x ∷ ss) e le is due before = absurd (omega (arith, le))
first_by-at now (suc start) (suc j) (x ∷ ss) e le is due before =
    first_by-at now start j ss e (omega (arith, le)) is due
    (λ i d there low high. before (suc i) d there (omega (arith, low)) (omega (arith, high)))

-- none is due
pub first_by-none : (now : ℕ) (ss : List (Option (ℕ × ℕ))) →
    ((j : ℕ) (e : ℕ × ℕ) → slice_get ss j ≡ Some (Some e) → now < e.1) → first_by now (on_of ss) ≡ None
first_by-none now [] h = refl
first_by-none now (None ∷ ss) h = first_by-none now ss (λ j e is. h (suc j) e is)
first_by-none now (Some x ∷ ss) h =
    let late : now < x.1 = h 0 x refl in
    let b : nat_le x.1 now ≡ false = grind (arith, nat_tests) in
    let rest = first_by-none now ss (λ j e is. h (suc j) e is) in
    rw b rest

-- one entry stands in a slot
pub same_slot : (slots : List (Option (ℕ × ℕ))) (i j : ℕ) (o : Option (ℕ × ℕ)) (e : ℕ × ℕ) → j ≡ i →
    slice_get slots i ≡ Some o → slice_get slots j ≡ Some (Some e) → o ≡ Some e
same_slot slots i j o e is at there = let here = rw is at there in cc

-- the slot of a place
abbrev pub Stands : (p : ℕ) (ss : List (Option (ℕ × ℕ))) → Type 0
Stands p ss = (j : ℕ) × IsAt p ss j

pub stands : (p : ℕ) (ss : List (Option (ℕ × ℕ))) → IsSome (find_in p (on_of ss)) → Stands p ss
stands p [] h = absurd (search rules)
stands p (None ∷ ss) h = (let w = stands p ss h in (suc w.0, record { date = w.1.date; is = w.1.is }))
stands p (Some x ∷ ss) h = go (nat_eq x.0 p) refl h (stands p ss) where
  go : (b : Bool) → nat_eq x.0 p ≡ b → IsSome (cond b (Some x.1) (find_in p (on_of ss))) →
      (IsSome (find_in p (on_of ss)) → Stands p ss) → Stands p (Some x ∷ ss)
  go true e h rec = (0, record { date = x.1; is = ap (λ q. Some (Some (q, x.1))) (place_is x.0 p e) })
  go false e h rec = (let w = rec h in (suc w.0, record { date = w.1.date; is = w.1.is }))

-- an answer that is there is the one that is meant
pub found_is : (o x : Option ℕ) → IfSome o (λ p. x ≡ Some p) → is_some o ≡ true → o ≡ x
found_is None x h there = absurd cc
found_is (Some p) x h there = sym h

-- what is true where there is none
pub none_is : {P : Type 0} (o : Option ℕ) → IfNone o P → is_some o ≡ false → P
none_is None h not = h
none_is (Some p) h not = absurd cc

-- an answer is the one that is meant, where none is meant if there is none
pub answer_is : {P : Type 0} (o x : Option ℕ) → IfSome o (λ p. x ≡ Some p) → IfNone o P → (P → x ≡ None) → o ≡ x
answer_is None x some none meant = sym (meant none)
answer_is (Some p) x some none meant = sym some

module _ (now limit : ℕ) (slots : List (Option (ℕ × ℕ))) (tree : List ℕ) (above : AreAbove slots tree)
    (long : limit / 32 < length tree)
    (within : length slots ≤ limit) where
  pub late_slots : ((b : ℕ) → b < length tree → now < slice_index tree b) →
      (j : ℕ) (e : ℕ × ℕ) → slice_get slots j ≡ Some (Some e) → now < e.1
  late_slots h j e is =
      let inside : j < length slots = slice_get_within slots j (Some e) is in
      omega (arith, above j e is, h (j / 32) (omega arith))

  pub late_before : (b start : ℕ) → start ≤ 32 * b → ((i : ℕ) → i < b → now < slice_index tree i) →
      (j : ℕ) (e : ℕ × ℕ) → slice_get slots j ≡ Some (Some e) → j < start → now < e.1
  late_before b start low h j e is lt = omega (arith, above j e is, h (j / 32) (omega arith))

  -- nor is one in front of another block, where none is of the block between
  pub late_around : (b next : ℕ) → ((i : ℕ) → i < b → now < slice_index tree i) →
      ((j : ℕ) (e : ℕ × ℕ) → slice_get slots j ≡ Some (Some e) → j / 32 ≡ b → now < e.1) →
      ((i : ℕ) → b < i → i < next → now < slice_index tree i) →
      (j : ℕ) (e : ℕ × ℕ) → slice_get slots j ≡ Some (Some e) → j < 32 * next → now < e.1
  late_around b next before here behind j e is lt = elim (cases_lt (j / 32) b) [
    | inl less ↦ omega (arith, above j e is, before (j / 32) less)
    | inr past ↦ elim (cases_lt b (j / 32)) [
      | inl more ↦ omega (arith, above j e is, behind (j / 32) more (omega arith))
      | inr same ↦ here j e is (omega arith)
    ]
  ]
