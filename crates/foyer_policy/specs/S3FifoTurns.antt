-- What a pop of S3-FIFO takes from its main queue.
use Rattle.std.proofs.Common.{◌≡◌, ◌≢◌, ℕ, ◌+◌, ◌-◌, ◌*◌, ◌≤◌, Bool, true, false, cond, List, [], ◌∷◌, ◌++◌, Some, None, length, refl, sym, ◌∙◌, ap, subst, arith, length-append}
use Rattle.std.specs.Prelude.{◌==◌}
use Rattle.std.specs.List.Sorted.{IsPermutation}
use Rattle.std.proofs.lemmas.Bool.Decides.{nat_tests}
use Rattle.std.proofs.lemmas.List.{map-append}
use Rattle.std.proofs.lemmas.List.Sums.{sum_by-cons, sum_by-append}
use Rattle.std.proofs.lemmas.List.Sorted.{IsPermutation-trans, IsPermutation-cons, IsPermutation-middle, IsPermutation-append_comm}
use Rattle.foyer_policy.specs.S3Fifo.{Entry, items, frequencies, least, least_of, before_first, from_first, lowered, MainTurn, main_turn, main_looks}
use Rattle.foyer_policy.specs.declared.types.Item.{Item}

abbrev item_of : Entry → Item
item_of e = e.item

abbrev frequency_of : Entry → ℕ
frequency_of e = e.frequency

pub items-append : (xs ys : List Entry) → items (xs ++ ys) ≡ items xs ++ items ys
items-append xs ys = map-append item_of xs ys

pub items-lowered : (n : ℕ) (xs : List Entry) → items (lowered n xs) ≡ items xs
items-lowered n [] = refl
items-lowered n (x ∷ xs) = ap (λ r. x.item ∷ r) (items-lowered n xs)

pub frequencies-append : (xs ys : List Entry) → frequencies (xs ++ ys) ≡ frequencies xs + frequencies ys
frequencies-append xs ys = sum_by-append frequency_of xs ys

pub frequencies-cons : (x : Entry) (xs : List Entry) → frequencies (x ∷ xs) ≡ x.frequency + frequencies xs
frequencies-cons x xs = sum_by-cons frequency_of x xs

-- no frequency is below this
abbrev pub AtLeast : ℕ → List Entry → Type 0
AtLeast k [] = Unit {0}
AtLeast k (e ∷ es) = (k ≤ e.frequency) × AtLeast k es

pub weaker : (j k : ℕ) (l : List Entry) → j ≤ k → AtLeast k l → AtLeast j l
weaker j k [] le h = tt
weaker j k (e ∷ es) le h = (omega (arith, h.0), weaker j k es le h.1)

pub at_least-append : (k : ℕ) (xs ys : List Entry) → AtLeast k xs → AtLeast k ys → AtLeast k (xs ++ ys)
at_least-append k [] ys h w = w
at_least-append k (x ∷ xs) ys h w = (h.0, at_least-append k xs ys h.1 w)

at_least-right : (k : ℕ) (xs ys : List Entry) → AtLeast k (xs ++ ys) → AtLeast k ys
at_least-right k [] ys h = h
at_least-right k (x ∷ xs) ys h = at_least-right k xs ys h.1

-- the two parts of a list at the first entry of a frequency
parted : (m : ℕ) (l : List Entry) → l ≡ before_first m l ++ from_first m l
parted m [] = refl
parted m (e ∷ es) = go (e.frequency == m) (parted m es) where
  go : (b : Bool) → es ≡ before_first m es ++ from_first m es → e ∷ es ≡ cond b [] (e ∷ before_first m es)
      ++ cond b (e ∷ es) (from_first m es)
  go true rec = refl
  go false rec = ap (λ r. e ∷ r) rec

before-above : (m : ℕ) (l : List Entry) → AtLeast m l → AtLeast (m + 1) (before_first m l)
before-above m [] h = tt
before-above m (e ∷ es) h = go (e.frequency == m) refl (before-above m es h.1) where
  go : (b : Bool) → (e.frequency == m) ≡ b → AtLeast (m + 1) (before_first m es) →
      AtLeast (m + 1) (cond b [] (e ∷ before_first m es))
  go true is rec = tt
  go false is rec = (let ne : e.frequency ≢ m = grind (arith, nat_tests) in omega (arith, h.0), rec)

from-at_least : (k m : ℕ) (l : List Entry) → AtLeast k l → AtLeast k (from_first m l)
from-at_least k m [] h = tt
from-at_least k m (e ∷ es) h = go (e.frequency == m) (from-at_least k m es h.1) where
  go : (b : Bool) → AtLeast k (from_first m es) → AtLeast k (cond b (e ∷ es) (from_first m es))
  go true rec = h
  go false rec = rec

head-is : (m : ℕ) (l : List Entry) (e : Entry) (es : List Entry) → from_first m l ≡ e ∷ es → e.frequency ≡ m
head-is m [] e es h = absurd cc
head-is m (x ∷ xs) e es h = go (x.frequency == m) refl h (head-is m xs e es) where
  go : (b : Bool) → (x.frequency == m) ≡ b → cond b (x ∷ xs) (from_first m xs) ≡ e ∷ es →
      (from_first m xs ≡ e ∷ es → e.frequency ≡ m) → e.frequency ≡ m
  go true is h rec = (let same : x ≡ e = cc in let n : x.frequency ≡ m = grind (arith, nat_tests) in rw (← same) n)
  go false is h rec = rec h

least-le : (e : Entry) (es : List Entry) → AtLeast (least e es) (e ∷ es)
least-le e [] = (omega arith, tt)
least-le e (f ∷ fs) = (omega arith, weaker (least e (f ∷ fs)) (least f fs) (f ∷ fs) (omega arith) (least-le f fs))

record Found (m : ℕ) (l : List Entry) : Type 0 where
  head : Entry
  rest : List Entry
  is : from_first m l ≡ head ∷ rest

least-found : (e : Entry) (es : List Entry) → Found (least e es) (e ∷ es)
least-found e [] =
    (let same : (e.frequency == e.frequency) ≡ true = grind (arith, nat_tests) in
    record { head = e; rest = []; is = rw same refl })
least-found e (f ∷ fs) = go (e.frequency == least e (f ∷ fs)) refl (least-found f fs) where
  go : (b : Bool) → (e.frequency == least e (f ∷ fs)) ≡ b → Found (least f fs) (f ∷ fs) →
      Found (least e (f ∷ fs)) (e ∷ f ∷ fs)
  go true is rec = record { head = e; rest = f ∷ fs; is = rw is refl }
  go false is rec =
      let ne : e.frequency ≢ least e (f ∷ fs) = grind (arith, nat_tests) in
      let same : least e (f ∷ fs) ≡ least f fs = omega (arith, ne) in
      record { head = rec.head; rest = rec.rest; is = rw is (ap (λ (m : ℕ). from_first m (f ∷ fs)) same ∙ rec.is) }

-- a list at the first entry of its least frequency
pub record Least (l : List Entry) : Type 0 where
  pub least : ℕ
  pub front : List Entry
  pub victim : Entry
  pub rest : List Entry
  pub is : l ≡ front ++ victim ∷ rest
  pub at : victim.frequency ≡ least
  pub above : AtLeast (least + 1) front
  pub from : AtLeast least rest

pub least-split : (e : Entry) (es : List Entry) → Least (e ∷ es)
least-split e es =
    let m = least e es in
    let f = least-found e es in
    let all = from-at_least m m (e ∷ es) (least-le e es) in
    let tail : AtLeast m (f.head ∷ f.rest) = rw f.is at all in
    record {
      least = m;
      front = before_first m (e ∷ es);
      victim = f.head;
      rest = f.rest;
      is = parted m (e ∷ es) ∙ ap (λ (l : List Entry). before_first m (e ∷ es) ++ l) f.is;
      at = head-is m (e ∷ es) f.head f.rest f.is;
      above = before-above m (e ∷ es) (least-le e es);
      from = tail.1;
    }

-- where the first entry of the least frequency is known, the turn is
module _ (m : ℕ) (v : Entry) (rest : List Entry) (at : v.frequency ≡ m) (from : AtLeast m rest) where
  before-is : (front : List Entry) → AtLeast (m + 1) front → before_first m (front ++ v ∷ rest) ≡ front
  before-is [] above = (let e : (v.frequency == m) ≡ true = grind (arith, nat_tests) in rw e refl)
  before-is (x ∷ xs) above =
      (let le = above.0 in let ne : x.frequency ≢ m = omega (arith, le) in let e : (x.frequency == m) ≡ false =
      grind (arith, nat_tests) in rw e (ap (λ r. x ∷ r) (before-is xs above.1)))

  from-is : (front : List Entry) → AtLeast (m + 1) front → from_first m (front ++ v ∷ rest) ≡ v ∷ rest
  from-is [] above = (let e : (v.frequency == m) ≡ true = grind (arith, nat_tests) in rw e refl)
  from-is (x ∷ xs) above =
      (let le = above.0 in let ne : x.frequency ≢ m = omega (arith, le) in let e : (x.frequency == m) ≡ false =
      grind (arith, nat_tests) in rw e (from-is xs above.1))

  all-at_least : (front : List Entry) → AtLeast (m + 1) front → AtLeast m (front ++ v ∷ rest)
  all-at_least front above = at_least-append m front (v ∷ rest) (weaker m (m + 1) front (omega arith) above)
      (omega (arith, at), from)

  least-of : (x : Entry) (xs front : List Entry) → x ∷ xs ≡ front ++ v ∷ rest → AtLeast (m + 1) front → least x xs ≡ m
  least-of x xs front is above =
      let n = least x xs in
      let f = least-found x xs in
      let le = least-le x xs in
      let low : AtLeast n (front ++ v ∷ rest) = subst (λ (l : List Entry). AtLeast n l) is le in
      let at_v = (at_least-right n front (v ∷ rest) low).0 in
      let all = all-at_least front above in
      let high : AtLeast m (x ∷ xs) = subst (λ (l : List Entry). AtLeast m l) (sym is) all in
      let some = from-at_least m n (x ∷ xs) high in
      let found : AtLeast m (f.head ∷ f.rest) = rw f.is at some in
      omega (arith, at, at_v, found.0, head-is n (x ∷ xs) f.head f.rest f.is)

  pub least_of-is : (front : List Entry) → AtLeast (m + 1) front → least_of (front ++ v ∷ rest) ≡ m
  least_of-is [] above = least-of v rest [] refl above
  least_of-is (x ∷ xs) above = least-of x (xs ++ v ∷ rest) (x ∷ xs) refl above

  pub turn-is : (front : List Entry) → AtLeast (m + 1) front → main_turn (front ++ v ∷ rest)
      ≡ Some (record { victim = v.item; main = lowered m rest ++ lowered (m + 1) front })
  turn-is front above = rw (least_of-is front above, from-is front above, before-is front above) refl

  pub looks-is : (front : List Entry) → AtLeast (m + 1) front → main_looks (front ++ v ∷ rest)
      ≡ m * length (front ++ v ∷ rest) + length front + 1
  looks-is front above = rw (least_of-is front above, from-is front above, before-is front above) refl

-- what is taken off
frequencies-lowered : (k : ℕ) (l : List Entry) → AtLeast k l → frequencies (lowered k l) + k * length l ≡ frequencies l
frequencies-lowered k [] h = omega arith
frequencies-lowered k (e ∷ es) h =
    let d : Entry = record { item = e.item; frequency = e.frequency - k } in
    omega (arith, h.0, frequencies-cons d (lowered k es), frequencies-cons e es, frequencies-lowered k es h.1)

-- what a turn does to the items and the frequencies
pub record MainTurned (l : List Entry) (t : MainTurn) : Type 0 where
  pub order : IsPermutation (items l) (t.victim ∷ items t.main)
  pub paid : main_looks l + frequencies t.main ≤ frequencies l + 1
  pub kept : frequencies t.main ≤ frequencies l

module _ (m : ℕ) (front : List Entry) (v : Entry) (rest : List Entry) (at : v.frequency ≡ m)
    (above : AtLeast (m + 1) front) (from : AtLeast m rest) where
  abbrev left : MainTurn
  left = record { victim = v.item; main = lowered m rest ++ lowered (m + 1) front }

  left-items : items left.main ≡ items rest ++ items front
  left-items = items-append (lowered m rest) (lowered (m + 1) front)
      ∙ rw (items-lowered m rest, items-lowered (m + 1) front) refl

  whole-items : items (front ++ v ∷ rest) ≡ items front ++ v.item ∷ items rest
  whole-items = items-append front (v ∷ rest)

  left-order : IsPermutation (items (front ++ v ∷ rest)) (v.item ∷ items left.main)
  left-order = rw (whole-items, left-items)
      (IsPermutation-trans (items front ++ v.item ∷ items rest) (v.item ∷ (items front ++ items rest))
      (v.item ∷ (items rest ++ items front))
      (IsPermutation-middle (items front) v.item (items rest))
      (IsPermutation-cons v.item (items front ++ items rest) (items rest ++ items front)
      (IsPermutation-append_comm (items front) (items rest))))

  left-turned : MainTurned (front ++ v ∷ rest) left
  left-turned =
      let a = frequencies-lowered m rest from in
      let b = frequencies-lowered (m + 1) front above in
      let c = frequencies-append (lowered m rest) (lowered (m + 1) front) in
      let d = frequencies-append front (v ∷ rest) in
      let e = frequencies-cons v rest in
      let n = looks-is m v rest at from front above in
      let k = length-append front (v ∷ rest) in
      let q : m * length (front ++ v ∷ rest) ≡ m * length front + m + m * length rest = ap (λ (x : ℕ). m * x) k
      ∙ omega arith in
      record {
        order = left-order;
        paid = omega (arith, a, b, c, d, e, n, q, at);
        kept = omega (arith, a, b, c, d, e);
      }

pub main-turned : (l : List Entry) (t : MainTurn) → main_turn l ≡ Some t → MainTurned l t
main-turned [] t h = absurd cc
main-turned (e ∷ es) t h =
    let s = least-split e es in
    let gives : main_turn (e ∷ es) ≡ Some
    (record { victim = s.victim.item; main = lowered s.least s.rest ++ lowered (s.least + 1) s.front }) =
    ap main_turn s.is ∙ turn-is s.least s.victim s.rest s.at s.from s.front s.above in
    let r : MainTurn =
    record { victim = s.victim.item; main = lowered s.least s.rest ++ lowered (s.least + 1) s.front } in
    let same : r ≡ t = (let q : Some r ≡ Some t = sym gives ∙ h in cc) in
    let facts : MainTurned (e ∷ es) r = rw s.is (left-turned s.least s.front s.victim s.rest s.at s.above s.from) in
    subst (λ (x : MainTurn). MainTurned (e ∷ es) x) same facts

pub main-none : (l : List Entry) → main_turn l ≡ None → l ≡ []
main-none [] h = refl
main-none (e ∷ es) h =
    let s = least-split e es in
    let gives : main_turn (e ∷ es) ≡ Some
    (record { victim = s.victim.item; main = lowered s.least s.rest ++ lowered (s.least + 1) s.front }) =
    ap main_turn s.is ∙ turn-is s.least s.victim s.rest s.at s.from s.front s.above in
    absurd cc
