-- One look of S3-FIFO at the front of its main queue changes nothing of what main gives.
use Rattle.std.proofs.Common.{◌≡◌, ℕ, zero, suc, ◌+◌, ◌-◌, ◌*◌, ◌≤◌, ◌<◌, List, [], ◌∷◌, ◌++◌, Option, Some, length, refl, sym, ◌∙◌, ap, subst, arith, append_assoc, append-nil, length-append}
use Rattle.std.proofs.lemmas.List.{map-append}
use Rattle.foyer_policy.specs.S3Fifo.{Entry, frequencies, lowered, MainTurn, main_turn, main_looks}
use Rattle.foyer_policy.specs.S3FifoTurns.{AtLeast, weaker, at_least-append, least-split, turn-is, looks-is, frequencies-append, frequencies-cons}
use Rattle.foyer_policy.specs.declared.types.Item.{Item}

-- an entry with its frequency lowered by one
abbrev pub less : Entry → Entry
less e = record { item = e.item; frequency = e.frequency - 1 }

abbrev pub turn_of : Item → List Entry → Option MainTurn
turn_of i l = Some (record { victim = i; main = l })

same_turn : (i : Item) (a b : List Entry) → a ≡ b → turn_of i a ≡ turn_of i b
same_turn i a b h = rw h refl

-- the front has the least frequency, which isn't 0: it comes round last
module _ (e : Entry) (es : List Entry) (k : ℕ) (at : e.frequency ≡ k + 1) (from : AtLeast (k + 1) es) where
  round-at : (less e).frequency ≡ k
  round-at = omega (arith, at)

  round-turn : main_turn (es ++ less e ∷ []) ≡ main_turn (e ∷ es)
  round-turn = turn-is k (less e) [] round-at tt es from
      ∙ sym (turn-is (k + 1) e es at from [] tt
      ∙ same_turn e.item (lowered (k + 1) es ++ []) (lowered (k + 1) es) (append-nil (lowered (k + 1) es)))

  round-looks : suc (main_looks (es ++ less e ∷ [])) ≡ main_looks (e ∷ es)
  round-looks =
      let n = length es in
      let a = looks-is k (less e) [] round-at tt es from in
      let b = looks-is (k + 1) e es at from [] tt in
      let c : k * length (es ++ less e ∷ []) ≡ k * n + k = ap (λ (x : ℕ). k * x) (length-append es (less e ∷ []))
      ∙ omega arith in
      let d : (k + 1) * length (e ∷ es) ≡ k * n + k + n + 1 = omega arith in
      omega (arith, a, b, c, d)

-- the least frequency stands behind the front
module _ (e : Entry) (xs : List Entry) (m : ℕ) (v : Entry) (rest : List Entry) (at : v.frequency ≡ m)
    (high : m + 1 ≤ e.frequency) (above : AtLeast (m + 1) xs) (from : AtLeast m rest) where
  later-from : AtLeast m (rest ++ less e ∷ [])
  later-from = at_least-append m rest (less e ∷ []) from (omega (arith, high), tt)

  later-list : (xs ++ v ∷ rest) ++ less e ∷ [] ≡ xs ++ v ∷ (rest ++ less e ∷ [])
  later-list = append_assoc xs (v ∷ rest) (less e ∷ [])

  later-left : lowered m (rest ++ less e ∷ []) ++ lowered (m + 1) xs ≡ lowered m rest ++ lowered (m + 1) (e ∷ xs)
  later-left =
      let f : Entry → Entry = λ x. record { item = x.item; frequency = x.frequency - m } in
      let n : e.frequency - 1 - m ≡ e.frequency - (m + 1) = omega arith in
      ap (λ (l : List Entry). l ++ lowered (m + 1) xs) (map-append f rest (less e ∷ []))
      ∙ append_assoc (lowered m rest) (f (less e) ∷ []) (lowered (m + 1) xs)
      ∙ ap (λ (k : ℕ). lowered m rest ++ record { item = e.item; frequency = k } ∷ lowered (m + 1) xs) n

  later-turn : main_turn ((xs ++ v ∷ rest) ++ less e ∷ []) ≡ main_turn (e ∷ (xs ++ v ∷ rest))
  later-turn = ap main_turn later-list ∙ turn-is m v (rest ++ less e ∷ []) at later-from xs above
      ∙ same_turn v.item (lowered m (rest ++ less e ∷ []) ++ lowered (m + 1) xs)
      (lowered m rest ++ lowered (m + 1) (e ∷ xs)) later-left
      ∙ sym (turn-is m v rest at from (e ∷ xs) (high, above))

  later-looks : suc (main_looks ((xs ++ v ∷ rest) ++ less e ∷ [])) ≡ main_looks (e ∷ (xs ++ v ∷ rest))
  later-looks =
      let a = ap main_looks later-list ∙ looks-is m v (rest ++ less e ∷ []) at later-from xs above in
      let b = looks-is m v rest at from (e ∷ xs) (high, above) in
      let c : length (xs ++ v ∷ (rest ++ less e ∷ [])) ≡ length (e ∷ (xs ++ v ∷ rest)) =
      omega (
        arith,
        length-append xs (v ∷ (rest ++ less e ∷ [])),
        length-append rest (less e ∷ []),
        length-append xs (v ∷ rest),
      ) in
      let d : m * length (xs ++ v ∷ (rest ++ less e ∷ [])) ≡ m * length (e ∷ (xs ++ v ∷ rest)) =
      ap (λ (x : ℕ). m * x) c in
      omega (arith, a, b, d)

abbrev pub Steps : Entry → List Entry → Type 0
Steps e es = (main_turn (es ++ less e ∷ []) ≡ main_turn (e ∷ es))
    × (suc (main_looks (es ++ less e ∷ [])) ≡ main_looks (e ∷ es))

moved_to : (x e : Entry) (xs es : List Entry) → e ≡ x → es ≡ xs → Steps x xs → Steps e es
moved_to x e xs es q r h = subst (λ (y : Entry). Steps y es) (sym q) (subst (λ (l : List Entry). Steps x l) (sym r) h)

steps : (e : Entry) (es : List Entry) (m : ℕ) (front : List Entry) (v : Entry) (rest : List Entry) → e ∷ es ≡ front
    ++ v ∷ rest → v.frequency ≡ m → AtLeast (m + 1) front → AtLeast m rest → 0 < e.frequency → Steps e es
steps e es zero [] v rest is at above from some =
    (let q : e ≡ v = cc in absurd (omega (arith, some, at, ap (λ (x : Entry). x.frequency) q)))
steps e es (suc k) [] v rest is at above from some =
    let q : e ≡ v = cc in
    let r : es ≡ rest = cc in
    let a : v.frequency ≡ k + 1 = omega (arith, at) in
    let f = weaker (k + 1) (suc k) rest (omega arith) from in
    moved_to v e rest es q r (round-turn v rest k a f, round-looks v rest k a f)
steps e es m (x ∷ xs) v rest is at above from some =
    let q : e ≡ x = cc in
    let r : es ≡ xs ++ v ∷ rest = cc in
    moved_to x e (xs ++ v ∷ rest) es q r
    (later-turn x xs m v rest at above.0 above.1 from, later-looks x xs m v rest at above.0 above.1 from)

-- a look at a front whose frequency is above 0
pub main-next : (e : Entry) (es : List Entry) → 0 < e.frequency → Steps e es
main-next e es some =
    (let s = least-split e es in steps e es s.least s.front s.victim s.rest s.is s.at s.above s.from some)

lowered-none : (l : List Entry) → lowered 0 l ≡ l
lowered-none [] = refl
lowered-none (e ∷ es) =
    (let n : e.frequency - 0 ≡ e.frequency = omega arith in
    ap (λ (k : ℕ). record { item = e.item; frequency = k } ∷ lowered 0 es) n ∙ ap (λ r. e ∷ r) (lowered-none es))

all-at_least : (l : List Entry) → AtLeast 0 l
all-at_least [] = tt
all-at_least (e ∷ es) = (omega arith, all-at_least es)

-- a front of frequency 0 leaves, with one look
pub main-done : (e : Entry) (es : List Entry) → e.frequency ≡ 0 → (main_turn (e ∷ es) ≡ turn_of e.item es)
    × (main_looks (e ∷ es) ≡ 1)
main-done e es none = (
  turn-is 0 e es none (all-at_least es) [] tt
      ∙ same_turn e.item (lowered 0 es ++ []) es (append-nil (lowered 0 es) ∙ lowered-none es),
  omega (arith, looks-is 0 e es none (all-at_least es) [] tt),
)

-- the look is paid for by the frequency
pub paid-next : (e : Entry) (es : List Entry) → 0 < e.frequency → frequencies (es ++ less e ∷ []) + 1
    ≡ frequencies (e ∷ es)
paid-next e es some =
    omega (arith, some, frequencies-append es (less e ∷ []), frequencies-cons (less e) [], frequencies-cons e es)
