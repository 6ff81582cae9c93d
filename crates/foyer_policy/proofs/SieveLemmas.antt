-- One look of a Sieve changes nothing of what its pop gives.
use Rattle.std.proofs.Common.{◌≡◌, ℕ, suc, ◌+◌, Bool, true, false, cond, List, [], ◌∷◌, ◌++◌, Option, Some, length, refl, sym, ◌∙◌, ap, arith, append_assoc, append-nil}
use Rattle.std.proofs.lemmas.List.{map-append}
use Rattle.foyer_policy.specs.Sieve.{Entry, cleared, all_cleared, visited_front, from_unvisited, Turn, where_all_visited, where_behind_visited, first_unvisited, turn, looks_at}
use Rattle.foyer_policy.specs.SieveLaws.{unvisited-found, unvisited-none, front-found, front-none, all-front}
use Rattle.foyer_policy.specs.declared.types.Item.{Item}

same_turn : (i : Item) (b c d e : List Entry) → b ≡ d → c ≡ e →
    ◌≡◌ {A = Option Turn} (Some (record { victim = i; before = b; behind = c }))
    (Some (record { victim = i; before = d; behind = e }))
same_turn i b c d e h k = rw (h, k) refl

cleared-append : (xs ys : List Entry) → all_cleared (xs ++ ys) ≡ all_cleared xs ++ all_cleared ys
cleared-append xs ys = map-append cleared xs ys

seen-unvisited : (e : Entry) (es : List Entry) → e.visited ≡ true → from_unvisited (e ∷ es) ≡ from_unvisited es
seen-unvisited e es v = ap (λ (b : Bool). cond b (from_unvisited es) (e ∷ es)) v

seen-front : (e : Entry) (es : List Entry) → e.visited ≡ true → visited_front (e ∷ es) ≡ e ∷ visited_front es
seen-front e es v = ap (λ (b : Bool). cond b (e ∷ visited_front es) []) v

-- without a hand, the rotation begins at the front
pub turn-start : (q : List Entry) → turn q [] ≡ turn [] q
turn-start q = go (from_unvisited q) where
  all : (l : List Entry) → where_all_visited l [] ≡ where_all_visited [] l
  all [] = refl
  all (e ∷ es) = refl

  go : (r : List Entry) → where_behind_visited q [] r ≡ first_unvisited [] q r
  go [] = all q
  go (e ∷ es) = same_turn e.item (all_cleared (visited_front q)) (es ++ []) (all_cleared (visited_front q)) es refl
      (append-nil es)

-- a visited entry at the hand, with another behind it
module _ (xs : List Entry) (e f : Entry) (fs : List Entry) (v : e.visited ≡ true) where
  below : (s : List Entry) → from_unvisited xs ≡ s → where_behind_visited xs (e ∷ f ∷ fs) s
      ≡ where_behind_visited (xs ++ cleared e ∷ []) (f ∷ fs) (from_unvisited (xs ++ cleared e ∷ []))
  below (u ∷ us) is =
      let q : from_unvisited (xs ++ cleared e ∷ []) ≡ u ∷ (us ++ cleared e ∷ []) =
      unvisited-found xs (cleared e ∷ []) u us is in
      let w : visited_front (xs ++ cleared e ∷ []) ≡ visited_front xs = front-found xs (cleared e ∷ []) u us is in
      same_turn u.item (all_cleared (visited_front xs)) (us ++ all_cleared (e ∷ f ∷ fs))
      (all_cleared (visited_front (xs ++ cleared e ∷ []))) ((us ++ cleared e ∷ []) ++ all_cleared (f ∷ fs))
      (ap (λ (l : List Entry). all_cleared l) (sym w)) (sym (append_assoc us (cleared e ∷ []) (all_cleared (f ∷ fs))))
      ∙ ap (where_behind_visited (xs ++ cleared e ∷ []) (f ∷ fs)) (sym q)
  below [] is =
      let q : from_unvisited (xs ++ cleared e ∷ []) ≡ cleared e ∷ [] = unvisited-none xs (cleared e ∷ []) is in
      let w : visited_front (xs ++ cleared e ∷ []) ≡ xs = front-none xs (cleared e ∷ []) is ∙ append-nil xs in
      same_turn e.item (all_cleared xs) (all_cleared (f ∷ fs)) (all_cleared (visited_front (xs ++ cleared e ∷ [])))
      ([] ++ all_cleared (f ∷ fs)) (ap (λ (l : List Entry). all_cleared l) (sym w)) refl
      ∙ ap (where_behind_visited (xs ++ cleared e ∷ []) (f ∷ fs)) (sym q)

  above : (r : List Entry) → from_unvisited (f ∷ fs) ≡ r → first_unvisited xs (e ∷ f ∷ fs) r
      ≡ first_unvisited (xs ++ cleared e ∷ []) (f ∷ fs) r
  above (u ∷ us) is =
      same_turn u.item (xs ++ all_cleared (visited_front (e ∷ f ∷ fs))) us
      ((xs ++ cleared e ∷ []) ++ all_cleared (visited_front (f ∷ fs))) us
      (ap (λ (l : List Entry). xs ++ all_cleared l) (seen-front e (f ∷ fs) v)
      ∙ sym (append_assoc xs (cleared e ∷ []) (all_cleared (visited_front (f ∷ fs))))) refl
  above [] is = below (from_unvisited xs) refl

  pub turn-next : turn xs (e ∷ f ∷ fs) ≡ turn (xs ++ cleared e ∷ []) (f ∷ fs)
  turn-next = ap (first_unvisited xs (e ∷ f ∷ fs)) (seen-unvisited e (f ∷ fs) v) ∙ above (from_unvisited (f ∷ fs)) refl

-- a visited entry at the hand and at the end
module _ (x : Entry) (xt : List Entry) (e : Entry) (v : e.visited ≡ true) where
  wraps : (s : List Entry) → from_unvisited (x ∷ xt) ≡ s → where_behind_visited (x ∷ xt) (e ∷ []) s
      ≡ turn [] (x ∷ (xt ++ cleared e ∷ []))
  wraps (u ∷ us) is =
      let q : from_unvisited (x ∷ (xt ++ cleared e ∷ [])) ≡ u ∷ (us ++ cleared e ∷ []) =
      unvisited-found (x ∷ xt) (cleared e ∷ []) u us is in
      let w : visited_front (x ∷ (xt ++ cleared e ∷ [])) ≡ visited_front (x ∷ xt) =
      front-found (x ∷ xt) (cleared e ∷ []) u us is in
      same_turn u.item (all_cleared (visited_front (x ∷ xt))) (us ++ all_cleared (e ∷ []))
      ([] ++ all_cleared (visited_front (x ∷ (xt ++ cleared e ∷ [])))) (us ++ cleared e ∷ [])
      (ap (λ (l : List Entry). all_cleared l) (sym w)) refl
      ∙ ap (first_unvisited [] (x ∷ (xt ++ cleared e ∷ []))) (sym q)
  wraps [] is =
      let q : from_unvisited (x ∷ (xt ++ cleared e ∷ [])) ≡ cleared e ∷ [] =
      unvisited-none (x ∷ xt) (cleared e ∷ []) is in
      let w : visited_front (x ∷ (xt ++ cleared e ∷ [])) ≡ x ∷ xt = front-none (x ∷ xt) (cleared e ∷ []) is
      ∙ append-nil (x ∷ xt) in
      same_turn e.item (all_cleared (x ∷ xt)) [] ([] ++ all_cleared (visited_front (x ∷ (xt ++ cleared e ∷ [])))) []
      (ap (λ (l : List Entry). all_cleared l) (sym w)) refl
      ∙ ap (first_unvisited [] (x ∷ (xt ++ cleared e ∷ []))) (sym q)

  pub turn-wrap : turn (x ∷ xt) (e ∷ []) ≡ turn [] (x ∷ (xt ++ cleared e ∷ []))
  turn-wrap = ap (first_unvisited (x ∷ xt) (e ∷ [])) (seen-unvisited e [] v) ∙ wraps (from_unvisited (x ∷ xt)) refl

-- a visited entry alone
pub turn-alone : (e : Entry) → e.visited ≡ true → turn [] (e ∷ []) ≡ turn [] (cleared e ∷ [])
turn-alone e v = ap (first_unvisited [] (e ∷ [])) (seen-unvisited e [] v)

-- an entry that isn't visited leaves at once
pub turn-done : (xs : List Entry) (e : Entry) (es : List Entry) → e.visited ≡ false → turn xs (e ∷ es)
    ≡ Some (record { victim = e.item; before = xs; behind = es })
turn-done xs e es v =
    let q : from_unvisited (e ∷ es) ≡ e ∷ es = ap (λ (b : Bool). cond b (from_unvisited es) (e ∷ es)) v in
    let w : visited_front (e ∷ es) ≡ [] = ap (λ (b : Bool). cond b (e ∷ visited_front es) []) v in
    ap (first_unvisited xs (e ∷ es)) q ∙ same_turn e.item (xs ++ all_cleared (visited_front (e ∷ es))) es xs es
    (ap (λ (l : List Entry). xs ++ all_cleared l) w ∙ append-nil xs) refl

-- a look at a visited entry is one of the looks
pub looks-next : (e : Entry) (r : List Entry) → e.visited ≡ true → looks_at (e ∷ r)
    ≡ suc (looks_at (r ++ cleared e ∷ []))
looks-next e r v = go (from_unvisited r) refl where
  whole : (l : List Entry) → looks_at (l ++ cleared e ∷ []) ≡ length (visited_front (l ++ cleared e ∷ [])) + 1
  whole [] = refl
  whole (x ∷ xs) = refl

  go : (s : List Entry) → from_unvisited r ≡ s → looks_at (e ∷ r) ≡ suc (looks_at (r ++ cleared e ∷ []))
  go [] is =
      omega (
        arith,
        whole r,
        ap (λ (l : List Entry). length l) (seen-front e r v),
        ap (λ (l : List Entry). length l) (front-none r (cleared e ∷ []) is ∙ append-nil r),
        ap (λ (l : List Entry). length l) (all-front r is),
      )
  go (u ∷ us) is =
      omega (
        arith,
        whole r,
        ap (λ (l : List Entry). length l) (seen-front e r v),
        ap (λ (l : List Entry). length l) (front-found r (cleared e ∷ []) u us is),
      )

-- a look at one that isn't is the last
pub looks-done : (e : Entry) (r : List Entry) → e.visited ≡ false → looks_at (e ∷ r) ≡ 1
looks-done e r v = omega (arith, ap (λ (b : Bool). let n : ℕ = length (cond b (e ∷ visited_front r) []) in n) v)
