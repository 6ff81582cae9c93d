-- Nodes in three lists: which list a state tells, and what the lists are once a node moved.
use Rattle.std.proofs.Common.{◌≡◌, ◌≢◌, ℕ, zero, suc, ◌<◌, Bool, true, false, cond, List, [], ◌∷◌, ◌++◌, Some, length, map, set, refl, ◌∙◌, ap, subst, arith}
use Rattle.std.specs.Prelude.{◌==◌, option_map}
use Rattle.std.proofs.lemmas.Bool.Decides.{nat_tests}
use Rattle.std.proofs.lemmas.List.{get_or-set_same, get_or-set_other}
use Rattle.std.proofs.Math.ListN.{get_or-map, length-map}
use Rattle.foyer_policy.specs.Queued.{Queued, items_of}
use Rattle.foyer_policy.specs.Items.{HasIdsOnce, remove_id, find_id}
use Rattle.foyer_policy.specs.ItemLaws.{once-head, once-tail}
use Rattle.foyer_policy.specs.Lists.{list_at, find, find_in, drop_place, with_value, moved, AreLists}
use Rattle.foyer_policy.specs.Lru.{find_pin, remove_pin}
use Rattle.foyer_policy.specs.LruLists.{pinned_of, state, EachState, StatesTell}
use Rattle.foyer_policy.specs.declared.lru.LruState.{LruState}
use Rattle.foyer_policy.proofs.FoundLemmas.{find-write_same}
use Rattle.foyer_policy.proofs.QueuedLemmas.{item_of}
use Rattle.foyer_policy.proofs.ItemPlaces.{item_at, items-drop_place, find_id-found, new-found}
use Rattle.foyer_policy.proofs.ListsLemmas.{Member, member}
use Rattle.foyer_policy.proofs.PlaceLemmas.{drop_place-free}

abbrev pub Node : Type 0
Node = Queued LruState

-- the state of what is found
pub state_at : (P : LruState → Type 0) (p : ℕ) (n : Node) (l : List (ℕ × Node)) → EachState P l → find_in p l ≡ Some n
    → P n.state
state_at P p n [] s h = absurd cc
state_at P p n (e ∷ es) s h = go (e.0 == p) h (state_at P p n es s.1) where
  go : (b : Bool) → cond b (Some e.1) (find_in p es) ≡ Some n → (find_in p es ≡ Some n → P n.state) → P n.state
  go true h rec = (let same : e.1 ≡ n = cc in subst (λ (m : Node). P m.state) same s.0)
  go false h rec = rec h

pub EachState-append : (P : LruState → Type 0) (xs ys : List (ℕ × Node)) → EachState P xs → EachState P ys →
    EachState P (xs ++ ys)
EachState-append P [] ys s t = t
EachState-append P (x ∷ xs) ys s t = (s.0, EachState-append P xs ys s.1 t)

pub EachState-front : (P : LruState → Type 0) (xs ys : List (ℕ × Node)) → EachState P (xs ++ ys) → EachState P xs
EachState-front P [] ys s = tt
EachState-front P (x ∷ xs) ys s = (s.0, EachState-front P xs ys s.1)

pub EachState-back : (P : LruState → Type 0) (xs ys : List (ℕ × Node)) → EachState P (xs ++ ys) → EachState P ys
EachState-back P [] ys s = s
EachState-back P (x ∷ xs) ys s = EachState-back P xs ys s.1

pub EachState-drop : (P : LruState → Type 0) (p : ℕ) (l : List (ℕ × Node)) → EachState P l →
    EachState P (drop_place p l)
EachState-drop P p [] s = tt
EachState-drop P p (e ∷ es) s = go (e.0 == p) (EachState-drop P p es s.1) where
  go : (b : Bool) → EachState P (drop_place p es) → EachState P (cond b es (e ∷ drop_place p es))
  go true rec = s.1
  go false rec = (s.0, rec)

-- the items of a list by their places
pub item_at-is : (p : ℕ) (l : List (ℕ × Node)) → item_at item_of p l ≡ option_map item_of (find_in p l)
item_at-is p [] = refl
item_at-is p (e ∷ es) = go (e.0 == p) (item_at-is p es) where
  go : (b : Bool) → item_at item_of p es ≡ option_map item_of (find_in p es) →
      cond b (Some e.1.item) (item_at item_of p es) ≡ option_map item_of (cond b (Some e.1) (find_in p es))
  go true rec = refl
  go false rec = rec

module _ (p : ℕ) (n : Node) where
  pub item_at-found : (l : List (ℕ × Node)) → find_in p l ≡ Some n → item_at item_of p l ≡ Some n.item
  item_at-found l is = item_at-is p l ∙ ap (option_map item_of) is

  pub items_of-dropped : (l : List (ℕ × Node)) → HasIdsOnce (items_of l) → find_in p l ≡ Some n →
      items_of (drop_place p l) ≡ remove_id n.item.id (items_of l)
  items_of-dropped l once is = items-drop_place item_of p n.item l once (item_at-found l is)

  pub find_id-queued : (l : List (ℕ × Node)) → HasIdsOnce (items_of l) → find_in p l ≡ Some n →
      find_id n.item.id (items_of l) ≡ Some n.item
  find_id-queued l once is = find_id-found item_of p n.item l once (item_at-found l is)

  -- the first has another id
  other_id : (e : ℕ × Node) (es : List (ℕ × Node)) → HasIdsOnce (items_of (e ∷ es)) → find_in p es ≡ Some n →
      (e.1.item.id == n.item.id) ≡ false
  other_id e es once is =
      let ne : n.item.id ≢ e.1.item.id = new-found item_of p e.1.item.id n.item es
      (once-head e.1.item (items_of es) once) (item_at-found es is) in
      grind (arith, nat_tests)

  same_id : (m : Node) → m ≡ n → (m.item.id == n.item.id) ≡ true
  same_id m e = (let i : m.item.id ≡ n.item.id = ap (λ (x : Node). x.item.id) e in grind (arith, nat_tests))

  pub pins-dropped : (l : List (ℕ × Node)) → HasIdsOnce (items_of l) → find_in p l ≡ Some n →
      map pinned_of (drop_place p l) ≡ remove_pin n.item.id (map pinned_of l)
  pins-dropped [] once h = absurd cc
  pins-dropped (e ∷ es) once h = go (e.0 == p) h (pins-dropped es (once-tail e.1.item (items_of es) once)) where
    go : (b : Bool) → cond b (Some e.1) (find_in p es) ≡ Some n →
        (find_in p es ≡ Some n → map pinned_of (drop_place p es) ≡ remove_pin n.item.id (map pinned_of es))
        → map pinned_of (cond b es (e ∷ drop_place p es))
        ≡ cond (e.1.item.id == n.item.id) (map pinned_of es) (pinned_of e ∷ remove_pin n.item.id (map pinned_of es))
    go true h rec = (let same : e.1 ≡ n = cc in rw (same_id e.1 same) refl)
    go false h rec = rw (other_id e es once h) (ap (λ r. pinned_of e ∷ r) (rec h))

  pub find_pin-queued : (l : List (ℕ × Node)) → HasIdsOnce (items_of l) → find_in p l ≡ Some n →
      find_pin n.item.id (map pinned_of l) ≡ Some (pinned_of (p, n))
  find_pin-queued [] once h = absurd cc
  find_pin-queued (e ∷ es) once h = go (e.0 == p) h (find_pin-queued es (once-tail e.1.item (items_of es) once)) where
    go : (b : Bool) → cond b (Some e.1) (find_in p es) ≡ Some n →
        (find_in p es ≡ Some n → find_pin n.item.id (map pinned_of es) ≡ Some (pinned_of (p, n)))
        → cond (e.1.item.id == n.item.id) (Some (pinned_of e)) (find_pin n.item.id (map pinned_of es))
        ≡ Some (pinned_of (p, n))
    go true h rec = (let same : e.1 ≡ n = cc in rw (same_id e.1 same) (ap (λ (m : Node). Some (pinned_of (p, m))) same))
    go false h rec = rw (other_id e es once h) (rec h)

-- a pinned node's item
pub items_of-pins : (l : List (ℕ × Node)) → map (λ q. q.item) (map pinned_of l) ≡ items_of l
items_of-pins [] = refl
items_of-pins (e ∷ es) = ap (λ r. e.1.item ∷ r) (items_of-pins es)

drop_place-with_value : (p : ℕ) (w : Node) (l : List (ℕ × Node)) → drop_place p (with_value p w l) ≡ drop_place p l
drop_place-with_value p w [] = refl
drop_place-with_value p w (e ∷ es) = go (e.0 == p) refl (drop_place-with_value p w es) where
  go : (b : Bool) → (e.0 == p) ≡ b → drop_place p (with_value p w es) ≡ drop_place p es →
      drop_place p (cond b ((p, w) ∷ es) (e ∷ with_value p w es)) ≡ cond b es (e ∷ drop_place p es)
  go true is rec = (let same : (p == p) ≡ true = grind (arith, nat_tests) in rw same refl)
  go false is rec = rw is (ap (λ r. e ∷ r) rec)

-- where a node stands
module _ (ls : List (List (ℕ × Node))) (sound : AreLists 3 ls) (p : ℕ) (n : Node) where
  -- it is in no other list
  pub off : (j k : ℕ) → j < 3 → k < 3 → j ≢ k → find_in p (list_at ls j) ≡ Some n → drop_place p (list_at ls k)
      ≡ list_at ls k
  off j k lj lk ne is = drop_place-free p (list_at ls k)
      (sound.between j k p n (omega (arith, sound.count)) (omega (arith, sound.count)) ne is)

  module _ (tell : StatesTell ls) (h : find p ls ≡ Some n) where
    pub in_low : n.state.pinned ≡ false → n.state.high ≡ false → find_in p (list_at ls 0) ≡ Some n
    in_low unpinned low = go m.list m.within m.there where
      m : Member p n ls
      m = member p n ls h

      go : (k : ℕ) → k < length ls → find_in p (list_at ls k) ≡ Some n → find_in p (list_at ls 0) ≡ Some n
      go zero lt is = is
      go (suc zero) lt is =
          (let s : n.state.high ≡ true = ap (λ (x : LruState). x.high)
          (state_at (λ x. x ≡ state true false) p n (list_at ls 1) tell.high is) in absurd cc)
      go (suc (suc zero)) lt is =
          (let s : n.state.pinned ≡ true = state_at (λ x. x.pinned ≡ true) p n (list_at ls 2) tell.pin is in absurd cc)
      go (suc (suc (suc k))) lt is = absurd (omega (arith, sound.count))

    pub in_high : n.state.pinned ≡ false → n.state.high ≡ true → find_in p (list_at ls 1) ≡ Some n
    in_high unpinned high = go m.list m.within m.there where
      m : Member p n ls
      m = member p n ls h

      go : (k : ℕ) → k < length ls → find_in p (list_at ls k) ≡ Some n → find_in p (list_at ls 1) ≡ Some n
      go zero lt is =
          (let s : n.state.high ≡ false = ap (λ (x : LruState). x.high)
          (state_at (λ x. x ≡ state false false) p n (list_at ls 0) tell.low is) in absurd cc)
      go (suc zero) lt is = is
      go (suc (suc zero)) lt is =
          (let s : n.state.pinned ≡ true = state_at (λ x. x.pinned ≡ true) p n (list_at ls 2) tell.pin is in absurd cc)
      go (suc (suc (suc k))) lt is = absurd (omega (arith, sound.count))

    pub in_pin : n.state.pinned ≡ true → find_in p (list_at ls 2) ≡ Some n
    in_pin pinned = go m.list m.within m.there where
      m : Member p n ls
      m = member p n ls h

      go : (k : ℕ) → k < length ls → find_in p (list_at ls k) ≡ Some n → find_in p (list_at ls 2) ≡ Some n
      go zero lt is =
          (let s : n.state.pinned ≡ false = ap (λ (x : LruState). x.pinned)
          (state_at (λ x. x ≡ state false false) p n (list_at ls 0) tell.low is) in absurd cc)
      go (suc zero) lt is =
          (let s : n.state.pinned ≡ false = ap (λ (x : LruState). x.pinned)
          (state_at (λ x. x ≡ state true false) p n (list_at ls 1) tell.high is) in absurd cc)
      go (suc (suc zero)) lt is = is
      go (suc (suc (suc k))) lt is = absurd (omega (arith, sound.count))

  -- the lists once it took another value and went to the end of a list
  module _ (h : find p ls ≡ Some n) (ls2 : List (List (ℕ × Node))) (w : Node) (t : ℕ) (lt : t < 3)
      (moved_is : ls2 ≡ moved p t (map (with_value p w) ls)) where
    left : List (List (ℕ × Node))
    left = map (drop_place p) (map (with_value p w) ls)

    left-at : (k : ℕ) → list_at left k ≡ drop_place p (list_at ls k)
    unfolding left
    left-at k = get_or-map (drop_place p) (map (with_value p w) ls) k []
        ∙ ap (drop_place p) (get_or-map (with_value p w) ls k []) ∙ drop_place-with_value p w (list_at ls k)

    now : ls2 ≡ set left t (list_at left t ++ (p, w) ∷ [])
    unfolding left
    now = moved_is ∙ rw (find-write_same p n w ls h) refl

    within : t < length left
    unfolding left
    within = omega
        (arith, length-map (map (with_value p w) ls) (drop_place p), length-map ls (with_value p w), sound.count)

    pub relisted-here : list_at ls2 t ≡ drop_place p (list_at ls t) ++ (p, w) ∷ []
    relisted-here =
        ap (λ (x : List (List (ℕ × Node))). list_at x t) now
        ∙ get_or-set_same left t (list_at left t ++ (p, w) ∷ []) [] within
        ∙ ap (λ (l : List (ℕ × Node)). l ++ (p, w) ∷ []) (left-at t)

    pub relisted-other : (k : ℕ) → k ≢ t → list_at ls2 k ≡ drop_place p (list_at ls k)
    relisted-other k ne =
        ap (λ (x : List (List (ℕ × Node))). list_at x k) now
        ∙ get_or-set_other left t k (list_at left t ++ (p, w) ∷ []) [] ne ∙ left-at k
