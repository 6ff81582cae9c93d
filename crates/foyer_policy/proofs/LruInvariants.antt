-- What holds of every `Lru` holds after each call.
use Rattle.std.proofs.Common.{◌≡◌, ℕ, ◌+◌, ◌<◌, ◌≤◌, ◌^◌, Bool, true, false, cond, List, [], ◌∷◌, ◌++◌, Option, Some, None, map, refl, sym, ◌∙◌, ap, subst, arith}
use Rattle.std.specs.Prelude.{◌==◌, sum_by}
use Rattle.std.specs.List.Sorted.{IsPermutation}
use Rattle.std.proofs.lemmas.List.{map-append}
use Rattle.std.proofs.lemmas.List.Sums.{sum_by-cons, sum_by-append}
use Rattle.std.proofs.lemmas.List.Sorted.{sum_by-IsPermutation}
use Rattle.foyer_policy.specs.FitLaws.{sum_by-map}
use Rattle.foyer_policy.specs.Queued.{items_of}
use Rattle.foyer_policy.specs.ItemLaws.{one_if, count-cons, once-snoc, sum-remove_id}
use Rattle.foyer_policy.specs.Items.{weight_of, HasIdsOnce, IsNewIn, IsWithin, remove_id, find_id}
use Rattle.foyer_policy.specs.Lists.{list_at, find, with_value, moved, AreLists}
use Rattle.foyer_policy.specs.Lru.{Pinned, LruView, IsWithinLimit, settle, pin_found, lru}
use Rattle.foyer_policy.specs.LruLaws.{pinned_items, lru_lawful}
use Rattle.foyer_policy.specs.LruLists.{pinned_of, view_of, StatesTell, IsLru, weight_at}
use Rattle.foyer_policy.specs.declared.types.Item.{Item}
use Rattle.foyer_policy.specs.declared.types.Ratio.{Ratio}
use Rattle.foyer_policy.proofs.LruLemmas.{Node, in_low, in_high, in_pin}
use Rattle.foyer_policy.proofs.LruMoves.{with_pin, pinned-tell, pinned-low, pinned-high, pinned-view}
use Rattle.foyer_policy.proofs.LruViews.{settle-within_limit, low_found, high_found, pinned_found, pin_found_alone}

-- what an item weighs
abbrev pub weight : Item → ℕ
weight i = i.weight

-- the weight of nodes is that of their items
pub weight_of-items_of : (l : List (ℕ × Node)) → weight_of (items_of l) ≡ sum_by weight_at l
weight_of-items_of l = sum_by-map weight (λ (e : ℕ × Node). e.1.item) l

-- whatever is counted of the items is not more
pub within-permutation : (xs ys : List Item) → IsPermutation xs ys → IsWithin ys xs
within-permutation xs ys h f = omega (arith, sum_by-IsPermutation f xs ys h)

pub within-remove_id : (id : ℕ) (l : List Item) → IsWithin (remove_id id l) l
within-remove_id id [] f = omega arith
within-remove_id id (i ∷ is) f = go (i.id == id) (within-remove_id id is f) where
  go : (b : Bool) → sum_by f (remove_id id is) ≤ sum_by f is →
      sum_by f (cond b is (i ∷ remove_id id is)) ≤ sum_by f (i ∷ is)
  go true rec = omega (arith, sum_by-cons f i is)
  go false rec = omega (arith, sum_by-cons f i is, sum_by-cons f i (remove_id id is))

pub once-within : (xs ys : List Item) → IsWithin ys xs → HasIdsOnce xs → HasIdsOnce ys
once-within xs ys h once id = omega (arith, h (one_if id), once id)

pub once-cons : (i : Item) (l : List Item) → HasIdsOnce l → IsNewIn i.id l → HasIdsOnce (i ∷ l)
once-cons i l once new id =
    omega (
      arith,
      once-snoc l i once new id,
      sum_by-append (one_if id) l (i ∷ []),
      count-cons id i l,
      count-cons id i [],
    )

-- one more that is pinned
pinned-snoc : (pin : List Pinned) (i : Item) (b : Bool) →
    weight_of (pinned_items (pin ++ record { item = i; is_high = b } ∷ [])) ≡ weight_of (pinned_items pin) + i.weight
pinned-snoc pin i b =
    let q : Pinned = record { item = i; is_high = b } in
    ap weight_of (map-append (λ (q : Pinned). q.item) pin (q ∷ [])) ∙ sum_by-append weight (pinned_items pin) (i ∷ [])
    ∙ ap (λ (k : ℕ). weight_of (pinned_items pin) + k) (sum_by-cons weight i [] ∙ omega arith)

-- lists and sums that hold no more than some items, which were accepted
module _ (ls : List (List (ℕ × Node))) (limit : ℕ) (ratio : Ratio) (high_weight pinned_weight : ℕ) where
  pub rebuilt : (all : List Item) → HasIdsOnce all → weight_of all < 2 ^ 64 →
      IsWithin (lru.order (view_of ls limit ratio)) all → IsWithinLimit (view_of ls limit ratio) → StatesTell ls
      → high_weight ≡ weight_of (items_of (list_at ls 1)) → pinned_weight
      ≡ weight_of (pinned_items (map pinned_of (list_at ls 2))) → 0 < ratio.den
      → IsLru ls limit ratio high_weight pinned_weight
  rebuilt all once fits part within tell high pinned divides = record {
    once = once-within all (lru.order (view_of ls limit ratio)) part once;
    fits = (let less = part weight in omega arith);
    within = within;
    tell = tell;
    high = high;
    pinned = pinned;
    divides = divides;
  }

-- an `Lru`, one of whose nodes is found
module _ (ls : List (List (ℕ × Node))) (limit : ℕ) (ratio : Ratio) (high_weight pinned_weight : ℕ)
    (old : IsLru ls limit ratio high_weight pinned_weight)
    (sound : AreLists 3 ls) (p : ℕ) (n : Node) (h : find p ls ≡ Some n) where
  -- the sum of all
  pub weights : weight_of (items_of (list_at ls 0)) + (high_weight + pinned_weight) < 2 ^ 64
  weights =
      let low = items_of (list_at ls 0) in
      let high = items_of (list_at ls 1) in
      let pins = pinned_items (map pinned_of (list_at ls 2)) in
      omega (
        arith,
        old.fits,
        old.high,
        old.pinned,
        sum_by-append weight low (high ++ pins),
        sum_by-append weight high pins,
      )

  -- each item weighs no more than its list
  pub high_weighs : n.state.pinned ≡ false → n.state.high ≡ true → n.item.weight ≤ high_weight
  high_weighs unpinned is =
      let f = high_found ls limit ratio old.once sound p n (in_high ls sound p n old.tell h unpinned is) in
      omega (arith, old.high, sum-remove_id weight n.item.id n.item (items_of (list_at ls 1)) f.1)

  pub pinned_weighs : n.state.pinned ≡ true → n.item.weight ≤ pinned_weight
  pinned_weighs is =
      let f = pinned_found ls limit ratio old.once sound p n (in_pin ls sound p n old.tell h is) in
      omega (arith, old.pinned, sum-remove_id weight n.item.id n.item (pinned_items (map pinned_of (list_at ls 2))) f)

  -- an item that is not pinned may be
  pub fits_pinned : n.state.pinned ≡ false → pinned_weight + n.item.weight < 2 ^ 64
  fits_pinned unpinned = go n.state.high refl where
    go : (b : Bool) → n.state.high ≡ b → pinned_weight + n.item.weight < 2 ^ 64
    go false is =
        let f = low_found ls limit ratio old.once sound p n (in_low ls sound p n old.tell h unpinned is) in
        omega (arith, weights, sum-remove_id weight n.item.id n.item (items_of (list_at ls 0)) f)
    go true is = omega (arith, weights, high_weighs unpinned is)

  -- an acquire of what is pinned already
  pub acquired_again : n.state.pinned ≡ true → view_of ls limit ratio ≡ lru.acquire (view_of ls limit ratio) n.item.id
  acquired_again pinned =
      let v = view_of ls limit ratio in
      let f = pin_found_alone ls limit ratio old.once sound p n (in_pin ls sound p n old.tell h pinned) in
      sym (ap (λ (o : Option Item). settle (pin_found v n.item.id o (find_id n.item.id v.high))) f.0
      ∙ ap (λ (o : Option Item). settle (pin_found v n.item.id None o)) f.1 ∙ settle-within_limit v old.within)

  -- an acquire
  module _ (unpinned : n.state.pinned ≡ false) (ls2 : List (List (ℕ × Node)))
      (moved_is : ls2 ≡ moved p 2 (map (with_value p (with_pin n true)) ls)) where
    acquired_sums : (b : Bool) → n.state.high ≡ b
        → (weight_of (items_of (list_at ls2 1)) + cond b n.item.weight 0 ≡ weight_of (items_of (list_at ls 1)))
        × (weight_of (pinned_items (map pinned_of (list_at ls2 2)))
        ≡ weight_of (pinned_items (map pinned_of (list_at ls 2))) + n.item.weight)
    acquired_sums false is =
        let e = pinned-low ls limit ratio old.once sound p n old.tell h ls2 moved_is unpinned is in
        let high : weight_of (items_of (list_at ls2 1)) ≡ weight_of (items_of (list_at ls 1)) =
        ap (λ (v : LruView). weight_of v.high) e in (
          omega arith,
          ap (λ (v : LruView). weight_of (lru.pinned v)) e
              ∙ pinned-snoc (map pinned_of (list_at ls 2)) n.item false,
        )
    acquired_sums true is =
        let e = pinned-high ls limit ratio old.once sound p n old.tell h ls2 moved_is unpinned is in
        let f = high_found ls limit ratio old.once sound p n (in_high ls sound p n old.tell h unpinned is) in
        let high : weight_of (items_of (list_at ls2 1)) ≡ weight_of (remove_id n.item.id (items_of (list_at ls 1))) =
        ap (λ (v : LruView). weight_of v.high) e in (
          omega (arith, sum-remove_id weight n.item.id n.item (items_of (list_at ls 1)) f.1),
          ap (λ (v : LruView). weight_of (lru.pinned v)) e ∙ pinned-snoc (map pinned_of (list_at ls 2)) n.item true,
        )

    within2 : IsWithinLimit (view_of ls2 limit ratio)
    within2 = (let s = acquired_sums n.state.high refl in omega (arith, s.0, old.within))

    pub acquired : view_of ls2 limit ratio ≡ lru.acquire (view_of ls limit ratio) n.item.id
    acquired =
        let is = pinned-view ls limit ratio old.once sound p n old.tell h ls2 moved_is unpinned in
        let to = pin_found (view_of ls limit ratio) n.item.id (find_id n.item.id (items_of (list_at ls 0)))
        (find_id n.item.id (items_of (list_at ls 1))) in
        is ∙ sym (settle-within_limit to (subst (λ (v : LruView). IsWithinLimit v) is within2))

    pub acquired_is : (high_weight2 pinned_weight2 : ℕ) → high_weight2 + cond n.state.high n.item.weight 0
        ≡ high_weight → pinned_weight2 ≡ pinned_weight + n.item.weight
        → IsLru ls2 limit ratio high_weight2 pinned_weight2
    acquired_is high_weight2 pinned_weight2 high pinned =
        let s = acquired_sums n.state.high refl in
        let v = view_of ls limit ratio in
        let moves : IsPermutation (lru.order v) (lru.order (view_of ls2 limit ratio)) =
        subst (λ (w : LruView). IsPermutation (lru.order v) (lru.order w)) (sym acquired)
        (lru_lawful.acquire_order v n.item.id old.once) in
        rebuilt ls2 limit ratio high_weight2 pinned_weight2 (lru.order v) old.once old.fits
        (within-permutation (lru.order v) (lru.order (view_of ls2 limit ratio)) moves)
        within2 (pinned-tell ls limit ratio old.once sound p n old.tell h ls2 moved_is) (omega (arith, s.0, old.high))
        (omega (arith, s.1, old.pinned)) old.divides
