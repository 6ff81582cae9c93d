-- What holds of every `Lru` holds after a release and after a removal.
use Rattle.std.proofs.Common.{◌≡◌, ℕ, ◌+◌, Bool, true, false, cond, List, [], ◌∷◌, ◌++◌, Option, Some, None, map, refl, sym, ◌∙◌, ap, subst, arith}
use Rattle.std.specs.Prelude.{option_map, sum_by}
use Rattle.std.specs.List.Sorted.{IsPermutation}
use Rattle.std.proofs.lemmas.List.{map-append, append-nil}
use Rattle.std.proofs.lemmas.List.Sums.{sum_by-cons, sum_by-append}
use Rattle.foyer_policy.specs.Queued.{items_of, queued_at}
use Rattle.foyer_policy.specs.ItemLaws.{sum-remove_id}
use Rattle.foyer_policy.specs.Items.{weight_of, HasIdsOnce, IsWithin, remove_id, find_id, fit, over}
use Rattle.foyer_policy.specs.Lists.{list_at, find, flat, drop_place, with_value, moved, AreLists}
use Rattle.foyer_policy.specs.PartLaws.{find_id-front, find_id-back}
use Rattle.foyer_policy.specs.Policy.{without}
use Rattle.foyer_policy.specs.Lru.{Pinned, LruView, IsWithinLimit, settle, find_pin, remove_pin, unpin_found, lru}
use Rattle.foyer_policy.specs.LruLaws.{pinned_items, lru_lawful, settle-within, find_id-pinned, pinned_items-remove_pin}
use Rattle.foyer_policy.specs.LruLists.{pinned_of, view_of, IsLru, weight_at, low_entry}
use Rattle.foyer_policy.specs.declared.types.Item.{Item}
use Rattle.foyer_policy.specs.declared.types.Ratio.{Ratio}
use Rattle.foyer_policy.proofs.FlatLemmas.{find_in-flat, flat-drop_place, IsDistinct-flat}
use Rattle.foyer_policy.proofs.QueuedLemmas.{item_of}
use Rattle.foyer_policy.proofs.ItemPlaces.{item_at, item_at-drop_place}
use Rattle.foyer_policy.proofs.PoolLemmas.{three}
use Rattle.foyer_policy.proofs.LruInvariants.{weight, weight_of-items_of, within-permutation, within-remove_id, rebuilt}
use Rattle.foyer_policy.proofs.LruLemmas.{Node, item_at-is, items_of-pins, in_low, in_high, in_pin}
use Rattle.foyer_policy.proofs.LruMoves.{with_pin, unpinned-none, released_low-tell, released_low, released_low-view, released_high-tell, released_high, released_high-view}
use Rattle.foyer_policy.proofs.LruViews.{settle-within_limit, settled-view, settled-tell, low_found, high_found, pinned_found, pin_found_alone, removed-tell, removed-low, removed-high, removed-pin}

-- all items, list by list, are the order
items_of-flat : (ls : List (List (ℕ × Node))) (limit : ℕ) (ratio : Ratio) → AreLists 3 ls → items_of (flat ls)
    ≡ lru.order (view_of ls limit ratio)
items_of-flat ls limit ratio sound =
    let item : ℕ × Node → Item = λ e. e.1.item in
    let l0 = list_at ls 0 in
    let l1 = list_at ls 1 in
    let l2 = list_at ls 2 in
    ap (λ (x : List (List (ℕ × Node))). items_of (flat x)) (three ls sound.count)
    ∙ map-append item l0 (l1 ++ (l2 ++ []))
    ∙ ap (λ (l : List Item). items_of l0 ++ l)
    (map-append item l1 (l2 ++ []) ∙ ap (λ (l : List Item). items_of l1 ++ l)
    (ap items_of (append-nil l2) ∙ sym (items_of-pins l2)))

queued_at-flat : (q : ℕ) (ls : List (List (ℕ × Node))) → queued_at q ls ≡ item_at item_of q (flat ls)
queued_at-flat q ls = ap (option_map item_of) (sym (find_in-flat q ls)) ∙ sym (item_at-is q (flat ls))

find_pin-none : (id : ℕ) (pin : List Pinned) → find_id id (pinned_items pin) ≡ None → find_pin id pin ≡ None
find_pin-none id pin h = go (find_pin id pin) refl where
  go : (o : Option Pinned) → find_pin id pin ≡ o → o ≡ None
  go None is = refl
  go (Some q) is =
      (let x : None ≡ Some q.item = sym h ∙ find_id-pinned id pin ∙ ap (option_map (λ (r : Pinned). r.item)) is in
      absurd cc)

module _ (ls : List (List (ℕ × Node))) (limit : ℕ) (ratio : Ratio) (high_weight pinned_weight : ℕ)
    (old : IsLru ls limit ratio high_weight pinned_weight)
    (sound : AreLists 3 ls) (p : ℕ) (n : Node) (h : find p ls ≡ Some n) where
  v : LruView
  v = view_of ls limit ratio

  -- a release of what is not pinned
  pub released_again : n.state.pinned ≡ false → view_of ls limit ratio ≡ lru.release (view_of ls limit ratio) n.item.id
  released_again unpinned =
      let v = view_of ls limit ratio in
      let none = find_pin-none n.item.id v.pin (unpinned-none ls limit ratio old.once sound p n old.tell h unpinned) in
      sym (ap (λ (o : Option Pinned). settle (unpin_found v n.item.id o)) none ∙ settle-within_limit v old.within)

  -- one pinned item less
  unpinned_sum : n.state.pinned ≡ true → (pin : List Pinned) → pin
      ≡ remove_pin n.item.id (map pinned_of (list_at ls 2)) → weight_of (pinned_items pin) + n.item.weight
      ≡ weight_of (pinned_items (map pinned_of (list_at ls 2)))
  unpinned_sum pinned pin is =
      let f = pinned_found ls limit ratio old.once sound p n (in_pin ls sound p n old.tell h pinned) in
      let e : weight_of (pinned_items pin) ≡ weight_of
      (remove_id n.item.id (pinned_items (map pinned_of (list_at ls 2)))) =
      ap weight_of (ap pinned_items is ∙ pinned_items-remove_pin n.item.id (map pinned_of (list_at ls 2))) in
      omega (arith, sum-remove_id weight n.item.id n.item (pinned_items (map pinned_of (list_at ls 2))) f)

  module _ (pinned : n.state.pinned ≡ true) where
    -- a release to the low list
    module _ (low : n.state.high ≡ false) (ls2 : List (List (ℕ × Node)))
        (moved_is : ls2 ≡ moved p 0 (map (with_value p (with_pin n false)) ls)) where
      high-same : weight_of (items_of (list_at ls2 1)) ≡ weight_of (items_of (list_at ls 1))
      high-same = ap (λ (v : LruView). weight_of v.high)
          (released_low ls limit ratio old.once sound p n old.tell h ls2 pinned low moved_is)

      within2 : IsWithinLimit (view_of ls2 limit ratio)
      within2 = (let s = high-same in omega (arith, old.within))

      pub released_to_low : view_of ls2 limit ratio ≡ lru.release (view_of ls limit ratio) n.item.id
      released_to_low =
          let is = released_low-view ls limit ratio old.once sound p n old.tell h ls2 pinned low moved_is in
          let to = unpin_found (view_of ls limit ratio) n.item.id (find_pin n.item.id (map pinned_of (list_at ls 2))) in
          is ∙ sym (settle-within_limit to (subst (λ (w : LruView). IsWithinLimit w) is within2))

      pub released_to_low_is : (pinned_weight2 : ℕ) → pinned_weight2 + n.item.weight ≡ pinned_weight →
          IsLru ls2 limit ratio high_weight pinned_weight2
      released_to_low_is pinned_weight2 less =
          let v = view_of ls limit ratio in
          let w = view_of ls2 limit ratio in
          let moves : IsPermutation (lru.order v) (lru.order w) =
          subst (λ (x : LruView). IsPermutation (lru.order v) (lru.order x)) (sym released_to_low)
          (lru_lawful.release_order v n.item.id old.once) in
          let sum = unpinned_sum pinned (map pinned_of (list_at ls2 2))
          (ap (λ (x : LruView). x.pin)
          (released_low ls limit ratio old.once sound p n old.tell h ls2 pinned low moved_is)) in
          rebuilt ls2 limit ratio high_weight pinned_weight2 (lru.order v) old.once old.fits
          (within-permutation (lru.order v) (lru.order w) moves) within2
          (released_low-tell ls limit ratio old.once sound p n old.tell h ls2 pinned low moved_is)
          (old.high ∙ sym high-same) (omega (arith, sum, old.pinned)) old.divides

    -- a release to the pool, which then settles
    module _ (high : n.state.high ≡ true) (ls1 : List (List (ℕ × Node)))
        (moved_is : ls1 ≡ moved p 1 (map (with_value p (with_pin n false)) ls)) where
      pub released_weight : high_weight + n.item.weight ≡ sum_by weight_at (list_at ls1 1)
      released_weight =
          let e : weight_of (items_of (list_at ls1 1)) ≡ weight_of (items_of (list_at ls 1) ++ n.item ∷ []) =
          ap (λ (v : LruView). weight_of v.high)
          (released_high ls limit ratio old.once sound p n old.tell h ls1 pinned high moved_is) in
          omega (
            arith,
            e,
            weight_of-items_of (list_at ls1 1),
            sum_by-append weight (items_of (list_at ls 1)) (n.item ∷ []),
            sum_by-cons weight n.item [],
            old.high,
          )

      module _ (ls2 : List (List (ℕ × Node)))
          (low2 : list_at ls2 0 ≡ list_at ls1 0 ++ map low_entry (over weight_at limit (list_at ls1 1)))
          (high2 : list_at ls2 1 ≡ fit weight_at limit (list_at ls1 1)) (pin2 : list_at ls2 2 ≡ list_at ls1 2) where
        pub released_to_high : view_of ls2 limit ratio ≡ lru.release (view_of ls limit ratio) n.item.id
        released_to_high = settled-view ls1 ls2 limit low2 high2 pin2 ratio
            ∙ ap settle (released_high-view ls limit ratio old.once sound p n old.tell h ls1 pinned high moved_is)

        pub released_to_high_is : (high_weight2 pinned_weight2 : ℕ) → high_weight2 ≡ sum_by weight_at (list_at ls2 1)
            → pinned_weight2 + n.item.weight ≡ pinned_weight →
            IsLru ls2 limit ratio high_weight2 pinned_weight2
        released_to_high_is high_weight2 pinned_weight2 more less =
            let v = view_of ls limit ratio in
            let w = view_of ls2 limit ratio in
            let moves : IsPermutation (lru.order v) (lru.order w) =
            subst (λ (x : LruView). IsPermutation (lru.order v) (lru.order x)) (sym released_to_high)
            (lru_lawful.release_order v n.item.id old.once) in
            let pins : map pinned_of (list_at ls2 2) ≡ remove_pin n.item.id (map pinned_of (list_at ls 2)) =
            ap (map pinned_of) pin2 ∙ ap (λ (x : LruView). x.pin)
            (released_high ls limit ratio old.once sound p n old.tell h ls1 pinned high moved_is) in
            let sum = unpinned_sum pinned (map pinned_of (list_at ls2 2)) pins in
            let within : IsWithinLimit w = subst (λ (x : LruView). IsWithinLimit x)
            (sym (settled-view ls1 ls2 limit low2 high2 pin2 ratio)) (settle-within (view_of ls1 limit ratio)) in
            rebuilt ls2 limit ratio high_weight2 pinned_weight2 (lru.order v) old.once old.fits
            (within-permutation (lru.order v) (lru.order w) moves) within
            (settled-tell ls1 ls2 limit low2 high2 pin2
            (released_high-tell ls limit ratio old.once sound p n old.tell h ls1 pinned high moved_is))
            (more ∙ sym (weight_of-items_of (list_at ls2 1))) (omega (arith, sum, old.pinned)) old.divides

  -- a removal
  pub removed_member : find_id n.item.id (lru.order (view_of ls limit ratio)) ≡ Some n.item
  removed_member = go n.state.pinned n.state.high refl refl where
    low : List Item
    low = items_of (list_at ls 0)

    go : (a b : Bool) → n.state.pinned ≡ a → n.state.high ≡ b → find_id n.item.id (lru.order (view_of ls limit ratio))
        ≡ Some n.item
    go true b is _ =
        let f = pin_found_alone ls limit ratio old.once sound p n (in_pin ls sound p n old.tell h is) in
        let pins = pinned_items (map pinned_of (list_at ls 2)) in
        find_id-back n.item.id (items_of (list_at ls 0)) (items_of (list_at ls 1) ++ pins) f.0
        ∙ find_id-back n.item.id (items_of (list_at ls 1)) pins f.1
        ∙ pinned_found ls limit ratio old.once sound p n (in_pin ls sound p n old.tell h is)
    go false true is high =
        let f = high_found ls limit ratio old.once sound p n (in_high ls sound p n old.tell h is high) in
        let pins = pinned_items (map pinned_of (list_at ls 2)) in
        find_id-back n.item.id (items_of (list_at ls 0)) (items_of (list_at ls 1) ++ pins) f.0
        ∙ find_id-front n.item.id n.item (items_of (list_at ls 1)) pins f.1
    go false false is low =
        let f = low_found ls limit ratio old.once sound p n (in_low ls sound p n old.tell h is low) in
        find_id-front n.item.id n.item (items_of (list_at ls 0))
        (items_of (list_at ls 1) ++ pinned_items (map pinned_of (list_at ls 2))) f

  module _ (ls2 : List (List (ℕ × Node))) (dropped : ls2 ≡ map (drop_place p) ls) where
    pub removed_places : (q : ℕ) → queued_at q ls2 ≡ without n.item.id (queued_at q ls)
    removed_places q =
        let all = flat ls in
        let once : HasIdsOnce (items_of all) = subst (λ (l : List Item). HasIdsOnce l)
        (sym (items_of-flat ls limit ratio sound)) old.once in
        let at : item_at item_of p all ≡ Some n.item = item_at-is p all
        ∙ ap (option_map item_of) (find_in-flat p ls ∙ h) in
        queued_at-flat q ls2 ∙ ap (item_at item_of q) (ap flat dropped ∙ flat-drop_place 3 p ls sound)
        ∙ item_at-drop_place item_of p q n.item all once (IsDistinct-flat 3 ls sound) at
        ∙ ap (without n.item.id) (sym (queued_at-flat q ls))

    pub removed_view : view_of ls2 limit ratio ≡ lru.remove (view_of ls limit ratio) n.item.id
    removed_view = go n.state.pinned n.state.high refl refl where
      go : (a b : Bool) → n.state.pinned ≡ a → n.state.high ≡ b → view_of ls2 limit ratio
          ≡ lru.remove (view_of ls limit ratio) n.item.id
      go true b is _ =
          let at = in_pin ls sound p n old.tell h is in
          let f = pin_found_alone ls limit ratio old.once sound p n at in
          removed-pin ls limit ratio old.once sound p n ls2 dropped at ∙ rw (f.0, f.1) refl
      go false true is high =
          let at = in_high ls sound p n old.tell h is high in
          let f = high_found ls limit ratio old.once sound p n at in
          removed-high ls limit ratio old.once sound p n ls2 dropped at ∙ rw (f.0, f.1) refl
      go false false is low =
          let at = in_low ls sound p n old.tell h is low in
          let f = low_found ls limit ratio old.once sound p n at in
          removed-low ls limit ratio old.once sound p n ls2 dropped at ∙ rw f refl

    -- what each list weighs then
    removed_sums : (a b : Bool) → n.state.pinned ≡ a → n.state.high ≡ b
        → (weight_of (items_of (list_at ls2 1)) + cond a 0 (cond b n.item.weight 0)
        ≡ weight_of (items_of (list_at ls 1)))
        × (weight_of (pinned_items (map pinned_of (list_at ls2 2))) + cond a n.item.weight 0
        ≡ weight_of (pinned_items (map pinned_of (list_at ls 2))))
    removed_sums true b is _ =
        let e = removed-pin ls limit ratio old.once sound p n ls2 dropped (in_pin ls sound p n old.tell h is) in
        let high : weight_of (items_of (list_at ls2 1)) ≡ weight_of (items_of (list_at ls 1)) =
        ap (λ (x : LruView). weight_of x.high) e in
        (omega arith, unpinned_sum is (map pinned_of (list_at ls2 2)) (ap (λ (x : LruView). x.pin) e))
    removed_sums false true is high =
        let at = in_high ls sound p n old.tell h is high in
        let f = high_found ls limit ratio old.once sound p n at in
        let e = removed-high ls limit ratio old.once sound p n ls2 dropped at in
        let less : weight_of (items_of (list_at ls2 1)) ≡ weight_of (remove_id n.item.id (items_of (list_at ls 1))) =
        ap (λ (x : LruView). weight_of x.high) e in
        let same : weight_of (pinned_items (map pinned_of (list_at ls2 2)))
        ≡ weight_of (pinned_items (map pinned_of (list_at ls 2))) =
        ap (λ (x : LruView). weight_of (pinned_items x.pin)) e in
        (omega (arith, sum-remove_id weight n.item.id n.item (items_of (list_at ls 1)) f.1), omega arith)
    removed_sums false false is low =
        let e = removed-low ls limit ratio old.once sound p n ls2 dropped (in_low ls sound p n old.tell h is low) in
        let high : weight_of (items_of (list_at ls2 1)) ≡ weight_of (items_of (list_at ls 1)) =
        ap (λ (x : LruView). weight_of x.high) e in
        let same : weight_of (pinned_items (map pinned_of (list_at ls2 2)))
        ≡ weight_of (pinned_items (map pinned_of (list_at ls 2))) =
        ap (λ (x : LruView). weight_of (pinned_items x.pin)) e in
        (omega arith, omega arith)

    pub removed_is : (high_weight2 pinned_weight2 : ℕ) →
        high_weight2 + cond n.state.pinned 0 (cond n.state.high n.item.weight 0) ≡ high_weight →
        pinned_weight2 + cond n.state.pinned n.item.weight 0 ≡ pinned_weight
        → IsLru ls2 limit ratio high_weight2 pinned_weight2
    removed_is high_weight2 pinned_weight2 high pinned =
        let s = removed_sums n.state.pinned n.state.high refl refl in
        let v = view_of ls limit ratio in
        let w = view_of ls2 limit ratio in
        let rest : lru.order w ≡ remove_id n.item.id (lru.order v) = ap lru.order removed_view
        ∙ lru_lawful.remove_order v n.item.id in
        rebuilt ls2 limit ratio high_weight2 pinned_weight2 (lru.order v) old.once old.fits
        (subst (λ (l : List Item). IsWithin l (lru.order v)) (sym rest) (within-remove_id n.item.id (lru.order v)))
        (omega (arith, s.0, old.within)) (removed-tell ls limit ratio old.once sound p n ls2 dropped old.tell)
        (omega (arith, s.0, old.high)) (omega (arith, s.1, old.pinned)) old.divides
