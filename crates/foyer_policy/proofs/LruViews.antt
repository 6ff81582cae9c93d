-- What each call of an `Lru` makes of its lists is what the model makes of its view.
use Rattle.std.proofs.Common.{◌≡◌, ℕ, true, false, List, [], ◌∷◌, ◌++◌, Some, None, map, refl, sym, ◌∙◌, ap, subst, arith}
use Rattle.std.specs.Prelude.{option_map}
use Rattle.std.proofs.lemmas.List.{map-append, append-nil}
use Rattle.std.proofs.Math.ListN.{get_or-map}
use Rattle.foyer_policy.specs.FitLaws.{fit-le, over-le, fit-map, over-map, over-fit}
use Rattle.foyer_policy.specs.Queued.{items_of}
use Rattle.foyer_policy.specs.Items.{HasIdsOnce, remove_id, find_id, fit, over}
use Rattle.foyer_policy.specs.Lists.{list_at, find_in, drop_place, AreLists}
use Rattle.foyer_policy.specs.PartLaws.{find_id-front, find_id-back, find_id-other_part, once-front, once-back}
use Rattle.foyer_policy.specs.Lru.{Pinned, LruView, IsWithinLimit, settle, find_pin, remove_pin, lru}
use Rattle.foyer_policy.specs.LruLaws.{pinned_items, view, find_id-pinned}
use Rattle.foyer_policy.specs.LruLists.{pinned_of, view_of, state, EachState, StatesTell, weight_at, low_entry}
use Rattle.foyer_policy.specs.declared.types.Item.{Item}
use Rattle.foyer_policy.specs.declared.types.Ratio.{Ratio}
use Rattle.foyer_policy.specs.declared.lru.LruState.{LruState}
use Rattle.foyer_policy.proofs.LruLemmas.{Node, EachState-append, EachState-front, EachState-back, EachState-drop, items_of-dropped, find_id-queued, pins-dropped, find_pin-queued, items_of-pins, off}

-- a view by its parts
pub same_view : (limit : ℕ) (ratio : Ratio) (a b c d : List Item) (p q : List Pinned) → a ≡ b → c ≡ d → p ≡ q →
    view a c p limit ratio ≡ view b d q limit ratio
same_view limit ratio a b c d p q e f g = rw (e, f, g) refl

-- a pool within its limit is settled
pub settle-within_limit : (v : LruView) → IsWithinLimit v → settle v ≡ v
settle-within_limit v h =
    let weight : Item → ℕ = λ i. i.weight in
    let low : v.low ++ over weight v.limit v.high ≡ v.low =
    ap (λ (l : List Item). v.low ++ l) (over-le weight v.limit v.high h) ∙ append-nil v.low in
    same_view v.limit v.ratio (v.low ++ over weight v.limit v.high) v.low (fit weight v.limit v.high) v.high v.pin
    v.pin low (fit-le weight v.limit v.high h) refl

items_of-lowered : (l : List (ℕ × Node)) → items_of (map low_entry l) ≡ items_of l
items_of-lowered [] = refl
items_of-lowered (e ∷ es) = ap (λ r. e.1.item ∷ r) (items_of-lowered es)

lowered_states : (l : List (ℕ × Node)) → EachState (λ s. s ≡ state true false) l →
    EachState (λ s. s ≡ state false false) (map low_entry l)
lowered_states [] h = tt
lowered_states (e ∷ es) h = (ap (λ (s : LruState). state false s.pinned) h.0, lowered_states es h.1)

-- the lists after `settle`
module _ (ls ls2 : List (List (ℕ × Node))) (limit : ℕ)
    (low : list_at ls2 0 ≡ list_at ls 0 ++ map low_entry (over weight_at limit (list_at ls 1)))
    (high : list_at ls2 1 ≡ fit weight_at limit (list_at ls 1)) (pin : list_at ls2 2 ≡ list_at ls 2) where
  pub settled-view : (ratio : Ratio) → view_of ls2 limit ratio ≡ settle (view_of ls limit ratio)
  settled-view ratio =
      let weight : Item → ℕ = λ i. i.weight in
      let item : ℕ × Node → Item = λ e. e.1.item in
      let gone = over weight_at limit (list_at ls 1) in
      let low' : items_of (list_at ls2 0) ≡ items_of (list_at ls 0) ++ over weight limit (items_of (list_at ls 1)) =
      ap items_of low ∙ map-append item (list_at ls 0) (map low_entry gone)
      ∙ ap (λ (l : List Item). items_of (list_at ls 0) ++ l)
      (items_of-lowered gone ∙ sym (over-map weight item limit (list_at ls 1))) in
      let high' : items_of (list_at ls2 1) ≡ fit weight limit (items_of (list_at ls 1)) = ap items_of high
      ∙ sym (fit-map weight item limit (list_at ls 1)) in
      same_view limit ratio (items_of (list_at ls2 0))
      (items_of (list_at ls 0) ++ over weight limit (items_of (list_at ls 1))) (items_of (list_at ls2 1))
      (fit weight limit (items_of (list_at ls 1)))
      (map pinned_of (list_at ls2 2)) (map pinned_of (list_at ls 2)) low' high' (ap (map pinned_of) pin)

  pub settled-tell : StatesTell ls → StatesTell ls2
  settled-tell tell =
      let gone = over weight_at limit (list_at ls 1) in
      let stays = fit weight_at limit (list_at ls 1) in
      let parts : EachState (λ s. s ≡ state true false) (gone ++ stays) =
      subst (λ (l : List (ℕ × Node)). EachState (λ s. s ≡ state true false) l)
      (over-fit weight_at limit (list_at ls 1)) tell.high in
      record {
        low = rw low
            (EachState-append (λ s. s ≡ state false false) (list_at ls 0) (map low_entry gone) tell.low
            (lowered_states gone (EachState-front (λ s. s ≡ state true false) gone stays parts)));
        high = rw high (EachState-back (λ s. s ≡ state true false) gone stays parts);
        pin = rw pin tell.pin;
      }

module _ (ls : List (List (ℕ × Node))) (limit : ℕ) (ratio : Ratio)
    (once : HasIdsOnce (lru.order (view_of ls limit ratio))) where
  pub once_low : HasIdsOnce (items_of (list_at ls 0))
  once_low = once-front (items_of (list_at ls 0))
      (items_of (list_at ls 1) ++ pinned_items (map pinned_of (list_at ls 2))) once

  once_rest : HasIdsOnce (items_of (list_at ls 1) ++ pinned_items (map pinned_of (list_at ls 2)))
  once_rest = once-back (items_of (list_at ls 0))
      (items_of (list_at ls 1) ++ pinned_items (map pinned_of (list_at ls 2))) once

  pub once_high : HasIdsOnce (items_of (list_at ls 1))
  once_high = once-front (items_of (list_at ls 1)) (pinned_items (map pinned_of (list_at ls 2))) once_rest

  pub once_pin : HasIdsOnce (items_of (list_at ls 2))
  once_pin = subst (λ (l : List Item). HasIdsOnce l) (items_of-pins (list_at ls 2))
      (once-back (items_of (list_at ls 1)) (pinned_items (map pinned_of (list_at ls 2))) once_rest)

  module _ (sound : AreLists 3 ls) (p : ℕ) (n : Node) where
    -- where the model finds the item
    pub low_found : find_in p (list_at ls 0) ≡ Some n → find_id n.item.id (items_of (list_at ls 0)) ≡ Some n.item
    low_found is = find_id-queued p n (list_at ls 0) once_low is

    pub high_found : find_in p (list_at ls 1) ≡ Some n → (find_id n.item.id (items_of (list_at ls 0)) ≡ None)
        × (find_id n.item.id (items_of (list_at ls 1)) ≡ Some n.item)
    high_found is =
        let pins = pinned_items (map pinned_of (list_at ls 2)) in
        let found : find_id n.item.id (items_of (list_at ls 1)) ≡ Some n.item =
        find_id-queued p n (list_at ls 1) once_high is in
        let all : find_id n.item.id (items_of (list_at ls 1) ++ pins) ≡ Some n.item =
        find_id-front n.item.id n.item (items_of (list_at ls 1)) pins found in (
          find_id-other_part n.item.id n.item (items_of (list_at ls 0)) (items_of (list_at ls 1) ++ pins) once all,
          found,
        )

    pub pin_is_found : find_in p (list_at ls 2) ≡ Some n → find_pin n.item.id (map pinned_of (list_at ls 2))
        ≡ Some (pinned_of (p, n))
    pin_is_found is = find_pin-queued p n (list_at ls 2) once_pin is

    pub pinned_found : find_in p (list_at ls 2) ≡ Some n →
        find_id n.item.id (pinned_items (map pinned_of (list_at ls 2))) ≡ Some n.item
    pinned_found is = find_id-pinned n.item.id (map pinned_of (list_at ls 2))
        ∙ ap (option_map (λ (q : Pinned). q.item)) (pin_is_found is)

    pub pin_found_alone : find_in p (list_at ls 2) ≡ Some n → (find_id n.item.id (items_of (list_at ls 0)) ≡ None)
        × (find_id n.item.id (items_of (list_at ls 1)) ≡ None)
    pin_found_alone is =
        let pins = pinned_items (map pinned_of (list_at ls 2)) in
        let high : find_id n.item.id (items_of (list_at ls 1)) ≡ None =
        find_id-other_part n.item.id n.item (items_of (list_at ls 1)) pins once_rest (pinned_found is) in
        let all : find_id n.item.id (items_of (list_at ls 1) ++ pins) ≡ Some n.item =
        find_id-back n.item.id (items_of (list_at ls 1)) pins high ∙ pinned_found is in
        (find_id-other_part n.item.id n.item (items_of (list_at ls 0)) (items_of (list_at ls 1) ++ pins) once all, high)

    -- a removal
    module _ (ls2 : List (List (ℕ × Node))) (dropped : ls2 ≡ map (drop_place p) ls) where
      at : (k : ℕ) → list_at ls2 k ≡ drop_place p (list_at ls k)
      at k = ap (λ (x : List (List (ℕ × Node))). list_at x k) dropped ∙ get_or-map (drop_place p) ls k []

      pub removed-tell : StatesTell ls → StatesTell ls2
      removed-tell tell = record {
        low = rw (at 0) (EachState-drop (λ s. s ≡ state false false) p (list_at ls 0) tell.low);
        high = rw (at 1) (EachState-drop (λ s. s ≡ state true false) p (list_at ls 1) tell.high);
        pin = rw (at 2) (EachState-drop (λ s. s.pinned ≡ true) p (list_at ls 2) tell.pin);
      }

      pub removed-low : find_in p (list_at ls 0) ≡ Some n → view_of ls2 limit ratio
          ≡ view (remove_id n.item.id (items_of (list_at ls 0))) (items_of (list_at ls 1))
          (map pinned_of (list_at ls 2)) limit ratio
      removed-low is =
          same_view limit ratio _ _ _ _ _ _ (ap items_of (at 0) ∙ items_of-dropped p n (list_at ls 0) once_low is)
          (ap items_of (at 1 ∙ off ls sound p n 0 1 (omega arith) (omega arith) (λ e. omega arith) is))
          (ap (map pinned_of) (at 2 ∙ off ls sound p n 0 2 (omega arith) (omega arith) (λ e. omega arith) is))

      pub removed-high : find_in p (list_at ls 1) ≡ Some n → view_of ls2 limit ratio
          ≡ view (items_of (list_at ls 0)) (remove_id n.item.id (items_of (list_at ls 1)))
          (map pinned_of (list_at ls 2)) limit ratio
      removed-high is =
          same_view limit ratio _ _ _ _ _ _
          (ap items_of (at 0 ∙ off ls sound p n 1 0 (omega arith) (omega arith) (λ e. omega arith) is))
          (ap items_of (at 1) ∙ items_of-dropped p n (list_at ls 1) once_high is)
          (ap (map pinned_of) (at 2 ∙ off ls sound p n 1 2 (omega arith) (omega arith) (λ e. omega arith) is))

      pub removed-pin : find_in p (list_at ls 2) ≡ Some n → view_of ls2 limit ratio
          ≡ view (items_of (list_at ls 0)) (items_of (list_at ls 1))
          (remove_pin n.item.id (map pinned_of (list_at ls 2))) limit ratio
      removed-pin is =
          same_view limit ratio _ _ _ _ _ _
          (ap items_of (at 0 ∙ off ls sound p n 2 0 (omega arith) (omega arith) (λ e. omega arith) is))
          (ap items_of (at 1 ∙ off ls sound p n 2 1 (omega arith) (omega arith) (λ e. omega arith) is))
          (ap (map pinned_of) (at 2) ∙ pins-dropped p n (list_at ls 2) once_pin is)
