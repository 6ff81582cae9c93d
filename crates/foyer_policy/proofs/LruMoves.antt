-- What a node's move to another list is in the view of an `Lru`, and what is pinned.
use Rattle.std.proofs.Common.{◌≡◌, ◌≢◌, ℕ, zero, suc, ◌<◌, Bool, true, false, List, [], ◌∷◌, ◌++◌, Some, None, map, refl, ◌∙◌, ap, arith}
use Rattle.std.specs.Prelude.{◌↔◌, IsTrue}
use Rattle.std.proofs.lemmas.List.{map-append}
use Rattle.foyer_policy.specs.Queued.{items_of}
use Rattle.foyer_policy.specs.Items.{HasIdsOnce, IsNewIn, count_of, remove_id, find_id}
use Rattle.foyer_policy.specs.ItemLaws.{found-where}
use Rattle.foyer_policy.specs.Lists.{list_at, find, find_in, drop_place, with_value, moved, AreLists}
use Rattle.foyer_policy.specs.PartLaws.{found-counted}
use Rattle.foyer_policy.specs.Lru.{Pinned, find_pin, remove_pin, pin_found, unpin_found, lru}
use Rattle.foyer_policy.specs.LruLaws.{pinned_items, view, low-unpinned, high-unpinned}
use Rattle.foyer_policy.specs.LruLists.{pinned_of, view_of, state, StatesTell}
use Rattle.foyer_policy.specs.declared.types.Item.{Item}
use Rattle.foyer_policy.specs.declared.types.Ratio.{Ratio}
use Rattle.foyer_policy.proofs.LruLemmas.{Node, EachState-append, EachState-drop, items_of-dropped, pins-dropped, off, in_low, in_high, in_pin, relisted-here, relisted-other}
use Rattle.foyer_policy.proofs.LruViews.{same_view, once_low, once_high, once_pin, low_found, high_found, pin_is_found, pinned_found}

-- a node with its high bit, pinned or not
abbrev pub with_pin : Node → Bool → Node
with_pin n pinned = record { item = n.item; state = state n.state.high pinned }

module _ (ls : List (List (ℕ × Node))) (limit : ℕ) (ratio : Ratio)
    (once : HasIdsOnce (lru.order (view_of ls limit ratio))) (sound : AreLists 3 ls) (p : ℕ) (n : Node)
    (tell : StatesTell ls) (h : find p ls ≡ Some n) where
  low : List Item
  low = items_of (list_at ls 0)

  high : List Item
  high = items_of (list_at ls 1)

  pin : List Pinned
  pin = map pinned_of (list_at ls 2)

  -- what is not pinned is not found among what is
  pub unpinned-none : n.state.pinned ≡ false → find_id n.item.id (pinned_items (map pinned_of (list_at ls 2))) ≡ None
  unpinned-none unpinned = go n.state.high refl where
    go : (b : Bool) → n.state.high ≡ b → find_id n.item.id (pinned_items (map pinned_of (list_at ls 2))) ≡ None
    go false is = low-unpinned (view_of ls limit ratio) n.item.id n.item once
        (low_found ls limit ratio once sound p n (in_low ls sound p n tell h unpinned is))
    go true is =
        (let f = high_found ls limit ratio once sound p n (in_high ls sound p n tell h unpinned is) in
        high-unpinned (view_of ls limit ratio) n.item.id n.item once f.0 f.1)

  -- the pinned bit tells what is pinned
  pub pinned_iff : IsTrue n.state.pinned ↔ (0 < count_of n.item.id (lru.pinned (view_of ls limit ratio)))
  pinned_iff = (
    λ t. found-counted n.item.id n.item (pinned_items (map pinned_of (list_at ls 2)))
        (pinned_found ls limit ratio once sound p n (in_pin ls sound p n tell h t)),
    λ more. go n.state.pinned refl more,
  ) where
    go : (b : Bool) → n.state.pinned ≡ b → 0 < count_of n.item.id (pinned_items (map pinned_of (list_at ls 2))) → b
        ≡ true
    go true is more = refl
    go false is more =
        let f = found-where n.item.id (pinned_items (map pinned_of (list_at ls 2))) more in
        let none = unpinned-none is in
        let found = f.1 in
        absurd cc

  pub unpinned-new : n.state.pinned ≡ false → IsNewIn n.item.id (lru.pinned (view_of ls limit ratio))
  unpinned-new unpinned = go (count_of n.item.id (lru.pinned (view_of ls limit ratio))) refl where
    go : (k : ℕ) → count_of n.item.id (lru.pinned (view_of ls limit ratio)) ≡ k →
        count_of n.item.id (lru.pinned (view_of ls limit ratio)) ≡ 0
    go zero e = e
    go (suc k) e = (let pinned : n.state.pinned ≡ true = pinned_iff.1 (omega (arith, e)) in absurd cc)

  -- a node that goes to the end of `pin`
  module _ (ls2 : List (List (ℕ × Node))) (moved_is : ls2 ≡ moved p 2 (map (with_value p (with_pin n true)) ls)) where
    here : list_at ls2 2 ≡ drop_place p (list_at ls 2) ++ (p, with_pin n true) ∷ []
    here = relisted-here ls sound p n h ls2 (with_pin n true) 2 (omega arith) moved_is

    other : (k : ℕ) → k ≢ 2 → list_at ls2 k ≡ drop_place p (list_at ls k)
    other = relisted-other ls sound p n h ls2 (with_pin n true) 2 (omega arith) moved_is

    pub pinned-tell : StatesTell ls2
    pinned-tell = record {
      low = rw (other 0 (λ e. omega arith)) (EachState-drop (λ s. s ≡ state false false) p (list_at ls 0) tell.low);
      high = rw (other 1 (λ e. omega arith)) (EachState-drop (λ s. s ≡ state true false) p (list_at ls 1) tell.high);
      pin = rw here
          (EachState-append (λ s. s.pinned ≡ true) (drop_place p (list_at ls 2)) ((p, with_pin n true) ∷ [])
          (EachState-drop (λ s. s.pinned ≡ true) p (list_at ls 2) tell.pin) (refl, tt));
    }

    pins : (k : ℕ) → k < 3 → k ≢ 2 → find_in p (list_at ls k) ≡ Some n → map pinned_of (list_at ls2 2)
        ≡ map pinned_of (list_at ls 2) ++ record { item = n.item; is_high = n.state.high } ∷ []
    pins k lt ne is =
        ap (map pinned_of) here ∙ map-append pinned_of (drop_place p (list_at ls 2)) ((p, with_pin n true) ∷ [])
        ∙ ap (λ (l : List (ℕ × Node)). map pinned_of l ++ pinned_of (p, with_pin n true) ∷ [])
        (off ls sound p n k 2 lt (omega arith) ne is)

    pub pinned-low : n.state.pinned ≡ false → n.state.high ≡ false
        → view_of ls2 limit ratio ≡ view (remove_id n.item.id (items_of (list_at ls 0))) (items_of (list_at ls 1))
        (map pinned_of (list_at ls 2) ++ record { item = n.item; is_high = false } ∷ []) limit ratio
    pinned-low unpinned low =
        let is = in_low ls sound p n tell h unpinned low in
        same_view limit ratio _ _ _ _ _ _
        (ap items_of (other 0 (λ e. omega arith))
        ∙ items_of-dropped p n (list_at ls 0) (once_low ls limit ratio once) is)
        (ap items_of
        (other 1 (λ e. omega arith) ∙ off ls sound p n 0 1 (omega arith) (omega arith) (λ e. omega arith) is))
        (pins 0 (omega arith) (λ e. omega arith) is
        ∙ ap (λ (b : Bool). map pinned_of (list_at ls 2) ++ record { item = n.item; is_high = b } ∷ []) low)

    pub pinned-high : n.state.pinned ≡ false → n.state.high ≡ true
        → view_of ls2 limit ratio ≡ view (items_of (list_at ls 0)) (remove_id n.item.id (items_of (list_at ls 1)))
        (map pinned_of (list_at ls 2) ++ record { item = n.item; is_high = true } ∷ []) limit ratio
    pinned-high unpinned high =
        let is = in_high ls sound p n tell h unpinned high in
        same_view limit ratio _ _ _ _ _ _
        (ap items_of
        (other 0 (λ e. omega arith) ∙ off ls sound p n 1 0 (omega arith) (omega arith) (λ e. omega arith) is))
        (ap items_of (other 1 (λ e. omega arith))
        ∙ items_of-dropped p n (list_at ls 1) (once_high ls limit ratio once) is)
        (pins 1 (omega arith) (λ e. omega arith) is
        ∙ ap (λ (b : Bool). map pinned_of (list_at ls 2) ++ record { item = n.item; is_high = b } ∷ []) high)

    -- it is what the model makes of an acquire
    pub pinned-view : n.state.pinned ≡ false → view_of ls2 limit ratio
        ≡ pin_found (view_of ls limit ratio) n.item.id (find_id n.item.id (items_of (list_at ls 0)))
        (find_id n.item.id (items_of (list_at ls 1)))
    pinned-view unpinned = go n.state.high refl where
      go : (b : Bool) → n.state.high ≡ b → view_of ls2 limit ratio
          ≡ pin_found (view_of ls limit ratio) n.item.id (find_id n.item.id (items_of (list_at ls 0)))
          (find_id n.item.id (items_of (list_at ls 1)))
      go false is = pinned-low unpinned is ∙ rw
          (low_found ls limit ratio once sound p n (in_low ls sound p n tell h unpinned is)) refl
      go true is =
          (let f = high_found ls limit ratio once sound p n (in_high ls sound p n tell h unpinned is) in
          pinned-high unpinned is ∙ rw (f.0, f.1) refl)

  -- a pinned node that goes to the end of its list
  module _ (ls2 : List (List (ℕ × Node))) (pinned : n.state.pinned ≡ true) where
    is_pinned : find_in p (list_at ls 2) ≡ Some n
    is_pinned = in_pin ls sound p n tell h pinned

    -- without its high bit
    module _ (not_high : n.state.high ≡ false)
        (moved_is : ls2 ≡ moved p 0 (map (with_value p (with_pin n false)) ls)) where
      low-here : list_at ls2 0 ≡ list_at ls 0 ++ (p, with_pin n false) ∷ []
      low-here = relisted-here ls sound p n h ls2 (with_pin n false) 0 (omega arith) moved_is
          ∙ ap (λ (l : List (ℕ × Node)). l ++ (p, with_pin n false) ∷ [])
          (off ls sound p n 2 0 (omega arith) (omega arith) (λ e. omega arith) is_pinned)

      low-high : list_at ls2 1 ≡ list_at ls 1
      low-high = relisted-other ls sound p n h ls2 (with_pin n false) 0 (omega arith) moved_is 1 (λ e. omega arith)
          ∙ off ls sound p n 2 1 (omega arith) (omega arith) (λ e. omega arith) is_pinned

      low-pin : list_at ls2 2 ≡ drop_place p (list_at ls 2)
      low-pin = relisted-other ls sound p n h ls2 (with_pin n false) 0 (omega arith) moved_is 2 (λ e. omega arith)

      pub released_low-tell : StatesTell ls2
      released_low-tell = record {
        low = rw low-here
            (EachState-append (λ s. s ≡ state false false) (list_at ls 0) ((p, with_pin n false) ∷ []) tell.low
            (ap (λ (b : Bool). state b false) not_high, tt));
        high = rw low-high tell.high;
        pin = rw low-pin (EachState-drop (λ s. s.pinned ≡ true) p (list_at ls 2) tell.pin);
      }

      pub released_low : view_of ls2 limit ratio
          ≡ view (items_of (list_at ls 0) ++ n.item ∷ []) (items_of (list_at ls 1))
          (remove_pin n.item.id (map pinned_of (list_at ls 2))) limit ratio
      released_low =
          same_view limit ratio _ _ _ _ _ _
          (ap items_of low-here ∙ map-append (λ (e : ℕ × Node). e.1.item) (list_at ls 0)
          ((p, with_pin n false) ∷ [])) (ap items_of low-high)
          (ap (map pinned_of) low-pin ∙ pins-dropped p n (list_at ls 2) (once_pin ls limit ratio once) is_pinned)

      -- it is what the model makes of a release, before it settles
      pub released_low-view : view_of ls2 limit ratio
          ≡ unpin_found (view_of ls limit ratio) n.item.id (find_pin n.item.id (map pinned_of (list_at ls 2)))
      released_low-view = released_low ∙ rw (pin_is_found ls limit ratio once sound p n is_pinned, not_high) refl

    -- with its high bit
    module _ (is_high : n.state.high ≡ true)
        (moved_is : ls2 ≡ moved p 1 (map (with_value p (with_pin n false)) ls)) where
      high-low : list_at ls2 0 ≡ list_at ls 0
      high-low = relisted-other ls sound p n h ls2 (with_pin n false) 1 (omega arith) moved_is 0 (λ e. omega arith)
          ∙ off ls sound p n 2 0 (omega arith) (omega arith) (λ e. omega arith) is_pinned

      high-here : list_at ls2 1 ≡ list_at ls 1 ++ (p, with_pin n false) ∷ []
      high-here = relisted-here ls sound p n h ls2 (with_pin n false) 1 (omega arith) moved_is
          ∙ ap (λ (l : List (ℕ × Node)). l ++ (p, with_pin n false) ∷ [])
          (off ls sound p n 2 1 (omega arith) (omega arith) (λ e. omega arith) is_pinned)

      high-pin : list_at ls2 2 ≡ drop_place p (list_at ls 2)
      high-pin = relisted-other ls sound p n h ls2 (with_pin n false) 1 (omega arith) moved_is 2 (λ e. omega arith)

      pub released_high-tell : StatesTell ls2
      released_high-tell = record {
        low = rw high-low tell.low;
        high = rw high-here
            (EachState-append (λ s. s ≡ state true false) (list_at ls 1) ((p, with_pin n false) ∷ []) tell.high
            (ap (λ (b : Bool). state b false) is_high, tt));
        pin = rw high-pin (EachState-drop (λ s. s.pinned ≡ true) p (list_at ls 2) tell.pin);
      }

      pub released_high : view_of ls2 limit ratio
          ≡ view (items_of (list_at ls 0)) (items_of (list_at ls 1) ++ n.item ∷ [])
          (remove_pin n.item.id (map pinned_of (list_at ls 2))) limit ratio
      released_high =
          same_view limit ratio _ _ _ _ _ _ (ap items_of high-low)
          (ap items_of high-here ∙ map-append (λ (e : ℕ × Node). e.1.item) (list_at ls 1)
          ((p, with_pin n false) ∷ []))
          (ap (map pinned_of) high-pin ∙ pins-dropped p n (list_at ls 2) (once_pin ls limit ratio once) is_pinned)

      pub released_high-view : view_of ls2 limit ratio
          ≡ unpin_found (view_of ls limit ratio) n.item.id (find_pin n.item.id (map pinned_of (list_at ls 2)))
      released_high-view = released_high ∙ rw (pin_is_found ls limit ratio once sound p n is_pinned, is_high) refl
