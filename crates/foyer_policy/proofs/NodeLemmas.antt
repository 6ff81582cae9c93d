-- Nodes that hold items, in linked lists: the item at a place.
use Rattle.std.proofs.Common.{◌≡◌, ℕ, Bool, true, false, cond, List, [], ◌∷◌, Some, length, map, refl, sym, ◌∙◌, ap, append-nil}
use Rattle.std.specs.Prelude.{◌==◌}
use Rattle.std.specs.Option.{option_map}
use Rattle.foyer_policy.specs.Lists.{list_at, find, find_in, drop_place, with_value, flat, AreLists}
use Rattle.foyer_policy.specs.Items.{HasIdsOnce, remove_id, find_id}
use Rattle.foyer_policy.specs.Policy.{without}
use Rattle.foyer_policy.specs.declared.types.Item.{Item}
use Rattle.foyer_policy.proofs.ItemPlaces.{items, item_at, items-drop_place, item_at-drop_place, find_id-found}
use Rattle.foyer_policy.proofs.ListsLemmas.{single}
use Rattle.foyer_policy.proofs.FlatLemmas.{find_in-flat, flat-drop_place, IsDistinct-flat}
use Rattle.foyer_policy.proofs.FoundLemmas.{find-write}
use Rattle.foyer_policy.proofs.PlaceLemmas.{place_is}

module _ {T : Type 0} where
  -- one list is its own entries
  pub flat-single : (ls : List (List (ℕ × T))) → length ls ≡ 1 → flat ls ≡ list_at ls 0
  flat-single ls h = ap (λ (x : List (List (ℕ × T))). flat x) (single ls h) ∙ append-nil (list_at ls 0)

module _ {T : Type 0} (item : T → Item) where
  item_at-find_in : (p : ℕ) (l : List (ℕ × T)) → item_at item p l ≡ option_map item (find_in p l)
  item_at-find_in p [] = refl
  item_at-find_in p (e ∷ es) = go (e.0 == p) (item_at-find_in p es) where
    go : (b : Bool) → item_at item p es ≡ option_map item (find_in p es) →
        cond b (Some (item e.1)) (item_at item p es) ≡ option_map item (cond b (Some e.1) (find_in p es))
    go true rec = refl
    go false rec = rec

  pub item_at-flat : (p : ℕ) (ls : List (List (ℕ × T))) → item_at item p (flat ls) ≡ option_map item (find p ls)
  item_at-flat p ls = item_at-find_in p (flat ls) ∙ ap (option_map item) (find_in-flat p ls)

  -- a write that keeps the item at its place
  pub items-with_value : (p : ℕ) (v w : T) (l : List (ℕ × T)) → find_in p l ≡ Some v → item w ≡ item v →
      items item (with_value p w l) ≡ items item l
  items-with_value p v w [] h s = refl
  items-with_value p v w (e ∷ es) h s = go (e.0 == p) h (λ k. items-with_value p v w es k s) where
    go : (b : Bool) → cond b (Some e.1) (find_in p es) ≡ Some v →
        (find_in p es ≡ Some v → items item (with_value p w es) ≡ items item es) →
        items item (cond b ((p, w) ∷ es) (e ∷ with_value p w es)) ≡ item e.1 ∷ items item es
    go true h rec = (let q : e.1 ≡ v = cc in rw (s, ← q) refl)
    go false h rec = ap (λ r. item e.1 ∷ r) (rec h)

  pub placed-write : (p q : ℕ) (v w : T) (ls : List (List (ℕ × T))) → find p ls ≡ Some v → item w ≡ item v →
      option_map item (find q (map (with_value p w) ls)) ≡ option_map item (find q ls)
  placed-write p q v w ls h s = ap (option_map item) (find-write p q v w ls h) ∙ go (p == q) refl where
    go : (b : Bool) → (p == q) ≡ b → option_map item (cond b (Some w) (find q ls)) ≡ option_map item (find q ls)
    go true is =
        (let e : find q ls ≡ Some v = ap (λ (k : ℕ). find k ls) (sym (place_is p q is)) ∙ h in
        ap (λ (i : Item). Some i) s ∙ sym (ap (option_map item) e))
    go false is = refl

  module _ (n : ℕ) (ls : List (List (ℕ × T))) (sound : AreLists n ls) (once : HasIdsOnce (items item (flat ls)))
      (p : ℕ) (v : T) (there : find p ls ≡ Some v) where
    at : item_at item p (flat ls) ≡ Some (item v)
    at = item_at-flat p ls ∙ ap (option_map item) there

    -- it is found by its id
    pub find_id-placed : find_id (item v).id (items item (flat ls)) ≡ Some (item v)
    find_id-placed = find_id-found item p (item v) (flat ls) once at

    -- once it is out, its id is
    pub items-out : items item (flat (map (drop_place p) ls)) ≡ remove_id (item v).id (items item (flat ls))
    items-out = ap (λ (l : List (ℕ × T)). items item l) (flat-drop_place n p ls sound)
        ∙ items-drop_place item p (item v) (flat ls) once at

    pub placed-out : (q : ℕ) → option_map item (find q (map (drop_place p) ls))
        ≡ without (item v).id (option_map item (find q ls))
    placed-out q =
        sym (item_at-flat q (map (drop_place p) ls)) ∙ ap (item_at item q) (flat-drop_place n p ls sound)
        ∙ item_at-drop_place item p q (item v) (flat ls) once (IsDistinct-flat n ls sound) at
        ∙ ap (without (item v).id) (item_at-flat q ls)
