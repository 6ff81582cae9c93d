-- Items under places: what is taken out by its place is taken out by its id.
use Rattle.std.proofs.Common.{◌≡◌, ◌≢◌, ℕ, Bool, true, false, cond, List, [], ◌∷◌, ◌++◌, Option, Some, None, map, refl, sym, ap, arith}
use Rattle.std.specs.Prelude.{◌==◌, is_some}
use Rattle.std.proofs.lemmas.Bool.Decides.{nat_tests}
use Rattle.foyer_policy.specs.Lists.{drop_place, IsFree, IsDistinct}
use Rattle.foyer_policy.specs.Items.{IsNewIn, HasIdsOnce, remove_id, find_id}
use Rattle.foyer_policy.specs.Policy.{without}
use Rattle.foyer_policy.specs.declared.types.Item.{Item}
use Rattle.foyer_policy.specs.ItemLaws.{new-head, new-tail, once-head, once-tail}

module _ {T : Type 0} (item : T → Item) where
  -- the items of a list under places
  abbrev pub items : List (ℕ × T) → List Item
  items l = map (λ e. item e.1) l

  -- the item at a place
  abbrev pub item_at : ℕ → List (ℕ × T) → Option Item
  item_at p [] = None
  item_at p (e ∷ es) = cond (e.0 == p) (Some (item e.1)) (item_at p es)

  -- what is found is in the list
  pub new-found : (p id : ℕ) (i : Item) (l : List (ℕ × T)) → IsNewIn id (items l) → item_at p l ≡ Some i → i.id ≢ id
  new-found p id i [] n h = absurd cc
  new-found p id i (e ∷ es) n h = go (e.0 == p) h (new-found p id i es (new-tail id (item e.1) (items es) n)) where
    go : (b : Bool) → cond b (Some (item e.1)) (item_at p es) ≡ Some i → (item_at p es ≡ Some i → i.id ≢ id) → i.id ≢ id
    go true h rec = (let x : item e.1 ≡ i = cc in rw (← x) (new-head id (item e.1) (items es) n))
    go false h rec = rec h

  -- what is at a place is found by its id
  pub find_id-found : (p : ℕ) (i : Item) (l : List (ℕ × T)) → HasIdsOnce (items l) → item_at p l ≡ Some i →
      find_id i.id (items l) ≡ Some i
  find_id-found p i [] u h = absurd cc
  find_id-found p i (e ∷ es) u h = go (e.0 == p) h (find_id-found p i es (once-tail (item e.1) (items es) u)) where
    go : (b : Bool) → cond b (Some (item e.1)) (item_at p es) ≡ Some i →
        (item_at p es ≡ Some i → find_id i.id (items es) ≡ Some i)
        → cond ((item e.1).id == i.id) (Some (item e.1)) (find_id i.id (items es)) ≡ Some i
    go true h rec =
        (let x : item e.1 ≡ i = cc in let y : ((item e.1).id == i.id) ≡ true = rw x (grind (arith, nat_tests)) in
        rw y (ap (λ (j : Item). Some j) x))
    go false h rec =
        let ne : i.id ≢ (item e.1).id = new-found p (item e.1).id i es (once-head (item e.1) (items es) u) h in
        let y : ((item e.1).id == i.id) ≡ false = grind (arith, nat_tests) in
        rw y (rec h)

  pub items-drop_place : (p : ℕ) (i : Item) (l : List (ℕ × T)) → HasIdsOnce (items l) → item_at p l ≡ Some i →
      items (drop_place p l) ≡ remove_id i.id (items l)
  items-drop_place p i [] u h = absurd cc
  items-drop_place p i (e ∷ es) u h = go (e.0 == p) h
      (items-drop_place p i es (once-tail (item e.1) (items es) u)) where
        go : (b : Bool) → cond b (Some (item e.1)) (item_at p es) ≡ Some i →
            (item_at p es ≡ Some i → items (drop_place p es) ≡ remove_id i.id (items es))
            → items (cond b es (e ∷ drop_place p es))
            ≡ cond ((item e.1).id == i.id) (items es) (item e.1 ∷ remove_id i.id (items es))
        go true h rec =
            (let x : item e.1 ≡ i = cc in let y : ((item e.1).id == i.id) ≡ true = rw x (grind (arith, nat_tests)) in
            rw y refl)
        go false h rec =
            let ne : i.id ≢ (item e.1).id = new-found p (item e.1).id i es (once-head (item e.1) (items es) u) h in
            let y : ((item e.1).id == i.id) ≡ false = grind (arith, nat_tests) in
            rw y (ap (λ r. item e.1 ∷ r) (rec h))

  item_at-free : (p : ℕ) (l : List (ℕ × T)) → IsFree p l → item_at p l ≡ None
  item_at-free p [] f = refl
  item_at-free p (e ∷ es) f =
      (let x : (e.0 == p) ≡ false = grind (arith, nat_tests, f.0) in rw x (item_at-free p es f.1))

  without-other : (id : ℕ) (o : Option Item) → ((i : Item) → o ≡ Some i → i.id ≢ id) → without id o ≡ o
  without-other id None h = refl
  without-other id (Some i) h =
      (let n : i.id ≢ id = h i refl in let y : (i.id == id) ≡ false = grind (arith, nat_tests) in rw y refl)

  -- what is at a place then
  pub item_at-drop_place : (p q : ℕ) (i : Item) (l : List (ℕ × T)) → HasIdsOnce (items l) → IsDistinct l → item_at p l
      ≡ Some i → item_at q (drop_place p l) ≡ without i.id (item_at q l)
  item_at-drop_place p q i [] u d h = absurd cc
  item_at-drop_place p q i (e ∷ es) u d h = go (e.0 == p) (e.0 == q) refl refl h
      (item_at-drop_place p q i es (once-tail (item e.1) (items es) u) d.1) where
        go : (b c : Bool) → (e.0 == p) ≡ b → (e.0 == q) ≡ c → cond b (Some (item e.1)) (item_at p es) ≡ Some i →
            (item_at p es ≡ Some i → item_at q (drop_place p es) ≡ without i.id (item_at q es))
            → item_at q (cond b es (e ∷ drop_place p es)) ≡ without i.id (cond c (Some (item e.1)) (item_at q es))
        go true true ep eq h rec =
            let x : item e.1 ≡ i = cc in
            let y : ((item e.1).id == i.id) ≡ true = rw x (grind (arith, nat_tests)) in
            let q' : e.0 ≡ q = grind (arith, nat_tests) in
            let f : IsFree q es = rw (← q') d.0 in
            rw y (item_at-free q es f)
        go true false ep eq h rec =
            let x : item e.1 ≡ i = cc in
            let n : IsNewIn i.id (items es) = rw (← x) (once-head (item e.1) (items es) u) in
            sym (without-other i.id (item_at q es) (λ j is. new-found q i.id j es n is))
        go false true ep eq h rec =
            let ne : i.id ≢ (item e.1).id = new-found p (item e.1).id i es (once-head (item e.1) (items es) u) h in
            let y : ((item e.1).id == i.id) ≡ false = grind (arith, nat_tests) in
            rw (eq, y) refl
        go false false ep eq h rec = rw eq (rec h)

  pub item_at-snoc : (p q : ℕ) (v : T) (l : List (ℕ × T)) → item_at q (l ++ (p, v) ∷ [])
      ≡ cond (is_some (item_at q l)) (item_at q l) (cond (p == q) (Some (item v)) None)
  item_at-snoc p q v [] = refl
  item_at-snoc p q v (e ∷ es) = go (e.0 == q) (item_at-snoc p q v es) where
    go : (b : Bool) → item_at q (es ++ (p, v) ∷ [])
        ≡ cond (is_some (item_at q es)) (item_at q es) (cond (p == q) (Some (item v)) None)
        → cond b (Some (item e.1)) (item_at q (es ++ (p, v) ∷ []))
        ≡ cond (is_some (cond b (Some (item e.1)) (item_at q es))) (cond b (Some (item e.1)) (item_at q es))
        (cond (p == q) (Some (item v)) None)
    go true rec = refl
    go false rec = rec
