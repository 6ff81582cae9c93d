-- One list of items under places.
use Rattle.std.proofs.Common.{◌≡◌, ◌≢◌, ℕ, ◌+◌, true, false, cond, List, [], ◌∷◌, ◌++◌, Option, Some, None, length, map, get_or, set, refl, sym, ◌∙◌, ap, arith, IfSome}
use Rattle.std.specs.Prelude.{◌==◌, is_some}
use Rattle.std.proofs.lemmas.Bool.Decides.{nat_tests}
use Rattle.std.proofs.lemmas.List.{map-append}
use Rattle.foyer_policy.specs.Lists.{list_at, find_in, find, or_else, drop_place, first_entry, first_or, first_value, rest, IsFree, IsDistinct, AreLists}
use Rattle.foyer_policy.specs.Items.{IsNewIn, HasIdsOnce, remove_id, find_id}
use Rattle.foyer_policy.specs.Policy.{without}
use Rattle.foyer_policy.specs.declared.types.Item.{Item}
use Rattle.foyer_policy.specs.ItemLaws.{once-remove_id, once-snoc, once-tail}
use Rattle.foyer_policy.proofs.ItemPlaces.{items, item_at, items-drop_place, item_at-drop_place, item_at-snoc, find_id-found}

-- a list of one list
single : {A : Type 0} (ls : List (List A)) → length ls ≡ 1 → ls ≡ get_or ls 0 [] ∷ []
single [] h = absurd (omega arith)
single (l ∷ []) h = refl
single (l ∷ (m ∷ ms)) h = absurd (omega arith)

or_else-none : {A : Type 0} (o : Option A) → or_else o None ≡ o
or_else-none None = refl
or_else-none (Some x) = refl

find_in-item_at : (p : ℕ) (l : List (ℕ × Item)) → find_in p l ≡ item_at (λ i. i) p l
find_in-item_at p [] = refl
find_in-item_at p (e ∷ es) = ap (λ (r : Option Item). cond (e.0 == p) (Some e.1) r) (find_in-item_at p es)

find-single : (p : ℕ) (l : List (ℕ × Item)) → find p (l ∷ []) ≡ item_at (λ i. i) p l
find-single p l = or_else-none (find_in p l) ∙ find_in-item_at p l

drop_place-first : (p : ℕ) (v : Item) (l : List (ℕ × Item)) → drop_place p ((p, v) ∷ l) ≡ l
drop_place-first p v l = (let y : (p == p) ≡ true = grind (arith, nat_tests) in rw y refl)

abbrev self_item : Item → Item
self_item i = i

module _ (ls ls2 : List (List (ℕ × Item))) (sound : AreLists 1 ls) where
  one : ls ≡ get_or ls 0 [] ∷ []
  one = single ls sound.count

  abbrev pub entries : List (ℕ × Item)
  entries = get_or ls 0 []

  find-is : (q : ℕ) → find q ls ≡ item_at self_item q (get_or ls 0 [])
  find-is q = ap (find q) one ∙ find-single q (get_or ls 0 [])

  module _ (p : ℕ) (i : Item) (pushed : ls2 ≡ set ls 0 (list_at ls 0 ++ (p, i) ∷ [])) (free : find p ls ≡ None) where
    after : ls2 ≡ (get_or ls 0 [] ++ (p, i) ∷ []) ∷ []
    after = pushed ∙ ap (λ (x : List (List (ℕ × Item))). set x 0 (get_or ls 0 [] ++ (p, i) ∷ [])) one

    found : (q : ℕ) → find q ls2 ≡ cond (is_some (item_at self_item q (get_or ls 0 [])))
        (item_at self_item q (get_or ls 0 [])) (cond (p == q) (Some i) None)
    found q = ap (find q) after ∙ find-single q (get_or ls 0 [] ++ (p, i) ∷ [])
        ∙ item_at-snoc self_item p q i (get_or ls 0 [])

    pub push-here : find p ls2 ≡ Some i
    push-here =
        let e : item_at self_item p (get_or ls 0 []) ≡ None = sym (find-is p) ∙ free in
        let y : (p == p) ≡ true = grind (arith, nat_tests) in
        found p ∙ rw (e, y) refl

    pub push-others : (q : ℕ) → q ≢ p → find q ls2 ≡ find q ls
    push-others q ne =
        let y : (p == q) ≡ false = (let n : p ≢ q = (λ e. ne (sym e)) in grind (arith, nat_tests)) in
        found q ∙ rw y (same (item_at self_item q (get_or ls 0 []))) ∙ sym (find-is q) where
          same : (o : Option Item) → cond (is_some o) o None ≡ o
          same None = refl
          same (Some x) = refl

    pub push-once : HasIdsOnce (map (λ e. e.1) (list_at ls 0)) → IsNewIn i.id (map (λ e. e.1) (list_at ls 0)) →
        HasIdsOnce (map (λ e. e.1) (list_at ls2 0))
    push-once u n = rw (after, map-append) (once-snoc (map (λ (e : ℕ × Item). e.1) (get_or ls 0 [])) i u n)

  module _ (p : ℕ) (i : Item) (there : find p ls ≡ Some i) (dropped : list_at ls2 0 ≡ drop_place p (list_at ls 0))
      (count : length ls2 ≡ 1) (once : HasIdsOnce (map (λ e. e.1) (list_at ls 0))) where
    at : item_at self_item p (get_or ls 0 []) ≡ Some i
    at = sym (find-is p) ∙ there

    pub remove-view : map (λ e. e.1) (list_at ls2 0) ≡ remove_id i.id (map (λ e. e.1) (list_at ls 0))
    remove-view = rw dropped (items-drop_place self_item p i (get_or ls 0 []) once at)

    pub remove-once : HasIdsOnce (map (λ e. e.1) (list_at ls2 0))
    remove-once = rw remove-view (once-remove_id i.id (map (λ (e : ℕ × Item). e.1) (get_or ls 0 [])) once)

    pub remove-places : (q : ℕ) → find q ls2 ≡ without i.id (find q ls)
    remove-places q =
        ap (find q) (single ls2 count) ∙ find-single q (get_or ls2 0 []) ∙ ap (item_at self_item q) dropped
        ∙ item_at-drop_place self_item p q i (get_or ls 0 []) once (sound.within 0 (omega (arith, sound.count))) at
        ∙ ap (without i.id) (sym (find-is q))

pub pop-places : (ls ls2 : List (List (ℕ × Item))) → AreLists 1 ls → ls2 ≡ set ls 0 (rest (list_at ls 0)) →
    HasIdsOnce (map (λ e. e.1) (list_at ls 0)) → (r : Option (ℕ × Item)) → r ≡ first_entry (list_at ls 0)
    → IfSome r (λ e. (q : ℕ) → find q ls2 ≡ without e.1.id (find q ls))
pop-places ls ls2 sound popped once r is = go (get_or ls 0 []) refl where
  go : (l : List (ℕ × Item)) → get_or ls 0 [] ≡ l →
      IfSome r (λ e. (q : ℕ) → find q ls2 ≡ without e.1.id (find q ls))
  go [] e = (let x : r ≡ None = rw e at is in rw x tt)
  go (x ∷ xs) e =
      let some : r ≡ Some x = rw e at is in
      let one : ls ≡ (x ∷ xs) ∷ [] = single ls sound.count ∙ ap (λ (l : List (ℕ × Item)). l ∷ []) e in
      let same : (x.0 == x.0) ≡ true = grind (arith, nat_tests) in
      let there : find x.0 ls ≡ Some x.1 = rw (one, same) refl in
      let after : ls2 ≡ xs ∷ [] = popped ∙ rw one refl in
      let d : list_at ls2 0 ≡ drop_place x.0 (list_at ls 0) = rw (after, one, same) refl in
      let n : length ls2 ≡ 1 = rw after refl in
      rw some (remove-places ls ls2 sound x.0 x.1 there d n once)

pub pop-once : (l : List (ℕ × Item)) → HasIdsOnce (items self_item l) → HasIdsOnce (items self_item (rest l))
pop-once [] h = h
pop-once (x ∷ xs) h = once-tail x.1 (items self_item xs) h

none-first : (l : List (ℕ × Item)) → first_value l ≡ None → l ≡ []
none-first [] h = refl
none-first (x ∷ xs) h = absurd cc

-- a queue of which nothing is popped is empty
pub popped-none : (ls : List (List (ℕ × Item))) → AreLists 1 ls → first_value (list_at ls 0) ≡ None → ls ≡ [] ∷ []
popped-none ls sound h = single ls sound.count ∙ ap (λ (l : List (ℕ × Item)). l ∷ []) (none-first (list_at ls 0) h)

pub rest-shorter : (l : List (ℕ × Item)) → is_some (first_value l) ≡ true → length (rest l) + 1 ≡ length l
rest-shorter [] h = absurd cc
rest-shorter (x ∷ xs) h = omega arith

free-not : (p q : ℕ) (v : Item) (xs ys : List (ℕ × Item)) → IsFree q (xs ++ (p, v) ∷ ys) → p ≢ q
free-not p q v [] ys h = h.0
free-not p q v (x ∷ xs) ys h = free-not p q v xs ys h.1

find_in-at : (p : ℕ) (v : Item) (xs ys : List (ℕ × Item)) → IsDistinct (xs ++ (p, v) ∷ ys) →
    find_in p (xs ++ (p, v) ∷ ys) ≡ Some v
find_in-at p v [] ys d = (let e : (p == p) ≡ true = grind (arith, nat_tests) in rw e refl)
find_in-at p v (x ∷ xs) ys d =
    let n : p ≢ x.0 = free-not p x.0 v xs ys d.0 in
    let e : (x.0 == p) ≡ false = grind (arith, nat_tests) in
    rw e (find_in-at p v xs ys d.1)

pub popped-list : (ls ls2 : List (List (ℕ × Item))) → AreLists 1 ls → ls2 ≡ set ls 0 (rest (list_at ls 0)) →
    list_at ls2 0 ≡ rest (list_at ls 0)
popped-list ls ls2 sound popped = ap (λ (x : List (List (ℕ × Item))). get_or x 0 [])
    (popped ∙ ap (λ (x : List (List (ℕ × Item))). set x 0 (rest (list_at ls 0))) (single ls sound.count))

pub pop-keeps : (ls ls2 : List (List (ℕ × Item))) → AreLists 1 ls → ls2 ≡ set ls 0 (rest (list_at ls 0)) →
    HasIdsOnce (items self_item (list_at ls 0)) → HasIdsOnce (items self_item (list_at ls2 0))
pop-keeps ls ls2 sound popped once = rw (popped-list ls ls2 sound popped) (pop-once (list_at ls 0) once)

-- what is at a place stands in the one list
pub find-first : (ls : List (List (ℕ × Item))) (p : ℕ) → AreLists 1 ls → find p ls ≡ find_in p (list_at ls 0)
find-first ls p sound = ap (find p) (single ls sound.count) ∙ or_else-none (find_in p (list_at ls 0))

first-there : (p : ℕ) (l : List (ℕ × Item)) → Some p ≡ first_or l None → (i : Item) × (find_in p l ≡ Some i)
first-there p [] h = absurd cc
first-there p (x ∷ xs) h =
    (let e : p ≡ x.0 = cc in let y : (x.0 == p) ≡ true = grind (arith, nat_tests) in (x.1, rw y refl))

pub remove-member : (ls : List (List (ℕ × Item))) → AreLists 1 ls → (p : ℕ) (i : Item) → find p ls ≡ Some i →
    HasIdsOnce (items self_item (list_at ls 0)) → find_id i.id (items self_item (list_at ls 0)) ≡ Some i
remove-member ls sound p i there once = find_id-found self_item p i (list_at ls 0) once
    (sym (find_in-item_at p (list_at ls 0)) ∙ sym (find-first ls p sound) ∙ there)
