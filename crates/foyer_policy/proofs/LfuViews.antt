-- What each call of an `Lfu` makes of its lists is what the model makes of its view.
use Rattle.std.proofs.Common.{◌≡◌, ◌≢◌, ℕ, zero, suc, ◌+◌, ◌-◌, ◌^◌, ◌<◌, ◌≤◌, Bool, true, false, cond, List, [], ◌∷◌, ◌++◌, Option, Some, None, length, map, set, refl, sym, ◌∙◌, ap, subst, arith}
use Rattle.std.specs.Prelude.{◌==◌}
use Rattle.std.proofs.lemmas.Bool.Decides.{nat_tests}
use Rattle.std.proofs.lemmas.List.{map-append, append-nil, get_or-set_same, get_or-set_other}
use Rattle.std.proofs.lemmas.List.Sums.{sum_by-append, sum_by-cons}
use Rattle.std.proofs.lemmas.List.Sorted.{sum_by-IsPermutation, IsPermutation-to_front}
use Rattle.std.specs.List.Sorted.{IsPermutation}
use Rattle.std.proofs.Math.ListN.{get_or-map}
use Rattle.foyer_policy.specs.Items.{weight_of, IsNewIn, HasIdsOnce, remove_id, find_id, fit, over}
use Rattle.foyer_policy.specs.ItemLaws.{one_if, sum-remove_id, once-remove_id, once-snoc}
use Rattle.foyer_policy.specs.Lfu.{LfuView, seen, lfu}
use Rattle.foyer_policy.specs.LfuLaws.{with_lists, lfu_lawful}
use Rattle.foyer_policy.specs.LfuLists.{items_in, IsLfu}
use Rattle.foyer_policy.specs.Lists.{list_at, find, find_in, drop_place, moved, flat, AreLists}
use Rattle.foyer_policy.specs.PartLaws.{find_id-front, find_id-back, find_id-other_part, once-front, once-back}
use Rattle.foyer_policy.specs.Policy.{without}
use Rattle.foyer_policy.specs.declared.types.Item.{Item}
use Rattle.foyer_policy.proofs.FlatLemmas.{find_in-flat, flat-drop_place, IsDistinct-flat}
use Rattle.foyer_policy.proofs.ItemPlaces.{item_at, items-drop_place, item_at-drop_place, find_id-found}
use Rattle.foyer_policy.proofs.ListsLemmas.{three, find-at, moved-own, moved-here, moved-there, moved-other}
use Rattle.foyer_policy.proofs.PlaceLemmas.{Split, split, drop_place-free}

abbrev self_item : Item → Item
self_item i = i

item-at : (p : ℕ) (l : List (ℕ × Item)) → find_in p l ≡ item_at self_item p l
item-at p [] = refl
item-at p (e ∷ es) = ap (λ (r : Option Item). cond (e.0 == p) (Some e.1) r) (item-at p es)

-- the lists of a view, one by one
pub same_lists : (b : LfuView) (a c d x y z : List Item) → a ≡ x → c ≡ y → d ≡ z → with_lists b a c d
    ≡ with_lists b x y z
same_lists b a c d x y z e f g = rw (e, f, g) refl

abbrev pub view_of : LfuView → List (List (ℕ × Item)) → LfuView
view_of b ls = with_lists b (items_in ls 0) (items_in ls 1) (items_in ls 2)

-- the items of all three lists
abbrev pub all_items : List (List (ℕ × Item)) → List Item
all_items ls = items_in ls 0 ++ (items_in ls 1 ++ items_in ls 2)

items-flat : (ls : List (List (ℕ × Item))) → length ls ≡ 3 → map (λ e. e.1) (flat ls) ≡ all_items ls
items-flat ls n =
    let a = list_at ls 0 in
    let b = list_at ls 1 in
    let c = list_at ls 2 in
    ap (λ (x : List (List (ℕ × Item))). map (λ e. e.1) (flat x)) (three ls n)
    ∙ map-append (λ (e : ℕ × Item). e.1) a (b ++ (c ++ []))
    ∙ ap (λ (l : List Item). items_in ls 0 ++ l)
    (map-append (λ (e : ℕ × Item). e.1) b (c ++ [])
    ∙ ap (λ (l : List (ℕ × Item)). items_in ls 1 ++ map (λ e. e.1) l) (append-nil c))

-- an item, its place and its list
module _ (b : LfuView) (ls : List (List (ℕ × Item))) (sound : AreLists 3 ls) (once : HasIdsOnce (all_items ls))
    (p : ℕ) (i : Item) where
  once_at : (k : ℕ) → k < 3 → HasIdsOnce (items_in ls k)
  once_at zero lt = once-front (items_in ls 0) (items_in ls 1 ++ items_in ls 2) once
  once_at (suc zero) lt = once-front (items_in ls 1) (items_in ls 2)
      (once-back (items_in ls 0) (items_in ls 1 ++ items_in ls 2) once)
  once_at (suc (suc zero)) lt = once-back (items_in ls 1) (items_in ls 2)
      (once-back (items_in ls 0) (items_in ls 1 ++ items_in ls 2) once)
  once_at (suc (suc (suc k))) lt = absurd (omega arith)

  module _ (k : ℕ) (lt : k < 3) (is : find_in p (list_at ls k) ≡ Some i) where
    there : item_at self_item p (list_at ls k) ≡ Some i
    there = sym (item-at p (list_at ls k)) ∙ is

    -- it is found by its id in its list
    in_list : find_id i.id (items_in ls k) ≡ Some i
    in_list = find_id-found self_item p i (list_at ls k) (once_at k lt) there

    pub dropped-here : items_in (map (drop_place p) ls) k ≡ remove_id i.id (items_in ls k)
    dropped-here =
        ap (λ (l : List (ℕ × Item)). map (λ e. e.1) l) (get_or-map (drop_place p) ls k [])
        ∙ items-drop_place self_item p i (list_at ls k) (once_at k lt) there

    off : (j : ℕ) → j < 3 → k ≢ j → drop_place p (list_at ls j) ≡ list_at ls j
    off j lj ne = drop_place-free p (list_at ls j)
        (sound.between k j p i (omega (arith, sound.count)) (omega (arith, sound.count)) ne is)

    pub dropped-other : (j : ℕ) → j < 3 → k ≢ j → items_in (map (drop_place p) ls) j ≡ items_in ls j
    dropped-other j lj ne = ap (λ (l : List (ℕ × Item)). map (λ e. e.1) l)
        (get_or-map (drop_place p) ls j [] ∙ off j lj ne)

    pub dropped-weight : weight_of (items_in (map (drop_place p) ls) k) + i.weight ≡ weight_of (items_in ls k)
    dropped-weight = rw dropped-here (sum-remove_id (λ (x : Item). x.weight) i.id i (items_in ls k) in_list)

    -- it is found among all
    pub in_all : find_id i.id (all_items ls) ≡ Some i
    in_all =
        let flat_once : HasIdsOnce (map (λ e. e.1) (flat ls)) =
        subst (λ (l : List Item). HasIdsOnce l) (sym (items-flat ls sound.count)) once in
        let at : item_at self_item p (flat ls) ≡ Some i = sym (item-at p (flat ls)) ∙ find_in-flat p ls
        ∙ find-at 3 ls k p i sound (omega (arith, sound.count)) is in
        ap (find_id i.id) (sym (items-flat ls sound.count)) ∙ find_id-found self_item p i (flat ls) flat_once at

    -- and taken out by its id is taken out by its place
    pub dropped-places : (q : ℕ) → find q (map (drop_place p) ls) ≡ without i.id (find q ls)
    dropped-places q =
        let flat_once : HasIdsOnce (map (λ e. e.1) (flat ls)) =
        subst (λ (l : List Item). HasIdsOnce l) (sym (items-flat ls sound.count)) once in
        let at : item_at self_item p (flat ls) ≡ Some i = sym (item-at p (flat ls)) ∙ find_in-flat p ls
        ∙ find-at 3 ls k p i sound (omega (arith, sound.count)) is in
        sym (find_in-flat q (map (drop_place p) ls)) ∙ ap (find_in q) (flat-drop_place 3 p ls sound)
        ∙ item-at q (drop_place p (flat ls))
        ∙ item_at-drop_place self_item p q i (flat ls) flat_once (IsDistinct-flat 3 ls sound) at
        ∙ ap (without i.id) (sym (item-at q (flat ls)) ∙ find_in-flat q ls)

  -- which list it is in tells where its id is found
  window_found : find_in p (list_at ls 0) ≡ Some i → find_id i.id (items_in ls 0) ≡ Some i
  window_found is = in_list 0 (omega arith) is

  probation_found : find_in p (list_at ls 1) ≡ Some i → (find_id i.id (items_in ls 0) ≡ None)
      × (find_id i.id (items_in ls 1) ≡ Some i)
  probation_found is =
      let here = in_list 1 (omega arith) is in (
        find_id-other_part i.id i (items_in ls 0) (items_in ls 1 ++ items_in ls 2) once
            (find_id-front i.id i (items_in ls 1) (items_in ls 2) here),
        here,
      )

  protected_found : find_in p (list_at ls 2) ≡ Some i → (find_id i.id (items_in ls 0) ≡ None)
      × (find_id i.id (items_in ls 1) ≡ None) × (find_id i.id (items_in ls 2) ≡ Some i)
  protected_found is =
      let here = in_list 2 (omega arith) is in
      let behind : HasIdsOnce (items_in ls 1 ++ items_in ls 2) =
      once-back (items_in ls 0) (items_in ls 1 ++ items_in ls 2) once in
      let off1 = find_id-other_part i.id i (items_in ls 1) (items_in ls 2) behind here in
      let back : find_id i.id (items_in ls 1 ++ items_in ls 2) ≡ Some i =
      find_id-back i.id (items_in ls 1) (items_in ls 2) off1 ∙ here in
      (find_id-other_part i.id i (items_in ls 0) (items_in ls 1 ++ items_in ls 2) once back, off1, here)

  -- a removal
  pub removed-view : (k : ℕ) → k < 3 → find_in p (list_at ls k) ≡ Some i → view_of b (map (drop_place p) ls)
      ≡ lfu.remove (view_of b ls) i.id
  removed-view zero lt is =
      rw (window_found is)
      (same_lists b _ _ _ _ _ _ (dropped-here 0 lt is) (dropped-other 0 lt is 1 (omega arith) (λ e. omega arith))
      (dropped-other 0 lt is 2 (omega arith) (λ e. omega arith)))
  removed-view (suc zero) lt is =
      let f = probation_found is in
      rw (f.0, f.1)
      (same_lists b _ _ _ _ _ _ (dropped-other 1 lt is 0 (omega arith) (λ e. omega arith)) (dropped-here 1 lt is)
      (dropped-other 1 lt is 2 (omega arith) (λ e. omega arith)))
  removed-view (suc (suc zero)) lt is =
      let f = protected_found is in
      rw (f.0, f.1)
      (same_lists b _ _ _ _ _ _ (dropped-other 2 lt is 0 (omega arith) (λ e. omega arith))
      (dropped-other 2 lt is 1 (omega arith) (λ e. omega arith)) (dropped-here 2 lt is))
  removed-view (suc (suc (suc k))) lt is = absurd (omega arith)

  -- the weight of a list, less the item's where it was in that list
  pub removed-weight : (k j : ℕ) → k < 3 → j < 3 → find_in p (list_at ls k) ≡ Some i →
      weight_of (items_in (map (drop_place p) ls) j) + cond (k == j) i.weight 0 ≡ weight_of (items_in ls j)
  removed-weight k j lk lj is = go (k == j) refl where
    go : (t : Bool) → (k == j) ≡ t → weight_of (items_in (map (drop_place p) ls) j) + cond t i.weight 0
        ≡ weight_of (items_in ls j)
    go true e = (let same : k ≡ j = grind (arith, nat_tests) in rw (← same) (dropped-weight k lk is))
    go false e =
        (let ne : k ≢ j = grind (arith, nat_tests) in omega (arith, ap weight_of (dropped-other k lk is j lj ne)))

  -- what holds of every `Lfu` holds after a removal
  pub IsLfu-removed : (k ww pw x y : ℕ) → k < 3 → find_in p (list_at ls k) ≡ Some i → IsLfu (view_of b ls) ww pw → x
      ≡ cond (k == 0) i.weight 0 → y ≡ cond (k == 2) i.weight 0
      → (x ≤ ww) × (y ≤ pw) × IsLfu (view_of b (map (drop_place p) ls)) (ww - x) (pw - y)
  IsLfu-removed k ww pw x y lk is old ex ey =
      let order : all_items (map (drop_place p) ls) ≡ remove_id i.id (all_items ls) =
      ap lfu.order (removed-view k lk is) ∙ lfu_lawful.remove_order (view_of b ls) i.id in
      let w = removed-weight k 0 lk (omega arith) is in
      let q = removed-weight k 2 lk (omega arith) is in
      let all = sum-remove_id (λ (x : Item). x.weight) i.id i (all_items ls) (in_all k lk is) in (
        omega (arith, old.window),
        omega (arith, old.protected),
        record {
          once = rw order (once-remove_id i.id (all_items ls) old.once);
          fits = omega (arith, old.fits, ap weight_of order);
          window = omega (arith, old.window);
          protected = omega (arith, old.protected);
          window_divides = old.window_divides;
          protected_divides = old.protected_divides;
        },
      )

  -- a move to the end of its own list
  module _ (k : ℕ) (lt : k < 3) (is : find_in p (list_at ls k) ≡ Some i) where
    parts : Split p i (list_at ls k)
    parts = split p i (list_at ls k) is

    without_it : map (λ e. e.1) (parts.front ++ parts.back) ≡ remove_id i.id (items_in ls k)
    without_it = ap (λ (l : List (ℕ × Item)). map (λ e. e.1) l) (sym parts.without)
        ∙ items-drop_place self_item p i (list_at ls k) (once_at k lt) (there k lt is)

    within : k < length ls
    within = omega (arith, sound.count)

    pub moved_own-here : items_in (moved p k ls) k ≡ remove_id i.id (items_in ls k) ++ i ∷ []
    moved_own-here =
        let l = (parts.front ++ parts.back) ++ (p, i) ∷ [] in
        ap (λ (x : List (List (ℕ × Item))). items_in x k) (moved-own 3 ls sound k p i parts.front parts.back parts.is)
        ∙ ap (λ (l : List (ℕ × Item)). map (λ e. e.1) l) (get_or-set_same ls k l [] within)
        ∙ map-append (λ (e : ℕ × Item). e.1) (parts.front ++ parts.back) ((p, i) ∷ [])
        ∙ ap (λ (l : List Item). l ++ i ∷ []) without_it

    pub moved_own-other : (j : ℕ) → j ≢ k → items_in (moved p k ls) j ≡ items_in ls j
    moved_own-other j ne =
        let l = (parts.front ++ parts.back) ++ (p, i) ∷ [] in
        ap (λ (x : List (List (ℕ × Item))). items_in x j) (moved-own 3 ls sound k p i parts.front parts.back parts.is)
        ∙ ap (λ (l : List (ℕ × Item)). map (λ e. e.1) l) (get_or-set_other ls k j l [] ne)

    pub moved_own-weight : (j : ℕ) → weight_of (items_in (moved p k ls) j) ≡ weight_of (items_in ls j)
    moved_own-weight j = go (k == j) refl where
      go : (t : Bool) → (k == j) ≡ t → weight_of (items_in (moved p k ls) j) ≡ weight_of (items_in ls j)
      go true e =
          let same : k ≡ j = grind (arith, nat_tests) in
          rw (← same)
          (omega (
            arith,
            ap weight_of moved_own-here,
            sum_by-append (λ (x : Item). x.weight) (remove_id i.id (items_in ls k)) (i ∷ []),
            sum-remove_id (λ (x : Item). x.weight) i.id i (items_in ls k) (in_list k lt is),
          ))
      go false e = (let ne : j ≢ k = grind (arith, nat_tests) in ap weight_of (moved_own-other j ne))

  -- to the end of protected, from probation
  module _ (is : find_in p (list_at ls 1) ≡ Some i) where
    mid : Split p i (list_at ls 1)
    mid = split p i (list_at ls 1) is

    pub promoted-from : items_in (moved p 2 ls) 1 ≡ remove_id i.id (items_in ls 1)
    promoted-from =
        ap (λ (l : List (ℕ × Item)). map (λ e. e.1) l)
        (moved-here 3 ls sound 1 p i mid.front mid.back mid.is 2 (λ h. omega arith))
        ∙ ap (λ (l : List (ℕ × Item)). map (λ e. e.1) l) (sym mid.without)
        ∙ items-drop_place self_item p i (list_at ls 1) (once_at 1 (omega arith)) (there 1 (omega arith) is)

    pub promoted-to : items_in (moved p 2 ls) 2 ≡ items_in ls 2 ++ i ∷ []
    promoted-to =
        ap (λ (l : List (ℕ × Item)). map (λ e. e.1) l)
        (moved-there 3 ls sound 1 p i mid.front mid.back mid.is 2 (λ h. omega arith) (omega (arith, sound.count)))
        ∙ map-append (λ (e : ℕ × Item). e.1) (list_at ls 2) ((p, i) ∷ [])

    pub promoted-window : items_in (moved p 2 ls) 0 ≡ items_in ls 0
    promoted-window = ap (λ (l : List (ℕ × Item)). map (λ e. e.1) l)
        (moved-other 3 ls sound 1 p i mid.front mid.back mid.is 0 2 (λ h. omega arith) (λ h. omega arith))

    pub promoted-weight : weight_of (items_in (moved p 2 ls) 2) ≡ weight_of (items_in ls 2) + i.weight
    promoted-weight =
        omega (arith, ap weight_of promoted-to, sum_by-append (λ (x : Item). x.weight) (items_in ls 2) (i ∷ []))

    -- protected and the item weigh no more than all
    pub promoted-fits : weight_of (items_in ls 2) + i.weight ≤ weight_of (all_items ls)
    promoted-fits =
        omega (
          arith,
          sum_by-append (λ (x : Item). x.weight) (items_in ls 0) (items_in ls 1 ++ items_in ls 2),
          sum_by-append (λ (x : Item). x.weight) (items_in ls 1) (items_in ls 2),
          sum-remove_id (λ (x : Item). x.weight) i.id i (items_in ls 1) (in_list 1 (omega arith) is),
        )

    -- and where protected settles then, that is the model's acquire
    pub promoted-view : (ls2 : List (List (ℕ × Item))) → items_in ls2 2
        ≡ fit (λ x. x.weight) b.protected_limit (items_in (moved p 2 ls) 2)
        → items_in ls2 1 ≡ items_in (moved p 2 ls) 1
        ++ over (λ x. x.weight) b.protected_limit (items_in (moved p 2 ls) 2) → items_in ls2 0
        ≡ items_in (moved p 2 ls) 0
        → view_of (seen b i.hash) ls2 ≡ lfu.acquire (view_of b ls) i.id
    promoted-view ls2 to from window =
        let f = probation_found is in
        let weight : Item → ℕ = λ x. x.weight in
        rw (f.0, f.1)
        (same_lists (seen b i.hash) _ _ _ _ _ _ (window ∙ promoted-window)
        (rw (promoted-from, promoted-to) at from)
        (rw promoted-to at to))

  -- a move within window or protected is the model's acquire
  pub acquired-own : (k : ℕ) → k < 3 → k ≢ 1 → find_in p (list_at ls k) ≡ Some i →
      view_of (seen b i.hash) (moved p k ls) ≡ lfu.acquire (view_of b ls) i.id
  acquired-own zero lt ne is =
      rw (window_found is)
      (same_lists (seen b i.hash) _ _ _ _ _ _ (moved_own-here 0 lt is) (moved_own-other 0 lt is 1 (λ e. omega arith))
      (moved_own-other 0 lt is 2 (λ e. omega arith)))
  acquired-own (suc zero) lt ne is = absurd (ne refl)
  acquired-own (suc (suc zero)) lt ne is =
      let f = protected_found is in
      rw (f.0, f.1, f.2)
      (same_lists (seen b i.hash) _ _ _ _ _ _ (moved_own-other 2 lt is 0 (λ e. omega arith))
      (moved_own-other 2 lt is 1 (λ e. omega arith)) (moved_own-here 2 lt is))
  acquired-own (suc (suc (suc k))) lt ne is = absurd (omega arith)

-- what holds of every `Lfu` holds where its items are rearranged
pub IsLfu-rearranged : (v w : LfuView) (ww pw x y : ℕ) → IsLfu v ww pw → IsPermutation (lfu.order v) (lfu.order w) → x
    ≡ weight_of w.window → y ≡ weight_of w.protected
    → w.window_ratio ≡ v.window_ratio → w.protected_ratio ≡ v.protected_ratio → IsLfu w x y
IsLfu-rearranged v w ww pw x y old perm ex ey rw' rp = record {
  once = λ id. omega (arith, old.once id, sum_by-IsPermutation (one_if id) (lfu.order v) (lfu.order w) perm);
  fits = omega (arith, old.fits, sum_by-IsPermutation (λ (i : Item). i.weight) (lfu.order v) (lfu.order w) perm);
  window = ex;
  protected = ey;
  window_divides = rw rw' old.window_divides;
  protected_divides = rw rp old.protected_divides;
}

-- and after a push
pub IsLfu-pushed : (v : LfuView) (i : Item) (ww pw x : ℕ) → IsLfu v ww pw → IsNewIn i.id (lfu.order v) →
    i.weight + weight_of (lfu.order v) < 2 ^ 64
    → x ≡ weight_of (lfu.push v i).window → IsLfu (lfu.push v i) x pw
IsLfu-pushed v i ww pw x old new fits ex =
    let perm : IsPermutation (i ∷ lfu.order v) (lfu.order (lfu.push v i)) = lfu_lawful.push_order v i in
    let back : IsPermutation (lfu.order v ++ i ∷ []) (i ∷ lfu.order v) = IsPermutation-to_front (lfu.order v) i in
    record {
      once = λ id.
          omega (
            arith,
            once-snoc (lfu.order v) i old.once new id,
            sum_by-IsPermutation (one_if id) (lfu.order v ++ i ∷ []) (i ∷ lfu.order v) back,
            sum_by-IsPermutation (one_if id) (i ∷ lfu.order v) (lfu.order (lfu.push v i)) perm,
          );
      fits = omega (
        arith,
        sum_by-cons (λ (j : Item). j.weight) i (lfu.order v),
        sum_by-IsPermutation (λ (j : Item). j.weight) (i ∷ lfu.order v) (lfu.order (lfu.push v i)) perm,
      );
      window = ex;
      protected = old.protected;
      window_divides = old.window_divides;
      protected_divides = old.protected_divides;
    }

-- a push into the window, which settles then, is the model's push
pub pushed-view : (b : LfuView) (ls ls1 ls2 : List (List (ℕ × Item))) (p : ℕ) (i : Item) → AreLists 3 ls → ls1
    ≡ set ls 0 (list_at ls 0 ++ (p, i) ∷ [])
    → items_in ls2 0 ≡ fit (λ x. x.weight) b.window_limit (items_in ls1 0) → items_in ls2 1 ≡ items_in ls1 1
    ++ over (λ x. x.weight) b.window_limit (items_in ls1 0) → items_in ls2 2 ≡ items_in ls1 2
    → view_of (seen b i.hash) ls2 ≡ lfu.push (view_of b ls) i
pushed-view b ls ls1 ls2 p i sound put window probation protected =
    let here : items_in ls1 0 ≡ items_in ls 0 ++ i ∷ [] =
    ap (λ (x : List (List (ℕ × Item))). items_in x 0) put
    ∙ ap (λ (l : List (ℕ × Item)). map (λ e. e.1) l)
    (get_or-set_same ls 0 (list_at ls 0 ++ (p, i) ∷ []) [] (omega (arith, sound.count)))
    ∙ map-append (λ (e : ℕ × Item). e.1) (list_at ls 0) ((p, i) ∷ []) in
    let one : items_in ls1 1 ≡ items_in ls 1 = ap (λ (x : List (List (ℕ × Item))). items_in x 1) put
    ∙ ap (λ (l : List (ℕ × Item)). map (λ e. e.1) l)
    (get_or-set_other ls 0 1 (list_at ls 0 ++ (p, i) ∷ []) [] (λ e. omega arith)) in
    let two : items_in ls1 2 ≡ items_in ls 2 = ap (λ (x : List (List (ℕ × Item))). items_in x 2) put
    ∙ ap (λ (l : List (ℕ × Item)). map (λ e. e.1) l)
    (get_or-set_other ls 0 2 (list_at ls 0 ++ (p, i) ∷ []) [] (λ e. omega arith)) in
    same_lists (seen b i.hash) _ _ _ _ _ _ (rw here at window) (rw (one, here) at probation) (protected ∙ two)
