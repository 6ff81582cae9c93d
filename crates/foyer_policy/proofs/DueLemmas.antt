-- The first due item of some lists, and of a policy's order.
use Rattle.std.proofs.Common.{◌≡◌, ℕ, zero, suc, ◌+◌, ◌<◌, ◌≤◌, Bool, true, false, cond, List, [], ◌∷◌, ◌++◌, Option, Some, None, length, map, refl, sym, ◌∙◌, ap, subst, arith, append_assoc, inl, inr}
use Rattle.std.specs.Prelude.{◌==◌, ◌&&◌, IfSome, IsSome, is_some, option_and_then, option_map}
use Rattle.std.specs.List.{filter}
use Rattle.std.proofs.lemmas.Bool.Decides.{nat_tests}
use Rattle.std.proofs.lemmas.List.{map-append, append-nil}
use Rattle.std.proofs.lemmas.List.Sums.{sum_by-append}
use Rattle.std.proofs.lemmas.List.Elements.{filter-append}
use Rattle.foyer_policy.specs.Dues.{first_item, first_lists}
use Rattle.foyer_policy.specs.Lists.{list_at, find, find_in, first_or, IsFree, IsDistinct}
use Rattle.foyer_policy.specs.Items.{count_of, IsNewIn, HasIdsOnce}
use Rattle.foyer_policy.specs.Policy.{Policy}
use Rattle.foyer_policy.specs.ItemLaws.{one_if, count-same, count-cons}
use Rattle.foyer_policy.specs.Moments.{is_due_unpinned, due_items, first_due}
use Rattle.foyer_policy.specs.declared.types.Item.{Item}
use Rattle.foyer_policy.proofs.ListsLemmas.{below_or_past, is_in}
use Rattle.foyer_policy.proofs.MomentsClosed.{kept-found}
use Rattle.foyer_policy.proofs.PlaceLemmas.{same_place, other_place, IsDistinct-mid}
use Rattle.foyer_policy.proofs.WalkLemmas.{Walk, Stop, walk-start, walk-end, walk-stop, walk-on}

module _ (due : Item → Bool) where
  -- a due item of the front is the first of all
  pub first-front : (xs ys : List Item) (i : Item) → first_item (filter due xs) ≡ Some i →
      first_item (filter due (xs ++ ys)) ≡ Some i
  first-front xs ys i h = rw (filter-append due xs ys) (go (filter due xs) h) where
    go : (l : List Item) → first_item l ≡ Some i → first_item (l ++ filter due ys) ≡ Some i
    go [] h = absurd cc
    go (x ∷ l) h = h

  -- where the front has none, the first is that of the back
  pub none-front : (xs ys : List Item) → filter due xs ≡ [] → filter due (xs ++ ys) ≡ filter due ys
  none-front xs ys h = filter-append due xs ys ∙ ap (λ (l : List Item). l ++ filter due ys) h

  -- the first due item of some lists is the first of more of them
  module _ {T : Type 0} (item : T → Item) (ls : List (List (ℕ × T))) where
    more_lists : (k n : ℕ) (i : Item) → k ≤ n → first_item (filter due (first_lists item ls k)) ≡ Some i →
        first_item (filter due (first_lists item ls n)) ≡ Some i
    more_lists k zero i le h =
        let e : k ≡ zero = omega arith in
        subst (λ (x : ℕ). first_item (filter due (first_lists item ls x)) ≡ Some i) e h
    more_lists k (suc n) i le h = elim (below_or_past k (suc n)) [
      | inl lt ↦ first-front (first_lists item ls n) (map (λ e. item e.1) (list_at ls n)) i
          (more_lists k n i (omega (arith, lt)) h)
      | inr past ↦
          let e : k ≡ suc n = omega (arith, past, le) in
          subst (λ (x : ℕ). first_item (filter due (first_lists item ls x)) ≡ Some i) e h
    ]

    pub lists-found : (k n : ℕ) (r : Option ℕ) → k < n → is_some r ≡ true → IfSome r (λ p. IsSome (find p ls)) →
        filter due (first_lists item ls k) ≡ []
        → option_and_then (λ p. option_map item (find p ls)) r
        ≡ first_item (filter due (map (λ e. item e.1) (list_at ls k)))
        → option_and_then (λ p. option_map item (find p ls)) r ≡ first_item (filter due (first_lists item ls n))
    lists-found k n None lt some there none first = absurd cc
    lists-found k n (Some p) lt some there none first =
        let found = is_in p ls there in
        let at : option_map item (find p ls) ≡ Some (item found.value) = rw found.found refl in
        let one : first_item (filter due (first_lists item ls (suc k))) ≡ Some (item found.value) =
        ap first_item (none-front (first_lists item ls k) (map (λ e. item e.1) (list_at ls k)) none)
        ∙ (sym first ∙ at) in
        at ∙ sym (more_lists (suc k) n (item found.value) (omega arith) one)

  -- where pinned items stand behind all others, the first due item is the first that is due among these
  not_pinned : (xs pinned : List Item) → ((id : ℕ) → count_of id xs + count_of id pinned ≤ 1) →
      filter (is_due_unpinned due pinned) xs ≡ filter due xs
  not_pinned [] pinned once = refl
  not_pinned (x ∷ xs) pinned once =
      let free : IsNewIn x.id pinned = omega (arith, once x.id, count-same x xs) in
      let test : (count_of x.id pinned == 0) ≡ true = grind (arith, nat_tests) in
      let rest = not_pinned xs pinned (λ id. omega (arith, once id, count-cons id x xs)) in
      rw test (go (due x) rest) where
        go : (b : Bool) → filter (is_due_unpinned due pinned) xs ≡ filter due xs →
            cond (b && true) (x ∷ filter (is_due_unpinned due pinned) xs) (filter (is_due_unpinned due pinned) xs)
            ≡ cond b (x ∷ filter due xs) (filter due xs)
        go true rec = ap (λ r. x ∷ r) rec
        go false rec = rec

  all_pinned : (ys pinned : List Item) → ((id : ℕ) → count_of id ys ≤ count_of id pinned) →
      filter (is_due_unpinned due pinned) ys ≡ []
  all_pinned [] pinned within = refl
  all_pinned (y ∷ ys) pinned within =
      let there : 1 ≤ count_of y.id pinned = omega (arith, within y.id, count-same y ys) in
      let test : (count_of y.id pinned == 0) ≡ false = grind (arith, nat_tests) in
      let rest = all_pinned ys pinned (λ id. omega (arith, within id, count-cons id y ys)) in
      rw test (go (due y) rest) where
        go : (b : Bool) → filter (is_due_unpinned due pinned) ys ≡ [] →
            cond (b && false) (y ∷ filter (is_due_unpinned due pinned) ys) (filter (is_due_unpinned due pinned) ys) ≡ []
        go true rec = rec
        go false rec = rec

  module _ {V C : Type 0} (m : Policy V C) where
    pub first_due-is : (v : V) (xs : List Item) → m.order v ≡ xs ++ m.pinned v → HasIdsOnce (m.order v) →
        first_due due m v ≡ first_item (filter due xs)
    first_due-is v xs parts once = go (filter due xs) refl where
      both : (id : ℕ) → count_of id xs + count_of id (m.pinned v) ≤ 1
      both id = (let h : count_of id (xs ++ m.pinned v) ≤ 1 = rw (← parts) (once id) in
          omega (arith, h, sum_by-append (one_if id) xs (m.pinned v)))

      are : due_items due m v ≡ filter due xs
      are = ap (filter (is_due_unpinned due (m.pinned v))) parts
          ∙ filter-append (is_due_unpinned due (m.pinned v)) xs (m.pinned v)
          ∙ ap (λ (l : List Item). l ++ filter (is_due_unpinned due (m.pinned v)) (m.pinned v))
          (not_pinned xs (m.pinned v) both)
          ∙ ap (λ (l : List Item). filter due xs ++ l) (all_pinned (m.pinned v) (m.pinned v) (λ id. omega arith))
          ∙ append-nil (filter due xs)

      go : (l : List Item) → filter due xs ≡ l → first_due due m v ≡ first_item l
      go [] e = rw (are, e) refl
      go (i ∷ js) e = rw (are, e)
          (kept-found (is_due_unpinned due (m.pinned v)) (m.order v) js i once (are ∙ e))

    -- where none is pinned
    pub first_due-all : (v : V) → m.pinned v ≡ [] → HasIdsOnce (m.order v) → first_due due m v
        ≡ first_item (filter due (m.order v))
    first_due-all v none once = first_due-is v (m.order v)
        (sym (ap (λ (l : List Item). m.order v ++ l) none ∙ append-nil (m.order v))) once

-- how many entries stand from a place on
abbrev pub left : {T : Type 0} → Option ℕ → List (ℕ × T) → ℕ
left None l = 0
left (Some p) [] = 0
left (Some p) (e ∷ es) = cond (e.0 == p) (suc (length es)) (left (Some p) es)

module _ {T : Type 0} where
  pub left-mid : (p : ℕ) (v : T) (xs ys : List (ℕ × T)) → IsFree p xs → left (Some p) (xs ++ (p, v) ∷ ys)
      ≡ suc (length ys)
  left-mid p v [] ys free = rw (same_place p) refl
  left-mid p v (x ∷ xs) ys free = rw (other_place x.0 p free.0) (left-mid p v xs ys free.1)

  pub left-next : (p : ℕ) (v : T) (done todo all : List (ℕ × T)) (next : Option ℕ) → IsDistinct all →
      all ≡ done ++ (p, v) ∷ todo → next ≡ first_or todo None → left (Some p) all ≡ suc (left next all)
  left-next p v done todo all next distinct parts here =
      let d : IsDistinct (done ++ (p, v) ∷ todo) = subst (λ (l : List (ℕ × T)). IsDistinct l) parts distinct in
      rw (here, parts) (left-mid p v done todo (IsDistinct-mid p v done todo d).0 ∙ go todo d) where
        go : (todo : List (ℕ × T)) → IsDistinct (done ++ (p, v) ∷ todo) →
            suc (length todo) ≡ suc (left (first_or todo None) (done ++ (p, v) ∷ todo))
        go [] d = refl
        go (e ∷ es) d =
            let whole : done ++ (p, v) ∷ (e ∷ es) ≡ (done ++ (p, v) ∷ []) ++ e ∷ es =
            sym (append_assoc done ((p, v) ∷ []) (e ∷ es)) in
            let free = IsDistinct-mid e.0 e.1 (done ++ (p, v) ∷ []) es
            (subst (λ (l : List (ℕ × T)). IsDistinct l) whole d) in
            rw whole (ap (λ (n : ℕ). suc n) (sym (left-mid e.0 e.1 (done ++ (p, v) ∷ []) es free.0)))

-- a walk along a list that met no due item
module _ {T : Type 0} (due : Item → Bool) (item : T → Item) where
  pub record Seen (all : List (ℕ × T)) (next : Option ℕ) : Type 0 where
    pub met : List Item
    pub walk : Walk item [] all next met
    pub none : filter due met ≡ []

  pub seen-start : (all : List (ℕ × T)) → Seen all (first_or all None)
  seen-start all = record { met = []; walk = walk-start item [] all; none = refl }

  pub seen-end : (all : List (ℕ × T)) → Seen all None → filter due (map (λ e. item e.1) all) ≡ []
  seen-end all s = ap (filter due) (sym (walk-end item [] all s.met s.walk)) ∙ s.none

  module _ (all : List (ℕ × T)) (distinct : IsDistinct all) (p : ℕ) (s : Seen all (Some p)) where
    pub seen-stop : Stop item [] all p s.met
    seen-stop = walk-stop item [] all p s.met distinct s.walk

    pub seen-due : (v : T) → find_in p all ≡ Some v → due (item v) ≡ true →
        first_item (filter due (map (λ e. item e.1) all)) ≡ Some (item v)
    seen-due v found is =
        let stop = seen-stop in
        let same : stop.value ≡ v = (let e : Some stop.value ≡ Some v = sym stop.found ∙ found in cc) in
        let rest = map (λ (e : ℕ × T). item e.1) stop.todo in
        let met = map (λ (e : ℕ × T). item e.1) stop.done in
        let none : filter due met ≡ [] = ap (filter due) (sym stop.told) ∙ s.none in
        let parts : map (λ (e : ℕ × T). item e.1) all ≡ met ++ item v ∷ rest =
        ap (map (λ (e : ℕ × T). item e.1)) stop.parts
        ∙ map-append (λ (e : ℕ × T). item e.1) stop.done ((p, stop.value) ∷ stop.todo)
        ∙ ap (λ (x : T). met ++ item x ∷ rest) same in
        rw (parts, none-front due met (item v ∷ rest) none, is) refl

    pub seen-on : (v : T) (next : Option ℕ) → find_in p all ≡ Some v → due (item v) ≡ false
        → ((xs ys : List (ℕ × T)) (w : T) → all ≡ xs ++ (p, w) ∷ ys → next ≡ first_or ys None) → Seen all next
    seen-on v next found is after = record {
      met = s.met ++ item v ∷ [];
      walk = walk-on item [] all p next s.met v seen-stop found after;
      none = none-front due s.met (item v ∷ []) s.none ∙ rw is refl;
    }

    pub seen-left : (next : Option ℕ)
        → ((xs ys : List (ℕ × T)) (w : T) → all ≡ xs ++ (p, w) ∷ ys → next ≡ first_or ys None) →
        left (Some p) all ≡ suc (left next all)
    seen-left next after =
        let stop = seen-stop in
        left-next p stop.value stop.done stop.todo all next distinct stop.parts
        (after stop.done stop.todo stop.value stop.parts)

-- a value that is an item is found as it is
pub plain-found : (ls : List (List (ℕ × Item))) (o : Option ℕ) → option_and_then (λ p. option_map (λ i. i) (find p ls)) o
    ≡ option_and_then (λ p. find p ls) o
plain-found ls None = refl
plain-found ls (Some p) = go (find p ls) where
  go : (o : Option Item) → option_map (λ i. i) o ≡ o
  go None = refl
  go (Some i) = refl
