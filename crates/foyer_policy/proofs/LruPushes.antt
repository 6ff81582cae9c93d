-- What holds of every `Lru` holds after a push, a pop, an update and a clear.
use Rattle.std.proofs.Common.{◌≡◌, ◌≢◌, ℕ, ◌+◌, ◌<◌, ◌^◌, Bool, true, false, cond, List, [], ◌∷◌, ◌++◌, Some, None, Ok, length, map, set, refl, sym, ◌∙◌, ap, subst, arith}
use Rattle.std.specs.Prelude.{◌==◌, sum_by}
use Rattle.std.specs.List.Sorted.{IsPermutation}
use Rattle.std.proofs.lemmas.Bool.Decides.{nat_tests}
use Rattle.std.proofs.lemmas.List.{map-append, get_or-set_same, get_or-set_other}
use Rattle.std.proofs.lemmas.List.Sums.{sum_by-cons, sum_by-append}
use Rattle.foyer_policy.specs.Queued.{items_of, queued_at}
use Rattle.foyer_policy.specs.Items.{weight_of, IsNewIn, fit, over}
use Rattle.foyer_policy.specs.Limit.{ok_unless, ratio_fault, is_in_range}
use Rattle.foyer_policy.specs.Lists.{list_at, find, find_in, first_value, rest, drop_place, AreLists}
use Rattle.foyer_policy.specs.Lru.{LruView, IsWithinLimit, settle, put, lru}
use Rattle.foyer_policy.specs.LruLaws.{pinned_items, settle-within, settle-order, put-order}
use Rattle.foyer_policy.specs.LruLists.{pinned_of, view_of, state, StatesTell, IsLru, weight_at, low_entry}
use Rattle.foyer_policy.specs.declared.types.Item.{Item}
use Rattle.foyer_policy.specs.declared.types.Ratio.{Ratio}
use Rattle.foyer_policy.specs.declared.error.Field.{Field}
use Rattle.foyer_policy.specs.declared.error.Reason.TheVariants.{ZeroDenominator, RatioRange}
use Rattle.foyer_policy.specs.declared.limit.Range.{Range}
use Rattle.foyer_policy.proofs.ListsLemmas.{find-at}
use Rattle.foyer_policy.proofs.PlaceLemmas.{same_place}
use Rattle.foyer_policy.proofs.PoolLemmas.{three}
use Rattle.foyer_policy.proofs.LruInvariants.{weight, weight_of-items_of, within-permutation, once-cons, rebuilt}
use Rattle.foyer_policy.proofs.LruLemmas.{Node, EachState-append, off}
use Rattle.foyer_policy.proofs.LruViews.{same_view, settle-within_limit, settled-view, settled-tell}

-- a node that comes in
abbrev pub node : Item → Bool → Node
node i high = record { item = i; state = state high false }

module _ (ls : List (List (ℕ × Node))) (limit : ℕ) (ratio : Ratio) (high_weight pinned_weight : ℕ)
    (old : IsLru ls limit ratio high_weight pinned_weight)
    (sound : AreLists 3 ls) where
  module _ (p : ℕ) (i : Item) (fits : i.weight + weight_of (lru.order (view_of ls limit ratio)) < 2 ^ 64) where
    -- the pool has room for the sum
    pub pushed_sum : high_weight + i.weight < 2 ^ 64
    pushed_sum =
        let high = items_of (list_at ls 1) in
        let pins = pinned_items (map pinned_of (list_at ls 2)) in
        omega (
          arith,
          fits,
          old.high,
          sum_by-append weight (items_of (list_at ls 0)) (high ++ pins),
          sum_by-append weight high pins,
        )

    pushed_all : weight_of (i ∷ lru.order (view_of ls limit ratio)) < 2 ^ 64
    pushed_all = omega (arith, fits, sum_by-cons weight i (lru.order (view_of ls limit ratio)))

    -- a push to the low list
    module _ (ls2 : List (List (ℕ × Node)))
        (pushed : ls2 ≡ set ls 0 (list_at ls 0 ++ (p, node i false) ∷ [])) where
      low-here : list_at ls2 0 ≡ list_at ls 0 ++ (p, node i false) ∷ []
      low-here = ap (λ (x : List (List (ℕ × Node))). list_at x 0) pushed
          ∙ get_or-set_same ls 0 (list_at ls 0 ++ (p, node i false) ∷ []) [] (omega (arith, sound.count))

      low-other : (k : ℕ) → k ≢ 0 → list_at ls2 k ≡ list_at ls k
      low-other k ne = ap (λ (x : List (List (ℕ × Node))). list_at x k) pushed
          ∙ get_or-set_other ls 0 k (list_at ls 0 ++ (p, node i false) ∷ []) [] ne

      low-put : view_of ls2 limit ratio ≡ put (view_of ls limit ratio) i false
      low-put =
          same_view limit ratio _ _ _ _ _ _
          (ap items_of low-here ∙ map-append (λ (e : ℕ × Node). e.1.item) (list_at ls 0) ((p, node i false) ∷ []))
          (ap items_of (low-other 1 (λ e. omega arith))) (ap (map pinned_of) (low-other 2 (λ e. omega arith)))

      pub pushed_low : view_of ls2 limit ratio ≡ settle (put (view_of ls limit ratio) i false)
      pushed_low = low-put ∙ sym (settle-within_limit (put (view_of ls limit ratio) i false) old.within)

      pub pushed_low_is : IsNewIn i.id (lru.order (view_of ls limit ratio)) →
          IsLru ls2 limit ratio high_weight pinned_weight
      pushed_low_is new =
          let v = view_of ls limit ratio in
          let w = view_of ls2 limit ratio in
          let moves : IsPermutation (i ∷ lru.order v) (lru.order w) =
          subst (λ (x : LruView). IsPermutation (i ∷ lru.order v) (lru.order x)) (sym low-put)
          (put-order v i false) in
          let high : weight_of (items_of (list_at ls2 1)) ≡ weight_of (items_of (list_at ls 1)) =
          ap (λ (x : LruView). weight_of x.high) low-put in
          let pins : weight_of (pinned_items (map pinned_of (list_at ls2 2)))
          ≡ weight_of (pinned_items (map pinned_of (list_at ls 2))) =
          ap (λ (x : LruView). weight_of (pinned_items x.pin)) low-put in
          let tell : StatesTell ls2 = record {
            low = rw low-here
                (EachState-append (λ s. s ≡ state false false) (list_at ls 0) ((p, node i false) ∷ []) old.tell.low
                (refl, tt));
            high = rw (low-other 1 (λ e. omega arith)) old.tell.high;
            pin = rw (low-other 2 (λ e. omega arith)) old.tell.pin;
          } in
          rebuilt ls2 limit ratio high_weight pinned_weight (i ∷ lru.order v)
          (once-cons i (lru.order v) old.once new) pushed_all
          (within-permutation (i ∷ lru.order v) (lru.order w) moves)
          (omega (arith, high, old.within)) tell (omega (arith, high, old.high)) (omega (arith, pins, old.pinned))
          old.divides

    -- a push to the pool, which then settles
    module _ (ls1 : List (List (ℕ × Node))) (pushed : ls1 ≡ set ls 1 (list_at ls 1 ++ (p, node i true) ∷ [])) where
      high-here : list_at ls1 1 ≡ list_at ls 1 ++ (p, node i true) ∷ []
      high-here = ap (λ (x : List (List (ℕ × Node))). list_at x 1) pushed
          ∙ get_or-set_same ls 1 (list_at ls 1 ++ (p, node i true) ∷ []) [] (omega (arith, sound.count))

      high-other : (k : ℕ) → k ≢ 1 → list_at ls1 k ≡ list_at ls k
      high-other k ne = ap (λ (x : List (List (ℕ × Node))). list_at x k) pushed
          ∙ get_or-set_other ls 1 k (list_at ls 1 ++ (p, node i true) ∷ []) [] ne

      high-put : view_of ls1 limit ratio ≡ put (view_of ls limit ratio) i true
      high-put =
          same_view limit ratio _ _ _ _ _ _ (ap items_of (high-other 0 (λ e. omega arith)))
          (ap items_of high-here ∙ map-append (λ (e : ℕ × Node). e.1.item) (list_at ls 1) ((p, node i true) ∷ []))
          (ap (map pinned_of) (high-other 2 (λ e. omega arith)))

      pub pushed_weight : high_weight + i.weight ≡ sum_by weight_at (list_at ls1 1)
      pushed_weight =
          let e : weight_of (items_of (list_at ls1 1)) ≡ weight_of (items_of (list_at ls 1) ++ i ∷ []) =
          ap (λ (x : LruView). weight_of x.high) high-put in
          omega (
            arith,
            e,
            weight_of-items_of (list_at ls1 1),
            sum_by-append weight (items_of (list_at ls 1)) (i ∷ []),
            sum_by-cons weight i [],
            old.high,
          )

      module _ (ls2 : List (List (ℕ × Node)))
          (low2 : list_at ls2 0 ≡ list_at ls1 0 ++ map low_entry (over weight_at limit (list_at ls1 1)))
          (high2 : list_at ls2 1 ≡ fit weight_at limit (list_at ls1 1)) (pin2 : list_at ls2 2 ≡ list_at ls1 2) where
        pub pushed_high : view_of ls2 limit ratio ≡ settle (put (view_of ls limit ratio) i true)
        pushed_high = settled-view ls1 ls2 limit low2 high2 pin2 ratio ∙ ap settle high-put

        pub pushed_high_is : IsNewIn i.id (lru.order (view_of ls limit ratio)) → (high_weight2 : ℕ) → high_weight2
            ≡ sum_by weight_at (list_at ls2 1) → IsLru ls2 limit ratio high_weight2 pinned_weight
        pushed_high_is new high_weight2 sum =
            let v = view_of ls limit ratio in
            let w = view_of ls2 limit ratio in
            let order : lru.order w ≡ lru.order (put v i true) = ap lru.order pushed_high
            ∙ settle-order (put v i true) in
            let moves : IsPermutation (i ∷ lru.order v) (lru.order w) =
            subst (λ (l : List Item). IsPermutation (i ∷ lru.order v) l) (sym order) (put-order v i true) in
            let pins : weight_of (pinned_items (map pinned_of (list_at ls2 2)))
            ≡ weight_of (pinned_items (map pinned_of (list_at ls 2))) =
            ap (λ (x : LruView). weight_of (pinned_items x.pin)) pushed_high in
            let tell : StatesTell ls1 = record {
              low = rw (high-other 0 (λ e. omega arith)) old.tell.low;
              high = rw high-here
                  (EachState-append (λ s. s ≡ state true false) (list_at ls 1) ((p, node i true) ∷ []) old.tell.high
                  (refl, tt));
              pin = rw (high-other 2 (λ e. omega arith)) old.tell.pin;
            } in
            let within : IsWithinLimit w = subst (λ (x : LruView). IsWithinLimit x) (sym pushed_high)
            (settle-within (put v i true)) in
            rebuilt ls2 limit ratio high_weight2 pinned_weight (i ∷ lru.order v)
            (once-cons i (lru.order v) old.once new) pushed_all
            (within-permutation (i ∷ lru.order v) (lru.order w) moves)
            within (settled-tell ls1 ls2 limit low2 high2 pin2 tell) (sum ∙ sym (weight_of-items_of (list_at ls2 1)))
            (omega (arith, pins, old.pinned)) old.divides

module _ (ls : List (List (ℕ × Node))) (limit : ℕ) (ratio : Ratio) (high_weight pinned_weight : ℕ)
    (old : IsLru ls limit ratio high_weight pinned_weight) where
  -- an update, whose new limit settles the pool
  module _ (limit2 : ℕ) (ratio2 : Ratio) (ls2 : List (List (ℕ × Node)))
      (low2 : list_at ls2 0 ≡ list_at ls 0 ++ map low_entry (over weight_at limit2 (list_at ls 1)))
      (high2 : list_at ls2 1 ≡ fit weight_at limit2 (list_at ls 1)) (pin2 : list_at ls2 2 ≡ list_at ls 2) where
    pub updated_is : 0 < ratio2.den → (high_weight2 : ℕ) → high_weight2 ≡ sum_by weight_at (list_at ls2 1) →
        IsLru ls2 limit2 ratio2 high_weight2 pinned_weight
    updated_is divides high_weight2 sum =
        let v = view_of ls limit2 ratio2 in
        let w = view_of ls2 limit2 ratio2 in
        let to = settled-view ls ls2 limit2 low2 high2 pin2 ratio2 in
        let order : lru.order w ≡ lru.order v = ap lru.order to ∙ settle-order v in
        let within : IsWithinLimit w = subst (λ (x : LruView). IsWithinLimit x) (sym to) (settle-within v) in
        let pins : weight_of (pinned_items (map pinned_of (list_at ls2 2)))
        ≡ weight_of (pinned_items (map pinned_of (list_at ls 2))) =
        ap (λ (x : LruView). weight_of (pinned_items x.pin)) to in
        rebuilt ls2 limit2 ratio2 high_weight2 pinned_weight (lru.order v) old.once old.fits
        (λ f. omega (arith, ap (sum_by f) order))
        within (settled-tell ls ls2 limit2 low2 high2 pin2 old.tell) (sum ∙ sym (weight_of-items_of (list_at ls2 1)))
        (omega (arith, pins, old.pinned)) divides

-- a pop of the first node of a list: where it stood, and that it was taken out as by a removal
pub record Popped (ls ls2 : List (List (ℕ × Node))) (k : ℕ) (n : Node) : Type 0 where
  pub place : ℕ
  pub there : find_in place (list_at ls k) ≡ Some n
  pub found : find place ls ≡ Some n
  pub dropped : ls2 ≡ map (drop_place place) ls

popped_entry : (n : Node) (l : List (ℕ × Node)) → Some n ≡ first_value l → (e : ℕ × Node) × (es : List (ℕ × Node))
    × (l ≡ e ∷ es) × (e.1 ≡ n)
popped_entry n [] h = absurd cc
popped_entry n (e ∷ es) h = (e, es, refl, cc)

module _ (ls ls2 : List (List (ℕ × Node))) (sound : AreLists 3 ls) (n : Node) where
  from_0 : ls2 ≡ set ls 0 (rest (list_at ls 0)) → (e : ℕ × Node) (es : List (ℕ × Node)) → list_at ls 0 ≡ e ∷ es → e.1
      ≡ n → Popped ls ls2 0 n
  from_0 popped e es is same =
      let p = e.0 in
      let there : find_in p (list_at ls 0) ≡ Some n = rw (is, same_place p) (ap (λ (m : Node). Some m) same) in
      let first : drop_place p (list_at ls 0) ≡ es = rw (is, same_place p) refl in
      let tail : rest (list_at ls 0) ≡ es = ap rest is in
      let off_1 = off ls sound p n 0 1 (omega arith) (omega arith) (λ e. omega arith) there in
      let off_2 = off ls sound p n 0 2 (omega arith) (omega arith) (λ e. omega arith) there in
      let now : ls2 ≡ rest (list_at ls 0) ∷ list_at ls 1 ∷ list_at ls 2 ∷ [] = popped
      ∙ ap (λ (y : List (List (ℕ × Node))). set y 0 (rest (list_at ls 0))) (three ls sound.count) in
      let then : map (drop_place p) ls ≡ drop_place p (list_at ls 0) ∷ drop_place p (list_at ls 1) ∷ drop_place p
      (list_at ls 2) ∷ [] = ap (map (drop_place p)) (three ls sound.count) in
      record {
        place = p;
        there = there;
        found = find-at 3 ls 0 p n sound (omega (arith, sound.count)) there;
        dropped = now ∙ sym (then ∙ rw (first, off_1, off_2, tail) refl);
      }

  pub popped_low : Some n ≡ first_value (list_at ls 0) → ls2 ≡ set ls 0 (rest (list_at ls 0)) → Popped ls ls2 0 n
  popped_low h popped = (let x = popped_entry n (list_at ls 0) h in from_0 popped x.0 x.1 x.2 x.3)

  from_1 : ls2 ≡ set ls 1 (rest (list_at ls 1)) → (e : ℕ × Node) (es : List (ℕ × Node)) → list_at ls 1 ≡ e ∷ es → e.1
      ≡ n → Popped ls ls2 1 n
  from_1 popped e es is same =
      let p = e.0 in
      let there : find_in p (list_at ls 1) ≡ Some n = rw (is, same_place p) (ap (λ (m : Node). Some m) same) in
      let first : drop_place p (list_at ls 1) ≡ es = rw (is, same_place p) refl in
      let tail : rest (list_at ls 1) ≡ es = ap rest is in
      let off_0 = off ls sound p n 1 0 (omega arith) (omega arith) (λ e. omega arith) there in
      let off_2 = off ls sound p n 1 2 (omega arith) (omega arith) (λ e. omega arith) there in
      let now : ls2 ≡ list_at ls 0 ∷ rest (list_at ls 1) ∷ list_at ls 2 ∷ [] = popped
      ∙ ap (λ (y : List (List (ℕ × Node))). set y 1 (rest (list_at ls 1))) (three ls sound.count) in
      let then : map (drop_place p) ls ≡ drop_place p (list_at ls 0) ∷ drop_place p (list_at ls 1) ∷ drop_place p
      (list_at ls 2) ∷ [] = ap (map (drop_place p)) (three ls sound.count) in
      record {
        place = p;
        there = there;
        found = find-at 3 ls 1 p n sound (omega (arith, sound.count)) there;
        dropped = now ∙ sym (then ∙ rw (first, off_0, off_2, tail) refl);
      }

  pub popped_high : Some n ≡ first_value (list_at ls 1) → ls2 ≡ set ls 1 (rest (list_at ls 1)) → Popped ls ls2 1 n
  popped_high h popped = (let x = popped_entry n (list_at ls 1) h in from_1 popped x.0 x.1 x.2 x.3)

  -- nothing is taken out of an empty list
  pub popped_nothing : None ≡ first_value (list_at ls 0) → ls2 ≡ set ls 0 (rest (list_at ls 0)) → ls2 ≡ ls
  popped_nothing h popped =
      let now : ls2 ≡ rest (list_at ls 0) ∷ list_at ls 1 ∷ list_at ls 2 ∷ [] = popped
      ∙ ap (λ (y : List (List (ℕ × Node))). set y 0 (rest (list_at ls 0))) (three ls sound.count) in
      now ∙ ap (λ (l : List (ℕ × Node)). l ∷ list_at ls 1 ∷ list_at ls 2 ∷ []) (same (list_at ls 0) h)
      ∙ sym (three ls sound.count) where
        same : (l : List (ℕ × Node)) → None ≡ first_value l → rest l ≡ l
        same [] h = refl
        same (e ∷ es) h = absurd cc

-- three empty lists hold nothing
pub nothing_held : (ls ls2 : List (List (ℕ × Node))) → ls2 ≡ set (set (set ls 0 []) 1 []) 2 [] → length ls2 ≡ 3 →
    (q : ℕ) → queued_at q ls2 ≡ None
nothing_held [] ls2 is count q = (let e : ls2 ≡ [] = is in absurd (omega (arith, ap length e)))
nothing_held (a ∷ []) ls2 is count q = (let e : ls2 ≡ [] ∷ [] = is in absurd (omega (arith, ap length e)))
nothing_held (a ∷ (b ∷ [])) ls2 is count q = (let e : ls2 ≡ [] ∷ [] ∷ [] = is in absurd (omega (arith, ap length e)))
nothing_held (a ∷ (b ∷ (c ∷ []))) ls2 is count q = (let e : ls2 ≡ [] ∷ [] ∷ [] ∷ [] = is in rw e refl)
nothing_held (a ∷ (b ∷ (c ∷ (d ∷ ds)))) ls2 is count q =
    (let e : ls2 ≡ [] ∷ [] ∷ [] ∷ d ∷ ds = is in absurd (omega (arith, ap length e)))

-- a ratio that is accepted has a denominator
pub accepted-divides : (range : Range) (field : Field) (ratio : Ratio) (done : Unit {0}) →
    ok_unless (ratio_fault range field ratio) ≡ Ok done → 0 < ratio.den
accepted-divides range field ratio done h = go (ratio.den == 0) refl h where
  go : (b : Bool) → (ratio.den == 0) ≡ b → ok_unless
      (cond b (Some ZeroDenominator) (cond (is_in_range range ratio) None (Some (RatioRange field)))) ≡ Ok done →
      0 < ratio.den
  go true is e = absurd cc
  go false is e = grind (arith, nat_tests)
