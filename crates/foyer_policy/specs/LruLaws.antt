-- Least recently used is a policy, and its pool of high priority stays within its limit.
use Rattle.std.proofs.Common.{◌≡◌, ℕ, zero, suc, Bool, true, false, cond, List, [], ◌∷◌, ◌++◌, Option, Some, None, length, map, refl, sym, ◌∙◌, ap, subst, arith, inl, inr, append_assoc}
use Rattle.std.specs.Prelude.{◌==◌, is_some, option_map}
use Rattle.std.specs.List.Sorted.{IsPermutation}
use Rattle.std.proofs.lemmas.Bool.Decides.{nat_tests}
use Rattle.std.proofs.lemmas.List.{map-append}
use Rattle.std.proofs.lemmas.List.Sums.{sum_by-append}
use Rattle.std.proofs.lemmas.List.Sorted.{IsPermutation-refl, IsPermutation-sym, IsPermutation-trans, IsPermutation-to_front, IsPermutation-middle, IsPermutation-append_left, IsPermutation-append_right}
use Rattle.foyer_policy.specs.Errors.{kind_of}
use Rattle.foyer_policy.specs.Items.{IsNewIn, HasIdsOnce, IsWithin, remove_id, find_id, fit, over}
use Rattle.foyer_policy.specs.Limit.{ratio_fault, is_in_range}
use Rattle.foyer_policy.specs.Policy.{IsPolicy, PinsAtMost, removed}
use Rattle.foyer_policy.specs.PopTimes.{pop_times}
use Rattle.foyer_policy.specs.Lru.{Pinned, LruView, IsWithinLimit, settle, put, is_high_hint, find_pin, remove_pin, pin_found, unpin_found, limits_or, with_limits, lru}
use Rattle.foyer_policy.specs.FitLaws.{over-fit, fit_within}
use Rattle.foyer_policy.specs.PartLaws.{IsPermutation-remove_id, remove_id-none, remove_id-new, find_id-front, remove_id-front, find_id-back, remove_id-back, find_id-one_part}
use Rattle.foyer_policy.specs.declared.types.Item.{Item}
use Rattle.foyer_policy.specs.declared.types.Ratio.{Ratio}
use Rattle.foyer_policy.specs.declared.limit.Range.{Range}
use Rattle.foyer_policy.specs.declared.limit.Range.TheVariants.{Closed}
use Rattle.foyer_policy.specs.declared.error.ErrorKind.TheVariants.{Config}
use Rattle.foyer_policy.specs.declared.error.Field.{Field}
use Rattle.foyer_policy.specs.declared.error.Field.TheVariants.{HighPriorityPool}
use Rattle.foyer_policy.specs.declared.error.Reason.{Reason}
use Rattle.foyer_policy.specs.declared.error.Reason.TheVariants.{ZeroDenominator, RatioRange}

-- the items that are pinned
abbrev pub pinned_items : List Pinned → List Item
pinned_items = map (λ p. p.item)

-- a view of these parts
abbrev pub view : List Item → List Item → List Pinned → ℕ → Ratio → LruView
view low high pin limit ratio = record { low = low; high = high; pin = pin; limit = limit; ratio = ratio }

-- a fault of a ratio has to do with the configuration
pub ratio_fault-kind : (range : Range) (field : Field) (ratio : Ratio) (reason : Reason) →
    ratio_fault range field ratio ≡ Some reason → kind_of reason ≡ Config
ratio_fault-kind range field ratio reason h = go (ratio.den == 0) (is_in_range range ratio) h where
  go : (b c : Bool) → cond b (Some ZeroDenominator) (cond c None (Some (RatioRange field))) ≡ Some reason →
      kind_of reason ≡ Config
  go true c e = (let s : ZeroDenominator ≡ reason = cc in ap kind_of (sym s))
  go false true e = absurd cc
  go false false e = (let s : RatioRange field ≡ reason = cc in ap kind_of (sym s))

-- settling keeps the order and the pins, and leaves the pool within its limit
pub settle-order : (v : LruView) → lru.order (settle v) ≡ lru.order v
settle-order v =
    let weight : Item → ℕ = λ i. i.weight in
    let a = over weight v.limit v.high in
    let b = fit weight v.limit v.high in
    let p = pinned_items v.pin in
    append_assoc v.low a (b ++ p) ∙ ap (λ (l : List Item). v.low ++ l)
    (sym (append_assoc a b p) ∙ ap (λ (l : List Item). l ++ p) (sym (over-fit weight v.limit v.high)))

pub settle-within : (v : LruView) → IsWithinLimit (settle v)
settle-within v = fit_within (λ (i : Item). i.weight) v.limit v.high

settled : (v w : LruView) → IsPermutation (lru.order v) (lru.order w) →
    IsPermutation (lru.order v) (lru.order (settle w))
settled v w h = subst (λ (l : List Item). IsPermutation (lru.order v) l) (sym (settle-order w)) h

-- an item that is put somewhere is added to the order
pub put-order : (v : LruView) (i : Item) (b : Bool) → IsPermutation (i ∷ lru.order v) (lru.order (put v i b))
put-order v i true =
    let p = pinned_items v.pin in
    let m : IsPermutation (i ∷ ((v.low ++ v.high) ++ p)) ((v.low ++ v.high) ++ (i ∷ p)) =
    IsPermutation-sym ((v.low ++ v.high) ++ (i ∷ p)) (i ∷ ((v.low ++ v.high) ++ p))
    (IsPermutation-middle (v.low ++ v.high) i p) in
    simp append_assoc (simp append_assoc at m)
put-order v i false =
    let p = pinned_items v.pin in
    let m : IsPermutation (i ∷ (v.low ++ (v.high ++ p))) (v.low ++ (i ∷ (v.high ++ p))) =
    IsPermutation-sym (v.low ++ (i ∷ (v.high ++ p))) (i ∷ (v.low ++ (v.high ++ p)))
    (IsPermutation-middle v.low i (v.high ++ p)) in
    simp append_assoc m

pub put-pin : (v : LruView) (i : Item) (b : Bool) → (put v i b).pin ≡ v.pin
put-pin v i true = refl
put-pin v i false = refl

-- a pop takes the first of `low`, or else of `high`
pop-is : (low high : List Item) (pin : List Pinned) (limit : ℕ) (ratio : Ratio) (w : LruView) (i : Item) →
    lru.pop (view low high pin limit ratio) ≡ Some (i, w)
    → (low ++ (high ++ pinned_items pin) ≡ i ∷ lru.order w) × (w.pin ≡ pin)
pop-is [] [] pin limit ratio w i h = absurd cc
pop-is [] (x ∷ xs) pin limit ratio w i h =
    let e : ◌≡◌ {A = Item × LruView} (x, view [] xs pin limit ratio) (i, w) = cc in
    (ap (λ (p : Item × LruView). p.0 ∷ lru.order p.1) e, ap (λ (p : Item × LruView). p.1.pin) (sym e))
pop-is (x ∷ xs) high pin limit ratio w i h =
    let e : ◌≡◌ {A = Item × LruView} (x, view xs high pin limit ratio) (i, w) = cc in
    (ap (λ (p : Item × LruView). p.0 ∷ lru.order p.1) e, ap (λ (p : Item × LruView). p.1.pin) (sym e))

pop-none : (low high : List Item) (pin : List Pinned) (limit : ℕ) (ratio : Ratio) →
    lru.pop (view low high pin limit ratio) ≡ None → IsWithin (low ++ (high ++ pinned_items pin)) (pinned_items pin)
pop-none [] [] pin limit ratio h = λ f. omega arith
pop-none [] (x ∷ xs) pin limit ratio h = absurd cc
pop-none (x ∷ xs) high pin limit ratio h = absurd cc

-- pinned items by their ids
pub pinned_items-remove_pin : (id : ℕ) (ps : List Pinned) → pinned_items (remove_pin id ps)
    ≡ remove_id id (pinned_items ps)
pinned_items-remove_pin id [] = refl
pinned_items-remove_pin id (p ∷ ps) = go (p.item.id == id) (pinned_items-remove_pin id ps) where
  go : (b : Bool) → pinned_items (remove_pin id ps) ≡ remove_id id (pinned_items ps) →
      pinned_items (cond b ps (p ∷ remove_pin id ps))
      ≡ cond b (pinned_items ps) (p.item ∷ remove_id id (pinned_items ps))
  go true rec = refl
  go false rec = ap (λ r. p.item ∷ r) rec

pub find_id-pinned : (id : ℕ) (ps : List Pinned) → find_id id (pinned_items ps)
    ≡ option_map (λ p. p.item) (find_pin id ps)
find_id-pinned id [] = refl
find_id-pinned id (p ∷ ps) = go (p.item.id == id) (find_id-pinned id ps) where
  go : (b : Bool) → find_id id (pinned_items ps) ≡ option_map (λ p. p.item) (find_pin id ps) →
      cond b (Some p.item) (find_id id (pinned_items ps)) ≡ option_map (λ p. p.item) (cond b (Some p) (find_pin id ps))
  go true rec = refl
  go false rec = rec

-- an item that is found in `low` or in `high` is not pinned
pub low-unpinned : (v : LruView) (id : ℕ) (i : Item) → HasIdsOnce (lru.order v) → find_id id v.low ≡ Some i →
    find_id id (pinned_items v.pin) ≡ None
low-unpinned v id i once is =
    let p = pinned_items v.pin in
    let all : HasIdsOnce ((v.low ++ v.high) ++ p) =
    subst (λ (l : List Item). HasIdsOnce l) (sym (append_assoc v.low v.high p)) once in
    find_id-one_part id i (v.low ++ v.high) p all (find_id-front id i v.low v.high is)

pub high-unpinned : (v : LruView) (id : ℕ) (i : Item) → HasIdsOnce (lru.order v) → find_id id v.low ≡ None →
    find_id id v.high ≡ Some i → find_id id (pinned_items v.pin) ≡ None
high-unpinned v id i once off is =
    let p = pinned_items v.pin in
    let all : HasIdsOnce ((v.low ++ v.high) ++ p) =
    subst (λ (l : List Item). HasIdsOnce l) (sym (append_assoc v.low v.high p)) once in
    find_id-one_part id i (v.low ++ v.high) p all (find_id-back id v.low v.high off ∙ is)

-- a removal takes its item out of its list alone
remove-order : (v : LruView) (id : ℕ) → lru.order (lru.remove v id) ≡ remove_id id (lru.order v)
remove-order v id = go (find_id id v.low) (find_id id v.high) refl refl where
  go : (a b : Option Item) → find_id id v.low ≡ a → find_id id v.high ≡ b
      → lru.order
      (cond (is_some a) (record v { low = remove_id id v.low })
      (cond (is_some b) (record v { high = remove_id id v.high }) (record v { pin = remove_pin id v.pin })))
      ≡ remove_id id (lru.order v)
  go (Some i) b is _ = sym (remove_id-front id i v.low (v.high ++ pinned_items v.pin) is)
  go None (Some i) off is = ap (λ (l : List Item). v.low ++ l)
      (sym (remove_id-front id i v.high (pinned_items v.pin) is))
      ∙ sym (remove_id-back id v.low (v.high ++ pinned_items v.pin) off)
  go None None off off' =
      ap (λ (l : List Item). v.low ++ (v.high ++ l)) (pinned_items-remove_pin id v.pin)
      ∙ ap (λ (l : List Item). v.low ++ l) (sym (remove_id-back id v.high (pinned_items v.pin) off'))
      ∙ sym (remove_id-back id v.low (v.high ++ pinned_items v.pin) off)

remove-pinned : (v : LruView) (id : ℕ) → HasIdsOnce (lru.order v) → lru.pinned (lru.remove v id)
    ≡ remove_id id (lru.pinned v)
remove-pinned v id once = go (find_id id v.low) (find_id id v.high) refl refl where
  go : (a b : Option Item) → find_id id v.low ≡ a → find_id id v.high ≡ b
      → lru.pinned
      (cond (is_some a) (record v { low = remove_id id v.low })
      (cond (is_some b) (record v { high = remove_id id v.high }) (record v { pin = remove_pin id v.pin })))
      ≡ remove_id id (lru.pinned v)
  go (Some i) b is _ = sym (remove_id-none id (pinned_items v.pin) (low-unpinned v id i once is))
  go None (Some i) off is = sym (remove_id-none id (pinned_items v.pin) (high-unpinned v id i once off is))
  go None None off off' = pinned_items-remove_pin id v.pin

remove-unpinned : (v : LruView) (id : ℕ) → IsNewIn id (lru.pinned v) → lru.pinned (lru.remove v id) ≡ lru.pinned v
remove-unpinned v id free = go (is_some (find_id id v.low)) (is_some (find_id id v.high)) where
  go : (a b : Bool) → lru.pinned
      (cond a (record v { low = remove_id id v.low })
      (cond b (record v { high = remove_id id v.high }) (record v { pin = remove_pin id v.pin }))) ≡ lru.pinned v
  go true b = refl
  go false true = refl
  go false false = pinned_items-remove_pin id v.pin ∙ remove_id-new id (pinned_items v.pin) free

-- what is pinned goes to the end of `pin`
to_pin : (v : LruView) (low high : List Item) (i : Item) (b : Bool) →
    IsPermutation (v.low ++ v.high) (i ∷ (low ++ high))
    → IsPermutation (lru.order v)
    (lru.order (record v { low = low; high = high; pin = v.pin ++ record { item = i; is_high = b } ∷ [] }))
to_pin v low high i b h =
    let p = pinned_items v.pin in
    let all = (low ++ high) ++ p in
    let a : IsPermutation ((v.low ++ v.high) ++ p) (i ∷ all) =
    IsPermutation-append_left p (v.low ++ v.high) (i ∷ (low ++ high)) h in
    let e : IsPermutation (i ∷ all) (all ++ i ∷ []) =
    IsPermutation-sym (all ++ i ∷ []) (i ∷ all) (IsPermutation-to_front all i) in
    let r : IsPermutation ((v.low ++ v.high) ++ p) (all ++ i ∷ []) =
    IsPermutation-trans ((v.low ++ v.high) ++ p) (i ∷ all) (all ++ i ∷ []) a e in
    simp map-append (simp append_assoc at r)

acquire-order : (v : LruView) (id : ℕ) → IsPermutation (lru.order v)
    (lru.order (pin_found v id (find_id id v.low) (find_id id v.high)))
acquire-order v id = go (find_id id v.low) (find_id id v.high) refl refl where
  go : (a b : Option Item) → find_id id v.low ≡ a → find_id id v.high ≡ b →
      IsPermutation (lru.order v) (lru.order (pin_found v id a b))
  go (Some i) b is _ = to_pin v (remove_id id v.low) v.high i false
      (IsPermutation-append_left v.high v.low (i ∷ remove_id id v.low) (IsPermutation-remove_id id i v.low is))
  go None (Some i) _ is =
      let rest = remove_id id v.high in
      let a : IsPermutation (v.low ++ v.high) (v.low ++ (i ∷ rest)) =
      IsPermutation-append_right v.low v.high (i ∷ rest) (IsPermutation-remove_id id i v.high is) in
      to_pin v v.low rest i true
      (IsPermutation-trans (v.low ++ v.high) (v.low ++ (i ∷ rest)) (i ∷ (v.low ++ rest)) a
      (IsPermutation-middle v.low i rest))
  go None None _ _ = IsPermutation-refl (lru.order v)

pinned-more : (pin : List Pinned) (i : Item) (b : Bool) →
    IsPermutation (i ∷ pinned_items pin) (pinned_items (pin ++ record { item = i; is_high = b } ∷ []))
pinned-more pin i b =
    (let p = pinned_items pin in simp map-append (IsPermutation-sym (p ++ i ∷ []) (i ∷ p) (IsPermutation-to_front p i)))

acquire-pinned : (v : LruView) (id : ℕ) → PinsAtMost lru v id (lru.acquire v id)
acquire-pinned v id = go (find_id id v.low) (find_id id v.high) refl refl where
  go : (a b : Option Item) → find_id id v.low ≡ a → find_id id v.high ≡ b →
      PinsAtMost lru v id (settle (pin_found v id a b))
  go (Some i) b is _ = inr (i, find_id-front id i v.low (v.high ++ pinned_items v.pin) is, pinned-more v.pin i false)
  go None (Some i) off is =
      inr (
        i,
        find_id-back id v.low (v.high ++ pinned_items v.pin) off
            ∙ find_id-front id i v.high (pinned_items v.pin) is,
        pinned-more v.pin i true,
      )
  go None None _ _ = inl refl

-- what is unpinned goes back to its list
release-order : (v : LruView) (id : ℕ) → IsPermutation (lru.order v) (lru.order (unpin_found v id (find_pin id v.pin)))
release-order v id = go (find_pin id v.pin) refl where
  go : (o : Option Pinned) → find_pin id v.pin ≡ o → IsPermutation (lru.order v) (lru.order (unpin_found v id o))
  go None _ = IsPermutation-refl (lru.order v)
  go (Some p) is =
      let w : LruView = record v { pin = remove_pin id v.pin } in
      let i = p.item in
      let ps = pinned_items v.pin in
      let found : find_id id ps ≡ Some i = find_id-pinned id v.pin ∙ ap (option_map (λ (q : Pinned). q.item)) is in
      let front = v.low ++ v.high in
      let a : IsPermutation (front ++ ps) (front ++ (i ∷ remove_id id ps)) =
      IsPermutation-append_right front ps (i ∷ remove_id id ps) (IsPermutation-remove_id id i ps found) in
      let m : IsPermutation (front ++ ps) (i ∷ (front ++ remove_id id ps)) =
      IsPermutation-trans (front ++ ps) (front ++ (i ∷ remove_id id ps)) (i ∷ (front ++ remove_id id ps)) a
      (IsPermutation-middle front i (remove_id id ps)) in
      let out : IsPermutation (lru.order v) (i ∷ lru.order w) = rw pinned_items-remove_pin (simp append_assoc at m) in
      IsPermutation-trans (lru.order v) (i ∷ lru.order w) (lru.order (put w i p.is_high)) out (put-order w i p.is_high)

release-pinned : (v : LruView) (id : ℕ) → lru.pinned (lru.release v id) ≡ remove_id id (lru.pinned v)
release-pinned v id = go (find_pin id v.pin) refl where
  go : (o : Option Pinned) → find_pin id v.pin ≡ o → lru.pinned (settle (unpin_found v id o))
      ≡ remove_id id (lru.pinned v)
  go None is =
      sym (remove_id-none id (pinned_items v.pin)
      (find_id-pinned id v.pin ∙ ap (option_map (λ (q : Pinned). q.item)) is))
  go (Some p) is = ap pinned_items (put-pin (record v { pin = remove_pin id v.pin }) p.item p.is_high)
      ∙ pinned_items-remove_pin id v.pin

-- all pops leave what is pinned
no_more : (n : ℕ) (pin : List Pinned) (limit : ℕ) (ratio : Ratio) → pop_times lru.pop n (view [] [] pin limit ratio)
    ≡ view [] [] pin limit ratio
no_more zero pin limit ratio = refl
no_more (suc n) pin limit ratio = refl

all_popped : (low high : List Item) (pin : List Pinned) (limit : ℕ) (ratio : Ratio) →
    pop_times lru.pop (length (low ++ (high ++ pinned_items pin))) (view low high pin limit ratio)
    ≡ view [] [] pin limit ratio
all_popped [] [] pin limit ratio = no_more (length (pinned_items pin)) pin limit ratio
all_popped [] (x ∷ xs) pin limit ratio = all_popped [] xs pin limit ratio
all_popped (x ∷ xs) high pin limit ratio = all_popped xs high pin limit ratio

all_removed : (pin : List Pinned) (limit : ℕ) (ratio : Ratio) →
    removed lru (pinned_items pin) (view [] [] pin limit ratio) ≡ view [] [] [] limit ratio
all_removed [] limit ratio = refl
all_removed (p ∷ ps) limit ratio =
    let e : (p.item.id == p.item.id) ≡ true = grind (arith, nat_tests) in
    ap (λ (b : Bool). removed lru (pinned_items ps)
    (view [] [] (cond b ps (p ∷ remove_pin p.item.id ps)) limit ratio)) e ∙ all_removed ps limit ratio

pub lru_lawful : IsPolicy lru
lru_lawful = record {
  opening_order = λ capacity c accepted. refl;
  fault_kind = λ c reason h. ratio_fault-kind Closed HighPriorityPool c.high_priority_pool_ratio reason h;
  opening_credit = λ capacity c accepted. refl;
  pinned_within = λ v f.
      omega (arith, sum_by-append f v.low (v.high ++ pinned_items v.pin), sum_by-append f v.high (pinned_items v.pin));
  push_order = λ v i. subst (λ (l : List Item). IsPermutation (i ∷ lru.order v) l)
      (sym (settle-order (put v i (is_high_hint i.hint)))) (put-order v i (is_high_hint i.hint));
  push_pinned = λ v i. ap pinned_items (put-pin v i (is_high_hint i.hint));
  push_credit = λ v i. omega arith;
  pop_order = λ v w i h. rw ((pop-is v.low v.high v.pin v.limit v.ratio w i h).0)
      (IsPermutation-refl (i ∷ lru.order w));
  pop_pinned = λ v w i h. ap pinned_items (pop-is v.low v.high v.pin v.limit v.ratio w i h).1;
  pop_none = λ v h. pop-none v.low v.high v.pin v.limit v.ratio h;
  pop_looks = λ v w i h. omega arith;
  pop_credit = λ v w i h. omega arith;
  none_looks = λ v h. refl;
  remove_order = remove-order;
  remove_pinned = remove-pinned;
  remove_unpinned = remove-unpinned;
  remove_credit = λ v id. omega arith;
  acquire_order = λ v id once. settled v (pin_found v id (find_id id v.low) (find_id id v.high)) (acquire-order v id);
  acquire_pinned = λ v id once. acquire-pinned v id;
  acquire_credit = λ v id. omega arith;
  release_order = λ v id once. settled v (unpin_found v id (find_pin id v.pin)) (release-order v id);
  release_pinned = λ v id once. release-pinned v id;
  release_credit = λ v id. omega arith;
  update_order = λ v capacity config once. settled v (with_limits v (limits_or v.ratio capacity config))
      (IsPermutation-refl (lru.order v));
  update_pinned = λ v capacity config. refl;
  update_credit = λ v capacity config. omega arith;
  clear_is = λ v. rw (all_popped v.low v.high v.pin v.limit v.ratio) (sym (all_removed v.pin v.limit v.ratio));
}
