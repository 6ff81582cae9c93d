-- S3-FIFO is a policy.
use Rattle.std.proofs.Common.{◌≡◌, ℕ, zero, suc, ◌+◌, ◌*◌, ◌≤◌, Bool, true, false, cond, List, [], ◌∷◌, ◌++◌, Option, Some, None, length, refl, sym, ◌∙◌, ap, subst, arith, inl, append_assoc, length-append}
use Rattle.std.specs.Prelude.{◌==◌, nat_le, is_some, min}
use Rattle.std.specs.FinSet.{contains}
use Rattle.std.specs.List.Sorted.{IsPermutation}
use Rattle.std.proofs.lemmas.List.{length-map}
use Rattle.std.proofs.lemmas.List.Sorted.{IsPermutation-refl, IsPermutation-sym, IsPermutation-trans, IsPermutation-to_front, IsPermutation-middle, IsPermutation-append_comm, IsPermutation-append_left, IsPermutation-append_right, length_permutation}
use Rattle.foyer_policy.specs.Items.{remove_id, find_id}
use Rattle.foyer_policy.specs.Limit.{ratio_fault}
use Rattle.foyer_policy.specs.Lists.{or_else}
use Rattle.foyer_policy.specs.PartLaws.{remove_id-front, remove_id-back}
use Rattle.foyer_policy.specs.Policy.{IsPolicy, popped_out, removed}
use Rattle.foyer_policy.specs.PopTimes.{after_pop, pop_times}
use Rattle.foyer_policy.specs.GhostQueue.{ghost_push}
use Rattle.foyer_policy.specs.S3Fifo.{Entry, S3FifoView, items, frequencies, s3fifo_fault, denominator_fault, frequent_front, from_rare, MainTurn, main_turn, main_looks, first_of_small, main_gives, from_main, promoted, over_limit, is_over, s3fifo_pop, over_looks, s3fifo_looks, remove_entry, use_entry, is_in_small, put, s3fifo}
use Rattle.foyer_policy.specs.S3FifoTurns.{items-append, frequencies-append, frequencies-cons, main-turned, main-none}
use Rattle.foyer_policy.specs.declared.types.Item.{Item}
use Rattle.foyer_policy.specs.declared.error.Reason.{Reason}
use Rattle.foyer_policy.specs.LruLaws.{ratio_fault-kind}
use Rattle.foyer_policy.specs.declared.limit.Range.TheVariants.{Open}
use Rattle.foyer_policy.specs.declared.error.Field.TheVariants.{SmallQueue}
use Rattle.foyer_policy.specs.declared.error.Reason.TheVariants.{ZeroDenominator}
use Rattle.foyer_policy.specs.declared.error.ErrorKind.TheVariants.{Config}
use Rattle.foyer_policy.specs.declared.s3fifo.S3FifoConfig.{S3FifoConfig}
use Rattle.foyer_policy.specs.Errors.{kind_of}

abbrev pub order_of : S3FifoView → List Item
order_of v = items v.small ++ items v.main

abbrev credit_of : S3FifoView → ℕ
credit_of v = frequencies v.small + frequencies v.main

-- what a pop that gives an item does
pub record Popped (v w : S3FifoView) (i : Item) (looks : ℕ) : Type 0 where
  pub order : IsPermutation (order_of v) (i ∷ order_of w)
  pub paid : looks + credit_of w ≤ credit_of v + 1
  pub kept : credit_of w ≤ credit_of v

from_main-some : (v w : S3FifoView) (i : Item) → from_main v ≡ Some (i, w) → Popped v w i (main_looks v.main)
from_main-some v w i h = go (main_turn v.main) refl h where
  small : (l : List Entry) → v.small ≡ l → main_turn v.main ≡ None → first_of_small v l ≡ Some (i, w) →
      Popped v w i (main_looks v.main)
  small [] s is h = absurd cc
  small (e ∷ es) s is h =
      let left : S3FifoView = record v { small = es } in
      let same : ◌≡◌ {A = Item × S3FifoView} (e.item, left) (i, w) = cc in
      let none : v.main ≡ [] = main-none v.main is in
      let looks : main_looks v.main ≡ 0 = ap main_looks none in
      let sum : frequencies v.small ≡ e.frequency + frequencies es = ap (λ (l : List Entry). frequencies l) s
      ∙ frequencies-cons e es in
      subst (λ (x : Item × S3FifoView). Popped v x.1 x.0 (main_looks v.main)) same record {
        order = rw (ap (λ (l : List Entry). items l) s) (IsPermutation-refl (e.item ∷ (items es ++ items v.main)));
        paid = omega (arith, looks, sum);
        kept = omega (arith, sum);
      }

  go : (o : Option MainTurn) → main_turn v.main ≡ o → main_gives v o ≡ Some (i, w) → Popped v w i (main_looks v.main)
  go None is h = small v.small refl is h
  go (Some t) is h =
      let f = main-turned v.main t is in
      let left : S3FifoView = record v { main = t.main } in
      let same : ◌≡◌ {A = Item × S3FifoView} (t.victim, left) (i, w) = cc in
      subst (λ (x : Item × S3FifoView). Popped v x.1 x.0 (main_looks v.main)) same record {
        order = IsPermutation-trans (items v.small ++ items v.main) (items v.small ++ (t.victim ∷ items t.main))
            (t.victim ∷ (items v.small ++ items t.main))
            (IsPermutation-append_right (items v.small) (items v.main) (t.victim ∷ items t.main) f.order)
            (IsPermutation-middle (items v.small) t.victim (items t.main));
        paid = omega (arith, f.paid);
        kept = omega (arith, f.kept);
      }

pub from_main-none : (v : S3FifoView) → from_main v ≡ None → (v.main ≡ []) × (v.small ≡ [])
from_main-none v h = go (main_turn v.main) refl h where
  small : (l : List Entry) → v.small ≡ l → first_of_small v l ≡ None → v.small ≡ []
  small [] s h = s
  small (e ∷ es) s h = absurd cc

  go : (o : Option MainTurn) → main_turn v.main ≡ o → main_gives v o ≡ None → (v.main ≡ []) × (v.small ≡ [])
  go None is h = (main-none v.main is, small v.small refl h)
  go (Some t) is h = absurd cc

-- small at its first entry below a threshold
rare-parts : (t : ℕ) (l : List Entry) → l ≡ frequent_front t l ++ from_rare t l
rare-parts t [] = refl
rare-parts t (e ∷ es) = go (nat_le t e.frequency) (rare-parts t es) where
  go : (b : Bool) → es ≡ frequent_front t es ++ from_rare t es → e ∷ es ≡ cond b (e ∷ frequent_front t es) []
      ++ cond b (from_rare t es) (e ∷ es)
  go true rec = ap (λ r. e ∷ r) rec
  go false rec = refl

-- f ++ (i ∷ es) ++ ms is i, es, ms and f
rearranged : (fs es ms : List Item) (i : Item) → IsPermutation ((fs ++ i ∷ es) ++ ms) (i ∷ (es ++ (ms ++ fs)))
rearranged fs es ms i = IsPermutation-trans ((fs ++ i ∷ es) ++ ms) (((i ∷ es) ++ fs) ++ ms) (i ∷ (es ++ (ms ++ fs)))
    (IsPermutation-append_left ms (fs ++ i ∷ es) ((i ∷ es) ++ fs) (IsPermutation-append_comm fs (i ∷ es)))
    (rw (append_assoc (i ∷ es) fs ms)
    (IsPermutation-append_right (i ∷ es) (fs ++ ms) (ms ++ fs) (IsPermutation-append_comm fs ms)))

over-some : (v w : S3FifoView) (i : Item) (r : List Entry) → from_rare v.setting.threshold v.small ≡ r →
    over_limit v r ≡ Some (i, w) → Popped v w i (over_looks v r)
over-some v w i [] is h =
    let p = from_main-some (promoted v) w i h in
    record {
      order = IsPermutation-trans (order_of v) (order_of (promoted v)) (i ∷ order_of w)
          (rw (items-append v.main v.small) (IsPermutation-append_comm (items v.small) (items v.main))) p.order;
      paid = omega (arith, p.paid, frequencies-append v.main v.small);
      kept = omega (arith, p.kept, frequencies-append v.main v.small);
    }
over-some v w i (e ∷ es) is h =
    let t = v.setting.threshold in
    let front = frequent_front t v.small in
    let left : S3FifoView = record v
    { small = es; main = v.main ++ front; ghost = ghost_push v.ghost e.item.hash e.item.weight } in
    let same : ◌≡◌ {A = Item × S3FifoView} (e.item, left) (i, w) = cc in
    let parts : v.small ≡ front ++ e ∷ es = rare-parts t v.small ∙ ap (λ (l : List Entry). front ++ l) is in
    let named : items v.small ≡ items front ++ e.item ∷ items es = ap (λ (l : List Entry). items l) parts
    ∙ items-append front (e ∷ es) in
    let a : frequencies v.small ≡ frequencies front + (e.frequency + frequencies es) =
    ap (λ (l : List Entry). frequencies l) parts ∙ frequencies-append front (e ∷ es)
    ∙ ap (λ (n : ℕ). frequencies front + n) (frequencies-cons e es) in
    subst (λ (x : Item × S3FifoView). Popped v x.1 x.0 0) same record {
      order = rw (named, items-append v.main front) (rearranged (items front) (items es) (items v.main) e.item);
      paid = omega (arith, a, frequencies-append v.main front);
      kept = omega (arith, a, frequencies-append v.main front);
    }

pub pop-some : (v w : S3FifoView) (i : Item) → s3fifo_pop v ≡ Some (i, w) → Popped v w i (s3fifo_looks v)
pop-some v w i h = go (is_over v) h where
  go : (b : Bool) → cond b (over_limit v (from_rare v.setting.threshold v.small)) (from_main v) ≡ Some (i, w)
      → Popped v w i (cond b (over_looks v (from_rare v.setting.threshold v.small)) (main_looks v.main))
  go true h = over-some v w i (from_rare v.setting.threshold v.small) refl h
  go false h = from_main-some v w i h

pub append-none : (xs ys : List Entry) → xs ++ ys ≡ [] → (xs ≡ []) × (ys ≡ [])
append-none [] ys h = (refl, h)
append-none (x ∷ xs) ys h = absurd cc

pub pop-nothing : (v : S3FifoView) → s3fifo_pop v ≡ None → (v.main ≡ []) × (v.small ≡ [])
pop-nothing v h = go (is_over v) h where
  over : (r : List Entry) → over_limit v r ≡ None → (v.main ≡ []) × (v.small ≡ [])
  over [] h = append-none v.main v.small (from_main-none (promoted v) h).0
  over (e ∷ es) h = absurd cc

  go : (b : Bool) → cond b (over_limit v (from_rare v.setting.threshold v.small)) (from_main v) ≡ None → (v.main ≡ [])
      × (v.small ≡ [])
  go true h = over (from_rare v.setting.threshold v.small) h
  go false h = from_main-none v h

pub none_looks : (v : S3FifoView) → v.main ≡ [] → v.small ≡ [] → s3fifo_looks v ≡ 0
none_looks v m s = go (is_over v) where
  over : (r : List Entry) → over_looks v r ≡ 0
  over [] = rw (m, s) refl
  over (e ∷ es) = refl

  go : (b : Bool) → cond b (over_looks v (from_rare v.setting.threshold v.small)) (main_looks v.main) ≡ 0
  go true = over (from_rare v.setting.threshold v.small)
  go false = ap main_looks m

pub count_of_entries : S3FifoView → ℕ
count_of_entries v = length v.small + length v.main

length-order : (v : S3FifoView) → length (order_of v) ≡ length v.small + length v.main
length-order v = length-append (items v.small) (items v.main) ∙ rw (length-map, length-map) refl

pub pop-shorter : (v w : S3FifoView) (i : Item) → s3fifo_pop v ≡ Some (i, w) → length v.small + length v.main
    ≡ length w.small + length w.main + 1
pop-shorter v w i h =
    omega (
      arith,
      length_permutation (order_of v) (i ∷ order_of w) (pop-some v w i h).order,
      length-order v,
      length-order w,
    )

-- where no frequency passes 3, a pop that gives an item reads at most four times as many as there are items
pub few_looks : (v w : S3FifoView) (i : Item) → s3fifo_pop v ≡ Some (i, w) →
    frequencies v.small + frequencies v.main ≤ 3 * length (order_of v) → s3fifo_looks v ≤ 4 * length (order_of v)
few_looks v w i h few =
    omega (
      arith,
      (pop-some v w i h).paid,
      few,
      length_permutation (order_of v) (i ∷ order_of w) (pop-some v w i h).order,
    )

pub emptied : (n : ℕ) (v : S3FifoView) → length v.small + length v.main ≤ n → ((pop_times s3fifo_pop n v).main ≡ [])
    × ((pop_times s3fifo_pop n v).small ≡ [])
emptied zero v h = (none v.main (omega (arith, h)), none v.small (omega (arith, h))) where
  none : (l : List Entry) → length l ≤ 0 → l ≡ []
  none [] h = refl
  none (x ∷ xs) h = absurd (omega arith)
emptied (suc n) v h = go (s3fifo_pop v) refl (λ w. emptied n w) where
  go : (o : Option (Item × S3FifoView)) → s3fifo_pop v ≡ o →
      ((w : S3FifoView) → length w.small + length w.main ≤ n → ((pop_times s3fifo_pop n w).main ≡ [])
      × ((pop_times s3fifo_pop n w).small ≡ []))
      → ((after_pop o v (λ w. pop_times s3fifo_pop n w)).main ≡ [])
      × ((after_pop o v (λ w. pop_times s3fifo_pop n w)).small ≡ [])
  go None is rec = pop-nothing v is
  go (Some p) is rec = rec p.1 (omega (arith, pop-shorter v p.1 p.0 is))

-- pops until none leave nothing
clear-is : (v : S3FifoView) → pop_times s3fifo_pop (length v.small + length v.main) v
    ≡ removed s3fifo (order_of (popped_out s3fifo v)) (popped_out s3fifo v)
clear-is v =
    let n = length v.small + length v.main in
    let all : popped_out s3fifo v ≡ pop_times s3fifo_pop n v =
    ap (λ (k : ℕ). pop_times s3fifo_pop k v) (length-order v) in
    let none = emptied n v (omega arith) in
    let empty : order_of (popped_out s3fifo v) ≡ [] = ap order_of all ∙ rw (none.0, none.1) refl in
    sym all ∙ ap (λ (l : List Item). removed s3fifo l (popped_out s3fifo v)) (sym empty)

-- the other calls
items-remove : (id : ℕ) (l : List Entry) → items (remove_entry id l) ≡ remove_id id (items l)
items-remove id [] = refl
items-remove id (e ∷ es) = go (e.item.id == id) (items-remove id es) where
  go : (b : Bool) → items (remove_entry id es) ≡ remove_id id (items es) → items (cond b es (e ∷ remove_entry id es))
      ≡ cond b (items es) (e.item ∷ remove_id id (items es))
  go true rec = refl
  go false rec = ap (λ r. e.item ∷ r) rec

frequencies-remove : (id : ℕ) (l : List Entry) → frequencies (remove_entry id l) ≤ frequencies l
frequencies-remove id [] = omega arith
frequencies-remove id (e ∷ es) = go (e.item.id == id) (frequencies-remove id es) where
  go : (b : Bool) → frequencies (remove_entry id es) ≤ frequencies es →
      frequencies (cond b es (e ∷ remove_entry id es)) ≤ frequencies (e ∷ es)
  go true rec = omega (arith, frequencies-cons e es)
  go false rec = omega (arith, frequencies-cons e es, frequencies-cons e (remove_entry id es))

pub remove-order : (v : S3FifoView) (id : ℕ) → order_of (s3fifo.remove v id) ≡ remove_id id (order_of v)
remove-order v id = go (find_id id (items v.small)) refl where
  go : (o : Option Item) → find_id id (items v.small) ≡ o →
      order_of (cond (is_some o) (record v { small = remove_entry id v.small })
      (record v { main = remove_entry id v.main })) ≡ remove_id id (order_of v)
  go (Some i) is = ap (λ (l : List Item). l ++ items v.main) (items-remove id v.small)
      ∙ sym (remove_id-front id i (items v.small) (items v.main) is)
  go None is = ap (λ (l : List Item). items v.small ++ l) (items-remove id v.main)
      ∙ sym (remove_id-back id (items v.small) (items v.main) is)

remove-credit : (v : S3FifoView) (id : ℕ) → credit_of (s3fifo.remove v id) ≤ credit_of v
remove-credit v id = go (is_in_small v id) where
  go : (b : Bool) → credit_of
      (cond b (record v { small = remove_entry id v.small }) (record v { main = remove_entry id v.main })) ≤ credit_of v
  go true = omega (arith, frequencies-remove id v.small)
  go false = omega (arith, frequencies-remove id v.main)

pub items-use : (id : ℕ) (l : List Entry) → items (use_entry id l) ≡ items l
items-use id [] = refl
items-use id (e ∷ es) = go (e.item.id == id) (items-use id es) where
  go : (b : Bool) → items (use_entry id es) ≡ items es →
      items (cond b (record { item = e.item; frequency = min (e.frequency + 1) 3 } ∷ es) (e ∷ use_entry id es))
      ≡ e.item ∷ items es
  go true rec = refl
  go false rec = ap (λ r. e.item ∷ r) rec

frequencies-use : (id : ℕ) (l : List Entry) → frequencies (use_entry id l) ≤ frequencies l + 1
frequencies-use id [] = omega arith
frequencies-use id (e ∷ es) = go (e.item.id == id) (frequencies-use id es) where
  go : (b : Bool) → frequencies (use_entry id es) ≤ frequencies es + 1 →
      frequencies (cond b (record { item = e.item; frequency = min (e.frequency + 1) 3 } ∷ es) (e ∷ use_entry id es))
      ≤ frequencies (e ∷ es) + 1
  go true rec =
      (let u : Entry = record { item = e.item; frequency = min (e.frequency + 1) 3 } in
      omega (arith, frequencies-cons e es, frequencies-cons u es))
  go false rec = omega (arith, frequencies-cons e es, frequencies-cons e (use_entry id es), rec)

pub acquire-order : (v : S3FifoView) (id : ℕ) → order_of (s3fifo.acquire v id) ≡ order_of v
acquire-order v id = go (is_in_small v id) where
  go : (b : Bool) → order_of
      (cond b (record v { small = use_entry id v.small }) (record v { main = use_entry id v.main })) ≡ order_of v
  go true = ap (λ (l : List Item). l ++ items v.main) (items-use id v.small)
  go false = ap (λ (l : List Item). items v.small ++ l) (items-use id v.main)

acquire-credit : (v : S3FifoView) (id : ℕ) → credit_of (s3fifo.acquire v id) ≤ credit_of v + 1
acquire-credit v id = go (is_in_small v id) where
  go : (b : Bool) → credit_of
      (cond b (record v { small = use_entry id v.small }) (record v { main = use_entry id v.main })) ≤ credit_of v + 1
  go true = omega (arith, frequencies-use id v.small)
  go false = omega (arith, frequencies-use id v.main)

push-order : (v : S3FifoView) (i : Item) → IsPermutation (i ∷ order_of v) (order_of (s3fifo.push v i))
push-order v i = go (contains v.ghost.hashes i.hash) where
  new : Entry
  new = record { item = i; frequency = 0 }

  go : (b : Bool) → IsPermutation (i ∷ order_of v) (order_of (put v new b))
  go true = IsPermutation-sym (order_of (put v new true)) (i ∷ order_of v)
      (rw (items-append v.main (new ∷ []), ← append_assoc (items v.small) (items v.main) (i ∷ []))
      (IsPermutation-to_front (items v.small ++ items v.main) i))
  go false = IsPermutation-sym (order_of (put v new false)) (i ∷ order_of v)
      (rw (items-append v.small (new ∷ []), append_assoc (items v.small) (i ∷ []) (items v.main))
      (IsPermutation-middle (items v.small) i (items v.main)))

push-credit : (v : S3FifoView) (i : Item) → credit_of (s3fifo.push v i) ≤ credit_of v
push-credit v i = go (contains v.ghost.hashes i.hash) where
  new : Entry
  new = record { item = i; frequency = 0 }

  go : (b : Bool) → credit_of (put v new b) ≤ credit_of v
  go true = omega (arith, frequencies-append v.main (new ∷ []), frequencies-cons new [])
  go false = omega (arith, frequencies-append v.small (new ∷ []), frequencies-cons new [])

fault-kind : (c : S3FifoConfig) (reason : Reason) → s3fifo_fault c ≡ Some reason → kind_of reason ≡ Config
fault-kind c reason h = go (ratio_fault Open SmallQueue c.small_queue_capacity_ratio) refl h where
  zero_kind : (b : Bool) → cond b (Some ZeroDenominator) None ≡ Some reason → kind_of reason ≡ Config
  zero_kind true h = (let same : ZeroDenominator ≡ reason = cc in rw (← same) refl)
  zero_kind false h = absurd cc

  go : (o : Option Reason) → ratio_fault Open SmallQueue c.small_queue_capacity_ratio ≡ o →
      or_else o (denominator_fault c.ghost_queue_capacity_ratio) ≡ Some reason → kind_of reason ≡ Config
  go None is h = zero_kind (c.ghost_queue_capacity_ratio.den == 0) h
  go (Some r) is h = ratio_fault-kind Open SmallQueue c.small_queue_capacity_ratio reason (is ∙ h)

pub s3fifo_lawful : IsPolicy s3fifo
s3fifo_lawful = record {
  opening_order = λ capacity c accepted. refl;
  fault_kind = fault-kind;
  opening_credit = λ capacity c accepted. refl;
  pinned_within = λ v f. omega arith;
  push_order = push-order;
  push_pinned = λ v i. refl;
  push_credit = push-credit;
  pop_order = λ v w i h. (pop-some v w i h).order;
  pop_pinned = λ v w i h. refl;
  pop_none = λ v h f. (let n = pop-nothing v h in rw (n.0, n.1) (omega arith));
  pop_looks = λ v w i h. (pop-some v w i h).paid;
  pop_credit = λ v w i h. (pop-some v w i h).kept;
  none_looks = λ v h. (let n = pop-nothing v h in none_looks v n.0 n.1);
  remove_order = remove-order;
  remove_pinned = λ v id once. refl;
  remove_unpinned = λ v id free. refl;
  remove_credit = remove-credit;
  acquire_order = λ v id once. rw (acquire-order v id) (IsPermutation-refl (order_of v));
  acquire_pinned = λ v id once. inl refl;
  acquire_credit = acquire-credit;
  release_order = λ v id once. IsPermutation-refl (order_of v);
  release_pinned = λ v id once. refl;
  release_credit = λ v id. omega arith;
  update_order = λ v capacity config once. IsPermutation-refl (order_of v);
  update_pinned = λ v capacity config. refl;
  update_credit = λ v capacity config. omega arith;
  clear_is = clear-is;
}
