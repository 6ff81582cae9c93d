-- Sieve is a policy.
use Rattle.std.proofs.Common.{◌≡◌, ℕ, zero, suc, ◌+◌, ◌≤◌, Bool, true, false, cond, List, [], ◌∷◌, ◌++◌, Option, Some, None, length, refl, sym, ◌∙◌, ap, subst, arith, inl, append_assoc, append-nil, length-append}
use Rattle.std.specs.Prelude.{◌==◌}
use Rattle.std.specs.List.Sorted.{IsPermutation}
use Rattle.std.proofs.lemmas.List.{map-append, length-map}
use Rattle.std.proofs.lemmas.List.Sums.{sum_by-cons, sum_by-append}
use Rattle.std.proofs.lemmas.List.Sorted.{IsPermutation-refl, IsPermutation-sym, IsPermutation-to_front, IsPermutation-middle, length_permutation}
use Rattle.foyer_policy.specs.Items.{remove_id}
use Rattle.foyer_policy.specs.Policy.{IsPolicy, popped_out, removed}
use Rattle.foyer_policy.specs.PopTimes.{after_pop, pop_times}
use Rattle.foyer_policy.specs.Sieve.{Entry, SieveView, items, cleared, all_cleared, set_bits, before_id, from_id, before_hand, from_hand, rotation, visited_front, from_unvisited, Turn, where_all_visited, where_behind_visited, first_unvisited, turn, looks_at, first_id, after_turn, popped, sieve_pop, remove_entry, visit, sieve}
use Rattle.foyer_policy.specs.declared.types.Item.{Item}

abbrev item_of : Entry → Item
item_of e = e.item

abbrev bit_of : Entry → ℕ
bit_of e = cond e.visited 1 0

pub items-append : (xs ys : List Entry) → items (xs ++ ys) ≡ items xs ++ items ys
items-append xs ys = map-append item_of xs ys

pub items-cleared : (xs : List Entry) → items (all_cleared xs) ≡ items xs
items-cleared [] = refl
items-cleared (x ∷ xs) = ap (λ r. x.item ∷ r) (items-cleared xs)

bits-cleared : (xs : List Entry) → set_bits (all_cleared xs) ≡ 0
bits-cleared [] = refl
bits-cleared (x ∷ xs) = omega (arith, sum_by-cons bit_of (cleared x) (all_cleared xs), bits-cleared xs)

bits-append : (xs ys : List Entry) → set_bits (xs ++ ys) ≡ set_bits xs + set_bits ys
bits-append xs ys = sum_by-append bit_of xs ys

bits-cons : (x : Entry) (xs : List Entry) → set_bits (x ∷ xs) ≡ bit_of x + set_bits xs
bits-cons x xs = sum_by-cons bit_of x xs

-- the two parts of a list at its first unvisited entry
pub spanned : (xs : List Entry) → xs ≡ visited_front xs ++ from_unvisited xs
spanned [] = refl
spanned (x ∷ xs) = go x.visited (spanned xs) where
  go : (b : Bool) → xs ≡ visited_front xs ++ from_unvisited xs → x ∷ xs ≡ cond b (x ∷ visited_front xs) []
      ++ cond b (from_unvisited xs) (x ∷ xs)
  go true rec = ap (λ r. x ∷ r) rec
  go false rec = refl

bits-front : (xs : List Entry) → set_bits (visited_front xs) ≡ length (visited_front xs)
bits-front [] = refl
bits-front (x ∷ xs) = go x.visited refl (bits-front xs) where
  go : (b : Bool) → x.visited ≡ b → set_bits (visited_front xs) ≡ length (visited_front xs) →
      set_bits (cond b (x ∷ visited_front xs) []) ≡ length (cond b (x ∷ visited_front xs) [])
  go true is rec =
      (let one : bit_of x ≡ 1 = ap (λ (b : Bool). let n : ℕ = cond b 1 0 in n) is in
      omega (arith, bits-cons x (visited_front xs), rec))
  go false is rec = refl

pub unvisited-found : (xs ys : List Entry) (v : Entry) (ws : List Entry) → from_unvisited xs ≡ v ∷ ws →
    from_unvisited (xs ++ ys) ≡ v ∷ (ws ++ ys)
unvisited-found [] ys v ws h = absurd cc
unvisited-found (x ∷ xs) ys v ws h = go x.visited h (unvisited-found xs ys v ws) where
  go : (b : Bool) → cond b (from_unvisited xs) (x ∷ xs) ≡ v ∷ ws →
      (from_unvisited xs ≡ v ∷ ws → from_unvisited (xs ++ ys) ≡ v ∷ (ws ++ ys)) →
      cond b (from_unvisited (xs ++ ys)) (x ∷ (xs ++ ys)) ≡ v ∷ (ws ++ ys)
  go true h rec = rec h
  go false h rec = ap (λ (l : List Entry). l ++ ys) h

pub unvisited-none : (xs ys : List Entry) → from_unvisited xs ≡ [] → from_unvisited (xs ++ ys) ≡ from_unvisited ys
unvisited-none [] ys h = refl
unvisited-none (x ∷ xs) ys h = go x.visited h (unvisited-none xs ys) where
  go : (b : Bool) → cond b (from_unvisited xs) (x ∷ xs) ≡ [] →
      (from_unvisited xs ≡ [] → from_unvisited (xs ++ ys) ≡ from_unvisited ys) →
      cond b (from_unvisited (xs ++ ys)) (x ∷ (xs ++ ys)) ≡ from_unvisited ys
  go true h rec = rec h
  go false h rec = absurd cc

pub front-found : (xs ys : List Entry) (v : Entry) (ws : List Entry) → from_unvisited xs ≡ v ∷ ws →
    visited_front (xs ++ ys) ≡ visited_front xs
front-found [] ys v ws h = absurd cc
front-found (x ∷ xs) ys v ws h = go x.visited h (front-found xs ys v ws) where
  go : (b : Bool) → cond b (from_unvisited xs) (x ∷ xs) ≡ v ∷ ws →
      (from_unvisited xs ≡ v ∷ ws → visited_front (xs ++ ys) ≡ visited_front xs) →
      cond b (x ∷ visited_front (xs ++ ys)) [] ≡ cond b (x ∷ visited_front xs) []
  go true h rec = ap (λ r. x ∷ r) (rec h)
  go false h rec = refl

pub front-none : (xs ys : List Entry) → from_unvisited xs ≡ [] → visited_front (xs ++ ys) ≡ xs ++ visited_front ys
front-none [] ys h = refl
front-none (x ∷ xs) ys h = go x.visited h (front-none xs ys) where
  go : (b : Bool) → cond b (from_unvisited xs) (x ∷ xs) ≡ [] →
      (from_unvisited xs ≡ [] → visited_front (xs ++ ys) ≡ xs ++ visited_front ys) →
      cond b (x ∷ visited_front (xs ++ ys)) [] ≡ x ∷ (xs ++ visited_front ys)
  go true h rec = ap (λ r. x ∷ r) (rec h)
  go false h rec = absurd cc

-- what all is visited is its own front
pub all-front : (xs : List Entry) → from_unvisited xs ≡ [] → visited_front xs ≡ xs
all-front xs h = sym (spanned xs ∙ ap (λ (r : List Entry). visited_front xs ++ r) h ∙ append-nil (visited_front xs))

items-spanned : (xs : List Entry) (e : Entry) (es : List Entry) → from_unvisited xs ≡ e ∷ es → items xs
    ≡ items (visited_front xs) ++ e.item ∷ items es
items-spanned xs e es h = ap (λ (l : List Entry). items l) (spanned xs)
    ∙ items-append (visited_front xs) (from_unvisited xs)
    ∙ ap (λ (l : List Entry). items (visited_front xs) ++ items l) h

bits-spanned : (xs : List Entry) (e : Entry) (es : List Entry) → from_unvisited xs ≡ e ∷ es → set_bits xs
    ≡ length (visited_front xs) + (bit_of e + set_bits es)
bits-spanned xs e es h =
    omega (
      arith,
      ap (λ (l : List Entry). set_bits l) (spanned xs),
      bits-append (visited_front xs) (from_unvisited xs),
      bits-front xs,
      ap (λ (l : List Entry). set_bits l) h,
      bits-cons e es,
    )

looks_at-le : (l : List Entry) → looks_at l ≤ length (visited_front l) + 1
looks_at-le [] = omega arith
looks_at-le (x ∷ xs) = omega arith

-- one item is taken out of its list
taken : (xs ys a b : List Item) (i : Item) → a ≡ xs ++ i ∷ ys → b ≡ xs ++ ys → IsPermutation a (i ∷ b)
taken xs ys a b i h k = rw (h, k) (IsPermutation-middle xs i ys)

-- what a turn does to the items and the bits
pub record Turned (before behind : List Entry) (t : Turn) : Type 0 where
  pub order : IsPermutation (items (before ++ behind)) (t.victim ∷ items (t.before ++ t.behind))
  pub paid : looks_at (behind ++ before) + set_bits (t.before ++ t.behind) ≤ set_bits (before ++ behind) + 1
  pub kept : set_bits (t.before ++ t.behind) ≤ set_bits (before ++ behind)

module _ (before behind : List Entry) where
  found_behind : (e : Entry) (es : List Entry) → from_unvisited behind ≡ e ∷ es →
      Turned before behind
      (record { victim = e.item; before = before ++ all_cleared (visited_front behind); behind = es })
  found_behind e es h =
      let front = visited_front behind in
      let bits : set_bits ((before ++ all_cleared front) ++ es) ≡ set_bits before + set_bits es =
      omega (
        arith,
        bits-append (before ++ all_cleared front) es,
        bits-append before (all_cleared front),
        bits-cleared front,
      ) in
      record {
        order = taken (items before ++ items front) (items es) (items (before ++ behind))
            (items ((before ++ all_cleared front) ++ es)) e.item
            (items-append before behind ∙ ap (λ (l : List Item). items before ++ l) (items-spanned behind e es h)
            ∙ sym (append_assoc (items before) (items front) (e.item ∷ items es)))
            (items-append (before ++ all_cleared front) es
            ∙ ap (λ (l : List Item). l ++ items es)
            (items-append before (all_cleared front)
            ∙ ap (λ (l : List Item). items before ++ l) (items-cleared front)));
        paid = omega (
          arith,
          bits-append before behind,
          bits-spanned behind e es h,
          bits,
          looks_at-le (behind ++ before),
          ap (λ (l : List Entry). length l) (front-found behind before e es h),
        );
        kept = omega (arith, bits-append before behind, bits-spanned behind e es h, bits);
      }

  found_before : (e : Entry) (es : List Entry) → from_unvisited behind ≡ [] → from_unvisited before ≡ e ∷ es
      → Turned before behind
      (record { victim = e.item; before = all_cleared (visited_front before); behind = es ++ all_cleared behind })
  found_before e es none h =
      let front = visited_front before in
      let bits : set_bits (all_cleared front ++ (es ++ all_cleared behind)) ≡ set_bits es =
      omega (
        arith,
        bits-append (all_cleared front) (es ++ all_cleared behind),
        bits-append es (all_cleared behind),
        bits-cleared front,
        bits-cleared behind,
      ) in
      let all : set_bits behind ≡ length behind =
      (let n = bits-front behind in
      omega (
        arith,
        n,
        ap (λ (l : List Entry). set_bits l) (all-front behind none),
        ap (λ (l : List Entry). length l) (all-front behind none),
      )) in
      let looked : length (visited_front (behind ++ before)) ≡ length behind + length front =
      ap (λ (l : List Entry). length l) (front-none behind before none) ∙ length-append behind front in
      record {
        order = taken (items front) (items es ++ items behind) (items (before ++ behind))
            (items (all_cleared front ++ (es ++ all_cleared behind))) e.item
            (items-append before behind ∙ ap (λ (l : List Item). l ++ items behind) (items-spanned before e es h)
            ∙ append_assoc (items front) (e.item ∷ items es) (items behind))
            (items-append (all_cleared front) (es ++ all_cleared behind)
            ∙ rw (items-cleared front, items-append es (all_cleared behind), items-cleared behind) refl);
        paid = omega (
          arith,
          bits-append before behind,
          bits-spanned before e es h,
          bits,
          all,
          looks_at-le (behind ++ before),
          looked,
        );
        kept = omega (arith, bits-append before behind, bits-spanned before e es h, bits);
      }

  -- all are visited
  all_set : from_unvisited behind ≡ [] → from_unvisited before ≡ [] → set_bits (before ++ behind)
      ≡ length (behind ++ before)
  all_set none none' =
      let a : set_bits behind ≡ length behind =
      (let n = bits-front behind in
      omega (
        arith,
        n,
        ap (λ (l : List Entry). set_bits l) (all-front behind none),
        ap (λ (l : List Entry). length l) (all-front behind none),
      )) in
      let b : set_bits before ≡ length before =
      (let n = bits-front before in
      omega (
        arith,
        n,
        ap (λ (l : List Entry). set_bits l) (all-front before none'),
        ap (λ (l : List Entry). length l) (all-front before none'),
      )) in
      omega (arith, bits-append before behind, length-append behind before, a, b)

  looked_all : from_unvisited behind ≡ [] → from_unvisited before ≡ [] →
      looks_at (behind ++ before) ≤ length (behind ++ before) + 1
  looked_all none none' =
      let e : visited_front (behind ++ before) ≡ behind ++ before =
      all-front (behind ++ before) (unvisited-none behind before none ∙ none') in
      omega (arith, looks_at-le (behind ++ before), ap (λ (l : List Entry). length l) e)

turned-all : (before behind : List Entry) (t : Turn) → from_unvisited behind ≡ [] → from_unvisited before ≡ [] →
    where_all_visited before behind ≡ Some t → Turned before behind t
turned-all before (e ∷ es) t none none' h =
    let r : Turn = record { victim = e.item; before = all_cleared before; behind = all_cleared es } in
    let same : r ≡ t = cc in
    let bits : set_bits (all_cleared before ++ all_cleared es) ≡ 0 =
    omega (arith, bits-append (all_cleared before) (all_cleared es), bits-cleared before, bits-cleared es) in
    subst (λ (x : Turn). Turned before (e ∷ es) x) same record {
      order = taken (items before) (items es) (items (before ++ e ∷ es))
          (items (all_cleared before ++ all_cleared es)) e.item
          (items-append before (e ∷ es))
          (items-append (all_cleared before) (all_cleared es) ∙ rw (items-cleared before, items-cleared es) refl);
      paid = omega (arith, bits, all_set before (e ∷ es) none none', looked_all before (e ∷ es) none none');
      kept = omega (arith, bits);
    }
turned-all (e ∷ es) [] t none none' h =
    let r : Turn = record { victim = e.item; before = []; behind = all_cleared es } in
    let same : r ≡ t = cc in
    let bits : set_bits ([] ++ all_cleared es) ≡ 0 = bits-cleared es in
    subst (λ (x : Turn). Turned (e ∷ es) [] x) same record {
      order = taken [] (items es) (items ((e ∷ es) ++ [])) (items (all_cleared es)) e.item
          (ap (λ (l : List Entry). items l) (append-nil (e ∷ es))) (items-cleared es);
      paid = omega (arith, bits, all_set (e ∷ es) [] none none', looked_all (e ∷ es) [] none none');
      kept = omega (arith, bits);
    }
turned-all [] [] t none none' h = absurd cc

pub turned : (before behind : List Entry) (t : Turn) → turn before behind ≡ Some t → Turned before behind t
turned before behind t h = go (from_unvisited behind) refl h where
  inner : (r : List Entry) → from_unvisited behind ≡ [] → from_unvisited before ≡ r →
      where_behind_visited before behind r ≡ Some t → Turned before behind t
  inner [] none is h = turned-all before behind t none is h
  inner (e ∷ es) none is h =
      let r : Turn =
      record { victim = e.item; before = all_cleared (visited_front before); behind = es ++ all_cleared behind } in
      let same : r ≡ t = cc in
      subst (λ (x : Turn). Turned before behind x) same (found_before before behind e es none is)

  go : (r : List Entry) → from_unvisited behind ≡ r → first_unvisited before behind r ≡ Some t → Turned before behind t
  go [] is h = inner (from_unvisited before) is refl h
  go (e ∷ es) is h =
      let r : Turn = record { victim = e.item; before = before ++ all_cleared (visited_front behind); behind = es } in
      let same : r ≡ t = cc in
      subst (λ (x : Turn). Turned before behind x) same (found_behind before behind e es is)

-- a turn is none only of nothing
turn-none : (before behind : List Entry) → turn before behind ≡ None → before ++ behind ≡ []
turn-none before behind h = go (from_unvisited behind) h where
  all : (xs ys : List Entry) → where_all_visited xs ys ≡ None → xs ++ ys ≡ []
  all xs (e ∷ es) h = absurd cc
  all (e ∷ es) [] h = absurd cc
  all [] [] h = refl

  inner : (r : List Entry) → where_behind_visited before behind r ≡ None → before ++ behind ≡ []
  inner [] h = all before behind h
  inner (e ∷ es) h = absurd cc

  go : (r : List Entry) → first_unvisited before behind r ≡ None → before ++ behind ≡ []
  go [] h = inner (from_unvisited before) h
  go (e ∷ es) h = absurd cc

-- the hand parts the queue
parted_id : (id : ℕ) (q : List Entry) → before_id id q ++ from_id id q ≡ q
parted_id id [] = refl
parted_id id (e ∷ es) = go (e.item.id == id) (parted_id id es) where
  go : (b : Bool) → before_id id es ++ from_id id es ≡ es → cond b [] (e ∷ before_id id es)
      ++ cond b (e ∷ es) (from_id id es) ≡ e ∷ es
  go true rec = refl
  go false rec = ap (λ r. e ∷ r) rec

pub parted : (hand : Option ℕ) (q : List Entry) → before_hand hand q ++ from_hand hand q ≡ q
parted None q = append-nil q
parted (Some id) q = parted_id id q

-- what a pop that gives an item does
pub record Popped (v w : SieveView) (i : Item) : Type 0 where
  pub order : IsPermutation (items v.queue) (i ∷ items w.queue)
  pub paid : looks_at (rotation v) + set_bits w.queue ≤ set_bits v.queue + 1
  pub kept : set_bits w.queue ≤ set_bits v.queue
  -- without an item there is no hand
  pub hand : w.queue ≡ [] → w.hand ≡ None

first_id-nil : (xs ys : List Entry) → xs ++ ys ≡ [] → first_id ys ≡ None
first_id-nil [] [] h = refl
first_id-nil [] (y ∷ ys) h = absurd cc
first_id-nil (x ∷ xs) ys h = absurd cc

pub pop-some : (v w : SieveView) (i : Item) → sieve_pop v ≡ Some (i, w) → Popped v w i
pop-some v w i h = go (turn (before_hand v.hand v.queue) (from_hand v.hand v.queue)) refl h where
  go : (o : Option Turn) → turn (before_hand v.hand v.queue) (from_hand v.hand v.queue) ≡ o → popped o ≡ Some (i, w) →
      Popped v w i
  go None is h = absurd cc
  go (Some t) is h =
      let f = turned (before_hand v.hand v.queue) (from_hand v.hand v.queue) t is in
      let e : ◌≡◌ {A = Item × SieveView} (t.victim, after_turn t) (i, w) = cc in
      let p = parted v.hand v.queue in
      subst (λ (x : Item × SieveView). Popped v x.1 x.0) e record {
        order = rw p at f.order;
        paid = rw p at f.paid;
        kept = rw p at f.kept;
        hand = first_id-nil t.before t.behind;
      }

pub pop-nothing : (v : SieveView) → sieve_pop v ≡ None → v.queue ≡ []
pop-nothing v h = go (turn (before_hand v.hand v.queue) (from_hand v.hand v.queue)) refl h where
  go : (o : Option Turn) → turn (before_hand v.hand v.queue) (from_hand v.hand v.queue) ≡ o → popped o ≡ None →
      v.queue ≡ []
  go None is h = sym (parted v.hand v.queue) ∙ turn-none (before_hand v.hand v.queue) (from_hand v.hand v.queue) is
  go (Some t) is h = absurd cc

no_looks : (hand : Option ℕ) (q : List Entry) → q ≡ [] → looks_at (from_hand hand q ++ before_hand hand q) ≡ 0
no_looks None [] h = refl
no_looks (Some id) [] h = refl
no_looks hand (x ∷ xs) h = absurd cc

-- pops until none leave nothing
length-items : (q : List Entry) → length (items q) ≡ length q
length-items q = length-map q item_of

pub queue-shorter : (v w : SieveView) (i : Item) → sieve_pop v ≡ Some (i, w) → length v.queue ≡ length w.queue + 1
queue-shorter v w i h =
    omega (
      arith,
      length_permutation (items v.queue) (i ∷ items w.queue) (pop-some v w i h).order,
      length-items v.queue,
      length-items w.queue,
    )

bits-le : (q : List Entry) → set_bits q ≤ length q
bits-le [] = omega arith
bits-le (e ∷ es) = go e.visited refl (bits-le es) where
  go : (b : Bool) → e.visited ≡ b → set_bits es ≤ length es → set_bits (e ∷ es) ≤ length (e ∷ es)
  go true is rec =
      (let one : bit_of e ≡ 1 = ap (λ (b : Bool). let n : ℕ = cond b 1 0 in n) is in omega (arith, bits-cons e es, rec))
  go false is rec =
      (let none : bit_of e ≡ 0 = ap (λ (b : Bool). let n : ℕ = cond b 1 0 in n) is in
      omega (arith, bits-cons e es, rec))

-- a pop that gives an item reads at most one bit more than there are items
pub few_looks : (v w : SieveView) (i : Item) → sieve_pop v ≡ Some (i, w) →
    looks_at (rotation v) ≤ length (items v.queue) + 1
few_looks v w i h = omega (arith, (pop-some v w i h).paid, bits-le v.queue, length-items v.queue)

pub emptied : (n : ℕ) (v : SieveView) → length v.queue ≤ n → (pop_times sieve_pop n v).queue ≡ []
emptied zero v h = go v.queue h where
  go : (q : List Entry) → length q ≤ 0 → q ≡ []
  go [] h = refl
  go (x ∷ xs) h = absurd (omega arith)
emptied (suc n) v h = go (sieve_pop v) refl (λ w. emptied n w) where
  go : (o : Option (Item × SieveView)) → sieve_pop v ≡ o →
      ((w : SieveView) → length w.queue ≤ n → (pop_times sieve_pop n w).queue ≡ []) →
      (after_pop o v (λ w. pop_times sieve_pop n w)).queue ≡ []
  go None is rec = pop-nothing v is
  go (Some p) is rec = rec p.1 (omega (arith, queue-shorter v p.1 p.0 is))

items-remove : (id : ℕ) (q : List Entry) → items (remove_entry id q) ≡ remove_id id (items q)
items-remove id [] = refl
items-remove id (e ∷ es) = go (e.item.id == id) (items-remove id es) where
  go : (b : Bool) → items (remove_entry id es) ≡ remove_id id (items es) → items (cond b es (e ∷ remove_entry id es))
      ≡ cond b (items es) (e.item ∷ remove_id id (items es))
  go true rec = refl
  go false rec = ap (λ r. e.item ∷ r) rec

bits-remove : (id : ℕ) (q : List Entry) → set_bits (remove_entry id q) ≤ set_bits q
bits-remove id [] = omega arith
bits-remove id (e ∷ es) = go (e.item.id == id) (bits-remove id es) where
  go : (b : Bool) → set_bits (remove_entry id es) ≤ set_bits es →
      set_bits (cond b es (e ∷ remove_entry id es)) ≤ set_bits (e ∷ es)
  go true rec = omega (arith, bits-cons e es)
  go false rec = omega (arith, bits-cons e es, bits-cons e (remove_entry id es))

pub items-visit : (id : ℕ) (q : List Entry) → items (visit id q) ≡ items q
items-visit id [] = refl
items-visit id (e ∷ es) = go (e.item.id == id) (items-visit id es) where
  go : (b : Bool) → items (visit id es) ≡ items es →
      items (cond b (record { item = e.item; visited = true } ∷ es) (e ∷ visit id es)) ≡ e.item ∷ items es
  go true rec = refl
  go false rec = ap (λ r. e.item ∷ r) rec

bits-visit : (id : ℕ) (q : List Entry) → set_bits (visit id q) ≤ set_bits q + 1
bits-visit id [] = omega arith
bits-visit id (e ∷ es) = go (e.item.id == id) (bits-visit id es) where
  go : (b : Bool) → set_bits (visit id es) ≤ set_bits es + 1 →
      set_bits (cond b (record { item = e.item; visited = true } ∷ es) (e ∷ visit id es)) ≤ set_bits (e ∷ es) + 1
  go true rec =
      (let w : Entry = record { item = e.item; visited = true } in omega (arith, bits-cons e es, bits-cons w es))
  go false rec = omega (arith, bits-cons e es, bits-cons e (visit id es), rec)

pub sieve_lawful : (C : Type 0) → IsPolicy (sieve C)
sieve_lawful C = record {
  opening_order = λ capacity c accepted. refl;
  fault_kind = λ c reason h. absurd cc;
  opening_credit = λ capacity c accepted. refl;
  pinned_within = λ v f. omega arith;
  push_order = λ v i.
      (let new : Entry = record { item = i; visited = false } in
      rw (items-append v.queue (new ∷ []))
      (IsPermutation-sym (items v.queue ++ i ∷ []) (i ∷ items v.queue)
      (IsPermutation-to_front (items v.queue) i)));
  push_pinned = λ v i. refl;
  push_credit = λ v i.
      (let new : Entry = record { item = i; visited = false } in
      omega (arith, bits-append v.queue (new ∷ []), bits-cons new []));
  pop_order = λ v w i h. (pop-some v w i h).order;
  pop_pinned = λ v w i h. refl;
  pop_none = λ v h f. rw (pop-nothing v h) (omega arith);
  pop_looks = λ v w i h. (pop-some v w i h).paid;
  pop_credit = λ v w i h. (pop-some v w i h).kept;
  none_looks = λ v h. no_looks v.hand v.queue (pop-nothing v h);
  remove_order = λ v id. items-remove id v.queue;
  remove_pinned = λ v id once. refl;
  remove_unpinned = λ v id free. refl;
  remove_credit = λ v id. bits-remove id v.queue;
  acquire_order = λ v id once. rw (items-visit id v.queue) (IsPermutation-refl (items v.queue));
  acquire_pinned = λ v id once. inl refl;
  acquire_credit = λ v id. bits-visit id v.queue;
  release_order = λ v id once. IsPermutation-refl (items v.queue);
  release_pinned = λ v id once. refl;
  release_credit = λ v id. omega arith;
  update_order = λ v capacity config once. IsPermutation-refl (items v.queue);
  update_pinned = λ v capacity config. refl;
  update_credit = λ v capacity config. omega arith;
  clear_is = λ v.
      let n : length (items v.queue) ≡ length v.queue = length-items v.queue in
      let all : popped_out (sieve C) v ≡ pop_times sieve_pop (length v.queue) v =
      ap (λ (k : ℕ). pop_times sieve_pop k v) n in
      let none : items (popped_out (sieve C) v).queue ≡ [] = ap (λ (w : SieveView). items w.queue) all
      ∙ ap (λ (q : List Entry). items q) (emptied (length v.queue) v (omega arith)) in
      sym all ∙ ap (λ (l : List Item). removed (sieve C) l (popped_out (sieve C) v)) (sym none);
}
