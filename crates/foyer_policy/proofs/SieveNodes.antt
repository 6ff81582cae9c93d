-- The nodes of a Sieve: where its hand stands while a pop looks.
use Rattle.std.proofs.Common.{◌≡◌, ℕ, suc, ◌+◌, ◌≤◌, Bool, true, false, cond, List, [], ◌∷◌, ◌++◌, Option, Some, None, length, map, refl, sym, ◌∙◌, ap, arith, rules, append_assoc, append-nil, IsSome, IfSome}
use Rattle.std.proofs.lemmas.List.{map-append}
use Rattle.std.proofs.lemmas.List.Sums.{sum_by-cons, sum_by-append}
use Rattle.foyer_policy.specs.Lists.{list_at, find, first_or, with_value, flat, AreLists}
use Rattle.foyer_policy.specs.Items.{HasIdsOnce}
use Rattle.foyer_policy.specs.Sieve.{Entry, cleared, set_bits, Turn, turn, looks_at}
use Rattle.foyer_policy.specs.SieveLaws.{items-append}
use Rattle.foyer_policy.specs.SieveQueue.{Node, entry, entries, entry_items, item_at}
use Rattle.foyer_policy.specs.declared.types.Item.{Item}
use Rattle.foyer_policy.proofs.ItemPlaces.{items as placed_items}
use Rattle.foyer_policy.proofs.ListsLemmas.{is_in, find-mid, write-here, first_found}
use Rattle.foyer_policy.proofs.FoundLemmas.{AreLists-write}
use Rattle.foyer_policy.proofs.NodeLemmas.{flat-single, placed-write}
use Rattle.foyer_policy.proofs.SieveLemmas.{turn-next, turn-wrap, turn-alone, turn-done, looks-next, looks-done}

abbrev pub item_of : Node → Item
item_of n = n.item

-- a node with its bit taken off
abbrev pub clear_node : Node → Node
clear_node n = record { item = n.item; state = record { visited = false } }

pub entries-append : (xs ys : List (ℕ × Node)) → entries (xs ++ ys) ≡ entries xs ++ entries ys
entries-append xs ys = map-append entry xs ys

pub items-entries : (l : List (ℕ × Node)) → entry_items l ≡ placed_items item_of l
items-entries [] = refl
items-entries (e ∷ es) = ap (λ r. e.1.item ∷ r) (items-entries es)

-- the hand stands in this list after so many looks; what the pop gives from there, and how many looks it takes in all
pub record Stand (n at : ℕ) (now : List (ℕ × Node)) (given : Option Turn) (total : ℕ) : Type 0 where
  pub before : List (ℕ × Node)
  pub node : Node
  pub behind : List (ℕ × Node)
  pub is : now ≡ before ++ (at, node) ∷ behind
  pub turns : turn (entries before) (entries ((at, node) ∷ behind)) ≡ given
  pub looks : n + looks_at (entries ((at, node) ∷ behind) ++ entries before) ≡ total

-- a look at a visited node
advance : (n at p : ℕ) (v : Node) (xs ys : List (ℕ × Node)) (o : Option Turn) (t : ℕ) →
    turn (entries xs) (entries ((at, v) ∷ ys)) ≡ o → n + looks_at (entries ((at, v) ∷ ys) ++ entries xs) ≡ t →
    v.state.visited ≡ true
    → Some p ≡ first_or ys (first_or (xs ++ (at, clear_node v) ∷ ys) None) →
    Stand (suc n) p (xs ++ (at, clear_node v) ∷ ys) o t
advance n at p v xs (y ∷ ys) o t s l h e =
    let q : p ≡ y.0 = cc in
    let moved : entries (xs ++ (at, clear_node v) ∷ []) ≡ entries xs ++ cleared (entry (at, v)) ∷ [] =
    entries-append xs ((at, clear_node v) ∷ []) in
    let one = looks-next (entry (at, v)) (entries (y ∷ ys) ++ entries xs) h in
    let same : looks_at (entries (y ∷ ys) ++ entries (xs ++ (at, clear_node v) ∷ []))
    ≡ looks_at ((entries (y ∷ ys) ++ entries xs) ++ cleared (entry (at, v)) ∷ []) =
    ap (λ (k : List Entry). looks_at (entries (y ∷ ys) ++ k)) moved
    ∙ ap (λ (k : List Entry). looks_at k)
    (sym (append_assoc (entries (y ∷ ys)) (entries xs) (cleared (entry (at, v)) ∷ []))) in
    record {
      before = xs ++ (at, clear_node v) ∷ [];
      node = y.1;
      behind = ys;
      is = rw q (sym (append_assoc xs ((at, clear_node v) ∷ []) (y ∷ ys)));
      turns = ap (λ (k : List Entry). turn k (entries (y ∷ ys))) moved
          ∙ sym (turn-next (entries xs) (entry (at, v)) (entry y) (entries ys) h) ∙ s;
      looks = omega (arith, l, one, same);
    }
advance n at p v [] [] o t s l h e =
    let q : p ≡ at = cc in
    let one = looks-next (entry (at, v)) [] h in
    record {
      before = [];
      node = clear_node v;
      behind = [];
      is = rw q refl;
      turns = sym (turn-alone (entry (at, v)) h)
          ∙ s;
      looks = omega (arith, l, one);
    }
advance n at p v (x ∷ xs) [] o t s l h e =
    let q : p ≡ x.0 = cc in
    let moved : entries (xs ++ (at, clear_node v) ∷ []) ≡ entries xs ++ cleared (entry (at, v)) ∷ [] =
    entries-append xs ((at, clear_node v) ∷ []) in
    let one = looks-next (entry (at, v)) (entries (x ∷ xs)) h in
    let same : looks_at (entries (x ∷ (xs ++ (at, clear_node v) ∷ [])) ++ [])
    ≡ looks_at (entries (x ∷ xs) ++ cleared (entry (at, v)) ∷ []) =
    ap (λ (k : List Entry). looks_at k) (append-nil (entries (x ∷ (xs ++ (at, clear_node v) ∷ []))))
    ∙ ap (λ (k : List Entry). looks_at (entry x ∷ k)) moved in
    record {
      before = [];
      node = x.1;
      behind = xs ++ (at, clear_node v) ∷ [];
      is = rw q refl;
      turns = ap (λ (k : List Entry). turn [] (entry x ∷ k)) moved
          ∙ sym (turn-wrap (entry x) (entries xs) (entry (at, v)) h) ∙ s;
      looks = omega (arith, l, one, same);
    }

abbrev bit_of : Entry → ℕ
bit_of e = cond e.visited 1 0

bits-mid : (xs : List Entry) (e : Entry) (ys : List Entry) → set_bits (xs ++ e ∷ ys)
    ≡ set_bits xs + (bit_of e + set_bits ys)
bits-mid xs e ys = omega (arith, sum_by-append bit_of xs (e ∷ ys), sum_by-cons bit_of e ys)

pub bits-le : (l : List Entry) → set_bits l ≤ length l
bits-le [] = omega arith
bits-le (e ∷ es) = (omega (arith, sum_by-cons bit_of e es, bits-le es, one e.visited)) where
  one : (b : Bool) → (let n : ℕ = cond b 1 0 in n) ≤ 1
  one true = omega arith
  one false = omega arith

-- where a place that is in stands in the one list
pub record Somewhere (at : ℕ) (ls : List (List (ℕ × Node))) : Type 0 where
  pub before : List (ℕ × Node)
  pub node : Node
  pub behind : List (ℕ × Node)
  pub is : list_at ls 0 ≡ before ++ (at, node) ∷ behind

pub somewhere : (ls : List (List (ℕ × Node))) → AreLists 1 ls → (at : ℕ) → IsSome (find at ls) → Somewhere at ls
somewhere ls sound at there =
    let w = is_in at ls there in
    let s = w.stands in
    let zero_th : s.list ≡ 0 = omega (arith, s.within, sound.count) in
    record { before = s.front; node = w.value; behind = s.back; is = rw (← zero_th) s.is }

-- no two items of the one list have one id, said of all entries
pub once-flat : (ls : List (List (ℕ × Node))) → length ls ≡ 1 → HasIdsOnce (entry_items (list_at ls 0)) →
    HasIdsOnce (placed_items item_of (flat ls))
once-flat ls one once = rw (flat-single ls one, ← items-entries (list_at ls 0)) once

-- a look at the node at a place, which stands here
module _ (ls ls2 : List (List (ℕ × Node))) (sound : AreLists 1 ls) (at : ℕ) (b : Bool)
    (bit : IfSome (find at ls) (λ n. b ≡ n.state.visited))
    (taken : IfSome (find at ls) (λ n. ls2 ≡ map (with_value at (clear_node n)) ls)) where
  module _ (before : List (ℕ × Node)) (node : Node) (behind : List (ℕ × Node))
      (is : list_at ls 0 ≡ before ++ (at, node) ∷ behind) where
    pub here : find at ls ≡ Some node
    here = find-mid 1 ls sound 0 at node before behind is

    pub bit_is : b ≡ node.state.visited
    bit_is = rw here at bit

    pub written : ls2 ≡ map (with_value at (clear_node node)) ls
    written = rw here at taken

    pub looked : list_at ls2 0 ≡ before ++ (at, clear_node node) ∷ behind
    looked = ap (λ (x : List (List (ℕ × Node))). list_at x 0) written
        ∙ write-here 1 ls sound 0 at node before behind is (clear_node node)

    pub sound_then : AreLists 1 ls2
    sound_then = rw written (AreLists-write 1 at (clear_node node) ls sound)

    pub found_then : IsSome (find at ls2)
    found_then = rw (find-mid 1 ls2 sound_then 0 at (clear_node node) before behind looked) (search rules)

    pub looked-items : entry_items (list_at ls2 0) ≡ entry_items (list_at ls 0)
    looked-items = rw (
      looked,
      is,
      entries-append before ((at, clear_node node) ∷ behind),
      entries-append before ((at, node) ∷ behind),
      items-append (entries before) (entries ((at, clear_node node) ∷ behind)),
      items-append (entries before) (entries ((at, node) ∷ behind)),
    ) refl

    pub looked-placed : (q : ℕ) → item_at ls2 q ≡ item_at ls q
    looked-placed q = ap (λ (x : List (List (ℕ × Node))). item_at x q) written
        ∙ placed-write item_of at q node (clear_node node) ls here refl

    pub looked-bits : b ≡ true → set_bits (entries (list_at ls2 0)) + 1 ≡ set_bits (entries (list_at ls 0))
    looked-bits h =
        let one : bit_of (entry (at, node)) ≡ 1 = ap (λ (b : Bool). let n : ℕ = cond b 1 0 in n) (sym bit_is ∙ h) in
        omega (
          arith,
          ap (λ (l : List (ℕ × Node)). set_bits (entries l)) looked,
          ap (λ (l : List (ℕ × Node)). set_bits (entries l)) is,
          ap (λ (l : List Entry). set_bits l) (entries-append before ((at, clear_node node) ∷ behind)),
          ap (λ (l : List Entry). set_bits l) (entries-append before ((at, node) ∷ behind)),
          bits-mid (entries before) (entry (at, clear_node node)) (entries behind),
          bits-mid (entries before) (entry (at, node)) (entries behind),
          one,
        )

  -- at a visited node the hand goes on
  module _ (set : b ≡ true) (p : ℕ)
      (next : (xs ys : List (ℕ × Node)) (n : Node) → list_at ls2 0 ≡ xs ++ (at, n) ∷ ys → Some p
      ≡ first_or ys (first_or (xs ++ (at, n) ∷ ys) None)) where
    pub stands_on : (n : ℕ) (o : Option Turn) (t : ℕ) → Stand n at (list_at ls 0) o t →
        Stand (suc n) p (list_at ls2 0) o t
    stands_on n o t s =
        let now : list_at ls2 0 ≡ s.before ++ (at, clear_node s.node) ∷ s.behind =
        looked s.before s.node s.behind s.is in
        rw now (advance n at p s.node s.before s.behind o t s.turns s.looks
        (sym (bit_is s.before s.node s.behind s.is) ∙ set) (next s.before s.behind (clear_node s.node) now))

  -- at one that isn't the pop ends
  module _ (clear : b ≡ false) where
    pub ends : (n : ℕ) (o : Option Turn) (t : ℕ) (s : Stand n at (list_at ls 0) o t) →
        (o ≡ Some (record { victim = s.node.item; before = entries s.before; behind = entries s.behind })) × (t ≡ n + 1)
    ends n o t s =
        let unset : s.node.state.visited ≡ false = sym (bit_is s.before s.node s.behind s.is) ∙ clear in (
          sym s.turns ∙ turn-done (entries s.before) (entry (at, s.node)) (entries s.behind) unset,
          omega (arith, s.looks, looks-done (entry (at, s.node)) (entries s.behind ++ entries s.before) unset),
        )

-- what stands somewhere is found
pub stand-found : (ls : List (List (ℕ × Node))) → AreLists 1 ls → (n p : ℕ) (o : Option Turn) (t : ℕ) →
    Stand n p (list_at ls 0) o t → IsSome (find p ls)
stand-found ls sound n p o t s = rw (find-mid 1 ls sound 0 p s.node s.before s.behind s.is) (search rules)

-- a place that is in stands there
pub stand-at : (at : ℕ) (ls : List (List (ℕ × Node))) (w : Somewhere at ls) →
    Stand 0 at (list_at ls 0) (turn (entries w.before) (entries ((at, w.node) ∷ w.behind)))
    (looks_at (entries ((at, w.node) ∷ w.behind) ++ entries w.before))
stand-at at ls w =
    record { before = w.before; node = w.node; behind = w.behind; is = w.is; turns = refl; looks = omega arith }

-- the first place of what stands behind a part of the list is in
pub first-there : (ls : List (List (ℕ × Node))) → AreLists 1 ls → (front back : List (ℕ × Node)) → list_at ls 0
    ≡ front ++ back → (hand : Option ℕ) → hand ≡ first_or back None → IfSome hand (λ p. IsSome (find p ls))
first-there ls sound front back is None h = tt
first-there ls sound front back is (Some p) h = first_found 1 ls sound 0 p front back is (sym h)
