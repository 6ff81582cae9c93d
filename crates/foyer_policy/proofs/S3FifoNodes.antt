-- The nodes of an S3-FIFO: what a call on the front of a queue leaves.
use Rattle.std.proofs.Common.{◌≡◌, ℕ, ◌+◌, ◌*◌, ◌≤◌, Bool, true, false, List, [], ◌∷◌, ◌++◌, Option, Some, None, length, map, refl, sym, ◌∙◌, ap, subst, arith, rules, length-append, append_assoc, append-nil, set, IsSome}
use Rattle.std.specs.Prelude.{sum_by}
use Rattle.std.proofs.lemmas.List.{map-append, get_or-set_same, length-map}
use Rattle.std.proofs.lemmas.List.Sums.{sum_by-cons, sum_by-append}
use Rattle.foyer_policy.specs.Lists.{list_at, find, first_or, first_value, rest, drop_place, with_value, moved, flat, AreLists}
use Rattle.foyer_policy.specs.Items.{HasIdsOnce, count_of}
use Rattle.foyer_policy.specs.ItemLaws.{one_if}
use Rattle.foyer_policy.specs.Policy.{without}
use Rattle.foyer_policy.specs.S3Fifo.{Entry, items, frequencies}
use Rattle.foyer_policy.specs.S3FifoTurns.{items-append, frequencies-cons}
use Rattle.foyer_policy.specs.S3FifoQueues.{Node, entry, entries, small_of, main_of, item_at, AreIn, AreQueues}
use Rattle.foyer_policy.specs.declared.types.Item.{Item}
use Rattle.foyer_policy.proofs.ItemPlaces.{items as placed_items}
use Rattle.foyer_policy.proofs.ListsLemmas.{two, find-mid, pop-some, write-here, write-other, drop-here, drop-other, moved-here, moved-there, moved-other, moved-own}
use Rattle.foyer_policy.proofs.FlatLemmas.{length-flat}
use Rattle.foyer_policy.proofs.FoundLemmas.{AreLists-write}
use Rattle.foyer_policy.proofs.PlaceLemmas.{begins}
use Rattle.foyer_policy.proofs.NodeLemmas.{placed-out, placed-write}

abbrev pub item_of : Node → Item
item_of n = n.item

pub entries-append : (xs ys : List (ℕ × Node)) → entries (xs ++ ys) ≡ entries xs ++ entries ys
entries-append xs ys = map-append entry xs ys

pub items-entries : (l : List (ℕ × Node)) → items (entries l) ≡ placed_items item_of l
items-entries [] = refl
items-entries (e ∷ es) = ap (λ r. e.1.item ∷ r) (items-entries es)

pub count-append : (id : ℕ) (xs ys : List Item) → count_of id (xs ++ ys) ≡ count_of id xs + count_of id ys
count-append id xs ys = sum_by-append (one_if id) xs ys

pub count-cons : (id : ℕ) (i : Item) (is : List Item) → count_of id (i ∷ is) ≡ one_if id i + count_of id is
count-cons id i is = sum_by-cons (one_if id) i is

pub are_in-append : (main : Bool) (xs ys : List (ℕ × Node)) → AreIn main xs → AreIn main ys → AreIn main (xs ++ ys)
are_in-append main [] ys h w = w
are_in-append main (x ∷ xs) ys h w = (h.0, are_in-append main xs ys h.1 w)

pub are_in-left : (main : Bool) (xs ys : List (ℕ × Node)) → AreIn main (xs ++ ys) → AreIn main xs
are_in-left main [] ys h = tt
are_in-left main (x ∷ xs) ys h = (h.0, are_in-left main xs ys h.1)

pub are_in-right : (main : Bool) (xs ys : List (ℕ × Node)) → AreIn main (xs ++ ys) → AreIn main ys
are_in-right main [] ys h = h
are_in-right main (x ∷ xs) ys h = are_in-right main xs ys h.1

-- all entries are those of small and of main
pub flat-two : (ls : List (List (ℕ × Node))) → length ls ≡ 2 → flat ls ≡ list_at ls 0 ++ list_at ls 1
flat-two ls h = ap (λ (x : List (List (ℕ × Node))). flat x) (two ls h)
    ∙ ap (λ (l : List (ℕ × Node)). list_at ls 0 ++ l) (append-nil (list_at ls 1))

pub order-flat : (ls : List (List (ℕ × Node))) → length ls ≡ 2 → placed_items item_of (flat ls) ≡ items (small_of ls)
    ++ items (main_of ls)
order-flat ls h = ap (λ (l : List (ℕ × Node)). placed_items item_of l) (flat-two ls h)
    ∙ map-append (λ (e : ℕ × Node). item_of e.1) (list_at ls 0) (list_at ls 1)
    ∙ sym (rw (items-entries (list_at ls 0), items-entries (list_at ls 1)) refl)

pub once-flat : (ls : List (List (ℕ × Node))) → length ls ≡ 2 → HasIdsOnce (items (small_of ls) ++ items (main_of ls))
    → HasIdsOnce (placed_items item_of (flat ls))
once-flat ls h once = rw (order-flat ls h) once

-- the node at the front of a queue
pub record Front (ls : List (List (ℕ × Node))) (k p : ℕ) (v : Node) : Type 0 where
  pub back : List (ℕ × Node)
  pub is : list_at ls k ≡ (p, v) ∷ back

pub front : (ls : List (List (ℕ × Node))) → AreLists 2 ls → (k p : ℕ) (v : Node) → Some p
    ≡ first_or (list_at ls k) None → find p ls ≡ Some v → Front ls k p v
front ls sound k p v first found =
    let b = begins p (list_at ls k) (sym first) in
    let same : b.value ≡ v = (let q = sym (find-mid 2 ls sound k p b.value [] b.back b.is) ∙ found in cc) in
    record { back = b.back; is = b.is ∙ ap (λ (n : Node). (p, n) ∷ b.back) same }

-- the place at the front is in
pub record Fronted (ls : List (List (ℕ × Node))) (k p : ℕ) : Type 0 where
  pub node : Node
  pub found : find p ls ≡ Some node
  pub front : Front ls k p node

pub fronted : (ls : List (List (ℕ × Node))) → AreLists 2 ls → (k p : ℕ) → Some p ≡ first_or (list_at ls k) None →
    Fronted ls k p
fronted ls sound k p first =
    let b = begins p (list_at ls k) (sym first) in
    record {
      node = b.value;
      found = find-mid 2 ls sound k p b.value [] b.back b.is;
      front =
          record { back = b.back; is = b.is };
    }

module _ (ls : List (List (ℕ × Node))) (sound : AreLists 2 ls) (queues : AreQueues ls) (p : ℕ) (v : Node)
    (found : find p ls ≡ Some v) where
  -- once it is out
  pub out-places : (q : ℕ) → item_at (map (drop_place p) ls) q ≡ without v.item.id (item_at ls q)
  out-places q = placed-out item_of 2 ls sound (once-flat ls sound.count queues.once) p v found q

  pub write-places : (w : Node) → w.item ≡ v.item → (q : ℕ) → item_at (map (with_value p w) ls) q ≡ item_at ls q
  write-places w same q = placed-write item_of p q v w ls found same

  module _ (f : Front ls 0 p v) where
    small-is : small_of ls ≡ entry (p, v) ∷ entries f.back
    small-is = ap (λ (l : List (ℕ × Node)). entries l) f.is

    pub small-head : small_of ls ≡ entry (p, v) ∷ entries f.back
    small-head = small-is

    pub small-marks : AreIn false ((p, v) ∷ f.back)
    small-marks = rw f.is at queues.small

    -- the front of small leaves
    pub out-small : small_of (map (drop_place p) ls) ≡ entries f.back
    out-small = ap (λ (l : List (ℕ × Node)). entries l) (drop-here 2 ls sound 0 p v [] f.back f.is)

    pub out-main : list_at (map (drop_place p) ls) 1 ≡ list_at ls 1
    out-main = drop-other 2 ls sound 0 p v [] f.back f.is 1 (λ e. omega arith)

    pub out-queues : AreQueues (map (drop_place p) ls)
    out-queues = record {
      small = rw (drop-here 2 ls sound 0 p v [] f.back f.is) small-marks.1;
      main = rw out-main queues.main;
      once = λ id.
          let old : items (small_of ls) ≡ v.item ∷ items (entries f.back) = ap (λ (l : List Entry). items l) small-is in
          let new : count_of id (items (small_of (map (drop_place p) ls))) ≡ count_of id (items (entries f.back)) =
          ap (λ (l : List Entry). count_of id (items l)) out-small in
          let main : count_of id (items (main_of (map (drop_place p) ls))) ≡ count_of id (items (main_of ls)) =
          ap (λ (l : List (ℕ × Node)). count_of id (items (entries l))) out-main in
          omega (
            arith,
            queues.once id,
            count-append id (items (small_of ls)) (items (main_of ls)),
            count-append id (items (small_of (map (drop_place p) ls))) (items (main_of (map (drop_place p) ls))),
            ap (count_of id) old,
            count-cons id v.item (items (entries f.back)),
            new,
            main,
          );
    }

    -- the front of small goes to the end of main
    module _ (w : Node) (item : w.item ≡ v.item) (frequency : w.state.frequency ≡ v.state.frequency)
        (mark : w.state.is_main ≡ true) where
      written : List (List (ℕ × Node))
      written = map (with_value p w) ls

      sound2 : AreLists 2 (map (with_value p w) ls)
      sound2 = AreLists-write 2 p w ls sound

      here : list_at (map (with_value p w) ls) 0 ≡ (p, w) ∷ f.back
      here = write-here 2 ls sound 0 p v [] f.back f.is w

      there : list_at (map (with_value p w) ls) 1 ≡ list_at ls 1
      there = write-other 2 ls sound 0 p v [] f.back f.is w 1 (λ e. omega arith)

      same_entry : entry (p, w) ≡ entry (p, v)
      same_entry = rw (item, frequency) refl

      promote-back : list_at (moved p 1 (map (with_value p w) ls)) 0 ≡ f.back
      promote-back = moved-here 2 (map (with_value p w) ls) sound2 0 p w [] f.back here 1 (λ e. omega arith)

      promote-there : list_at (moved p 1 (map (with_value p w) ls)) 1 ≡ list_at ls 1 ++ (p, w) ∷ []
      promote-there = moved-there 2 (map (with_value p w) ls) sound2 0 p w [] f.back here 1 (λ e. omega arith)
          (omega (arith, sound2.count)) ∙ ap (λ (l : List (ℕ × Node)). l ++ (p, w) ∷ []) there

      pub promote-small : small_of (moved p 1 (map (with_value p w) ls)) ≡ entries f.back
      promote-small = ap (λ (l : List (ℕ × Node)). entries l) promote-back

      pub promote-main : main_of (moved p 1 (map (with_value p w) ls)) ≡ main_of ls ++ entry (p, v) ∷ []
      promote-main = ap (λ (l : List (ℕ × Node)). entries l) promote-there
          ∙ entries-append (list_at ls 1) ((p, w) ∷ []) ∙ ap (λ (e : Entry). main_of ls ++ e ∷ []) same_entry

      pub promote-queues : AreQueues (moved p 1 (map (with_value p w) ls))
      promote-queues = record {
        small = rw promote-back small-marks.1;
        main = rw promote-there
            (are_in-append true (list_at ls 1) ((p, w) ∷ []) queues.main
            ((mark, omega (arith, frequency, small-marks.0.1)), tt));
        once = λ id.
            let old : items (small_of ls) ≡ v.item ∷ items (entries f.back) =
            ap (λ (l : List Entry). items l) small-is in
            let now = moved p 1 (map (with_value p w) ls) in
            let new : count_of id (items (small_of now)) ≡ count_of id (items (entries f.back)) =
            ap (λ (l : List Entry). count_of id (items l)) promote-small in
            let main : count_of id (items (main_of now)) ≡ count_of id (items (main_of ls) ++ v.item ∷ []) =
            ap (λ (l : List Entry). count_of id (items l)) promote-main
            ∙ ap (count_of id) (items-append (main_of ls) (entry (p, v) ∷ [])) in
            omega (
              arith,
              queues.once id,
              count-append id (items (small_of ls)) (items (main_of ls)),
              count-append id (items (small_of now)) (items (main_of now)),
              ap (count_of id) old,
              count-cons id v.item (items (entries f.back)),
              new,
              main,
              count-append id (items (main_of ls)) (v.item ∷ []),
              count-cons id v.item [],
            );
      }

  module _ (f : Front ls 1 p v) where
    pub main-head : main_of ls ≡ entry (p, v) ∷ entries f.back
    main-head = ap (λ (l : List (ℕ × Node)). entries l) f.is

    pub main-marks : AreIn true ((p, v) ∷ f.back)
    main-marks = rw f.is at queues.main

    -- a look at the front of main, and then it is dropped or moved to the back
    module _ (w : Node) (item : w.item ≡ v.item) (mark : w.state.is_main ≡ v.state.is_main)
        (lower : w.state.frequency ≤ v.state.frequency) where
      sound3 : AreLists 2 (map (with_value p w) ls)
      sound3 = AreLists-write 2 p w ls sound

      pub look-sound : AreLists 2 (map (with_value p w) ls)
      look-sound = sound3

      pub look-main : list_at (map (with_value p w) ls) 1 ≡ (p, w) ∷ f.back
      look-main = write-here 2 ls sound 1 p v [] f.back f.is w

      pub look-small : list_at (map (with_value p w) ls) 0 ≡ list_at ls 0
      look-small = write-other 2 ls sound 1 p v [] f.back f.is w 0 (λ e. omega arith)

      pub look-found : find p (map (with_value p w) ls) ≡ Some w
      look-found = find-mid 2 (map (with_value p w) ls) sound3 1 p w [] f.back look-main

      pub look-queues : AreQueues (map (with_value p w) ls)
      look-queues = record {
        small = rw look-small queues.small;
        main = rw look-main ((mark ∙ main-marks.0.0, omega (arith, lower, main-marks.0.1)), main-marks.1);
        once = rw (look-small, look-main, item)
            (subst (λ (l : List Entry). HasIdsOnce (items (small_of ls) ++ items l)) main-head queues.once);
      }

      turn-main : list_at (moved p 1 (map (with_value p w) ls)) 1 ≡ f.back ++ (p, w) ∷ []
      turn-main = ap (λ (l : List (List (ℕ × Node))). list_at l 1)
          (moved-own 2 (map (with_value p w) ls) sound3 1 p w [] f.back look-main)
          ∙ get_or-set_same (map (with_value p w) ls) 1 (f.back ++ (p, w) ∷ []) [] (omega (arith, sound3.count))

      turn-small : list_at (moved p 1 (map (with_value p w) ls)) 0 ≡ list_at ls 0
      turn-small = moved-other 2 (map (with_value p w) ls) sound3 1 p w [] f.back look-main 0 1 (λ e. omega arith)
          (λ e. omega arith) ∙ look-small

      pub round-main : main_of (moved p 1 (map (with_value p w) ls)) ≡ entries f.back ++ entry (p, w) ∷ []
      round-main = ap (λ (l : List (ℕ × Node)). entries l) turn-main ∙ entries-append f.back ((p, w) ∷ [])

      pub round-small : small_of (moved p 1 (map (with_value p w) ls)) ≡ small_of ls
      round-small = ap (λ (l : List (ℕ × Node)). entries l) turn-small

      pub round-length : length (list_at (moved p 1 (map (with_value p w) ls)) 1) ≡ length (list_at ls 1)
      round-length = ap (λ (l : List (ℕ × Node)). length l) turn-main
          ∙ omega (arith, length-append f.back ((p, w) ∷ [])) ∙ sym (ap (λ (l : List (ℕ × Node)). length l) f.is)

      pub round-queues : AreQueues (moved p 1 (map (with_value p w) ls))
      round-queues = record {
        small = rw turn-small queues.small;
        main = rw turn-main
            (are_in-append true f.back ((p, w) ∷ []) main-marks.1
            ((mark ∙ main-marks.0.0, omega (arith, lower, main-marks.0.1)), tt));
        once = λ id.
            let now = moved p 1 (map (with_value p w) ls) in
            let old : items (main_of ls) ≡ v.item ∷ items (entries f.back) =
            ap (λ (l : List Entry). items l) main-head in
            let small : count_of id (items (small_of now)) ≡ count_of id (items (small_of ls)) =
            ap (λ (l : List Entry). count_of id (items l)) round-small in
            let main : count_of id (items (main_of now)) ≡ count_of id (items (entries f.back) ++ v.item ∷ []) =
            ap (λ (l : List Entry). count_of id (items l)) round-main
            ∙ ap (count_of id)
            (items-append (entries f.back) (entry (p, w) ∷ [])
            ∙ ap (λ (i : Item). items (entries f.back) ++ i ∷ []) item) in
            omega (
              arith,
              queues.once id,
              count-append id (items (small_of ls)) (items (main_of ls)),
              count-append id (items (small_of now)) (items (main_of now)),
              ap (count_of id) old,
              count-cons id v.item (items (entries f.back)),
              small,
              main,
              count-append id (items (entries f.back)) (v.item ∷ []),
              count-cons id v.item [],
            );
      }

    -- the front of main leaves
    pub drop-main : list_at (map (drop_place p) ls) 1 ≡ f.back
    drop-main = drop-here 2 ls sound 1 p v [] f.back f.is

    pub drop-small : list_at (map (drop_place p) ls) 0 ≡ list_at ls 0
    drop-small = drop-other 2 ls sound 1 p v [] f.back f.is 0 (λ e. omega arith)

    pub drop-queues : AreQueues (map (drop_place p) ls)
    drop-queues = record {
      small = rw drop-small queues.small;
      main = rw drop-main main-marks.1;
      once = λ id.
          let now = map (drop_place p) ls in
          let old : items (main_of ls) ≡ v.item ∷ items (entries f.back) = ap (λ (l : List Entry). items l) main-head in
          let small : count_of id (items (small_of now)) ≡ count_of id (items (small_of ls)) =
          ap (λ (l : List (ℕ × Node)). count_of id (items (entries l))) drop-small in
          let main : count_of id (items (main_of now)) ≡ count_of id (items (entries f.back)) =
          ap (λ (l : List (ℕ × Node)). count_of id (items (entries l))) drop-main in
          omega (
            arith,
            queues.once id,
            count-append id (items (small_of ls)) (items (main_of ls)),
            count-append id (items (small_of now)) (items (main_of now)),
            ap (count_of id) old,
            count-cons id v.item (items (entries f.back)),
            small,
            main,
          );
    }

-- no frequency passes 3
pub frequencies-le : (main : Bool) (l : List (ℕ × Node)) → AreIn main l → frequencies (entries l) ≤ 3 * length l
frequencies-le main [] h = omega arith
frequencies-le main (e ∷ es) h =
    omega (arith, frequencies-cons (entry e) (entries es), h.0.1, frequencies-le main es h.1)

pub few-frequencies : (ls : List (List (ℕ × Node))) → AreQueues ls →
    frequencies (small_of ls) + frequencies (main_of ls) ≤ 3 * length (items (small_of ls) ++ items (main_of ls))
few-frequencies ls queues =
    let small = list_at ls 0 in
    let main = list_at ls 1 in
    let n : length (items (small_of ls) ++ items (main_of ls)) ≡ length small + length main =
    length-append (items (small_of ls)) (items (main_of ls))
    ∙ rw (items-entries small, items-entries main, length-map, length-map) refl in
    omega (arith, n, frequencies-le false small queues.small, frequencies-le true main queues.main)

-- a walk along a queue that counts
pub record Counted (all : List (ℕ × Node)) (next : Option ℕ) (count : ℕ) : Type 0 where
  pub done : List (ℕ × Node)
  pub todo : List (ℕ × Node)
  pub parts : all ≡ done ++ todo
  pub here : next ≡ first_or todo None
  pub told : count ≡ length done

-- the place that comes next, and its entry
pub record CountedAt (all done : List (ℕ × Node)) (p : ℕ) : Type 0 where
  pub node : Node
  pub behind : List (ℕ × Node)
  pub is : all ≡ done ++ (p, node) ∷ behind

pub counted-at : (all : List (ℕ × Node)) (p count : ℕ) (w : Counted all (Some p) count) → CountedAt all w.done p
counted-at all p count w = go w.todo w.here w.parts where
  go : (todo : List (ℕ × Node)) → Some p ≡ first_or todo None → all ≡ w.done ++ todo → CountedAt all w.done p
  go [] h parts = absurd cc
  go (x ∷ xs) h parts =
      (let same : p ≡ x.0 = cc in
      record { node = x.1; behind = xs; is = parts ∙ ap (λ (q : ℕ). w.done ++ (q, x.1) ∷ xs) (sym same) })

pub counted-found : (ls : List (List (ℕ × Node))) → AreLists 2 ls → (k p count : ℕ) →
    Counted (list_at ls k) (Some p) count → IsSome (find p ls)
counted-found ls sound k p count w =
    (let a = counted-at (list_at ls k) p count w in
    rw (find-mid 2 ls sound k p a.node w.done a.behind a.is) (search rules))

pub counted-on : (all : List (ℕ × Node)) (p count : ℕ) (next : Option ℕ) → Counted all (Some p) count →
    ((xs ys : List (ℕ × Node)) (v : Node) → all ≡ xs ++ (p, v) ∷ ys → next ≡ first_or ys None) →
    Counted all next (count + 1)
counted-on all p count next w after =
    let a = counted-at all p count w in
    record {
      done = w.done ++ (p, a.node) ∷ [];
      todo = a.behind;
      parts = a.is ∙ sym (append_assoc w.done ((p, a.node) ∷ []) a.behind);
      here = after w.done a.behind a.node a.is;
      told = omega (arith, w.told, length-append w.done ((p, a.node) ∷ []));
    }

-- the first node of small, by its value
pub record First (ls : List (List (ℕ × Node))) (v : Node) : Type 0 where
  pub place : ℕ
  pub front : Front ls 0 place v

pub first-node : (ls : List (List (ℕ × Node))) (v : Node) → Some v ≡ first_value (list_at ls 0) → First ls v
first-node ls v h = go (list_at ls 0) refl h where
  go : (l : List (ℕ × Node)) → list_at ls 0 ≡ l → Some v ≡ first_value l → First ls v
  go [] is h = absurd cc
  go (x ∷ xs) is h =
      (let same : v ≡ x.1 = cc in
      record { place = x.0; front = record { back = xs; is = is ∙ ap (λ (n : Node). (x.0, n) ∷ xs) (sym same) } })

-- what is taken from the front of small
module _ (ls ls2 : List (List (ℕ × Node))) (sound : AreLists 2 ls) (queues : AreQueues ls) (v : Node)
    (value : Some v ≡ first_value (list_at ls 0)) (popped : ls2 ≡ set ls 0 (rest (list_at ls 0))) where
  popped-is : (w : First ls v) → ls2 ≡ map (drop_place w.place) ls
  popped-is w = popped ∙ pop-some 2 ls sound 0 w.place v w.front.back w.front.is

  popped-found : (w : First ls v) → find w.place ls ≡ Some v
  popped-found w = find-mid 2 ls sound 0 w.place v [] w.front.back w.front.is

  pub popped-queues : AreQueues ls2
  popped-queues =
      (let w = first-node ls v value in rw (popped-is w)
      (out-queues ls sound queues w.place v (popped-found w) w.front))

  pub popped-places : (q : ℕ) → item_at ls2 q ≡ without v.item.id (item_at ls q)
  popped-places q =
      (let w = first-node ls v value in ap (λ (l : List (List (ℕ × Node))). item_at l q) (popped-is w)
      ∙ out-places ls sound queues w.place v (popped-found w) q)

-- both queues together
pub both-lengths : (ls : List (List (ℕ × Node))) → AreLists 2 ls → length (list_at ls 0) + length (list_at ls 1)
    ≡ sum_by length ls
both-lengths ls sound = sym (length-append (list_at ls 0) (list_at ls 1))
    ∙ ap (λ (l : List (ℕ × Node)). length l) (sym (flat-two ls sound.count)) ∙ length-flat ls
