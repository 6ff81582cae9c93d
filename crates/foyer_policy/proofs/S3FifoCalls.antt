-- What the calls of an S3-FIFO leave of its nodes, as the view has it.
use Rattle.std.proofs.Common.{◌≡◌, ◌≢◌, ℕ, zero, suc, ◌+◌, ◌<◌, Bool, true, false, List, [], ◌∷◌, ◌++◌, Option, Some, None, map, refl, sym, ◌∙◌, ap, subst, arith, set, inl, inr}
use Rattle.std.specs.Prelude.{◌==◌, ◌⊎◌, not, min}
use Rattle.std.proofs.lemmas.Bool.Decides.{nat_tests}
use Rattle.std.proofs.lemmas.List.{get_or-set_same, get_or-set_other}
use Rattle.std.proofs.lemmas.List.Sums.{sum_by-cons, sum_by-append}
use Rattle.foyer_policy.specs.Lists.{list_at, find, drop_place, with_value, AreLists}
use Rattle.foyer_policy.specs.Items.{HasIdsOnce, IsNewIn, count_of, weight_of, find_id}
use Rattle.foyer_policy.specs.ItemLaws.{new-head, new-tail, once-head, once-tail, once-remove_id, once-snoc}
use Rattle.foyer_policy.specs.PartLaws.{find_id-one_part}
use Rattle.foyer_policy.specs.GhostQueue.{Ghost}
use Rattle.foyer_policy.specs.S3Fifo.{Entry, Setting, S3FifoView, items, remove_entry, use_entry, s3fifo}
use Rattle.foyer_policy.specs.S3FifoTurns.{items-append}
use Rattle.foyer_policy.specs.S3FifoLaws.{remove-order, acquire-order}
use Rattle.foyer_policy.specs.S3FifoQueues.{Node, entry, entries, small_of, main_of, view_with, AreIn, AreQueues}
use Rattle.foyer_policy.specs.declared.types.Item.{Item}
use Rattle.foyer_policy.proofs.ListsLemmas.{stands, write-here, write-other, drop-here, drop-other}
use Rattle.foyer_policy.proofs.PlaceLemmas.{same_place}
use Rattle.foyer_policy.proofs.NodeLemmas.{find_id-placed}
use Rattle.foyer_policy.proofs.S3FifoNodes.{item_of, entries-append, count-append, are_in-append, are_in-left, are_in-right, order-flat, once-flat}

once-left : (xs ys : List Item) → HasIdsOnce (xs ++ ys) → HasIdsOnce xs
once-left xs ys h id = omega (arith, h id, count-append id xs ys)

once-right : (xs ys : List Item) → HasIdsOnce (xs ++ ys) → HasIdsOnce ys
once-right xs ys h id = omega (arith, h id, count-append id xs ys)

-- an entry of a list in which each id stands once
module _ (e : Entry) (ys : List Entry) where
  apart : (id : ℕ) (xs : List Entry) → IsNewIn id (items (xs ++ e ∷ ys)) → e.item.id ≢ id
  apart id [] n = new-head id e.item (items ys) n
  apart id (x ∷ xs) n = apart id xs (new-tail id x.item (items (xs ++ e ∷ ys)) n)

  other : (x : Entry) (xs : List Entry) → HasIdsOnce (items (x ∷ (xs ++ e ∷ ys))) → (x.item.id == e.item.id) ≡ false
  other x xs once =
      (let n : e.item.id ≢ x.item.id = apart x.item.id xs (once-head x.item (items (xs ++ e ∷ ys)) once) in
      grind (arith, nat_tests))

  remove_entry-mid : (xs : List Entry) → HasIdsOnce (items (xs ++ e ∷ ys)) → remove_entry e.item.id (xs ++ e ∷ ys)
      ≡ xs ++ ys
  remove_entry-mid [] once = rw (same_place e.item.id) refl
  remove_entry-mid (x ∷ xs) once = rw (other x xs once)
      (ap (λ r. x ∷ r) (remove_entry-mid xs (once-tail x.item (items (xs ++ e ∷ ys)) once)))

  use_entry-mid : (xs : List Entry) → HasIdsOnce (items (xs ++ e ∷ ys)) → use_entry e.item.id (xs ++ e ∷ ys) ≡ xs
      ++ record { item = e.item; frequency = min (e.frequency + 1) 3 } ∷ ys
  use_entry-mid [] once = rw (same_place e.item.id) refl
  use_entry-mid (x ∷ xs) once = rw (other x xs once)
      (ap (λ r. x ∷ r) (use_entry-mid xs (once-tail x.item (items (xs ++ e ∷ ys)) once)))

  find_id-mid : (xs : List Entry) → HasIdsOnce (items (xs ++ e ∷ ys)) → find_id e.item.id (items (xs ++ e ∷ ys))
      ≡ Some e.item
  find_id-mid [] once = rw (same_place e.item.id) refl
  find_id-mid (x ∷ xs) once = rw (other x xs once) (find_id-mid xs (once-tail x.item (items (xs ++ e ∷ ys)) once))

-- where in its queue a node stands
pub record At (ls : List (List (ℕ × Node))) (k p : ℕ) (v : Node) : Type 0 where
  pub front : List (ℕ × Node)
  pub back : List (ℕ × Node)
  pub is : list_at ls k ≡ front ++ (p, v) ∷ back

-- each node stands in small or in main, as it says
pub whereabouts : (ls : List (List (ℕ × Node))) → AreLists 2 ls → AreQueues ls → (p : ℕ) (v : Node) → find p ls
    ≡ Some v → (At ls 0 p v × (v.state.is_main ≡ false)) ⊎ (At ls 1 p v × (v.state.is_main ≡ true))
whereabouts ls sound queues p v found =
    (let s = stands p v ls found in go s.list s.front s.back (omega (arith, s.within, sound.count)) s.is) where
      marked : (main : Bool) (xs ys : List (ℕ × Node)) → AreIn main (xs ++ (p, v) ∷ ys) → v.state.is_main ≡ main
      marked main xs ys h = (are_in-right main xs ((p, v) ∷ ys) h).0.0

      go : (k : ℕ) (xs ys : List (ℕ × Node)) → k < 2 → list_at ls k ≡ xs ++ (p, v) ∷ ys →
          (At ls 0 p v × (v.state.is_main ≡ false)) ⊎ (At ls 1 p v × (v.state.is_main ≡ true))
      go zero xs ys lt is = inl (record { front = xs; back = ys; is = is }, marked false xs ys (rw is at queues.small))
      go (suc zero) xs ys lt is = inr (record { front = xs; back = ys; is = is }, marked true xs ys (rw is at queues.main))
      go (suc (suc k)) xs ys lt is = absurd (omega (arith, lt))

same_view : (a b c d : List Entry) (g : Ghost) (l : ℕ) (s : Setting) → a ≡ b → c ≡ d →
    ◌≡◌ {A = S3FifoView} (record { small = a; main = c; ghost = g; limit = l; setting = s })
    (record { small = b; main = d; ghost = g; limit = l; setting = s })
same_view a b c d g l s h k = rw (h, k) refl

module _ (ls : List (List (ℕ × Node))) (sound : AreLists 2 ls) (queues : AreQueues ls) (p : ℕ) (v : Node)
    (found : find p ls ≡ Some v) where
  pub member : find_id v.item.id (items (small_of ls) ++ items (main_of ls)) ≡ Some v.item
  member = rw (← order-flat ls sound.count)
      (find_id-placed item_of 2 ls sound (once-flat ls sound.count queues.once) p v found)

  parts : (k : ℕ) (a : At ls k p v) → entries (list_at ls k) ≡ entries a.front ++ entry (p, v) ∷ entries a.back
  parts k a = ap (λ (l : List (ℕ × Node)). entries l) a.is ∙ entries-append a.front ((p, v) ∷ a.back)

  once-small : (a : At ls 0 p v) → HasIdsOnce (items (entries a.front ++ entry (p, v) ∷ entries a.back))
  once-small a = subst (λ (l : List Entry). HasIdsOnce (items l)) (parts 0 a)
      (once-left (items (small_of ls)) (items (main_of ls)) queues.once)

  once-main : (a : At ls 1 p v) → HasIdsOnce (items (entries a.front ++ entry (p, v) ∷ entries a.back))
  once-main a = subst (λ (l : List Entry). HasIdsOnce (items l)) (parts 1 a)
      (once-right (items (small_of ls)) (items (main_of ls)) queues.once)

  in-small : (a : At ls 0 p v) → find_id v.item.id (items (small_of ls)) ≡ Some v.item
  in-small a = ap (λ (l : List Entry). find_id v.item.id (items l)) (parts 0 a)
      ∙ find_id-mid (entry (p, v)) (entries a.back) (entries a.front) (once-small a)

  in-main : (a : At ls 1 p v) → find_id v.item.id (items (main_of ls)) ≡ Some v.item
  in-main a = ap (λ (l : List Entry). find_id v.item.id (items l)) (parts 1 a)
      ∙ find_id-mid (entry (p, v)) (entries a.back) (entries a.front) (once-main a)

  not-small : (a : At ls 1 p v) → find_id v.item.id (items (small_of ls)) ≡ None
  not-small a = go (find_id v.item.id (items (small_of ls))) refl where
    go : (o : Option Item) → find_id v.item.id (items (small_of ls)) ≡ o → o ≡ None
    go None is = refl
    go (Some i) is =
        (let n = find_id-one_part v.item.id i (items (small_of ls)) (items (main_of ls)) queues.once is in let m =
        in-main a in absurd cc)

  module _ (g : Ghost) (l : ℕ) (s : Setting) where
    pub remove-view : view_with (map (drop_place p) ls) g l s ≡ s3fifo.remove (view_with ls g l s) v.item.id
    remove-view = elim (whereabouts ls sound queues p v found) [
      | inl w ↦ small w.0
      | inr w ↦ main w.0
    ] where
      small : At ls 0 p v → view_with (map (drop_place p) ls) g l s ≡ s3fifo.remove (view_with ls g l s) v.item.id
      small a = rw (in-small a)
          (same_view (small_of (map (drop_place p) ls)) (remove_entry v.item.id (small_of ls))
          (main_of (map (drop_place p) ls)) (main_of ls) g l s
          (ap (λ (x : List (ℕ × Node)). entries x) (drop-here 2 ls sound 0 p v a.front a.back a.is)
          ∙ entries-append a.front a.back
          ∙ sym (ap (remove_entry v.item.id) (parts 0 a)
          ∙ remove_entry-mid (entry (p, v)) (entries a.back) (entries a.front) (once-small a)))
          (ap (λ (x : List (ℕ × Node)). entries x)
          (drop-other 2 ls sound 0 p v a.front a.back a.is 1 (λ e. omega arith))))

      main : At ls 1 p v → view_with (map (drop_place p) ls) g l s ≡ s3fifo.remove (view_with ls g l s) v.item.id
      main a = rw (not-small a)
          (same_view (small_of (map (drop_place p) ls)) (small_of ls) (main_of (map (drop_place p) ls))
          (remove_entry v.item.id (main_of ls)) g l s
          (ap (λ (x : List (ℕ × Node)). entries x)
          (drop-other 2 ls sound 1 p v a.front a.back a.is 0 (λ e. omega arith)))
          (ap (λ (x : List (ℕ × Node)). entries x) (drop-here 2 ls sound 1 p v a.front a.back a.is)
          ∙ entries-append a.front a.back
          ∙ sym (ap (remove_entry v.item.id) (parts 1 a)
          ∙ remove_entry-mid (entry (p, v)) (entries a.back) (entries a.front) (once-main a))))

    pub use-view : (w : Node) → w.item ≡ v.item → w.state.frequency ≡ min (v.state.frequency + 1) 3 →
        view_with (map (with_value p w) ls) g l s ≡ s3fifo.acquire (view_with ls g l s) v.item.id
    use-view w item frequency = elim (whereabouts ls sound queues p v found) [
      | inl a ↦ small a.0
      | inr a ↦ main a.0
    ] where
      used : entry (p, w) ≡ record { item = v.item; frequency = min (v.state.frequency + 1) 3 }
      used = rw (item, frequency) refl

      small : At ls 0 p v → view_with (map (with_value p w) ls) g l s ≡ s3fifo.acquire (view_with ls g l s) v.item.id
      small a = rw (in-small a)
          (same_view (small_of (map (with_value p w) ls)) (use_entry v.item.id (small_of ls))
          (main_of (map (with_value p w) ls)) (main_of ls) g l s
          (ap (λ (x : List (ℕ × Node)). entries x) (write-here 2 ls sound 0 p v a.front a.back a.is w)
          ∙ entries-append a.front ((p, w) ∷ a.back)
          ∙ ap (λ (e : Entry). entries a.front ++ e ∷ entries a.back) used
          ∙ sym (ap (use_entry v.item.id) (parts 0 a)
          ∙ use_entry-mid (entry (p, v)) (entries a.back) (entries a.front) (once-small a)))
          (ap (λ (x : List (ℕ × Node)). entries x)
          (write-other 2 ls sound 0 p v a.front a.back a.is w 1 (λ e. omega arith))))

      main : At ls 1 p v → view_with (map (with_value p w) ls) g l s ≡ s3fifo.acquire (view_with ls g l s) v.item.id
      main a = rw (not-small a)
          (same_view (small_of (map (with_value p w) ls)) (small_of ls) (main_of (map (with_value p w) ls))
          (use_entry v.item.id (main_of ls)) g l s
          (ap (λ (x : List (ℕ × Node)). entries x)
          (write-other 2 ls sound 1 p v a.front a.back a.is w 0 (λ e. omega arith)))
          (ap (λ (x : List (ℕ × Node)). entries x) (write-here 2 ls sound 1 p v a.front a.back a.is w)
          ∙ entries-append a.front ((p, w) ∷ a.back)
          ∙ ap (λ (e : Entry). entries a.front ++ e ∷ entries a.back) used
          ∙ sym (ap (use_entry v.item.id) (parts 1 a)
          ∙ use_entry-mid (entry (p, v)) (entries a.back) (entries a.front) (once-main a))))

  -- the marks and ids, once it is out or used
  without-mid : (main : Bool) (xs ys : List (ℕ × Node)) → AreIn main (xs ++ (p, v) ∷ ys) → AreIn main (xs ++ ys)
  without-mid main xs ys h = are_in-append main xs ys (are_in-left main xs ((p, v) ∷ ys) h)
      (are_in-right main xs ((p, v) ∷ ys) h).1

  pub removed-queues : Ghost → Setting → AreQueues (map (drop_place p) ls)
  removed-queues g s = elim (whereabouts ls sound queues p v found) [
    | inl a ↦ record {
      small = rw (drop-here 2 ls sound 0 p v a.0.front a.0.back a.0.is)
          (without-mid false a.0.front a.0.back (rw a.0.is at queues.small));
      main = rw (drop-other 2 ls sound 0 p v a.0.front a.0.back a.0.is 1 (λ e. omega arith)) queues.main;
      once = once;
    }
    | inr a ↦ record {
      small = rw (drop-other 2 ls sound 1 p v a.0.front a.0.back a.0.is 0 (λ e. omega arith)) queues.small;
      main = rw (drop-here 2 ls sound 1 p v a.0.front a.0.back a.0.is)
          (without-mid true a.0.front a.0.back (rw a.0.is at queues.main));
      once = once;
    }
  ] where
    once : HasIdsOnce (items (small_of (map (drop_place p) ls)) ++ items (main_of (map (drop_place p) ls)))
    once = subst (λ (l : List Item). HasIdsOnce l)
        (sym (ap (λ (w : S3FifoView). items w.small ++ items w.main) (remove-view g 0 s)
        ∙ remove-order (view_with ls g 0 s) v.item.id))
        (once-remove_id v.item.id (items (small_of ls) ++ items (main_of ls)) queues.once)

  pub used-queues : Ghost → Setting → (w : Node) → w.item ≡ v.item → w.state.frequency ≡ min (v.state.frequency + 1) 3
      → w.state.is_main ≡ v.state.is_main → AreQueues (map (with_value p w) ls)
  used-queues g s w item frequency mark = elim (whereabouts ls sound queues p v found) [
    | inl a ↦ record {
      small = rw (write-here 2 ls sound 0 p v a.0.front a.0.back a.0.is w)
          (with-mid false a.0.front a.0.back (rw a.0.is at queues.small));
      main = rw (write-other 2 ls sound 0 p v a.0.front a.0.back a.0.is w 1 (λ e. omega arith)) queues.main;
      once = once;
    }
    | inr a ↦ record {
      small = rw (write-other 2 ls sound 1 p v a.0.front a.0.back a.0.is w 0 (λ e. omega arith)) queues.small;
      main = rw (write-here 2 ls sound 1 p v a.0.front a.0.back a.0.is w)
          (with-mid true a.0.front a.0.back (rw a.0.is at queues.main));
      once = once;
    }
  ] where
    with-mid : (main : Bool) (xs ys : List (ℕ × Node)) → AreIn main (xs ++ (p, v) ∷ ys) → AreIn main (xs ++ (p, w) ∷ ys)
    with-mid main xs ys h =
        (let r = are_in-right main xs ((p, v) ∷ ys) h in
        are_in-append main xs ((p, w) ∷ ys) (are_in-left main xs ((p, v) ∷ ys) h)
        ((mark ∙ r.0.0, omega (arith, frequency)), r.1))

    once : HasIdsOnce (items (small_of (map (with_value p w) ls)) ++ items (main_of (map (with_value p w) ls)))
    once = subst (λ (l : List Item). HasIdsOnce l)
        (sym (ap (λ (u : S3FifoView). items u.small ++ items u.main) (use-view g 0 s w item frequency)
        ∙ acquire-order (view_with ls g 0 s) v.item.id)) queues.once

  -- what small weighs
  pub small-weight : v.state.is_main ≡ false → weight_of (items (small_of (map (drop_place p) ls))) + v.item.weight
      ≡ weight_of (items (small_of ls))
  small-weight h = elim (whereabouts ls sound queues p v found) [
    | inl a ↦ (let weight : Item → ℕ = λ i. i.weight in
        let old = ap (λ (l : List Entry). weight_of (items l)) (parts 0 a.0)
        ∙ ap weight_of (items-append (entries a.0.front) (entry (p, v) ∷ entries a.0.back)) in
        let new = ap (λ (l : List (ℕ × Node)). weight_of (items (entries l)))
        (drop-here 2 ls sound 0 p v a.0.front a.0.back a.0.is)
        ∙ ap (λ (l : List Entry). weight_of (items l)) (entries-append a.0.front a.0.back)
        ∙ ap weight_of (items-append (entries a.0.front) (entries a.0.back)) in
        omega (
          arith,
          old,
          new,
          sum_by-append weight (items (entries a.0.front)) (v.item ∷ items (entries a.0.back)),
          sum_by-cons weight v.item (items (entries a.0.back)),
          sum_by-append weight (items (entries a.0.front)) (items (entries a.0.back)),
        ))
    | inr a ↦ absurd cc
  ]

  pub main-weight : v.state.is_main ≡ true → small_of (map (drop_place p) ls) ≡ small_of ls
  main-weight h = elim (whereabouts ls sound queues p v found) [
    | inl a ↦ absurd cc
    | inr a ↦ ap (λ (l : List (ℕ × Node)). entries l)
        (drop-other 2 ls sound 1 p v a.0.front a.0.back a.0.is 0 (λ e. omega arith))
  ]

  pub use-weight : (w : Node) → w.item ≡ v.item → weight_of (items (small_of (map (with_value p w) ls)))
      ≡ weight_of (items (small_of ls))
  use-weight w item = elim (whereabouts ls sound queues p v found) [
    | inl a ↦ (
        let old = ap (λ (l : List Entry). items l) (parts 0 a.0)
        ∙ items-append (entries a.0.front) (entry (p, v) ∷ entries a.0.back) in
        let new = ap (λ (l : List (ℕ × Node)). items (entries l))
        (write-here 2 ls sound 0 p v a.0.front a.0.back a.0.is w)
        ∙ ap (λ (l : List Entry). items l) (entries-append a.0.front ((p, w) ∷ a.0.back))
        ∙ items-append (entries a.0.front) (entry (p, w) ∷ entries a.0.back) in
        ap weight_of
        (new ∙ ap (λ (i : Item). items (entries a.0.front) ++ i ∷ items (entries a.0.back)) item ∙ sym old))
    | inr a ↦ ap (λ (l : List (ℕ × Node)). weight_of (items (entries l)))
        (write-other 2 ls sound 1 p v a.0.front a.0.back a.0.is w 0 (λ e. omega arith))
  ]

-- a new node at the end of a queue
module _ (ls ls2 : List (List (ℕ × Node))) (sound : AreLists 2 ls) (queues : AreQueues ls) (p : ℕ) (w : Node)
    (young : w.state.frequency ≡ 0) (new : IsNewIn w.item.id (items (small_of ls) ++ items (main_of ls))) where
  module _ (pushed : ls2 ≡ set ls 0 (list_at ls 0 ++ (p, w) ∷ [])) (mark : w.state.is_main ≡ false) where
    small-then : list_at ls2 0 ≡ list_at ls 0 ++ (p, w) ∷ []
    small-then = ap (λ (l : List (List (ℕ × Node))). list_at l 0) pushed
        ∙ get_or-set_same ls 0 (list_at ls 0 ++ (p, w) ∷ []) [] (omega (arith, sound.count))

    main-same : list_at ls2 1 ≡ list_at ls 1
    main-same = ap (λ (l : List (List (ℕ × Node))). list_at l 1) pushed
        ∙ get_or-set_other ls 0 1 (list_at ls 0 ++ (p, w) ∷ []) [] (λ e. omega arith)

    small-items : items (small_of ls2) ≡ items (small_of ls) ++ w.item ∷ []
    small-items = ap (λ (l : List (ℕ × Node)). items (entries l)) small-then
        ∙ ap (λ (l : List Entry). items l) (entries-append (list_at ls 0) ((p, w) ∷ []))
        ∙ items-append (small_of ls) (entry (p, w) ∷ [])

    pub pushed-small : AreQueues ls2
    pushed-small = record {
      small = rw small-then
          (are_in-append false (list_at ls 0) ((p, w) ∷ []) queues.small ((mark, omega (arith, young)), tt));
      main = rw main-same queues.main;
      once = λ id. omega (
        arith,
        once-snoc (items (small_of ls) ++ items (main_of ls)) w.item queues.once new id,
        count-append id (items (small_of ls2)) (items (main_of ls2)),
        ap (count_of id) small-items,
        ap (λ (l : List (ℕ × Node)). count_of id (items (entries l))) main-same,
        count-append id (items (small_of ls)) (w.item ∷ []),
        count-append id (items (small_of ls)) (items (main_of ls)),
        count-append id (items (small_of ls) ++ items (main_of ls)) (w.item ∷ []),
      );
    }

    pub pushed-weight : weight_of (items (small_of ls2)) ≡ weight_of (items (small_of ls)) + w.item.weight
    pushed-weight =
        (let weight : Item → ℕ = λ i. i.weight in
        omega (
          arith,
          ap weight_of small-items,
          sum_by-append weight (items (small_of ls)) (w.item ∷ []),
          sum_by-cons weight w.item [],
        ))

  module _ (pushed : ls2 ≡ set ls 1 (list_at ls 1 ++ (p, w) ∷ [])) (mark : w.state.is_main ≡ true) where
    main-then : list_at ls2 1 ≡ list_at ls 1 ++ (p, w) ∷ []
    main-then = ap (λ (l : List (List (ℕ × Node))). list_at l 1) pushed
        ∙ get_or-set_same ls 1 (list_at ls 1 ++ (p, w) ∷ []) [] (omega (arith, sound.count))

    small-same : list_at ls2 0 ≡ list_at ls 0
    small-same = ap (λ (l : List (List (ℕ × Node))). list_at l 0) pushed
        ∙ get_or-set_other ls 1 0 (list_at ls 1 ++ (p, w) ∷ []) [] (λ e. omega arith)

    main-items : items (main_of ls2) ≡ items (main_of ls) ++ w.item ∷ []
    main-items = ap (λ (l : List (ℕ × Node)). items (entries l)) main-then
        ∙ ap (λ (l : List Entry). items l) (entries-append (list_at ls 1) ((p, w) ∷ []))
        ∙ items-append (main_of ls) (entry (p, w) ∷ [])

    pub pushed-main : AreQueues ls2
    pushed-main = record {
      small = rw small-same queues.small;
      main = rw main-then
          (are_in-append true (list_at ls 1) ((p, w) ∷ []) queues.main ((mark, omega (arith, young)), tt));
      once = λ id. omega (
        arith,
        once-snoc (items (small_of ls) ++ items (main_of ls)) w.item queues.once new id,
        count-append id (items (small_of ls2)) (items (main_of ls2)),
        ap (count_of id) main-items,
        ap (λ (l : List (ℕ × Node)). count_of id (items (entries l))) small-same,
        count-append id (items (main_of ls)) (w.item ∷ []),
        count-append id (items (small_of ls)) (items (main_of ls)),
        count-append id (items (small_of ls) ++ items (main_of ls)) (w.item ∷ []),
      );
    }

    pub pushed-same : small_of ls2 ≡ small_of ls
    pushed-same = ap (λ (l : List (ℕ × Node)). entries l) small-same

pub not-true : (b : Bool) → not b ≡ true → b ≡ false
not-true true h = absurd cc
not-true false h = refl

pub not-false : (b : Bool) → not b ≡ false → b ≡ true
not-false true h = refl
not-false false h = absurd cc
