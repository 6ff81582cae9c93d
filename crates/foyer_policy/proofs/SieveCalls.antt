-- What the calls of a Sieve leave of its nodes, as the view has it.
use Rattle.std.proofs.Common.{◌≡◌, ◌≢◌, ℕ, zero, suc, Bool, true, false, cond, List, [], ◌∷◌, ◌++◌, Option, Some, None, length, map, set, refl, sym, ◌∙◌, ap, arith, rules, append-nil, IsSome, IfSome}
use Rattle.std.specs.Prelude.{◌==◌, is_some}
use Rattle.std.specs.Option.{option_map, unwrap_or}
use Rattle.std.proofs.lemmas.Bool.Decides.{nat_tests}
use Rattle.foyer_policy.specs.Lists.{list_at, find, first_or, first_value, rest, drop_place, with_value, AreLists}
use Rattle.foyer_policy.specs.Items.{HasIdsOnce, IsNewIn, remove_id, find_id}
use Rattle.foyer_policy.specs.Policy.{without}
use Rattle.foyer_policy.specs.Sieve.{Entry, SieveView, items, before_id, from_id, before_hand, from_hand, after_turn, looks_at, first_id, remove_entry, visit, hand_without, rotation, sieve_pop}
use Rattle.foyer_policy.specs.SieveLaws.{items-append, pop-some, emptied}
use Rattle.foyer_policy.specs.PopTimes.{after_pop, pop_times}
use Rattle.foyer_policy.specs.SieveQueue.{Node, entry, entries, entry_items, item_at, hand_id, IsTurn}
use Rattle.foyer_policy.specs.declared.types.Item.{Item}
use Rattle.foyer_policy.specs.ItemLaws.{new-head, new-tail, once-head, once-tail, once-remove_id}
use Rattle.foyer_policy.proofs.ListsLemmas.{pop-none, is_in, find-mid, stands, write-here, drop-here}
use Rattle.foyer_policy.proofs.FoundLemmas.{find-drop_other, write_found}
use Rattle.foyer_policy.proofs.PlaceLemmas.{begins, same_place, place_is, place_differs}
use Rattle.foyer_policy.proofs.NodeLemmas.{flat-single, find_id-placed, placed-out, placed-write}
use Rattle.foyer_policy.proofs.SieveLemmas.{turn-start}
use Rattle.foyer_policy.proofs.SieveNodes.{item_of, entries-append, items-entries, once-flat}

-- an entry of a queue in which each id stands once
module _ (e : Entry) (ys : List Entry) where
  apart : (id : ℕ) (xs : List Entry) → IsNewIn id (items (xs ++ e ∷ ys)) → e.item.id ≢ id
  apart id [] n = new-head id e.item (items ys) n
  apart id (x ∷ xs) n = apart id xs (new-tail id x.item (items (xs ++ e ∷ ys)) n)

  other : (x : Entry) (xs : List Entry) → HasIdsOnce (items (x ∷ (xs ++ e ∷ ys))) → (x.item.id == e.item.id) ≡ false
  other x xs once =
      (let n : e.item.id ≢ x.item.id = apart x.item.id xs (once-head x.item (items (xs ++ e ∷ ys)) once) in
      grind (arith, nat_tests))

  same_id : (e.item.id == e.item.id) ≡ true
  same_id = same_place e.item.id

  pub before_id-mid : (xs : List Entry) → HasIdsOnce (items (xs ++ e ∷ ys)) → before_id e.item.id (xs ++ e ∷ ys) ≡ xs
  before_id-mid [] once = rw same_id refl
  before_id-mid (x ∷ xs) once = rw (other x xs once)
      (ap (λ r. x ∷ r) (before_id-mid xs (once-tail x.item (items (xs ++ e ∷ ys)) once)))

  pub from_id-mid : (xs : List Entry) → HasIdsOnce (items (xs ++ e ∷ ys)) → from_id e.item.id (xs ++ e ∷ ys) ≡ e ∷ ys
  from_id-mid [] once = rw same_id refl
  from_id-mid (x ∷ xs) once = rw (other x xs once) (from_id-mid xs (once-tail x.item (items (xs ++ e ∷ ys)) once))

  pub remove_entry-mid : (xs : List Entry) → HasIdsOnce (items (xs ++ e ∷ ys)) → remove_entry e.item.id (xs ++ e ∷ ys)
      ≡ xs ++ ys
  remove_entry-mid [] once = rw same_id refl
  remove_entry-mid (x ∷ xs) once = rw (other x xs once)
      (ap (λ r. x ∷ r) (remove_entry-mid xs (once-tail x.item (items (xs ++ e ∷ ys)) once)))

  pub visit-mid : (xs : List Entry) → HasIdsOnce (items (xs ++ e ∷ ys)) → visit e.item.id (xs ++ e ∷ ys) ≡ xs
      ++ record { item = e.item; visited = true } ∷ ys
  visit-mid [] once = rw same_id refl
  visit-mid (x ∷ xs) once = rw (other x xs once)
      (ap (λ r. x ∷ r) (visit-mid xs (once-tail x.item (items (xs ++ e ∷ ys)) once)))

-- a node that is in, in the one list
pub record Spot (p : ℕ) (v : Node) (ls : List (List (ℕ × Node))) : Type 0 where
  pub before : List (ℕ × Node)
  pub behind : List (ℕ × Node)
  pub is : list_at ls 0 ≡ before ++ (p, v) ∷ behind

pub spot : (ls : List (List (ℕ × Node))) → AreLists 1 ls → (p : ℕ) (v : Node) → find p ls ≡ Some v → Spot p v ls
spot ls sound p v there =
    let s = stands p v ls there in
    let first : s.list ≡ 0 = omega (arith, s.within, sound.count) in
    record { before = s.front; behind = s.back; is = rw (← first) s.is }

module _ (ls : List (List (ℕ × Node))) (sound : AreLists 1 ls) (once : HasIdsOnce (entry_items (list_at ls 0)))
    (p : ℕ) where
  module _ (v : Node) (there : find p ls ≡ Some v) where
    -- the queue at the node, in which each id stands once
    once-at : (w : Spot p v ls) → HasIdsOnce (items (entries w.before ++ entry (p, v) ∷ entries w.behind))
    once-at w = rw (← entries-append w.before ((p, v) ∷ w.behind), ← w.is) once

    entries-at : (w : Spot p v ls) → entries (list_at ls 0) ≡ entries w.before ++ entry (p, v) ∷ entries w.behind
    entries-at w = ap (λ (l : List (ℕ × Node)). entries l) w.is ∙ entries-append w.before ((p, v) ∷ w.behind)

    pub out-places : (q : ℕ) → item_at (map (drop_place p) ls) q ≡ without v.item.id (item_at ls q)
    out-places q = placed-out item_of 1 ls sound (once-flat ls sound.count once) p v there q

    pub out-member : find_id v.item.id (entry_items (list_at ls 0)) ≡ Some v.item
    out-member = rw (items-entries (list_at ls 0), ← flat-single ls sound.count)
        (find_id-placed item_of 1 ls sound (once-flat ls sound.count once) p v there)

    pub out-queue : entries (list_at (map (drop_place p) ls) 0) ≡ remove_entry v.item.id (entries (list_at ls 0))
    out-queue =
        let w = spot ls sound p v there in
        ap (λ (l : List (ℕ × Node)). entries l) (drop-here 1 ls sound 0 p v w.before w.behind w.is)
        ∙ entries-append w.before w.behind
        ∙ sym (ap (remove_entry v.item.id) (entries-at w)
        ∙ remove_entry-mid (entry (p, v)) (entries w.behind) (entries w.before) (once-at w))

    pub out-once : HasIdsOnce (entry_items (list_at (map (drop_place p) ls) 0))
    out-once = rw (out-queue, items-removed v.item.id (entries (list_at ls 0)))
        (once-remove_id v.item.id (entry_items (list_at ls 0)) once) where
          items-removed : (id : ℕ) (q : List Entry) → items (remove_entry id q) ≡ remove_id id (items q)
          items-removed id [] = refl
          items-removed id (e ∷ es) = go (e.item.id == id) (items-removed id es) where
            go : (b : Bool) → items (remove_entry id es) ≡ remove_id id (items es) →
                items (cond b es (e ∷ remove_entry id es)) ≡ cond b (items es) (e.item ∷ remove_id id (items es))
            go true rec = refl
            go false rec = ap (λ r. e.item ∷ r) rec

    pub out-hand : (hand : Option ℕ) → IfSome hand (λ h. IsSome (find h ls)) →
        hand_id (map (drop_place p) ls) (hand_without p hand) ≡ hand_without v.item.id (hand_id ls hand)
    out-hand None h = refl
    out-hand (Some h) found = go (h == p) refl (find h ls) refl found where
      stays : (w : Node) → find h ls ≡ Some w → h ≢ p → hand_id (map (drop_place p) ls) (Some h)
          ≡ hand_without v.item.id (Some w.item.id)
      stays w is ne =
          let kept : item_at (map (drop_place p) ls) h ≡ Some w.item =
          ap (option_map item_of) (find-drop_other p h ls (λ e. ne (sym e)) ∙ is) in
          let left : Some w.item ≡ without v.item.id (Some w.item) = sym kept ∙ out-places h
          ∙ ap (λ (o : Option Node). without v.item.id (option_map item_of o)) is in
          ap (option_map (λ (i : Item). i.id)) kept ∙ differ (w.item.id == v.item.id) left where
            differ : (b : Bool) → Some w.item ≡ cond b None (Some w.item) → Some w.item.id
                ≡ cond b None (Some w.item.id)
            differ true e = absurd cc
            differ false e = refl

      go : (b : Bool) → (h == p) ≡ b → (o : Option Node) → find h ls ≡ o → IsSome o →
          hand_id (map (drop_place p) ls) (cond b None (Some h))
          ≡ hand_without v.item.id (option_map (λ (i : Item). i.id) (option_map item_of o))
      go b is None e f = absurd (search rules)
      go true is (Some w) e f =
          let same : Some w ≡ Some v = sym e ∙ ap (λ (k : ℕ). find k ls) (place_is h p is) ∙ there in
          let n : w ≡ v = cc in
          rw (n, same_place v.item.id) refl
      go false is (Some w) e f = stays w e (place_differs h p is)

    pub out-there : (hand : Option ℕ) → IfSome hand (λ h. IsSome (find h ls)) →
        IfSome (hand_without p hand) (λ h. IsSome (find h (map (drop_place p) ls)))
    out-there None h = tt
    out-there (Some h) found = go (h == p) refl where
      go : (b : Bool) → (h == p) ≡ b → IfSome (cond b None (Some h)) (λ h. IsSome (find h (map (drop_place p) ls)))
      go true is = tt
      go false is = (let ne = place_differs h p is in rw (find-drop_other p h ls (λ e. ne (sym e))) found)

    -- the bit is set
    pub set-queue : entries
        (list_at (map (with_value p (record { item = v.item; state = record { visited = true } })) ls) 0)
        ≡ visit v.item.id (entries (list_at ls 0))
    set-queue =
        let w = spot ls sound p v there in
        let n : Node = record { item = v.item; state = record { visited = true } } in
        ap (λ (l : List (ℕ × Node)). entries l) (write-here 1 ls sound 0 p v w.before w.behind w.is n)
        ∙ entries-append w.before ((p, n) ∷ w.behind)
        ∙ sym (ap (visit v.item.id) (entries-at w)
        ∙ visit-mid (entry (p, v)) (entries w.behind) (entries w.before) (once-at w))

pub same_view : (q r : List Entry) (h g : Option ℕ) → q ≡ r → h ≡ g →
    ◌≡◌ {A = SieveView} (record { queue = q; hand = h }) (record { queue = r; hand = g })
same_view q r h g a b = rw (a, b) refl

-- a set bit leaves the items where they are
module _ (ls : List (List (ℕ × Node))) (sound : AreLists 1 ls) (p : ℕ) (v w : Node) (there : find p ls ≡ Some v)
    (same : w.item ≡ v.item) where
  pub set-places : (q : ℕ) → item_at (map (with_value p w) ls) q ≡ item_at ls q
  set-places q = placed-write item_of p q v w ls there same

  pub set-hand : (hand : Option ℕ) → hand_id (map (with_value p w) ls) hand ≡ hand_id ls hand
  set-hand None = refl
  set-hand (Some h) = ap (option_map (λ (i : Item). i.id)) (set-places h)

  pub set-there : (hand : Option ℕ) → IfSome hand (λ h. IsSome (find h ls)) →
      IfSome hand (λ h. IsSome (find h (map (with_value p w) ls)))
  set-there None f = tt
  set-there (Some h) f = write_found p h w ls f

  pub set-once : HasIdsOnce (entry_items (list_at ls 0)) →
      HasIdsOnce (entry_items (list_at (map (with_value p w) ls) 0))
  set-once once =
      let s = spot ls sound p v there in
      let old : entry_items (list_at ls 0) ≡ items (entries s.before) ++ v.item ∷ items (entries s.behind) =
      rw (
        s.is,
        entries-append s.before ((p, v) ∷ s.behind),
        items-append (entries s.before) (entries ((p, v) ∷ s.behind)),
      ) refl in
      let new : entry_items (list_at (map (with_value p w) ls) 0) ≡ items (entries s.before)
      ++ w.item ∷ items (entries s.behind) =
      rw (
        write-here 1 ls sound 0 p v s.before s.behind s.is w,
        entries-append s.before ((p, w) ∷ s.behind),
        items-append (entries s.before) (entries ((p, w) ∷ s.behind)),
      ) refl in
      rw (new, same, ← old) once

-- What a pop gives and leaves, for a hand that is in.
module _ (ls ls2 : List (List (ℕ × Node))) (sound : AreLists 1 ls) (sound2 : AreLists 1 ls2)
    (once : HasIdsOnce (entry_items (list_at ls 0))) (item : Item) (hand2 : Option ℕ) (looks : ℕ) where
  -- the view that a turn leaves
  turn-view : (before behind : List Entry) (t : IsTurn before behind (list_at ls2 0) item hand2 looks)
      → ◌≡◌ {A = SieveView} (after_turn (record { victim = item; before = entries t.front; behind = entries t.back }))
      (record { queue = entries (list_at ls2 0); hand = hand_id ls2 hand2 })
  turn-view before behind t = same_view (entries t.front ++ entries t.back) (entries (list_at ls2 0))
      (first_id (entries t.back)) (hand_id ls2 hand2)
      (sym (ap (λ (l : List (ℕ × Node)). entries l) t.parts ∙ entries-append t.front t.back))
      (go t.back t.parts t.stands) where
        go : (back : List (ℕ × Node)) → list_at ls2 0 ≡ t.front ++ back → hand2 ≡ first_or back None →
            first_id (entries back) ≡ hand_id ls2 hand2
        go [] parts is = sym (ap (hand_id ls2) is)
        go (y ∷ ys) parts is =
            sym (ap (hand_id ls2) is ∙
            ap (λ (o : Option Node). option_map (λ (i : Item). i.id) (option_map item_of o))
            (find-mid 1 ls2 sound2 0 y.0 y.1 t.front ys parts))

  pub record Gives (hand : Option ℕ) : Type 0 where
    pub pops : sieve_pop (record { queue = entries (list_at ls 0); hand = hand_id ls hand })
        ≡ Some (item, record { queue = entries (list_at ls2 0); hand = hand_id ls2 hand2 })
    pub looked : looks ≡ looks_at (rotation (record { queue = entries (list_at ls 0); hand = hand_id ls hand }))

  -- from parts of the queue
  from-parts : (hand : Option ℕ) (before behind : List Entry) → before_hand (hand_id ls hand) (entries (list_at ls 0))
      ≡ before → from_hand (hand_id ls hand) (entries (list_at ls 0)) ≡ behind
      → IsTurn before behind (list_at ls2 0) item hand2 looks → Gives hand
  from-parts hand before behind e f t = record {
    pops = rw (e, f, t.turns) (ap (λ (v : SieveView). Some (item, v)) (turn-view before behind t));
    looked = rw (e, f) t.looked;
  }

  pub gives : (hand : Option ℕ) (front : ℕ) → IfSome hand (λ p. IsSome (find p ls)) → Some front
      ≡ first_or (list_at ls 0) None
      → ((xs ys : List (ℕ × Node)) (n : Node) → list_at ls 0 ≡ xs ++ (unwrap_or hand front, n) ∷ ys →
      IsTurn (entries xs) (entries ((unwrap_or hand front, n) ∷ ys)) (list_at ls2 0) item hand2 looks) → Gives hand
  gives None front there first turned =
      let b = begins front (list_at ls 0) (sym first) in
      let t = turned [] b.back b.value b.is in
      let q : entries (list_at ls 0) ≡ entries ((front, b.value) ∷ b.back) =
      ap (λ (l : List (ℕ × Node)). entries l) b.is in
      record {
        pops = rw (q, turn-start (entries ((front, b.value) ∷ b.back)), t.turns)
            (ap (λ (v : SieveView). Some (item, v)) (turn-view [] (entries ((front, b.value) ∷ b.back)) t));
        looked = t.looked ∙ ap (λ (l : List Entry). looks_at l)
            (append-nil (entries ((front, b.value) ∷ b.back)) ∙ sym q);
      }
  gives (Some p) front there first turned =
      let w = is_in p ls there in
      let s = spot ls sound p w.value w.found in
      let id : hand_id ls (Some p) ≡ Some w.value.item.id =
      ap (λ (o : Option Node). option_map (λ (i : Item). i.id) (option_map item_of o)) w.found in
      let all = entries-at ls sound once p w.value w.found s in
      let one = once-at ls sound once p w.value w.found s in
      from-parts (Some p) (entries s.before) (entries ((p, w.value) ∷ s.behind))
      (rw (id, all) (before_id-mid (entry (p, w.value)) (entries s.behind) (entries s.before) one))
      (rw (id, all) (from_id-mid (entry (p, w.value)) (entries s.behind) (entries s.before) one))
      (turned s.before s.behind w.value s.is)

-- pops until none leave no hand, where a hand is in
emptied-hand : (n : ℕ) (v : SieveView) → (v.queue ≡ [] → v.hand ≡ None) → (pop_times sieve_pop n v).queue ≡ [] →
    (pop_times sieve_pop n v).hand ≡ None
emptied-hand zero v sane h = sane h
emptied-hand (suc n) v sane h = go (sieve_pop v) refl h (λ w s e. emptied-hand n w s e) where
  go : (o : Option (Item × SieveView)) → sieve_pop v ≡ o → (after_pop o v (λ w. pop_times sieve_pop n w)).queue ≡ [] →
      ((w : SieveView) → (w.queue ≡ [] → w.hand ≡ None) → (pop_times sieve_pop n w).queue ≡ [] →
      (pop_times sieve_pop n w).hand ≡ None)
      → (after_pop o v (λ w. pop_times sieve_pop n w)).hand ≡ None
  go None is h rec = sane h
  go (Some p) is h rec = rec p.1 (pop-some v p.1 p.0 is).hand h

pub cleared-view : (ls : List (List (ℕ × Node))) → AreLists 1 ls → (hand : Option ℕ) →
    IfSome hand (λ p. IsSome (find p ls))
    → ◌≡◌ {A = SieveView} (record { queue = []; hand = None })
    (pop_times sieve_pop (length (entries (list_at ls 0)))
    (record { queue = entries (list_at ls 0); hand = hand_id ls hand }))
cleared-view ls sound hand there =
    let v : SieveView = record { queue = entries (list_at ls 0); hand = hand_id ls hand } in
    let n = length (entries (list_at ls 0)) in
    let none : (pop_times sieve_pop n v).queue ≡ [] = emptied n v (omega arith) in
    same_view [] (pop_times sieve_pop n v).queue None (pop_times sieve_pop n v).hand (sym none)
    (sym (emptied-hand n v (sane hand there) none)) where
      sane : (hand : Option ℕ) → IfSome hand (λ p. IsSome (find p ls)) → entries (list_at ls 0) ≡ [] → hand_id ls hand
          ≡ None
      sane None h e = refl
      sane (Some p) h e =
          let w = is_in p ls h in
          let s = spot ls sound p w.value w.found in
          absurd (some (entries s.before) (entry (p, w.value)) (entries s.behind)
          (sym (entries-append s.before ((p, w.value) ∷ s.behind))
          ∙ ap (λ (l : List (ℕ × Node)). entries l) (sym s.is) ∙ e)) where
            some : (xs : List Entry) (y : Entry) (ys : List Entry) → xs ++ y ∷ ys ≡ [] → ⊥
            some [] y ys h = cc
            some (x ∷ xs) y ys h = cc

pub is_none : {A : Type 0} (o : Option A) → is_some o ≡ false → o ≡ None
is_none None h = refl
is_none (Some x) h = absurd cc

first-empty : (l : List (ℕ × Node)) → first_value l ≡ None → l ≡ []
first-empty [] h = refl
first-empty (x ∷ xs) h = absurd cc

-- a queue of which nothing is popped stays empty
pub popped-empty : (ls ls2 : List (List (ℕ × Node))) → AreLists 1 ls → ls2 ≡ set ls 0 (rest (list_at ls 0)) →
    first_value (list_at ls 0) ≡ None → list_at ls2 0 ≡ []
popped-empty ls ls2 sound popped h =
    let e = first-empty (list_at ls 0) h in
    ap (λ (x : List (List (ℕ × Node))). list_at x 0) (popped ∙ pop-none ls 0 e) ∙ e
