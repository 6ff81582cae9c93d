-- A record comes in, and its key's record gives way: what the fields stand for then.
use Rattle.std.proofs.Common.{◌≡◌, ◌≢◌, ℕ, ◌+◌, ◌-◌, ◌<◌, ◌≤◌, ◌^◌, List, [], ◌∷◌, Option, Some, None, Bool, true, false, true≢false, cond, max, length, nat_eq, refl, sym, ◌∙◌, ap, subst, inl, inr, arith}
use Rattle.std.proofs.Math.Logic.{∥∥₁_elim, ∥∥₁_map}
use Rattle.std.proofs.Props.{props}
use Rattle.std.specs.Prelude.{option_and_then, option_map, is_some, ◌==◌, ◌⊎◌}
use Rattle.std.specs.Cmp.{IsEquivalence}
use Rattle.std.specs.Map.{update}
use Rattle.std.proofs.lemmas.Bool.Decides.{eqb_tells}
use Rattle.std.proofs.lemmas.Map.{update_here, update_apart}
use Rattle.std.proofs.lemmas.List.Sorted.{length_permutation}
use Rattle.foyer_policy.specs.Items.{weight_of, IsNewIn, remove_id, find_id}
use Rattle.foyer_policy.specs.Policy.{IsPolicy, without}
use Rattle.foyer_policy.specs.declared.types.Item.{Item}
use Rattle.foyer_core.specs.declared.records.Records.{Records}
use Rattle.foyer_core.specs.Values.{Kept, Gone, Rec, Incoming}
use Rattle.foyer_core.specs.Indexer.{same_key}
use Rattle.foyer_core.specs.Table.{rec_of, slot_outside, id_by}
use Rattle.foyer_core.specs.Records.{slot_in, number_of, record_in, id_in}
use Rattle.foyer_core.specs.State.{Meaning, State, IsKept, key_of, item_of, usage_of, is_phantom_record}
use Rattle.foyer_core.specs.Steps.{after_out, after_push, outside, GivesWay, Admits, replaced_leaves}
use Rattle.foyer_core.specs.Stored.{IsStored, item_in, state}
use Rattle.foyer_core.proofs.Keeps.{indexed_there, removed_keeps, removed_weight, push_keeps, push_weight}
use Rattle.foyer_core.proofs.Keys.{same_key_laws}
use Rattle.foyer_core.proofs.States.{same_state}
use Rattle.foyer_core.proofs.LeaveLemmas.{taken_from}
use Rattle.foyer_core.proofs.ShardLemmas.{Holding, now_of, resident}
use Rattle.foyer_core.proofs.LeftLemmas.{IsStoredBy, under, left_index, left_stored}
use Rattle.foyer_core.proofs.StoredLemmas.{index_is, slot_record, items_write, item_outside}
use Rattle.foyer_core.proofs.TableLemmas.{id_by-some, id_by-there}

-- whether two numbers are one, with the fact
abbrev Tells : ℕ → ℕ → Type 0
Tells a b = (((a == b) ≡ true) × (a ≡ b)) ⊎ (((a == b) ≡ false) × (a ≢ b))

-- a second write over a first
over : {A : Type 0} (f : ℕ → Option A) (n : ℕ) (a b : Option A) (q : ℕ) → update nat_eq (update nat_eq f n a) n b q
    ≡ update nat_eq f n b q
over f n a b q = elim (eqb_tells q n) [
  | inl e ↦ subst (λ (x : ℕ). update nat_eq (update nat_eq f n a) n b x ≡ update nat_eq f n b x) (sym e.1)
      (update_here (update nat_eq f n a) n b ∙ sym (update_here f n b))
  | inr e ↦ update_apart (update nat_eq f n a) n b q e.1 ∙ update_apart f n a q e.1 ∙ sym (update_apart f n b q e.1)
]

-- writes at two places, in either order
swapped : {A : Type 0} (f : ℕ → Option A) (n k : ℕ) (a b : Option A) → n ≢ k → (q : ℕ) →
    update nat_eq (update nat_eq f n a) k b q ≡ update nat_eq (update nat_eq f k b) n a q
swapped f n k a b apart q = elim (eqb_tells q n) [
  | inl e ↦ subst (λ (x : ℕ). update nat_eq (update nat_eq f n a) k b x ≡ update nat_eq (update nat_eq f k b) n a x)
      (sym e.1)
      (update_apart (update nat_eq f n a) k b n apart ∙ update_here f n a ∙ sym (update_here (update nat_eq f k b) n a))
  | inr e ↦ again (eqb_tells q k) e.1
] where
  again : Tells q k → q ≢ n → update nat_eq (update nat_eq f n a) k b q ≡ update nat_eq (update nat_eq f k b) n a q
  again (inl e) other = subst
      (λ (x : ℕ). update nat_eq (update nat_eq f n a) k b x ≡ update nat_eq (update nat_eq f k b) n a x) (sym e.1)
      (update_here (update nat_eq f n a) k b ∙
      sym (update_apart (update nat_eq f k b) n a k (λ h. apart (sym h)) ∙ update_here f k b))
  again (inr e) other = update_apart (update nat_eq f n a) k b q e.1 ∙ update_apart f n a q other
      ∙ sym (update_apart (update nat_eq f k b) n a q other ∙ update_apart f k b q e.1)

pub length-remove_id : (id : ℕ) (i : Item) (l : List Item) → find_id id l ≡ Some i → length (remove_id id l) + 1
    ≡ length l
length-remove_id id i [] h = absurd cc
length-remove_id id i (x ∷ xs) h = go (x.id == id) h (length-remove_id id i xs) where
  go : (b : Bool) → cond b (Some x) (find_id id xs) ≡ Some i →
      (find_id id xs ≡ Some i → length (remove_id id xs) + 1 ≡ length xs) →
      length (cond b xs (x ∷ remove_id id xs)) + 1 ≡ length (x ∷ xs)
  go true h rec = omega arith
  go false h rec = omega (arith, rec h)

-- the slot of what comes in
abbrev pub coming_slot : {K V P : Type 0} → Incoming K V P → Kept K V P
coming_slot inc = record { id = inc.id; kept = inc.kept; handles = inc.handles; resident = true }

-- the record of what comes in
abbrev pub coming_rec : {K V P : Type 0} → Incoming K V P → Rec K V P
coming_rec inc = record { kept = inc.kept; handles = inc.handles; resident = true }

module _ {K V P View C : Type 0} (m : Meaning K P View C) (laws : IsEquivalence m.same) (good : IsPolicy m.policy)
    (o : Holding V m) where
  open o use {at, keys, t, number, capacity, limits, view, next, sound, stored}

  abbrev now : State K V P View
  now = now_of o

  fresh_by : (id n : ℕ) → next ≤ id → number_of t id ≡ Some n → IsKept m now → ⊥
  fresh_by id n new h k' = go (slot_in t n) refl (id_by-there (slot_in t) n id (t.agree.named id n h)) where
    go : (w : Option (Kept K V P)) → slot_in t n ≡ w → is_some w ≡ true → ⊥
    go None is there = absurd cc
    go (Some x) is there =
        let found : now.records id ≡ Some (rec_of x) =
        ap (λ (a : Option ℕ). option_map rec_of (option_and_then (slot_in t) a)) h ∙ ap (option_map rec_of) is in
        absurd (let f = k'.fresh id (rec_of x) found in omega arith)

  pushed_length : (v : View) (i : Item) → length (m.policy.order (m.policy.push v i)) ≡ length (m.policy.order v) + 1
  pushed_length v i =
      omega (
        arith,
        length_permutation (i ∷ m.policy.order v) (m.policy.order (m.policy.push v i))
            (good.push_order v i),
      )

  -- an id that was not given has no record
  pub new_free : (id : ℕ) → next ≤ id → number_of t id ≡ None
  new_free id new = go (number_of t id) refl where
    go : (w : Option ℕ) → number_of t id ≡ w → w ≡ None
    go None h = refl
    go (Some n) h = absurd (∥∥₁_elim sound (hlevel props) (fresh_by id n new h))

  pub new_out : (id : ℕ) → next ≤ id → (r : Rec K V P) → record_in t id ≡ Some r → r.resident ≡ false
  new_out id new r there =
      absurd (let none : record_in t id ≡ None =
      ap (λ (a : Option ℕ). option_map rec_of (option_and_then (slot_in t) a)) (new_free id new) in
      let e : ◌≡◌ {A = Option (Rec K V P)} None (Some r) = sym none ∙ there in cc)

  -- no key leads to a slot whose record is not in the index, or which has none
  pub led_not : (n : ℕ) (before : Option (Kept K V P)) → slot_in t n ≡ before →
      ((r : Rec K V P) → option_map rec_of before ≡ Some r → r.resident ≡ false)
      → (q : ℕ × K) (j : ℕ) → keys q ≡ Some j → j ≢ n
  led_not n None is out q j h e =
      (let l = stored.led q j h in let f : is_some (slot_in t j) ≡ false = ap is_some (ap (slot_in t) e ∙ is) in
      absurd cc)
  led_not n (Some x) is out q j h e =
      absurd (true≢false (sym (resident m laws good o q j h x (ap (slot_in t) e ∙ is)) ∙ out (rec_of x) refl))

  -- the policy has no item at the place of such a slot
  pub no_item : (n : ℕ) (before : Option (Kept K V P)) → slot_in t n ≡ before →
      ((r : Rec K V P) → option_map rec_of before ≡ Some r → r.resident ≡ false) → at n ≡ None
  no_item n before is out = stored.placed n ∙ ap (item_in m) is ∙ go before out where
    go : (w : Option (Kept K V P)) → ((r : Rec K V P) → option_map rec_of w ≡ Some r → r.resident ≡ false)
        → item_in m w ≡ None
    go None out = refl
    go (Some x) out = item_outside m x (out (rec_of x) refl)

  module _ (inc : Incoming K V P) (n : ℕ) (unled : (q : ℕ × K) (j : ℕ) → keys q ≡ Some j → j ≢ n)
      (out : (r : Rec K V P) → record_in t inc.id ≡ Some r → r.resident ≡ false) where
    -- what stands once the key's record gave way, but for what comes in
    pub record Base (slots : ℕ → Option (Kept K V P)) (keys' : ℕ × K → Option ℕ) (at' : ℕ → Option Item)
        (last : State K V P View) : Type 0 where
      pub kept' : ∥ IsKept m last ∥₁
      pub stored' : IsStoredBy m at' keys' slots
      pub index' : (q : ℕ × K) → option_and_then (id_by slots) (keys' q) ≡ last.index q
      pub absent' : last.index (key_of inc.kept) ≡ None
      pub unled' : (q : ℕ × K) (j : ℕ) → keys' q ≡ Some j → j ≢ n
      pub out' : (r : Rec K V P) → last.records inc.id ≡ Some r → r.resident ≡ false
      pub next' : last.next ≡ next
      pub number' : last.number ≡ number
      pub capacity' : last.capacity ≡ capacity
      pub limits' : last.limits ≡ limits

    module _ (slots : ℕ → Option (Kept K V P)) (keys' : ℕ × K → Option ℕ) (at' : ℕ → Option Item)
        (last : State K V P View) (base : Base slots keys' at' last)
        (t3 : Records K V P) (keys3 : ℕ × K → Option ℕ) (at3 : ℕ → Option Item) (view3 : View) (next3 : ℕ)
        (slots3 : (q : ℕ) → slot_in t3 q ≡ update nat_eq slots n (Some (coming_slot inc)) q)
        (recs3 : (id : ℕ) → record_in t3 id ≡ update nat_eq last.records inc.id (Some (coming_rec inc)) id)
        (led3 : (q : ℕ × K) → keys3 q ≡ update (same_key m.same) keys' (key_of inc.kept) (Some n) q)
        (here3 : at3 n ≡ Some (item_of m inc.id inc.kept)) (others3 : (q : ℕ) → q ≢ n → at3 q ≡ at' q)
        (viewed3 : view3 ≡ m.policy.push last.view (item_of m inc.id inc.kept))
        (nexts3 : next3 ≡ max next (inc.id + 1)) where
      new_here : slot_in t3 n ≡ Some (coming_slot inc)
      new_here = slots3 n ∙ update_here slots n (Some (coming_slot inc))

      new_other : (j : ℕ) → j ≢ n → slot_in t3 j ≡ slots j
      new_other j apart = slots3 j ∙ update_apart slots n (Some (coming_slot inc)) j apart

      admit_index : (q : ℕ × K) → option_and_then (id_in t3) (keys3 q)
          ≡ update (same_key m.same) last.index (key_of inc.kept) (Some inc.id) q
      admit_index q = ap (option_and_then (id_in t3)) (led3 q)
          ∙ go (same_key m.same (key_of inc.kept) q) (keys' q) refl
          ∙ ap (λ (w : Option ℕ). cond (same_key m.same (key_of inc.kept) q) (Some inc.id) w) (base.index' q) where
            go : (b : Bool) (w : Option ℕ) → keys' q ≡ w → option_and_then (id_in t3) (cond b (Some n) w)
                ≡ cond b (Some inc.id) (option_and_then (id_by slots) w)
            go true w h = id_by-some (slot_in t3) n (coming_slot inc) new_here
            go false None h = refl
            go false (Some j) h = ap (option_map (λ (s : Kept K V P). s.id)) (new_other j (base.unled' q j h))

      pub admit_after : state number capacity limits view3 keys3 t3 next3 ≡ after_push m last inc
      admit_after = same_state (state number capacity limits view3 keys3 t3 next3) (after_push m last inc)
          (sym base.number') (sym base.capacity') (sym base.limits')
          viewed3 admit_index recs3 (nexts3 ∙ ap (λ (a : ℕ). max a (inc.id + 1)) (sym base.next'))

      pub admit_kept : is_phantom_record m inc.kept ≡ false → usage_of m last + inc.kept.weight < 2 ^ 64 →
          0 < inc.handles → inc.handles ≤ limits.handles →
          ∥ IsKept m (state number capacity limits view3 keys3 t3 next3) ∥₁
      admit_kept plain fits held handle = ∥∥₁_map base.kept' (λ k'. subst (IsKept m) (sym admit_after)
          (push_keeps m laws good last k' inc base.out' base.absent' plain fits held (rw base.limits' handle)))

      pub admit_stored : IsStored m at3 keys3 t3
      admit_stored = record {
        led = λ q j h. elim (eqb_tells j n) [
          | inl e ↦ ap is_some (ap (slot_in t3) e.1 ∙ new_here)
          | inr e ↦ led_on (same_key m.same (key_of inc.kept) q) q j e.1 (sym (led3 q) ∙ h)
        ];
        placed = items_write m slots (slot_in t3) n (Some (coming_slot inc)) slots3 at' at3 base.stored'.placed here3
            others3;
      } where
        led_on : (b : Bool) (q : ℕ × K) (j : ℕ) → j ≢ n → cond b (Some n) (keys' q) ≡ Some j → is_some (slot_in t3 j)
            ≡ true
        led_on true q j apart h = absurd (apart (let e : n ≡ j = cc in sym e))
        led_on false q j apart h = ap is_some (new_other j apart) ∙ base.stored'.led q j h

    -- the key had no record
    pub base_none : keys (key_of inc.kept) ≡ None → Base (slot_in t) keys at now
    base_none none = record {
      kept' = sound;
      stored' = record { led = stored.led; placed = stored.placed };
      index' = λ q. refl;
      absent' = ap (option_and_then (id_in t)) none;
      unled' = unled;
      out' = out;
      next' = refl;
      number' = refl;
      capacity' = refl;
      limits' = refl;
    }

    -- the key's record gave way
    module _ (old : ℕ) (led : keys (key_of inc.kept) ≡ Some old) (y : Kept K V P) (there : slot_in t old ≡ Some y)
        (at2 : ℕ → Option Item) (places : (p : ℕ) → at2 p ≡ without y.id (at p)) where
      abbrev pub last_of : State K V P View
      last_of = record (after_out m now y.id (rec_of y)) { view = m.policy.remove view y.id }

      -- what comes in has another id
      id_apart : y.id ≢ inc.id
      id_apart e =
          absurd (true≢false
          (sym (resident m laws good o (key_of inc.kept) old led y there)
          ∙ out (rec_of y) (ap (record_in t) (sym e) ∙ slot_record m at keys t old y there)))

      alike : same_key m.same (key_of y.kept) (key_of inc.kept) ≡ true
      alike = under m laws good o old y there (key_of inc.kept) led

      hits_old : now.index (key_of inc.kept) ≡ Some y.id
      hits_old = index_is m at keys t (key_of inc.kept) old y led there

      pub base_some : Base (update nat_eq (slot_in t) old (slot_outside y))
          (update (same_key m.same) keys (key_of y.kept) None) at2 last_of
      base_some = record {
        kept' = ∥∥₁_map sound
            (λ k'. removed_keeps m laws good now k' (key_of inc.kept) y.id hits_old (rec_of y)
            (slot_record m at keys t old y there));
        stored' = left_stored m laws good o old y there (update nat_eq (slot_in t) old (slot_outside y)) (λ q. refl)
            at2 places (update (same_key m.same) keys (key_of y.kept) None) (λ q. refl);
        index' = left_index m laws good o old y there (update nat_eq (slot_in t) old (slot_outside y)) (λ q. refl) at2
            places (update (same_key m.same) keys (key_of y.kept) None) (λ q. refl);
        absent' = rw alike refl;
        unled' = λ q j h. unled q j (taken_from (same_key m.same) keys (key_of y.kept) q j h);
        out' = λ r h. out r
            (sym (update_apart (record_in t) y.id (outside (rec_of y)) inc.id (λ e. id_apart (sym e))) ∙ h);
        next' = refl;
        number' = refl;
        capacity' = refl;
        limits' = refl;
      }

      -- what leads to the new slot, written over what led to the old one
      led_over : (q : ℕ × K) → update (same_key m.same) keys (key_of inc.kept) (Some n) q
          ≡ update (same_key m.same) (update (same_key m.same) keys (key_of y.kept) None) (key_of inc.kept) (Some n) q
      led_over q = twice (same_key m.same (key_of inc.kept) q) (same_key m.same (key_of y.kept) q) (keys q)
          ((same_key_laws m.same laws).congr (key_of y.kept) (key_of inc.kept) q alike) where
            twice : (b c : Bool) (w : Option ℕ) → c ≡ b → cond b (Some n) w ≡ cond b (Some n) (cond c None w)
            twice true c w e = refl
            twice false c w e = rw e refl

      pub gives_way_some : GivesWay m (now.index (key_of inc.kept)) now
          (replaced_leaves (Some record { number = number; id = y.id; kept = y.kept })) last_of
      gives_way_some = subst
          (λ (w : Option ℕ). GivesWay m w now
          (replaced_leaves (Some record { number = number; id = y.id; kept = y.kept })) last_of) (sym hits_old)
          (rec_of y, slot_record m at keys t old y there, refl, refl)

      pub old_weight : (usage : ℕ) → usage ≡ weight_of (m.policy.order view) → (y.kept.weight ≤ usage)
          × (usage - y.kept.weight ≡ usage_of m last_of)
      old_weight usage h = (
        ∥∥₁_elim sound (hlevel props)
            (λ k'. omega (
              arith,
              removed_weight m laws good now k' (key_of inc.kept) y.id hits_old (rec_of y)
                  (slot_record m at keys t old y there),
            )),
        ∥∥₁_elim sound (hlevel props)
            (λ k'. omega (
              arith,
              removed_weight m laws good now k' (key_of inc.kept) y.id hits_old (rec_of y)
                  (slot_record m at keys t old y there),
            )),
      )

      shorter_by : IsKept m now → length (m.policy.order last_of.view) + 1 ≡ length (m.policy.order view)
      shorter_by k' =
          let f = indexed_there m laws good now k' (key_of inc.kept) y.id hits_old in
          ap (λ (l : List Item). length l + 1) (good.remove_order view y.id)
          ∙ length-remove_id y.id (item_of m y.id f.0.kept) (m.policy.order view) f.4

      pub old_entries : (entries : ℕ) → entries ≡ length (m.policy.order view) → (1 ≤ entries)
          × (entries - 1 ≡ length (m.policy.order last_of.view))
      old_entries entries h = (
        ∥∥₁_elim sound (hlevel props) (λ k'. omega (arith, shorter_by k')),
        ∥∥₁_elim sound (hlevel props) (λ k'. omega (arith, shorter_by k')),
      )

    -- what an admission leaves
    pub record Admitted (replaced : Option (Gone K V P)) (usage entries : ℕ) (view3 : View) (keys3 : ℕ × K → Option ℕ)
        (t3 : Records K V P) (at3 : ℕ → Option Item) (next3 : ℕ) : Type 0 where
      pub admits : Admits m now inc replaced (state number capacity limits view3 keys3 t3 next3)
      pub kept3 : ∥ IsKept m (state number capacity limits view3 keys3 t3 next3) ∥₁
      pub stored3 : IsStored m at3 keys3 t3
      pub weighed3 : usage + inc.kept.weight ≡ weight_of (m.policy.order view3)
      pub counted3 : entries + 1 ≡ length (m.policy.order view3)

    -- what a push asks for
    pub record MayPush (view2 : View) : Type 0 where
      pub new : IsNewIn inc.id (m.policy.order view2)
      pub fits : inc.kept.weight + weight_of (m.policy.order view2) < 2 ^ 64

    module _ (t1 t2 t3 : Records K V P) (x0 : Kept K V P) (x0_is : x0 ≡ coming_slot inc)
        (keys1 : ℕ × K → Option ℕ) (at2 at3 : ℕ → Option Item) (view2 view3 : View) (next3 : ℕ)
        (slots1 : (q : ℕ) → slot_in t1 q ≡ update nat_eq (slot_in t) n (Some x0) q)
        (recs1 : (id : ℕ) → record_in t1 id ≡ update nat_eq (record_in t) inc.id (Some (coming_rec inc)) id)
        (led1 : (q : ℕ × K) → keys1 q ≡ update (same_key m.same) keys (key_of inc.kept) (Some n) q)
        (slots3 : (q : ℕ) → slot_in t3 q ≡ update nat_eq (slot_in t2) n (Some (coming_slot inc)) q)
        (recs3 : (id : ℕ) → record_in t3 id ≡ record_in t2 id)
        (here3 : at3 n ≡ Some (item_of m inc.id inc.kept)) (others3 : (q : ℕ) → q ≢ n → at3 q ≡ at2 q)
        (viewed3 : view3 ≡ m.policy.push view2 (item_of m inc.id inc.kept))
        (nexts3 : next3 ≡ max next (inc.id + 1)) (plain : is_phantom_record m inc.kept ≡ false)
        (held : 0 < inc.handles) (handle : inc.handles ≤ limits.handles)
        (fits : (ls : _) (last : State K V P View) → GivesWay m (now.index (key_of inc.kept)) now ls last →
        usage_of m last + inc.kept.weight < 2 ^ 64) where
      module _ (none : keys (key_of inc.kept) ≡ None) (same2 : view2 ≡ view)
          (slots2 : (q : ℕ) → slot_in t2 q ≡ slot_in t1 q) (recs2 : (id : ℕ) → record_in t2 id ≡ record_in t1 id)
          (places2 : (q : ℕ) → at2 q ≡ at q) where
        pub no_way : GivesWay m (now.index (key_of inc.kept)) now [] now
        no_way = subst (λ (w : Option ℕ). GivesWay m w now [] now) (sym (ap (option_and_then (id_in t)) none))
            (refl, refl)

        slots_none : (q : ℕ) → slot_in t3 q ≡ update nat_eq (slot_in t) n (Some (coming_slot inc)) q
        slots_none q = slots3 q ∙ elim (eqb_tells q n) [
          | inl e ↦ subst
              (λ (x : ℕ). update nat_eq (slot_in t2) n (Some (coming_slot inc)) x
              ≡ update nat_eq (slot_in t) n (Some (coming_slot inc)) x) (sym e.1)
              (update_here (slot_in t2) n (Some (coming_slot inc))
              ∙ sym (update_here (slot_in t) n (Some (coming_slot inc))))
          | inr e ↦ update_apart (slot_in t2) n (Some (coming_slot inc)) q e.1 ∙ slots2 q ∙ slots1 q
              ∙ update_apart (slot_in t) n (Some x0) q e.1
              ∙ sym (update_apart (slot_in t) n (Some (coming_slot inc)) q e.1)
        ]

        viewed_none : view3 ≡ m.policy.push now.view (item_of m inc.id inc.kept)
        viewed_none = viewed3 ∙ ap (λ (v : View). m.policy.push v (item_of m inc.id inc.kept)) same2

        pub admitted_none : (usage entries : ℕ) → usage ≡ weight_of (m.policy.order view) → entries
            ≡ length (m.policy.order view) → Admitted None usage entries view3 keys1 t3 at3 next3
        admitted_none usage entries hu he =
            let places : (q : ℕ) → q ≢ n → at3 q ≡ at q = (λ q apart. others3 q apart ∙ places2 q) in
            let after = admit_after (slot_in t) keys at now (base_none none) t3 keys1 at3 view3 next3 slots_none
            (λ id. recs3 id ∙ recs2 id ∙ recs1 id) led1 here3 places viewed_none nexts3 in
            record {
              admits = record { last = now; gives_way = no_way; after = after };
              kept3 = admit_kept (slot_in t) keys at now (base_none none) t3 keys1 at3 view3 next3 slots_none
                  (λ id. recs3 id ∙ recs2 id ∙ recs1 id) led1 here3 places viewed_none
                  nexts3 plain (fits [] now no_way) held handle;
              stored3 = admit_stored (slot_in t) keys at now (base_none none) t3 keys1 at3 view3 next3 slots_none
                  (λ id. recs3 id ∙ recs2 id ∙ recs1 id) led1 here3 places viewed_none nexts3;
              weighed3 =
                  (let w : weight_of (m.policy.order view3) ≡ inc.kept.weight + weight_of (m.policy.order view) =
                  ap (λ (v : View). weight_of (m.policy.order v)) viewed_none ∙ push_weight m laws good now inc in
                  omega arith);
              counted3 =
                  (let w : length (m.policy.order view3) ≡ length (m.policy.order view) + 1 =
                  ap (λ (v : View). length (m.policy.order v)) viewed_none
                  ∙ pushed_length view (item_of m inc.id inc.kept) in omega arith);
            }

      module _ (old : ℕ) (led : keys (key_of inc.kept) ≡ Some old) (y : Kept K V P) (there : slot_in t old ≡ Some y)
          (places2 : (q : ℕ) → at2 q ≡ without y.id (at q)) (viewed2 : view2 ≡ m.policy.remove view y.id)
          (slots2 : (q : ℕ) → slot_in t2 q ≡ update nat_eq (slot_in t1) old (slot_outside y) q)
          (recs2 : (id : ℕ) → record_in t2 id ≡ update nat_eq (record_in t1) y.id (outside (rec_of y)) id) where
        slots_some : (q : ℕ) → slot_in t3 q ≡ update nat_eq (update nat_eq (slot_in t) old (slot_outside y)) n
            (Some (coming_slot inc)) q
        slots_some q = slots3 q ∙ elim (eqb_tells q n) [
          | inl e ↦ subst
              (λ (x : ℕ). update nat_eq (slot_in t2) n (Some (coming_slot inc)) x
              ≡ update nat_eq (update nat_eq (slot_in t) old (slot_outside y)) n (Some (coming_slot inc))
              x) (sym e.1)
              (update_here (slot_in t2) n (Some (coming_slot inc))
              ∙ sym (update_here (update nat_eq (slot_in t) old (slot_outside y)) n
              (Some (coming_slot inc))))
          | inr e ↦ update_apart (slot_in t2) n (Some (coming_slot inc)) q e.1 ∙ slots2 q
              ∙ under_old q e.1 (eqb_tells q old) ∙
              sym (update_apart (update nat_eq (slot_in t) old (slot_outside y)) n
              (Some (coming_slot inc)) q e.1)
        ] where
          under_old : (q : ℕ) → q ≢ n → Tells q old → update nat_eq (slot_in t1) old (slot_outside y) q
              ≡ update nat_eq (slot_in t) old (slot_outside y) q
          under_old q apart (inl e) = subst
              (λ (x : ℕ). update nat_eq (slot_in t1) old (slot_outside y) x
              ≡ update nat_eq (slot_in t) old (slot_outside y) x) (sym e.1)
              (update_here (slot_in t1) old (slot_outside y)
              ∙ sym (update_here (slot_in t) old (slot_outside y)))
          under_old q apart (inr e) = update_apart (slot_in t1) old (slot_outside y) q e.1 ∙ slots1 q
              ∙ update_apart (slot_in t) n (Some x0) q apart ∙ sym (update_apart (slot_in t) old (slot_outside y) q e.1)

        recs_some : (id : ℕ) → record_in t3 id ≡ update nat_eq (last_of old led y there at2 places2).records inc.id
            (Some (coming_rec inc)) id
        recs_some id = recs3 id ∙ recs2 id ∙ outer id (eqb_tells id y.id)
            ∙ swapped (record_in t) inc.id y.id (Some (coming_rec inc)) (outside (rec_of y))
            (λ e. id_apart old led y there at2 places2 (sym e)) id where
              outer : (id : ℕ) → Tells id y.id → update nat_eq (record_in t1) y.id (outside (rec_of y)) id
                  ≡ update nat_eq (update nat_eq (record_in t) inc.id (Some (coming_rec inc))) y.id (outside (rec_of y)) id
              outer id (inl e) = subst
                  (λ (x : ℕ). update nat_eq (record_in t1) y.id (outside (rec_of y)) x
                  ≡ update nat_eq (update nat_eq (record_in t) inc.id (Some (coming_rec inc))) y.id
                  (outside (rec_of y)) x) (sym e.1)
                  (update_here (record_in t1) y.id (outside (rec_of y))
                  ∙ sym (update_here (update nat_eq (record_in t) inc.id (Some (coming_rec inc))) y.id
                  (outside (rec_of y))))
              outer id (inr e) = update_apart (record_in t1) y.id (outside (rec_of y)) id e.1 ∙ recs1 id
                  ∙ sym (update_apart (update nat_eq (record_in t) inc.id (Some (coming_rec inc))) y.id
                  (outside (rec_of y)) id e.1)

        viewed_some : view3 ≡ m.policy.push (m.policy.remove view y.id) (item_of m inc.id inc.kept)
        viewed_some = viewed3 ∙ ap (λ (v : View). m.policy.push v (item_of m inc.id inc.kept)) viewed2

        pub admitted_some : (usage entries : ℕ) → usage ≡ weight_of (m.policy.order view) → entries
            ≡ length (m.policy.order view)
            → Admitted (Some record { number = number; id = y.id; kept = y.kept }) (usage - y.kept.weight)
            (entries - 1) view3 keys1 t3 at3 next3
        admitted_some usage entries hu he =
            let base = base_some old led y there at2 places2 in
            let last : State K V P View = last_of old led y there at2 places2 in
            let way = gives_way_some old led y there at2 places2 in
            let slots : ℕ → Option (Kept K V P) = update nat_eq (slot_in t) old (slot_outside y) in
            let keys2 : ℕ × K → Option ℕ = update (same_key m.same) keys (key_of y.kept) None in
            let led3 : (q : ℕ × K) → keys1 q ≡ update (same_key m.same) keys2 (key_of inc.kept) (Some n) q =
            (λ q. led1 q ∙ led_over old led y there at2 places2 q) in
            record {
              admits = record {
                last = last;
                gives_way = way;
                after =
                    admit_after slots keys2 at2 last base t3 keys1 at3 view3 next3 slots_some recs_some led3 here3
                    others3 viewed_some nexts3;
              };
              kept3 = admit_kept slots keys2 at2 last base t3 keys1 at3 view3 next3 slots_some recs_some led3 here3
                  others3 viewed_some nexts3 plain
                  (fits (replaced_leaves (Some record { number = number; id = y.id; kept = y.kept })) last way)
                  held handle;
              stored3 = admit_stored slots keys2 at2 last base t3 keys1 at3 view3 next3 slots_some recs_some led3
                  here3 others3 viewed_some nexts3;
              weighed3 =
                  (let w : weight_of (m.policy.order view3) ≡ inc.kept.weight + usage_of m last =
                  ap (λ (v : View). weight_of (m.policy.order v)) viewed_some ∙ push_weight m laws good last inc in
                  let u = old_weight old led y there at2 places2 usage hu in omega (arith, u.0, u.1));
              counted3 =
                  (let w : length (m.policy.order view3) ≡ length (m.policy.order (m.policy.remove view y.id)) + 1 =
                  ap (λ (v : View). length (m.policy.order v)) viewed_some
                  ∙ pushed_length (m.policy.remove view y.id) (item_of m inc.id inc.kept) in
                  let u = old_entries old led y there at2 places2 entries he in omega (arith, u.0, u.1));
            }

  -- an index that leads as before
  pub record Reindexed (keys' : ℕ × K → Option ℕ) : Type 0 where
    pub same0 : state number capacity limits view keys' t next ≡ now
    pub kept0 : ∥ IsKept m (state number capacity limits view keys' t next) ∥₁
    pub stored0 : IsStored m at keys' t

  pub reindexed : (keys' : ℕ × K → Option ℕ) → ((q : ℕ × K) → keys' q ≡ keys q) → Reindexed keys'
  reindexed keys' same =
      let state_same : state number capacity limits view keys' t next ≡ now =
      same_state (state number capacity limits view keys' t next) now refl refl refl refl
      (λ q. ap (option_and_then (id_in t)) (same q)) (λ i. refl) refl in
      record {
        same0 = state_same;
        kept0 = subst (λ (s : State K V P View). ∥ IsKept m s ∥₁) (sym state_same) sound;
        stored0 = record { led = λ q j h. stored.led q j (sym (same q) ∙ h); placed = stored.placed };
      }
