-- A record that leaves its slot's place in the index and the policy: what the fields stand for then.
use Rattle.std.proofs.Common.{◌≡◌, ◌≢◌, ℕ, ◌-◌, ◌<◌, ◌≤◌, Option, Some, None, Bool, true, false, cond, length, nat_eq, refl, sym, ◌∙◌, ap, subst, inl, inr, arith}
use Rattle.std.proofs.Math.Logic.{∥∥₁_elim, ∥∥₁_map}
use Rattle.std.proofs.Props.{props}
use Rattle.std.specs.Prelude.{option_and_then, option_map, is_some, ◌==◌}
use Rattle.std.specs.Cmp.{IsEquivalence}
use Rattle.std.specs.Map.{update}
use Rattle.std.proofs.lemmas.Bool.Decides.{eqb_tells}
use Rattle.std.proofs.lemmas.Map.{update_apart}
use Rattle.foyer_policy.specs.Items.{count_of, find_id, weight_of}
use Rattle.foyer_policy.specs.Policy.{IsPolicy, without}
use Rattle.foyer_policy.specs.declared.types.Item.{Item}
use Rattle.foyer_core.specs.declared.records.Records.{Records}
use Rattle.foyer_core.specs.Values.{Kept, Rec, Gone}
use Rattle.foyer_core.specs.Indexer.{same_key}
use Rattle.foyer_core.specs.Table.{rec_of, has_key, slot_outside, id_by}
use Rattle.foyer_core.specs.Records.{slot_in, number_of, record_in, id_in}
use Rattle.foyer_core.specs.State.{Meaning, State, IsKept, key_of, item_of}
use Rattle.foyer_core.specs.Steps.{after_out, outside}
use Rattle.foyer_core.specs.Stored.{IsStored, item_in, state}
use Rattle.foyer_core.proofs.Found.{found-counted}
use Rattle.foyer_core.proofs.Keeps.{resident_in, popped_there, popped_keeps, popped_weight, indexed_there}
use Rattle.foyer_core.proofs.Keys.{same_key_laws}
use Rattle.foyer_core.proofs.Evictions.{popped_shorter}
use Rattle.foyer_core.proofs.States.{same_state}
use Rattle.foyer_core.proofs.ShardLemmas.{Holding, now_of}
use Rattle.foyer_core.proofs.StoredLemmas.{index_is, slot_record, some_of, items_write}
use Rattle.foyer_core.proofs.TableLemmas.{id_by-some}

some_one : (a b : ℕ) → Some a ≡ Some b → a ≡ b
some_one a b h = cc

-- the policy has no item of a record that is outside
outside_none : {K V P View C : Type 0} (m : Meaning K P View C) (x : Kept K V P) → item_in m (slot_outside x) ≡ None
outside_none {K} {V} {P} m x = go (x.handles == 0) where
  go : (b : Bool) → item_in m (cond b None (Some (record x { resident = false }))) ≡ None
  go true = refl
  go false = refl

without-other : (id : ℕ) (i : Item) → i.id ≢ id → without id (Some i) ≡ Some i
without-other id i n = elim (eqb_tells i.id id) [ inl e ↦ absurd (n e.1) | inr e ↦ rw e.0 refl ]

without-own : (i : Item) → without i.id (Some i) ≡ None
without-own i = elim (eqb_tells i.id i.id) [ inl e ↦ rw e.0 refl | inr e ↦ absurd (e.1 refl) ]

-- `IsStored`, of slots as a function
pub record IsStoredBy {K V P View C : Type 0} (m : Meaning K P View C) (at : ℕ → Option Item)
    (keys : ℕ × K → Option ℕ) (slots : ℕ → Option (Kept K V P)) : Type 0 where
  pub led : (q : ℕ × K) (n : ℕ) → keys q ≡ Some n → is_some (slots n) ≡ true
  pub placed : (n : ℕ) → at n ≡ item_in m (slots n)

module _ {K V P View C : Type 0} (m : Meaning K P View C) (laws : IsEquivalence m.same) (good : IsPolicy m.policy)
    (o : Holding V m) where
  open o use {at, keys, t, number, capacity, limits, view, next, sound, stored}

  abbrev now : State K V P View
  now = now_of o

  module _ (n : ℕ) (x : Kept K V P) (there : slot_in t n ≡ Some x) where
    under_by : IsKept m now → (q : ℕ × K) → keys q ≡ Some n → same_key m.same (key_of x.kept) q ≡ true
    under_by k' q led =
        let r = indexed_there m laws good now k' q x.id (index_is m at keys t q n x led there) in
        let same : rec_of x ≡ r.0 =
        (let e : Some (rec_of x) ≡ Some r.0 = sym (slot_record m at keys t n x there) ∙ r.1 in cc) in
        (same_key_laws m.same laws).symm (key_of x.kept) q
        ∙ ap (λ (z : Rec K V P). same_key m.same q (key_of z.kept)) same ∙ r.3

    -- what leads to the slot is its record's key
    pub under : (q : ℕ × K) → keys q ≡ Some n → same_key m.same (key_of x.kept) q ≡ true
    under q led = ∥∥₁_elim sound (hlevel props) (λ k'. under_by k' q led)

    -- what its record says to a key is what the keys say that lead to it
    answer_there : (k q : ℕ × K) → keys q ≡ Some n → has_key m.same (slot_in t n) k ≡ same_key m.same q k
    answer_there k q led = ap (λ (o : Option (Kept K V P)). has_key m.same o k) there
        ∙ (same_key_laws m.same laws).congr (key_of x.kept) q k (under q led)

    module _ (f' : ℕ → Option (Kept K V P)) (write : (q : ℕ) → f' q ≡ update nat_eq (slot_in t) n (slot_outside x) q)
        (at' : ℕ → Option Item) (same : (p : ℕ) → at' p ≡ without x.id (at p))
        (keys' : ℕ × K → Option ℕ)
        (gone : (q : ℕ × K) → keys' q ≡ update (same_key m.same) keys (key_of x.kept) None q) where
      other : (j : ℕ) → j ≢ n → f' j ≡ slot_in t j
      other j apart = write j ∙ update_apart (slot_in t) n (slot_outside x) j apart

      -- a key that still leads somewhere leads to another slot, and led there before
      led_still : (q : ℕ × K) (j : ℕ) → keys' q ≡ Some j → (keys q ≡ Some j) × (j ≢ n)
      led_still q j h = go (same_key m.same (key_of x.kept) q) refl (sym (gone q) ∙ h) where
        go : (b : Bool) → same_key m.same (key_of x.kept) q ≡ b → cond b None (keys q) ≡ Some j → (keys q ≡ Some j)
            × (j ≢ n)
        go true e h = absurd cc
        go false e h = (h, λ is. let u = under q (h ∙ ap (λ (a : ℕ). Some a) is) in absurd cc)

      pub left_index : (q : ℕ × K) → option_and_then (id_by f') (keys' q)
          ≡ update (same_key m.same) (λ (p : ℕ × K). option_and_then (id_in t) (keys p)) (key_of x.kept) None q
      left_index q = ap (option_and_then (id_by f')) (gone q)
          ∙ go (same_key m.same (key_of x.kept) q) refl (keys q) refl where
            go : (b : Bool) → same_key m.same (key_of x.kept) q ≡ b → (w : Option ℕ) → keys q ≡ w →
                option_and_then (id_by f') (cond b None w) ≡ cond b None (option_and_then (id_in t) w)
            go true e w is = refl
            go false e None is = refl
            go false e (Some j) is =
                let apart : j ≢ n = (λ same. let u = under q (is ∙ ap (λ (a : ℕ). Some a) same) in absurd cc) in
                ap (option_map (λ (s : Kept K V P). s.id)) (other j apart)

      pub left_stored : IsStoredBy m at' keys' f'
      left_stored = record {
        led = λ q j h. let l = led_still q j h in ap is_some (other j l.1) ∙ stored.led q j l.0;
        placed = items_write m (slot_in t) f' n (slot_outside x) write at at' stored.placed gone_here still_there;
      } where
        own : (b : Bool) → without x.id (cond b (Some (item_of m x.id x.kept)) None) ≡ None
        own true = without-own (item_of m x.id x.kept)
        own false = refl

        gone_here : at' n ≡ item_in m (slot_outside x)
        gone_here = same n ∙ ap (without x.id) (stored.placed n ∙ ap (item_in m) there) ∙ own x.resident
            ∙ sym (outside_none m x)

        id_apart : (j : ℕ) (y : Kept K V P) → j ≢ n → slot_in t j ≡ Some y → y.id ≢ x.id
        id_apart j y apart is same_id = apart
            (some_one j n
            (sym (t.agree.known j y.id (id_by-some (slot_in t) j y is)) ∙ ap (number_of t) same_id
            ∙ t.agree.known n x.id (id_by-some (slot_in t) n x there)))

        other_item : (y : Kept K V P) (b : Bool) → y.id ≢ x.id →
            without x.id (cond b (Some (item_of m y.id y.kept)) None) ≡ cond b (Some (item_of m y.id y.kept)) None
        other_item y true apart = without-other x.id (item_of m y.id y.kept) apart
        other_item y false apart = refl

        still_there : (j : ℕ) → j ≢ n → at' j ≡ at j
        still_there j apart = same j ∙ ap (without x.id) (stored.placed j) ∙ go (slot_in t j) refl
            ∙ sym (stored.placed j) where
              go : (w : Option (Kept K V P)) → slot_in t j ≡ w → without x.id (item_in m w) ≡ item_in m w
              go None is = refl
              go (Some y) is = other_item y y.resident (id_apart j y apart is)

  -- what the record of a slot says to a key is what the keys say that lead to the slot
  pub answer_is : (k q : ℕ × K) (n : ℕ) → keys q ≡ Some n → has_key m.same (slot_in t n) k ≡ same_key m.same q k
  answer_is k q n led = (let x = some_of (slot_in t n) (stored.led q n led) in answer_there n x.0 x.1 k q led)

  -- the item at a place is that of the slot of this number
  module _ (n : ℕ) (i : Item) (stood : at n ≡ Some i) where
    pub stood_slot : (x : Kept K V P) × (slot_in t n ≡ Some x) × (x.id ≡ i.id)
    stood_slot = go (slot_in t n) refl (sym (stored.placed n) ∙ stood) where
      own : (x : Kept K V P) (b : Bool) → cond b (Some (item_of m x.id x.kept)) None ≡ Some i → x.id ≡ i.id
      own x true h = (let e : item_of m x.id x.kept ≡ i = cc in ap (λ (j : Item). j.id) e)
      own x false h = absurd cc

      go : (w : Option (Kept K V P)) → slot_in t n ≡ w → item_in m w ≡ Some i →
          (x : Kept K V P) × (slot_in t n ≡ Some x) × (x.id ≡ i.id)
      go None is h = absurd cc
      go (Some x) is h = (x, is, own x x.resident h)

    pub stood_there : is_some (slot_in t n) ≡ true
    stood_there = ap is_some stood_slot.1

    pub stood_known : number_of t i.id ≡ Some n
    stood_known = t.agree.known n i.id
        (id_by-some (slot_in t) n stood_slot.0 stood_slot.1 ∙ ap (λ (a : ℕ). Some a) stood_slot.2)

    -- it is in the policy's order
    pub stood_counted : 0 < count_of i.id (m.policy.order view)
    stood_counted = ∥∥₁_elim sound (hlevel props) (λ k. found-counted i.id i (m.policy.order view) (found_by k)) where
      own : IsKept m now → (x : Kept K V P) → slot_in t n ≡ Some x → (b : Bool) → x.resident ≡ b →
          cond b (Some (item_of m x.id x.kept)) None ≡ Some i → find_id i.id (m.policy.order view) ≡ Some i
      own k x is true res h =
          let e : item_of m x.id x.kept ≡ i = cc in
          subst (λ (j : Item). find_id j.id (m.policy.order view) ≡ Some j) e
          (resident_in m laws good now k x.id (rec_of x) (slot_record m at keys t n x is) res)
      own k x is false res h = absurd cc

      found_by : IsKept m now → find_id i.id (m.policy.order view) ≡ Some i
      found_by k = go (slot_in t n) refl (sym (stored.placed n) ∙ stood) where
        go : (w : Option (Kept K V P)) → slot_in t n ≡ w → item_in m w ≡ Some i →
            find_id i.id (m.policy.order view) ≡ Some i
        go None is h = absurd cc
        go (Some x) is h = own k x is x.resident refl h

  -- the victim of a pop
  module _ (i : Item) (v : View) (popped : m.policy.pop view ≡ Some (i, v)) where
    pub victim_lighter : (usage : ℕ) → usage ≡ weight_of (m.policy.order view) → i.weight ≤ usage
    victim_lighter usage h = ∥∥₁_elim sound (hlevel props)
        (λ k'. omega (arith, popped_weight m laws good now k' i v popped))

    pub victim_weight : (usage : ℕ) → usage ≡ weight_of (m.policy.order view) → usage - i.weight
        ≡ weight_of (m.policy.order v)
    victim_weight usage h = ∥∥₁_elim sound (hlevel props)
        (λ k'. omega (arith, popped_weight m laws good now k' i v popped))

    pub victim_entries : (entries : ℕ) → entries ≡ length (m.policy.order view) → (1 ≤ entries)
        × (entries - 1 ≡ length (m.policy.order v))
    victim_entries entries h = (let e = popped_shorter m good now i v popped in (omega arith, omega arith))

    module _ (n : ℕ) (x : Kept K V P) (found : number_of t i.id ≡ Some n) (there : slot_in t n ≡ Some x) where
      abbrev pub record_gone : ℕ → Gone K V P
      record_gone id = record { number = number; id = id; kept = x.kept }

      pub victim_id : x.id ≡ i.id
      victim_id = some_one x.id i.id (sym (id_by-some (slot_in t) n x there) ∙ t.agree.named i.id n found)

      pub victim_gone : record_gone x.id ≡ record_gone i.id
      victim_gone = ap record_gone victim_id

      rec_there : now.records i.id ≡ Some (rec_of x)
      rec_there = ap (record_in t) (sym victim_id) ∙ slot_record m at keys t n x there

      resident_by : IsKept m now → x.resident ≡ true
      resident_by k' =
          let r = popped_there m laws good now k' i v popped in
          let same : rec_of x ≡ r.0 = (let e : Some (rec_of x) ≡ Some r.0 = sym rec_there ∙ r.1 in cc) in
          ap (λ (z : Rec K V P). z.resident) same ∙ r.2

      leads : (w : Option ℕ) → option_and_then (id_in t) w ≡ Some i.id → w ≡ Some n
      leads None h = absurd cc
      leads (Some j) h = ap (λ (a : ℕ). Some a) (some_one j n (sym (t.agree.known j i.id h) ∙ found))

      led_by : IsKept m now → keys (key_of x.kept) ≡ Some n
      led_by k' =
          let r = popped_there m laws good now k' i v popped in
          let same : r.0 ≡ rec_of x = (let e : Some r.0 ≡ Some (rec_of x) = sym r.1 ∙ rec_there in cc) in
          leads (keys (key_of x.kept)) (subst (λ (z : Rec K V P). now.index (key_of z.kept) ≡ Some i.id) same r.3)

      -- its key leads to it
      pub victim_led : keys (key_of x.kept) ≡ Some n
      victim_led = ∥∥₁_elim sound (hlevel props) led_by

      pub victim_resident : x.resident ≡ true
      victim_resident = ∥∥₁_elim sound (hlevel props) resident_by

      module _ (t' : Records K V P) (write : (q : ℕ) → slot_in t' q ≡ update nat_eq (slot_in t) n (slot_outside x) q)
          (recs : (id : ℕ) → record_in t' id ≡ update nat_eq (record_in t) x.id (outside (rec_of x)) id)
          (at' : ℕ → Option Item) (same : (p : ℕ) → at' p ≡ without i.id (at p)) (keys' : ℕ × K → Option ℕ)
          (gone : (q : ℕ × K) → keys' q ≡ update (same_key m.same) keys (key_of x.kept) None q) where
        same_x : (p : ℕ) → at' p ≡ without x.id (at p)
        same_x p = same p ∙ ap (λ (id : ℕ). without id (at p)) (sym victim_id)

        pub victim_after : state number capacity limits v keys' t' next
            ≡ record (after_out m now i.id (rec_of x)) { view = v }
        victim_after = same_state (state number capacity limits v keys' t' next)
            (record (after_out m now i.id (rec_of x)) { view = v }) refl refl refl refl
            (left_index n x there (slot_in t') write at' same_x keys' gone)
            (λ id. recs id ∙ ap (λ (a : ℕ). update nat_eq (record_in t) a (outside (rec_of x)) id) victim_id) refl

        pub victim_kept : ∥ IsKept m (state number capacity limits v keys' t' next) ∥₁
        victim_kept = ∥∥₁_map sound
            (λ k'. subst (IsKept m) (sym victim_after)
            (popped_keeps m laws good now k' i v popped (rec_of x) rec_there))

        pub victim_stored : IsStored m at' keys' t'
        victim_stored =
            (let l = left_stored n x there (slot_in t') write at' same_x keys' gone in
            record { led = l.led; placed = l.placed })

        pub victim_record : now.records i.id ≡ Some (rec_of x)
        victim_record = rec_there

  -- the same view, at the same places
  module _ (v : View) (same : v ≡ view) where
    pub still_kept : ∥ IsKept m (state number capacity limits v keys t next) ∥₁
    still_kept = subst (λ (w : View). ∥ IsKept m (state number capacity limits w keys t next) ∥₁) (sym same) sound

    pub still_stored : (at' : ℕ → Option Item) → ((p : ℕ) → at' p ≡ at p) → IsStored m at' keys t
    still_stored at' places = record { led = stored.led; placed = λ n. places n ∙ stored.placed n }

    pub still_weighed : (usage : ℕ) → usage ≡ weight_of (m.policy.order view) → usage ≡ weight_of (m.policy.order v)
    still_weighed usage h = h ∙ ap (λ (w : View). weight_of (m.policy.order w)) (sym same)

    pub still_counted : (entries : ℕ) → entries ≡ length (m.policy.order view) → entries ≡ length (m.policy.order v)
    still_counted entries h = h ∙ ap (λ (w : View). length (m.policy.order w)) (sym same)
