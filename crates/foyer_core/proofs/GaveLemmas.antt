-- What a key's record, where it had one, leaves behind as it gives way to one that comes in.
use Rattle.std.proofs.Common.{◌≡◌, ◌≢◌, ℕ, ◌+◌, ◌-◌, ◌<◌, ◌≤◌, ◌^◌, [], Option, Some, None, Bool, true, false, cond, max, length, nat_eq, refl, sym, ◌∙◌, ap, subst, inl, inr, arith, rules}
use Rattle.std.specs.Prelude.{option_and_then, is_some, ◌⊎◌, IsSome, IsSomeAnd, ◌==◌}
use Rattle.std.proofs.lemmas.Bool.Decides.{nat_tests}
use Rattle.std.proofs.Math.Logic.{∥∥₁_elim}
use Rattle.std.proofs.Props.{props}
use mir.Val.{bool_byte}
use Rattle.std.specs.Cmp.{IsEquivalence}
use Rattle.std.specs.Map.{update}
use Rattle.std.proofs.lemmas.Map.{update_here, update_apart}
use Rattle.foyer_policy.specs.Items.{weight_of, IsNewIn}
use Rattle.foyer_policy.specs.Policy.{IsPolicy, without}
use Rattle.foyer_policy.specs.declared.types.Item.{Item}
use Rattle.foyer_core.specs.declared.records.Records.{Records}
use Rattle.foyer_core.specs.Values.{Kept, Gone, Rec, Incoming}
use Rattle.foyer_core.specs.Indexer.{same_key}
use Rattle.foyer_core.specs.Table.{rec_of, slot_outside}
use Rattle.foyer_core.specs.Records.{slot_in, record_in, id_in}
use Rattle.foyer_core.specs.State.{Meaning, State, IsKept, key_of, item_of, usage_of, is_phantom_record}
use Rattle.foyer_core.specs.Steps.{GivesWay, outside}
use Rattle.foyer_core.proofs.Keeps.{push_new}
use Rattle.foyer_core.proofs.ShardLemmas.{Holding, now_of, resident}
use Rattle.foyer_core.proofs.StoredLemmas.{some_of, item_there}
use Rattle.foyer_core.proofs.TableLemmas.{update_same}
use Rattle.foyer_core.proofs.AdmitLemmas.{Admitted, MayPush, coming_slot, coming_rec, base_some, last_of, gives_way_some, old_weight, old_entries, admitted_none, admitted_some}

-- a test, cast to a number
pub byte_is : (b : Bool) → bool_byte b ≡ cond b 1 0
byte_is true = refl
byte_is false = refl

-- a hashed key with an equal key
pub alike_key : {K : Type 0} (eq : K → K → Bool) (h : ℕ) (a b : K) → eq a b ≡ true → same_key eq (h, a) (h, b) ≡ true
alike_key eq h a b e = (let y : (h == h) ≡ true = grind (arith, nat_tests) in rw (y, e) refl)

module _ {K V P View C : Type 0} (m : Meaning K P View C) (laws : IsEquivalence m.same) (good : IsPolicy m.policy)
    (o : Holding V m) where
  open o use {at, keys, t, number, capacity, limits, view, next, sound, stored}

  abbrev now : State K V P View
  now = now_of o

  module _ (inc : Incoming K V P) (n : ℕ) (unled : (q : ℕ × K) (j : ℕ) → keys q ≡ Some j → j ≢ n)
      (out : (r : Rec K V P) → record_in t inc.id ≡ Some r → r.resident ≡ false)
      (t1 : Records K V P) (x0 : Kept K V P)
      (slots1 : (q : ℕ) → slot_in t1 q ≡ update nat_eq (slot_in t) n (Some x0) q) where
    -- a record that the key leads to stands where it stood
    pub old_there : (old : ℕ) (y : Kept K V P) → keys (key_of inc.kept) ≡ Some old → slot_in t old ≡ Some y →
        slot_in t1 old ≡ Some y
    old_there old y led there = slots1 old ∙ update_apart (slot_in t) n (Some x0) old
        (unled (key_of inc.kept) old led) ∙ there

    pub may_give_way : (was : Option ℕ) → was ≡ keys (key_of inc.kept) → (old : ℕ) → was ≡ Some old
        → IsSomeAnd (slot_in t1 old) (λ s. s.resident ≡ true) × IsSome (at old)
    may_give_way was is old h =
        let led = sym is ∙ h in
        let y = some_of (slot_in t old) (stored.led (key_of inc.kept) old led) in
        let res = resident m laws good o (key_of inc.kept) old led y.0 y.1 in (
          rw (old_there old y.0 led y.1) res,
          rw (item_there m at keys t stored old y.0 y.1 res) (search rules),
        )

    -- what gave way
    pub record GaveOld (gone : ℕ) (replaced : Option (Gone K V P)) (t2 : Records K V P) (at2 : ℕ → Option Item)
        (view2 : View) : Type 0 where
      pub old : ℕ
      pub y : Kept K V P
      pub led : keys (key_of inc.kept) ≡ Some old
      pub there : slot_in t old ≡ Some y
      pub gone_is : gone ≡ y.kept.weight
      pub replaced_is : replaced ≡ Some record { number = number; id = y.id; kept = y.kept }
      pub viewed : view2 ≡ m.policy.remove view y.id
      pub slots : (q : ℕ) → slot_in t2 q ≡ update nat_eq (slot_in t1) old (slot_outside y) q
      pub recs : (id : ℕ) → record_in t2 id ≡ update nat_eq (record_in t1) y.id (outside (rec_of y)) id
      pub places : (q : ℕ) → at2 q ≡ without y.id (at q)

    pub record GaveNone (gone : ℕ) (replaced : Option (Gone K V P)) (t2 : Records K V P) (at2 : ℕ → Option Item)
        (view2 : View) : Type 0 where
      pub led : keys (key_of inc.kept) ≡ None
      pub gone_is : gone ≡ 0
      pub replaced_is : replaced ≡ None
      pub viewed : view2 ≡ view
      pub slots : (q : ℕ) → slot_in t2 q ≡ slot_in t1 q
      pub recs : (id : ℕ) → record_in t2 id ≡ record_in t1 id
      pub places : (q : ℕ) → at2 q ≡ at q

    abbrev pub Gave : ℕ → Option (Gone K V P) → Records K V P → (ℕ → Option Item) → View → Type 0
    Gave gone replaced t2 at2 view2 = GaveNone gone replaced t2 at2 view2 ⊎ GaveOld gone replaced t2 at2 view2

    module _ (was : Option ℕ) (is : was ≡ keys (key_of inc.kept)) (result : ℕ × Option (Gone K V P))
        (t2 : Records K V P) (at2 : ℕ → Option Item) (view2 : View)
        (none : was ≡ None → (result ≡ (0, None)) × (view2 ≡ view))
        (none_slots : was ≡ None → (q : ℕ) → slot_in t2 q ≡ slot_in t1 q)
        (none_records : was ≡ None → (id : ℕ) → record_in t2 id ≡ record_in t1 id)
        (none_places : was ≡ None → (p : ℕ) → at2 p ≡ at p)
        (some : (k : ℕ) (s : Kept K V P) (i : Item) → was ≡ Some k → slot_in t1 k ≡ Some s →
        at k ≡ Some i
        → (result ≡ (i.weight, Some record { number = number; id = s.id; kept = s.kept }))
        × (view2 ≡ m.policy.remove view i.id))
        (some_slots : (k : ℕ) (s : Kept K V P) → was ≡ Some k → slot_in t1 k ≡ Some s → (q : ℕ) → slot_in t2 q
        ≡ update nat_eq (slot_in t1) k (slot_outside s) q)
        (some_records : (k : ℕ) (s : Kept K V P) → was ≡ Some k → slot_in t1 k ≡ Some s → (id : ℕ) → record_in t2 id
        ≡ update nat_eq (record_in t1) s.id (outside (rec_of s)) id)
        (some_places : (k : ℕ) (s : Kept K V P) (i : Item) → was ≡ Some k → slot_in t1 k ≡ Some s →
        at k ≡ Some i → (p : ℕ) → at2 p ≡ without i.id (at p)) where
      pub gave : Gave result.0 result.1 t2 at2 view2
      gave = go was refl where
        go : (w : Option ℕ) → was ≡ w → Gave result.0 result.1 t2 at2 view2
        go None h = inl record {
          led = sym is ∙ h;
          gone_is = ap (λ (r : ℕ × Option (Gone K V P)). r.0) (none h).0;
          replaced_is = ap (λ (r : ℕ × Option (Gone K V P)). r.1) (none h).0;
          viewed = (none h).1;
          slots = none_slots h;
          recs = none_records h;
          places = none_places h;
        }
        go (Some old) h =
            let led = sym is ∙ h in
            let y = some_of (slot_in t old) (stored.led (key_of inc.kept) old led) in
            let res = resident m laws good o (key_of inc.kept) old led y.0 y.1 in
            let there1 = old_there old y.0 led y.1 in
            let placed = item_there m at keys t stored old y.0 y.1 res in
            let r = some old y.0 (item_of m y.0.id y.0.kept) h there1 placed in
            inr record {
              old = old;
              y = y.0;
              led = led;
              there = y.1;
              gone_is = ap (λ (r : ℕ × Option (Gone K V P)). r.0) r.0;
              replaced_is = ap (λ (r : ℕ × Option (Gone K V P)). r.1) r.0;
              viewed = r.1;
              slots = some_slots old y.0 h there1;
              recs = some_records old y.0 h there1;
              places = some_places old y.0 (item_of m y.0.id y.0.kept) h there1 placed;
            }

    module _ (gone : ℕ) (replaced : Option (Gone K V P)) (t2 : Records K V P) (at2 : ℕ → Option Item) (view2 : View)
        (gave : Gave gone replaced t2 at2 view2) where
      -- the new record stands where it was put
      pub new_there : slot_in t2 n ≡ Some x0
      new_there = go gave where
        first : slot_in t1 n ≡ Some x0
        first = slots1 n ∙ update_here (slot_in t) n (Some x0)

        go : Gave gone replaced t2 at2 view2 → slot_in t2 n ≡ Some x0
        go (inl g) = g.slots n ∙ first
        go (inr g) =
            let apart : n ≢ g.old = (λ e. unled (key_of inc.kept) g.old g.led (sym e)) in
            g.slots n ∙ update_apart (slot_in t1) g.old (slot_outside g.y) n apart ∙ first

      none_way : GaveNone gone replaced t2 at2 view2 → GivesWay m (now.index (key_of inc.kept)) now [] now
      none_way g = subst (λ (w : Option ℕ). GivesWay m w now [] now) (sym (ap (option_and_then (id_in t)) g.led))
          (refl, refl)

      -- the push may be made
      pub gave_push :
          ((ls : _) (last : State K V P View) → GivesWay m (now.index (key_of inc.kept)) now ls last →
          usage_of m last + inc.kept.weight < 2 ^ 64) → MayPush m laws good o inc n unled out view2
      gave_push fits = go gave where
        new_in : (s : State K V P View) → ((r : Rec K V P) → s.records inc.id ≡ Some r → r.resident ≡ false) →
            IsKept m s → IsNewIn inc.id (m.policy.order s.view)
        new_in s out' k' = push_new m laws good s k' inc out'

        go : Gave gone replaced t2 at2 view2 → MayPush m laws good o inc n unled out view2
        go (inl g) = record {
          new = rw g.viewed (∥∥₁_elim sound (hlevel props) (new_in now out));
          fits = rw g.viewed (let f = fits [] now (none_way g) in omega arith);
        }
        go (inr g) =
            let last : State K V P View = last_of m laws good o inc n unled out g.old g.led g.y g.there at2 g.places in
            record {
              new = rw g.viewed
                  (let base = base_some m laws good o inc n unled out g.old g.led g.y g.there at2 g.places in
                  ∥∥₁_elim base.kept' (hlevel props) (new_in last base.out'));
              fits = rw g.viewed
                  (let f = fits _ last
                  (gives_way_some m laws good o inc n unled out g.old g.led g.y g.there at2 g.places) in
                  omega arith);
            }

      -- what is taken off is there
      pub gave_lighter : (usage entries : ℕ) → usage ≡ weight_of (m.policy.order view) → entries
          ≡ length (m.policy.order view) → (gone ≤ usage) × (cond (is_some replaced) 1 0 ≤ entries)
      gave_lighter usage entries hu he = go gave where
        go : Gave gone replaced t2 at2 view2 → (gone ≤ usage) × (cond (is_some replaced) 1 0 ≤ entries)
        go (inl g) = (omega (arith, g.gone_is), rw g.replaced_is (omega arith))
        go (inr g) = (
          (let u = old_weight m laws good o inc n unled out g.old g.led g.y g.there at2 g.places usage hu in
              omega (arith, u.0, g.gone_is)),
          rw g.replaced_is
              (old_entries m laws good o inc n unled out g.old g.led g.y g.there at2 g.places entries he).0,
        )

      -- the new usage fits
      pub gave_fits : (usage : ℕ) → usage ≡ weight_of (m.policy.order view) →
          ((ls : _) (last : State K V P View) → GivesWay m (now.index (key_of inc.kept)) now ls last →
          usage_of m last + inc.kept.weight < 2 ^ 64) → usage - gone + inc.kept.weight < 2 ^ 64
      gave_fits usage hu fits = go gave where
        go : Gave gone replaced t2 at2 view2 → usage - gone + inc.kept.weight < 2 ^ 64
        go (inl g) = (let f = fits [] now (none_way g) in omega (arith, g.gone_is))
        go (inr g) =
            let u = old_weight m laws good o inc n unled out g.old g.led g.y g.there at2 g.places usage hu in
            let last : State K V P View = last_of m laws good o inc n unled out g.old g.led g.y g.there at2 g.places in
            let f = fits _ last (gives_way_some m laws good o inc n unled out g.old g.led g.y g.there at2 g.places) in
            omega (arith, u.0, u.1, g.gone_is)

      -- nothing stands at the place
      pub gave_free : at n ≡ None → at2 n ≡ None
      gave_free free = go gave where
        go : Gave gone replaced t2 at2 view2 → at2 n ≡ None
        go (inl g) = g.places n ∙ free
        go (inr g) = g.places n ∙ ap (without g.y.id) free

      module _ (x0_is : x0 ≡ coming_slot inc) (keys1 : ℕ × K → Option ℕ)
          (at3 : ℕ → Option Item) (view3 : View) (next3 : ℕ)
          (recs1 : (id : ℕ) → record_in t1 id ≡ update nat_eq (record_in t) inc.id (Some (coming_rec inc)) id)
          (led1 : (q : ℕ × K) → keys1 q ≡ update (same_key m.same) keys (key_of inc.kept) (Some n) q)
          (here3 : at3 n ≡ Some (item_of m inc.id inc.kept)) (others3 : (q : ℕ) → q ≢ n → at3 q ≡ at2 q)
          (viewed3 : view3 ≡ m.policy.push view2 (item_of m inc.id inc.kept))
          (nexts3 : next3 ≡ max next (inc.id + 1)) (plain : is_phantom_record m inc.kept ≡ false)
          (held : 0 < inc.handles) (handle : inc.handles ≤ limits.handles)
          (fits : (ls : _) (last : State K V P View) → GivesWay m (now.index (key_of inc.kept)) now ls last →
          usage_of m last + inc.kept.weight < 2 ^ 64) where
        written : (q : ℕ) → slot_in t2 q ≡ update nat_eq (slot_in t2) n (Some (coming_slot inc)) q
        written q = sym (update_same (slot_in t2) n (coming_slot inc)
            (new_there ∙ ap (λ (x : Kept K V P). Some x) x0_is) q)

        pub gave_admitted : (usage entries : ℕ) → usage ≡ weight_of (m.policy.order view) → entries
            ≡ length (m.policy.order view)
            → Admitted m laws good o inc n unled out replaced (usage - gone) (entries - cond (is_some replaced) 1 0)
            view3 keys1 t2 at3 next3
        gave_admitted usage entries hu he = go gave where
          go : Gave gone replaced t2 at2 view2 → Admitted m laws good o inc n unled out replaced (usage - gone)
              (entries - cond (is_some replaced) 1 0) view3 keys1 t2 at3 next3
          go (inl g) = rw (g.replaced_is, g.gone_is)
              (admitted_none m laws good o inc n unled out t1 t2 t2 x0 x0_is keys1 at2 at3 view2 view3 next3 slots1
              recs1 led1 written (λ id. refl) here3 others3 viewed3 nexts3 plain held handle fits
              g.led g.viewed g.slots g.recs g.places (usage - 0) (entries - 0) (hu' g.led) (he' g.led)) where
                hu' : keys (key_of inc.kept) ≡ None → usage - 0 ≡ weight_of (m.policy.order view)
                hu' e = omega arith

                he' : keys (key_of inc.kept) ≡ None → entries - 0 ≡ length (m.policy.order view)
                he' e = omega arith
          go (inr g) = rw (g.replaced_is, g.gone_is)
              (admitted_some m laws good o inc n unled out t1 t2 t2 x0 x0_is keys1 at2 at3 view2 view3 next3 slots1
              recs1 led1 written (λ id. refl) here3 others3 viewed3 nexts3 plain held handle fits
              g.old g.led g.y g.there g.places g.viewed g.slots g.recs usage entries hu he)
