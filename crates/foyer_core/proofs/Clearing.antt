-- All records of a shard leave, and its policy is cleared.
use Rattle.std.proofs.Common.{◌≡◌, ℕ, ◌<◌, List, [], ◌∷◌, ◌++◌, Some, None, Option, Bool, true, false, true≢false, nat_eq, length, refl, sym, ◌∙◌, ap, subst, subst₂, arith}
use Rattle.std.proofs.Math.Logic.{∥∥₁_elim, ∥∥₁_map}
use Rattle.std.proofs.Props.{props}
use Rattle.std.specs.Prelude.{◌==◌}
use Rattle.std.specs.Cmp.{IsEquivalence}
use Rattle.std.specs.Map.{update}
use Rattle.std.proofs.lemmas.Bool.Decides.{nat_tests}
use Rattle.std.proofs.lemmas.List.Sorted.{IsPermutation-refl}
use Rattle.std.specs.List.Sorted.{IsPermutation}
use Rattle.foyer_policy.specs.Items.{weight_of, count_of, remove_id}
use Rattle.foyer_policy.specs.Policy.{IsPolicy, without}
use Rattle.foyer_policy.specs.declared.types.Item.{Item}
use Rattle.foyer_policy.specs.declared.types.Event.{Event}
use Rattle.foyer_policy.specs.declared.types.Event.TheVariants.{Clear}
use Rattle.foyer_policy.proofs.PopsLemmas.Cleared.{clear-order, clear-pinned}
use Rattle.foyer_core.specs.declared.records.Records.{Records}
use Rattle.foyer_core.specs.Values.{Kept, Gone}
use Rattle.foyer_core.specs.Indexer.{same_key}
use Rattle.foyer_core.specs.Table.{rec_of, slot_outside}
use Rattle.foyer_core.specs.Records.{slot_in, number_of, record_in}
use Rattle.foyer_core.specs.State.{Meaning, State, IsKept, key_of}
use Rattle.foyer_core.specs.Stored.{IsStored, item_in, state}
use Rattle.foyer_core.specs.Steps.{after_out, ids_of, outside, Leave}
use Rattle.foyer_core.specs.Bulk.{Clears, Lined, lined_state, Passes}
use Rattle.foyer_core.proofs.Evictions.{Leave-snoc}
use Rattle.foyer_core.proofs.LeaveLemmas.{leave-rests}
use Rattle.foyer_core.proofs.Outgoing.{out_id, out_record, out_after, out_kept, out_stored}
use Rattle.foyer_core.proofs.Outs.{ids-more, counted_first}
use Rattle.foyer_core.proofs.ShardLemmas.{Holding, now_of}
use Rattle.foyer_core.proofs.States.{same_state}
use Rattle.foyer_core.proofs.StoredLemmas.{slot_record, item_outside}
use Rattle.foyer_core.proofs.Views.{rearranged_keeps}

module _ {K V P View C : Type 0} (m : Meaning K P View C) where
  -- the view after some leaves may be any
  leave_other : (e : Event) (ids : List ℕ) (old : State K V P View) (ls : List (Event × Gone K V P)) (v w : View)
      (new : State K V P View) → Leave m e ids old ls v new → Leave m e ids old ls w (record new { view = w })
  leave_other e [] old [] v w new h = ap (λ (s : State K V P View). record s { view = w }) h
  leave_other e [] old (l ∷ ls) v w new h = absurd h
  leave_other e (i ∷ ids) old [] v w new h = absurd h
  leave_other e (i ∷ ids) old (l ∷ ls) v w new h =
      (h.0, h.1, h.2, leave_other e ids (after_out m old i h.0) ls v w new h.3)

  -- a lined state as one that a shard holds
  abbrev pub lined_holding : {number : ℕ} {keys : ℕ × K → Option ℕ} {records : Records K V P} {items : List Item} →
      Lined m number keys records items → Holding V m
  lined_holding {number = number} {keys = keys} {records = records} o = record {
    at = o.at;
    keys = keys;
    t = records;
    number = number;
    capacity = o.capacity;
    limits = o.limits;
    view = o.view;
    next = o.next;
    sound = o.sound;
    stored = o.stored;
  }

  -- the first of the items is in
  pub first_in : {number : ℕ} {keys : ℕ × K → Option ℕ} {records : Records K V P} (i : Item) (still : List Item)
      (o : Lined m number keys records (i ∷ still)) → 0 < count_of i.id (m.policy.order o.view)
  first_in i still o = subst (λ (l : List Item). 0 < count_of i.id l) (sym o.lined) (counted_first i still)

  pub passes-start : {number : ℕ} {keys : ℕ × K → Option ℕ} {records : Records K V P} {items : List Item}
      (o : Lined m number keys records items) → Passes m o [] items [] keys records
  passes-start o = record { after = o; leave = refl }

  module _ (laws : IsEquivalence m.same) (good : IsPolicy m.policy) where
    module _ {number : ℕ} {keys0 : ℕ × K → Option ℕ} {records0 : Records K V P} {items : List Item}
        (o : Lined m number keys0 records0 items)
        (left : List Item) (i : Item) (still : List Item) (ls : List (Event × Gone K V P)) (keys : ℕ × K → Option ℕ)
        (t : Records K V P) (p : Passes m o left (i ∷ still) ls keys t)
        (n : ℕ) (known : number_of t i.id ≡ Some n) (x : Kept K V P) (there : slot_in t n ≡ Some x)
        (t' : Records K V P) (write : (q : ℕ) → slot_in t' q ≡ update nat_eq (slot_in t) n (slot_outside x) q)
        (recs : (j : ℕ) → record_in t' j ≡ update nat_eq (record_in t) x.id (outside (rec_of x)) j)
        (keys' : ℕ × K → Option ℕ)
        (gone : (q : ℕ × K) → keys' q ≡ update (same_key m.same) keys (key_of x.kept) None q) where
      abbrev h : Holding V m
      h = lined_holding p.after

      abbrev inside : 0 < count_of i.id (m.policy.order p.after.view)
      inside = first_in i still p.after

      abbrev view' : View
      view' = m.policy.remove p.after.view i.id

      -- the others are lined up
      lined' : m.policy.order view' ≡ still
      lined' =
          let e : (i.id == i.id) ≡ true = grind (arith, nat_tests) in
          let rest : remove_id i.id (i ∷ still) ≡ still = rw e refl in
          good.remove_order p.after.view i.id ∙ ap (remove_id i.id) p.after.lined ∙ rest

      abbrev after' : Lined m number keys' t' still
      after' = record {
        capacity = p.after.capacity;
        limits = p.after.limits;
        view = view';
        next = p.after.next;
        at = λ q. without x.id (p.after.at q);
        sound = out_kept m laws good h i.id inside n known x there t' write recs (λ q. without x.id (p.after.at q))
            (λ q. refl) keys' gone view' refl;
        stored = out_stored m laws good h i.id inside n known x there t' write recs (λ q. without x.id (p.after.at q))
            (λ q. refl) keys' gone view' refl;
        lined = lined';
      }

      after_is : lined_state after' ≡ record (after_out m (lined_state p.after) i.id (rec_of x)) { view = view' }
      after_is = out_after m laws good h i.id inside n known x there t' write recs (λ q. without x.id (p.after.at q))
          (λ q. refl) keys' gone view' refl

      abbrev leaving : ℕ → Gone K V P
      leaving id = record { number = number; id = id; kept = x.kept }

      pub passes-more : Passes m o (left ++ i ∷ []) still (ls ++ (Clear, leaving x.id) ∷ []) keys' t'
      passes-more = record {
        after = after';
        leave =
            subst (λ (id : ℕ). Leave m Clear (ids_of (left ++ i ∷ [])) (lined_state o)
            (ls ++ (Clear, leaving id) ∷ []) view' (lined_state after'))
            (sym (out_id m laws good h i.id inside n known x there))
            (subst₂ (λ (ids : List ℕ) (s : State K V P View). Leave m Clear ids (lined_state o)
            (ls ++ (Clear, leaving i.id) ∷ []) view' s) (ids-more left i) (sym after_is)
            (Leave-snoc m Clear (ids_of left) (lined_state o) ls p.after.view (lined_state p.after) i.id (rec_of x)
            view' p.leave (out_record m laws good h i.id inside n known x there)));
      }

    -- all of them left
    module _ (o : Holding V m) (items : List Item) (all : m.policy.order o.view ≡ items) (keys' : ℕ × K → Option ℕ)
        (t' : Records K V P)
        (view' : View) (viewed : view' ≡ m.policy.clear o.view) where
      abbrev pub line : Lined m o.number o.keys o.t items
      line = record {
        capacity = o.capacity;
        limits = o.limits;
        view = o.view;
        next = o.next;
        at = o.at;
        sound = o.sound;
        stored = o.stored;
        lined = all;
      }

      abbrev final : State K V P View
      final = state o.number o.capacity o.limits view' keys' t' o.next

      none_in : m.policy.order view' ≡ []
      none_in = ap m.policy.order viewed ∙ clear-order m.policy good o.view

      module _ (ls : List (Event × Gone K V P)) (p : Passes m line items [] ls keys' t') where
        final_is : final ≡ record (lined_state p.after) { view = view' }
        final_is =
            let r = leave-rests m Clear (ids_of items) (now_of o) ls p.after.view (lined_state p.after) p.leave in
            same_state final (record (lined_state p.after) { view = view' }) (sym r.number) (sym r.capacity)
            (sym r.limits) refl (λ q. refl) (λ id. refl) (sym r.next)

        pub clears : Clears m (now_of o) ls final
        clears =
            subst (λ (l : List Item). Leave m Clear (ids_of l) (now_of o) ls (m.policy.clear o.view) final) (sym all)
            (subst (λ (v : View). Leave m Clear (ids_of items) (now_of o) ls v final) viewed
            (subst (λ (s : State K V P View). Leave m Clear (ids_of items) (now_of o) ls view' s) (sym final_is)
            (leave_other Clear (ids_of items) (now_of o) ls p.after.view view' (lined_state p.after) p.leave)))

        no_pin : (j : ℕ) → 0 < count_of j (m.policy.pinned view') → 0 < count_of j (m.policy.pinned p.after.view)
        no_pin j pos =
            let none : m.policy.pinned view' ≡ [] = ap m.policy.pinned viewed ∙ clear-pinned m.policy good o.view in
            let zero : 0 < count_of j [] = subst (λ (l : List Item). 0 < count_of j l) none pos in
            absurd (omega arith)

        same_items : IsPermutation (m.policy.order p.after.view) (m.policy.order view')
        same_items = subst₂ (λ (l k : List Item). IsPermutation l k) (sym p.after.lined) (sym none_in)
            (IsPermutation-refl [])

        kept_by : IsKept m (lined_state p.after) → IsKept m final
        kept_by k' = subst (IsKept m) (sym final_is)
            (rearranged_keeps m (lined_state p.after) k' p.after.capacity view' same_items no_pin)

        pub cleared_kept : ∥ IsKept m final ∥₁
        cleared_kept = ∥∥₁_map p.after.sound kept_by

        -- no slot's record is in the index
        out_by : (n : ℕ) (x : Kept K V P) → slot_in t' n ≡ Some x → x.resident ≡ true → IsKept m (lined_state p.after)
            → true ≡ false
        out_by n x there res k' =
            let pos : 0 < count_of x.id (m.policy.order p.after.view) =
            k'.resident x.id (rec_of x) (slot_record m p.after.at keys' t' n x there) res in
            let none : 0 < count_of x.id [] = subst (λ (l : List Item). 0 < count_of x.id l) p.after.lined pos in
            absurd (omega arith)

        pub cleared_stored : (at' : ℕ → Option Item) → ((n : ℕ) → at' n ≡ None) → IsStored m at' keys' t'
        cleared_stored at' none = record {
          led = p.after.stored.led;
          placed = λ n. none n ∙ sym (go n (slot_in t' n) refl);
        } where
          not_true : (b : Bool) → (b ≡ true → ⊥) → b ≡ false
          not_true true h = absurd (h refl)
          not_true false h = refl

          go : (n : ℕ) (w : Option (Kept K V P)) → slot_in t' n ≡ w → item_in m w ≡ None
          go n None is = refl
          go n (Some x) is = item_outside m x
              (not_true x.resident
              (λ res. true≢false (∥∥₁_elim p.after.sound (hlevel props) (out_by n x is res))))

      pub cleared_weight : 0 ≡ weight_of (m.policy.order view')
      cleared_weight = sym (ap weight_of none_in)

      pub cleared_length : 0 ≡ length (m.policy.order view')
      cleared_length = sym (ap length none_in)
