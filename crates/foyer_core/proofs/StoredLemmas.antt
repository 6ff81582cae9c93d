-- How a shard's fields go on standing for its state.
use Rattle.std.proofs.Common.{◌≡◌, ◌≢◌, ℕ, Option, Some, None, Bool, true, false, cond, nat_eq, refl, sym, ◌∙◌, ap, subst, inl, inr}
use Rattle.std.specs.Prelude.{option_and_then, is_some, Result, Ok, Err, IsErrAnd}
use Rattle.std.specs.Map.{update}
use Rattle.std.proofs.lemmas.Map.{update_here, update_apart}
use Rattle.std.proofs.lemmas.Bool.Decides.{eqb_tells}
use Rattle.foyer_policy.specs.declared.types.Item.{Item}
use Rattle.foyer_core.specs.declared.records.Records.{Records}
use Rattle.foyer_core.specs.Values.{Kept}
use Rattle.foyer_core.specs.Table.{rec_of}
use Rattle.foyer_core.specs.Records.{slot_in, number_of, record_in, id_in}
use Rattle.foyer_core.specs.State.{Meaning, item_of}
use Rattle.foyer_core.specs.Stored.{IsStored, item_in}
use Rattle.foyer_core.proofs.TableLemmas.{id_by-some, record_there, write_ids, with_handles}

pub some_of : {A : Type 0} (o : Option A) → is_some o ≡ true → (a : A) × (o ≡ Some a)
some_of None h = absurd cc
some_of (Some a) h = (a, refl)

-- a result that is this error
pub err_is : {A E : Type 0} (r : Result A E) (x : E) (Goal : Result A E → Type 0) → IsErrAnd r (λ e. e ≡ x) →
    Goal (Err x) → Goal r
err_is (Ok a) x Goal h goal = absurd h
err_is {A} {E} (Err e) x Goal h goal = subst (λ (y : E). Goal (Err y)) (sym h) goal

pub none_not : {A : Type 0} (o : Option A) → is_some o ≡ true → ¬ (o ≡ None)
none_not None h e = absurd cc
none_not (Some a) h e = absurd cc

module _ {K V P View C : Type 0} (m : Meaning K P View C) where
  pub item_resident : (s : Kept K V P) → s.resident ≡ true → item_in m (Some s) ≡ Some (item_of m s.id s.kept)
  item_resident s res = ap (λ (b : Bool). cond b (Some (item_of m s.id s.kept)) None) res

  pub item_outside : (s : Kept K V P) → s.resident ≡ false → item_in m (Some s) ≡ None
  item_outside s out = ap (λ (b : Bool). cond b (Some (item_of m s.id s.kept)) None) out

  -- a slot is written, and the policy has its item at this place, or none
  pub items_write : (f g : ℕ → Option (Kept K V P)) (n : ℕ) (o : Option (Kept K V P))
      → ((q : ℕ) → g q ≡ update nat_eq f n o q) → (at at' : ℕ → Option Item) → ((p : ℕ) → at p ≡ item_in m (f p))
      → at' n ≡ item_in m o → ((p : ℕ) → p ≢ n → at' p ≡ at p) → (p : ℕ) → at' p ≡ item_in m (g p)
  items_write f g n o write at at' placed here others p = elim (eqb_tells p n) [
    | inl e ↦ ap at' e.1 ∙ here ∙ ap (item_in m) (sym (ap g e.1 ∙ write n ∙ update_here f n o))
    | inr e ↦ others p e.1 ∙ placed p ∙ ap (item_in m) (sym (write p ∙ update_apart f n o p e.1))
  ]

module _ {K V P View C : Type 0} (m : Meaning K P View C) (at : ℕ → Option Item) (keys : ℕ × K → Option ℕ)
    (t : Records K V P) where
  -- the id that a key hits is that of the slot that it leads to
  pub index_is : (q : ℕ × K) (n : ℕ) (s : Kept K V P) → keys q ≡ Some n → slot_in t n ≡ Some s →
      option_and_then (id_in t) (keys q) ≡ Some s.id
  index_is q n s h there = ap (option_and_then (id_in t)) h ∙ id_by-some (slot_in t) n s there

  pub slot_record : (n : ℕ) (s : Kept K V P) → slot_in t n ≡ Some s → record_in t s.id ≡ Some (rec_of s)
  slot_record n s there = record_there (slot_in t) (number_of t) n t.agree s there

  -- the policy has a resident's item at its slot's number
  pub item_there : IsStored m at keys t → (n : ℕ) (s : Kept K V P) → slot_in t n ≡ Some s → s.resident ≡ true
      → at n ≡ Some (item_of m s.id s.kept)
  item_there stored n s there res = stored.placed n ∙ ap (item_in m) there ∙ item_resident m s res

  -- a slot whose handles change
  module _ (at' : ℕ → Option Item) (t' : Records K V P) (n h : ℕ) (s : Kept K V P) (there : slot_in t n ≡ Some s)
      (write : (q : ℕ) → slot_in t' q ≡ update nat_eq (slot_in t) n (Some (with_handles s h)) q)
      (ids : (q : ℕ) → number_of t' q ≡ number_of t q) (same : (p : ℕ) → at' p ≡ at p) where
    pub count_index : (q : ℕ × K) → option_and_then (id_in t') (keys q) ≡ option_and_then (id_in t) (keys q)
    count_index q = go (keys q) where
      go : (o : Option ℕ) → option_and_then (id_in t') o ≡ option_and_then (id_in t) o
      go None = refl
      go (Some k) = write_ids (slot_in t) (slot_in t') (number_of t) (number_of t') n t.agree s (with_handles s h)
          there refl write ids k

    pub count_stored : IsStored m at keys t → IsStored m at' keys t'
    count_stored stored = record {
      led = λ q k is. elim (eqb_tells k n) [
        | inl e ↦ ap is_some (ap (slot_in t') e.1 ∙ write n ∙ update_here (slot_in t) n (Some (with_handles s h)))
        | inr e ↦ ap is_some (write k ∙ update_apart (slot_in t) n (Some (with_handles s h)) k e.1) ∙ stored.led q k is
      ];
      placed = items_write m (slot_in t) (slot_in t') n (Some (with_handles s h)) write at at' stored.placed
          (same n ∙ stored.placed n ∙ ap (item_in m) there) (λ p apart. same p);
    }
