-- A shard that is touched: a get, and its entry's way back.
use Rattle.std.proofs.Common.{◌≡◌, ℕ, ◌+◌, ◌-◌, ◌<◌, ◌==◌, ◌&&◌, ◌≢◌, ◌⊎◌, Option, Some, None, Ok, Bool, true, false, cond, length, nat_eq, refl, sym, ◌∙◌, ap, subst, inl, inr, arith}
use Rattle.std.proofs.Math.Logic.{∥∥₁_elim, ∥∥₁_map}
use Rattle.std.proofs.Math.Path.{ap₂}
use Rattle.std.proofs.Props.{props}
use Rattle.std.specs.Prelude.{not, if◌then◌else◌}
use Rattle.std.specs.Cmp.{IsEquivalence}
use Rattle.std.specs.Map.{update}
use Rattle.std.proofs.lemmas.Bool.Decides.{eqb_tells, nat_tests}
use Rattle.std.proofs.lemmas.Map.{update_here, update_apart}
use Rattle.std.proofs.lemmas.List.Sorted.{sum_by-IsPermutation, length_permutation}
use Rattle.foyer_policy.specs.Items.{weight_of, HasIdsOnce}
use Rattle.foyer_policy.specs.Policy.{IsPolicy}
use Rattle.foyer_policy.specs.declared.types.Item.{Item}
use Rattle.foyer_policy.specs.declared.types.Event.{Event}
use Rattle.foyer_policy.specs.declared.types.Event.TheVariants.{Evict}
use Rattle.foyer_policy.specs.declared.types.Source.TheVariants.{Memory}
use Rattle.foyer_core.specs.Values.{Kept, Rec, Gone, Held}
use Rattle.foyer_core.specs.Table.{rec_of}
use Rattle.foyer_core.specs.Records.{slot_in, record_in}
use Rattle.foyer_core.specs.State.{Meaning, State, IsKept, hit, is_phantom_record}
use Rattle.foyer_core.specs.Stored.{IsStored, state}
use Rattle.foyer_core.specs.Steps.{Gets, GivesBack, Touches, entry_of, after_get, after_give_back, after_last, last_leave}
use Rattle.foyer_core.proofs.Found.{once-permuted}
use Rattle.foyer_core.proofs.ShardLemmas.{Holding, now_of, found, resident}
use Rattle.foyer_core.proofs.States.{same_state}
use Rattle.foyer_core.proofs.Stepped.{gets_keeps, gives_back_keeps}

-- a second write of what was there
back_again : {A : Type 0} (f : ℕ → Option A) (id : ℕ) (a b : Option A) → f id ≡ b → (j : ℕ) → f j
    ≡ update nat_eq (update nat_eq f id a) id b j
back_again f id a b is j = elim (eqb_tells j id) [
  | inl e ↦ subst (λ (x : ℕ). f x ≡ update nat_eq (update nat_eq f id a) id b x) (sym e.1)
      (is ∙ sym (update_here (update nat_eq f id a) id b))
  | inr e ↦ sym (update_apart (update nat_eq f id a) id b j e.1 ∙ update_apart f id a j e.1)
]

module _ {K V P View C : Type 0} (m : Meaning K P View C) (laws : IsEquivalence m.same) (good : IsPolicy m.policy)
    (o : Holding V m) where
  open o use {at, keys, t, number, capacity, limits, view, next, sound, stored}

  -- what the policy makes of a use whose handle goes at once
  abbrev pub used : ℕ → ℕ → View
  used id handles = if handles == 0 then m.policy.release (m.policy.acquire view id) id else m.policy.acquire view id

  -- another handle is there
  pub used_held : (id handles : ℕ) → 0 < handles → m.policy.acquire view id ≡ used id handles
  used_held id handles more = (let e : (handles == 0) ≡ false = grind (arith, nat_tests) in rw e refl)

  -- there was none
  pub used_last : (id handles : ℕ) → handles ≡ 0 → m.policy.release (m.policy.acquire view id) id ≡ used id handles
  used_last id handles none = (let e : (handles == 0) ≡ true = grind (arith, nat_tests) in rw e refl)

  module _ (k : ℕ × K) (n : ℕ) (led : keys k ≡ Some n) (x : Kept K V P) (there : slot_in t n ≡ Some x)
      (moment : ℕ) (live : hit m moment (now_of o) k ≡ Some x.id) (room : x.handles < limits.handles) (view' : View)
      (viewed : view' ≡ used x.id x.handles) where
    abbrev more : Rec K V P
    more = record { kept = x.kept; handles = x.handles + 1; resident = x.resident }

    abbrev mid : State K V P View
    mid = after_get m (now_of o) x.id (rec_of x)

    abbrev entry : Held K V P
    entry = entry_of (now_of o) x.id x.kept Memory

    gets : Gets m moment (now_of o) k (Ok (Some entry)) mid
    gets = (rec_of x, live, found m laws good o k n led x there, room, refl, refl)

    res : x.resident ≡ true
    res = resident m laws good o k n led x there

    no_leave : None ≡ last_leave m number x.id more
    no_leave = go (x.handles + 1 == 1) x.resident res where
      go : (b c : Bool) → c ≡ true → ◌≡◌ {A = Option (Event × Gone K V P)} None
          (cond (b && (not c && is_phantom_record m x.kept))
          (Some (Evict, record { number = number; id = x.id; kept = x.kept })) None)
      go true true e = refl
      go false true e = refl
      go b false e = absurd cc

    -- with so many handles in place of one more
    abbrev with_back : View → ℕ → State K V P View
    with_back v h = record mid {
      view = v;
      records = update nat_eq mid.records x.id
          (Some (record { kept = x.kept; handles = h; resident = x.resident }));
    }

    same_back : (v : View) (h : ℕ) → h ≡ x.handles → state number capacity limits v keys t next ≡ with_back v h
    same_back v h e = same_state (state number capacity limits v keys t next) (with_back v h) refl refl refl refl
        (λ q. refl)
        (back_again (record_in t) x.id (Some more) (Some (record { kept = x.kept; handles = h; resident = x.resident }))
        (found m laws good o k n led x there ∙
        ap (λ (a : ℕ). Some (record { kept = x.kept; handles = a; resident = x.resident })) (sym e))) refl

    after : state number capacity limits view' keys t next ≡ after_give_back m mid x.id more
    after = ap (λ (v : View). state number capacity limits v keys t next) viewed ∙ go (eqb_tells x.handles 0) where
      go : (((x.handles == 0) ≡ true) × (x.handles ≡ 0)) ⊎ (((x.handles == 0) ≡ false) × (x.handles ≢ 0)) →
          state number capacity limits (used x.id x.handles) keys t next ≡ after_give_back m mid x.id more
      go (inl e) =
          let one : (x.handles + 1 == 1) ≡ true = grind (arith, nat_tests) in
          ap (λ (b : Bool). state number capacity limits
          (cond b (m.policy.release (m.policy.acquire view x.id) x.id) (m.policy.acquire view x.id)) keys t next)
          e.0
          ∙ same_back (m.policy.release (m.policy.acquire view x.id) x.id) 0 (sym e.1)
          ∙ sym (ap₂
          (λ (a b : Bool). cond a
          (cond b (with_back (m.policy.release mid.view x.id) 0)
          (record mid { records = update nat_eq mid.records x.id None }))
          (with_back mid.view (x.handles + 1 - 1))) one res)
      go (inr e) =
          let one : (x.handles + 1 == 1) ≡ false = grind (arith, nat_tests) in
          ap (λ (b : Bool). state number capacity limits
          (cond b (m.policy.release (m.policy.acquire view x.id) x.id) (m.policy.acquire view x.id)) keys t next)
          e.0
          ∙ same_back (m.policy.acquire view x.id) (x.handles + 1 - 1) (omega arith)
          ∙ sym (ap (λ (a : Bool). cond a (after_last m mid x.id more) (with_back mid.view (x.handles + 1 - 1))) one)

    gives : GivesBack m mid x.id None (state number capacity limits view' keys t next)
    gives = record {
      rec = more;
      there = update_here (record_in t) x.id (Some more);
      held = omega arith;
      leaves = no_leave;
      after = after;
    }

    pub touched : Touches m moment (now_of o) k (Ok true) (state number capacity limits view' keys t next)
    touched = (entry, mid, gets, gives)

    pub touched_kept : ∥ IsKept m (state number capacity limits view' keys t next) ∥₁
    touched_kept = ∥∥₁_map sound
        (λ k'. gives_back_keeps m laws good mid (gets_keeps m laws good (now_of o) k' moment k (Ok (Some entry)) mid gets)
        x.id None (state number capacity limits view' keys t next) gives)

    pub touched_stored : (at' : ℕ → Option Item) → ((p : ℕ) → at' p ≡ at p) → IsStored m at' keys t
    touched_stored at' places = record { led = stored.led; placed = λ n. places n ∙ stored.placed n }

    -- the policy holds what it held
    same_by : IsKept m (now_of o) → (weight_of (m.policy.order view') ≡ weight_of (m.policy.order view))
        × (length (m.policy.order view') ≡ length (m.policy.order view))
    same_by k' = subst
        (λ (v : View). (weight_of (m.policy.order v) ≡ weight_of (m.policy.order view))
        × (length (m.policy.order v) ≡ length (m.policy.order view))) (sym viewed) (go (x.handles == 0)) where
          acquired : View
          acquired = m.policy.acquire view x.id

          once : HasIdsOnce (m.policy.order acquired)
          once = once-permuted (m.policy.order view) (m.policy.order acquired) (good.acquire_order view x.id k'.once)
              k'.once

          weights : weight_of (m.policy.order acquired) ≡ weight_of (m.policy.order view)
          weights = sum_by-IsPermutation (λ (i : Item). i.weight) (m.policy.order view) (m.policy.order acquired)
              (good.acquire_order view x.id k'.once)

          lengths : length (m.policy.order acquired) ≡ length (m.policy.order view)
          lengths = length_permutation (m.policy.order view) (m.policy.order acquired)
              (good.acquire_order view x.id k'.once)

          go : (b : Bool) →
              (weight_of (m.policy.order (if b then m.policy.release acquired x.id else acquired))
              ≡ weight_of (m.policy.order view)) ×
              (length (m.policy.order (if b then m.policy.release acquired x.id else acquired))
              ≡ length (m.policy.order view))
          go false = (weights, lengths)
          go true = (
            sum_by-IsPermutation (λ (i : Item). i.weight) (m.policy.order acquired)
                (m.policy.order (m.policy.release acquired x.id)) (good.release_order acquired x.id once) ∙ weights,
            length_permutation (m.policy.order acquired) (m.policy.order (m.policy.release acquired x.id))
                (good.release_order acquired x.id once) ∙ lengths,
          )

    pub touched_weight : (usage : ℕ) → usage ≡ weight_of (m.policy.order view) → usage
        ≡ weight_of (m.policy.order view')
    touched_weight usage h = h ∙ sym (∥∥₁_elim sound (hlevel props) (λ k'. (same_by k').0))

    pub touched_entries : (entries : ℕ) → entries ≡ length (m.policy.order view) → entries
        ≡ length (m.policy.order view')
    touched_entries entries h = h ∙ sym (∥∥₁_elim sound (hlevel props) (λ k'. (same_by k').1))
