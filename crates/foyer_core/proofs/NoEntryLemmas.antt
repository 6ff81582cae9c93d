-- Steps that return no entry: a put's record has its handle, and a delete is a remove and its entry's way back.
use Rattle.std.proofs.Common.{◌≡◌, ◌≢◌, ℕ, ◌+◌, ◌-◌, ◌<◌, ◌==◌, ◌&&◌, ◌⊎◌, Option, Some, None, Ok, Err, Bool, true, false, cond, nat_eq, refl, sym, ◌∙◌, ap, subst, inl, inr, arith}
use Rattle.std.proofs.Math.Logic.{∥∥₁_elim}
use Rattle.std.proofs.Props.{props}
use Rattle.std.specs.Prelude.{Result, List, not}
use Rattle.std.specs.Map.{update}
use Rattle.std.proofs.lemmas.Bool.Decides.{eqb_tells, nat_tests}
use Rattle.std.proofs.lemmas.Map.{update_here, update_apart}
use Rattle.foyer_policy.specs.declared.error.Reason.{Reason}
use Rattle.foyer_policy.specs.declared.error.Reason.TheVariants.{Handles}
use Rattle.foyer_policy.specs.declared.types.Event.{Event}
use Rattle.foyer_policy.specs.declared.types.Event.TheVariants.{Evict, Remove}
use Rattle.foyer_policy.specs.declared.types.Source.{Source}
use Rattle.foyer_policy.specs.declared.types.Source.TheVariants.{Memory}
use Rattle.foyer_core.specs.Bulk.{TakesRecordOut}
use Rattle.foyer_core.specs.Fetching.{Apart}
use Rattle.foyer_core.specs.Inflight.{Opens}
use Rattle.foyer_core.specs.NoEntry.{Deletes}
use Rattle.foyer_core.specs.Settled.{Settles, entry_in}
use Rattle.foyer_core.specs.State.{IsKept, Meaning, State, handles_in, handles_of, is_phantom_record}
use Rattle.foyer_core.specs.Steps.{GivesBack, InsertsBy, Removes, after_give_back, after_handle, after_last, after_out, entry_of, gone_of, last_leave, outside}
use Rattle.foyer_core.specs.Values.{Gone, Incoming, Rec}
use Rattle.foyer_core.proofs.ApartLemmas.{removes_apart, within_apart, within_same}
use Rattle.foyer_core.proofs.Origins.{gives_back_from, nothing_new}
use Rattle.foyer_core.proofs.ShardTold.{back_index}
use Rattle.foyer_core.proofs.States.{same_state}

-- the last of three writes of one place
last_write : {A : Type 0} (f : ℕ → Option A) (id : ℕ) (a b c : Option A) (j : ℕ) → update nat_eq f id c j
    ≡ update nat_eq (update nat_eq (update nat_eq f id a) id b) id c j
last_write f id a b c j = elim (eqb_tells j id) [
  | inl e ↦ subst (λ (x : ℕ). update nat_eq f id c x ≡ update nat_eq (update nat_eq (update nat_eq f id a) id b) id c x)
      (sym e.1) (update_here f id c ∙ sym (update_here (update nat_eq (update nat_eq f id a) id b) id c))
  | inr e ↦ update_apart f id c j e.1 ∙ sym (update_apart (update nat_eq (update nat_eq f id a) id b) id c j e.1
      ∙ update_apart (update nat_eq f id a) id b j e.1 ∙ update_apart f id a j e.1)
]

some_same : {A : Type 0} (a b : A) → Some a ≡ Some b → a ≡ b
some_same a b h = cc

module _ {K V P View C : Type 0} (m : Meaning K P View C) where
  -- what came in has its handles
  pub settled_handles : (source : Source) (old : State K V P View) (i : Incoming K V P) (ls : List (Event × Gone K V P))
      (new : State K V P View) → Settles m source old i ls new → handles_in new i.id ≡ i.handles
  settled_handles source old i ls new = go (is_phantom_record m i.kept) where
    go : (b : Bool) → InsertsBy m b source old i ls (entry_in old i source) new → handles_in new i.id ≡ i.handles
    go true h = ap (λ (s : State K V P View). handles_in s i.id) h.after
        ∙ ap handles_of (update_here h.last.records i.id
        (Some record { kept = i.kept; handles = i.handles; resident = false }))
    go false h = ap (λ (s : State K V P View). handles_in s i.id) h.after
        ∙ ap handles_of (update_here h.last.records i.id
        (Some record { kept = i.kept; handles = i.handles; resident = true }))

  -- a record of the index that is taken out, as a remove and its entry's way back
  module _ (old : State K V P View) (k : ℕ × K) (id : ℕ) (gone : Gone K V P) (new : State K V P View)
      (taken : TakesRecordOut m old id gone new) (led : old.index k ≡ Some id)
      (room : taken.rec.handles < old.limits.handles) (plain : is_phantom_record m taken.rec.kept ≡ false) where
    abbrev r : Rec K V P
    r = taken.rec

    -- the record with its entry, and then outside
    abbrev more : Rec K V P
    more = record r { handles = r.handles + 1 }

    abbrev held : Rec K V P
    held = record more { resident = false }

    abbrev mid : State K V P View
    mid = record (after_out m (after_handle old id r) id more) { view = m.policy.remove old.view id }

    abbrev with_rest : Option (Rec K V P) → State K V P View
    with_rest o = record mid { records = update nat_eq mid.records id o }

    more_out : outside more ≡ Some held
    more_out =
        let e : (r.handles + 1 == 0) ≡ false = grind (arith, nat_tests) in
        ap (λ (b : Bool). cond b None (Some held)) e

    removes : Removes m old k (Ok (Some (entry_of old id r.kept Memory, gone))) mid
    removes = (
      r,
      led,
      taken.there,
      room,
      refl,
      (more, update_here old.records id (Some more), ap (λ (x : Gone K V P). (Remove, x)) taken.gone_is, refl),
    )

    no_leave : None ≡ last_leave m old.number id held
    no_leave = go (r.handles + 1 == 1) (is_phantom_record m r.kept) plain where
      go : (b c : Bool) → c ≡ false → ◌≡◌ {A = Option (Event × Gone K V P)} None
          (cond (b && (not false && c)) (Some (Evict, gone_of old.number id held)) None)
      go true false e = refl
      go false false e = refl
      go b true e = absurd cc

    same_rest : (o : Option (Rec K V P)) → outside r ≡ o → new ≡ with_rest o
    same_rest o e = taken.after ∙ same_state
        (record (after_out m old id r) { view = m.policy.remove old.view id }) (with_rest o) refl refl refl refl
        (λ q. refl)
        (λ j. ap (λ (x : Option (Rec K V P)). update nat_eq old.records id x j) e
        ∙ last_write old.records id (Some more) (outside more) o j) refl

    after : new ≡ after_give_back m mid id held
    after = go (eqb_tells r.handles 0) where
      go : (((r.handles == 0) ≡ true) × (r.handles ≡ 0)) ⊎ (((r.handles == 0) ≡ false) × (r.handles ≢ 0)) →
          new ≡ after_give_back m mid id held
      go (inl e) =
          let one : (r.handles + 1 == 1) ≡ true = grind (arith, nat_tests) in
          same_rest None (ap (λ (b : Bool). cond b None (Some (record r { resident = false }))) e.0)
          ∙ sym (ap (λ (b : Bool). cond b (after_last m mid id held)
          (with_rest (Some (record held { handles = r.handles + 1 - 1 })))) one)
      go (inr e) =
          let one : (r.handles + 1 == 1) ≡ false = grind (arith, nat_tests) in
          let less : r.handles ≡ r.handles + 1 - 1 = omega arith in
          same_rest (Some (record held { handles = r.handles + 1 - 1 }))
          (ap (λ (b : Bool). cond b None (Some (record r { resident = false }))) e.0
          ∙ ap (λ (h : ℕ). Some (record r { handles = h; resident = false })) less)
          ∙ sym (ap (λ (b : Bool). cond b (after_last m mid id held)
          (with_rest (Some (record held { handles = r.handles + 1 - 1 })))) one)

    gives : GivesBack m mid id None new
    gives = record {
      rec = held;
      there = update_here (after_handle old id r).records id (outside more) ∙ more_out;
      held = omega arith;
      leaves = no_leave;
      after = after;
    }

    pub taken_deletes : Deletes m old k (Ok (Some gone)) new
    taken_deletes = (entry_of old id r.kept Memory, mid, removes, gives)

  -- so it is of the record that a key leads to
  pub out_deletes : (old : State K V P View) → ∥ IsKept m old ∥₁ → (k : ℕ × K) (id : ℕ) (r : Rec K V P) →
      old.index k ≡ Some id → old.records id ≡ Some r → r.handles < old.limits.handles → r.resident ≡ true →
      (gone : Gone K V P) (new : State K V P View) → TakesRecordOut m old id gone new →
      Deletes m old k (Ok (Some gone)) new
  out_deletes old sound k id r led there room res gone new taken =
      let same : r ≡ taken.rec = some_same r taken.rec (sym there ∙ taken.there) in
      taken_deletes old k id gone new taken led
      (subst (λ (x : Rec K V P). x.handles < old.limits.handles) same room)
      (∥∥₁_elim sound (hlevel props) (λ kept. kept.plain id taken.rec taken.there
      (ap (λ (x : Rec K V P). x.resident) (sym same) ∙ res)))

  -- a key with an open fetch stays out of the index
  module _ {N R : Type 0} (f : Opens K N R) where
    pub gave_apart : (s : State K V P View) (id : ℕ) (leave : Option (Event × Gone K V P)) (t : State K V P View) →
        GivesBack m s id leave t → Apart m.expires s f → Apart m.expires t f
    gave_apart s id leave t h = within_apart m.expires f s t
        (within_same s t (back_index m s id leave t h) (gives_back_from nothing_new m s id leave t h))

    pub deletes_apart : (s : State K V P View) (k : ℕ × K) (answer : Result (Option (Gone K V P)) Reason)
        (t : State K V P View) → Deletes m s k answer t → Apart m.expires s f → Apart m.expires t f
    deletes_apart s k (Ok None) t h apart = removes_apart m f s k (Ok None) t h apart
    deletes_apart s k (Ok (Some gone)) t h apart =
        gave_apart h.1 h.0.id None t h.3 (removes_apart m f s k (Ok (Some (h.0, gone))) h.1 h.2 apart)
    deletes_apart s k (Err Handles) t h apart = removes_apart m f s k (Err Handles) t h apart
    deletes_apart s k (Err _) t h apart = absurd h
