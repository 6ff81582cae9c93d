-- Steps of a shard that give their handles back leave it with none.
use Rattle.std.proofs.Common.{◌≡◌, ◌≢◌, ℕ, ◌+◌, ◌-◌, ◌==◌, ◌⊎◌, List, [], ◌∷◌, Option, Some, None, Ok, Err, Bool, true, false, cond, nat_eq, refl, sym, ◌∙◌, ap, subst, inl, inr, arith}
use Rattle.std.specs.Prelude.{All, Result, slice_index_or}
use Rattle.std.proofs.lemmas.Option.{slice_get-get_or}
use Rattle.std.specs.Map.{update}
use Rattle.std.proofs.lemmas.Bool.Decides.{eqb_tells, nat_tests}
use Rattle.std.proofs.lemmas.Map.{update_here, update_apart}
use Rattle.foyer_policy.specs.declared.error.Reason.{Reason}
use Rattle.foyer_policy.specs.declared.error.Reason.TheVariants.{Handles, Ids, NoMemory, Weight}
use Rattle.foyer_policy.specs.declared.types.Event.{Event}
use Rattle.foyer_policy.specs.declared.types.Event.TheVariants.{Remove, Replace}
use Rattle.foyer_policy.specs.declared.types.Source.{Source}
use Rattle.foyer_core.specs.Core.{AreNewShards}
use Rattle.foyer_core.specs.declared.config.RawCacheConfig.{RawCacheConfig}
use Rattle.foyer_core.specs.NoEntry.{Deletes, Puts}
use Rattle.foyer_core.specs.State.{Meaning, State, at_moment, handles_in, handles_of, is_phantom_record, key_of}
use Rattle.foyer_core.specs.Steps.{GivesBack, GivesWay, Inserts, InsertsBy, Leave, RefusesBy, RefusesInsert, Touches, after_last, after_out, outside}
use Rattle.foyer_core.specs.Values.{Gone, Held, Incoming, Rec}
use Rattle.foyer_replay.specs.Idle.{HasNoHandle}

same_rec : {K V P : Type 0} (a b : Rec K V P) → Some a ≡ Some b → a ≡ b
same_rec a b h = cc

-- a record that leaves the index keeps its handles
outside_none : {K V P : Type 0} (r : Rec K V P) → r.handles ≡ 0 → handles_of (outside r) ≡ 0
outside_none r none =
    let e : (r.handles == 0) ≡ true = grind (arith, nat_tests) in
    ap (λ (b : Bool). handles_of (cond b None (Some (record r { resident = false })))) e

outside_one : {K V P : Type 0} (r : Rec K V P) → r.handles ≡ 1 → handles_of (outside r) ≡ 1
outside_one r one =
    let e : (r.handles == 0) ≡ false = grind (arith, nat_tests) in
    ap (λ (b : Bool). handles_of (cond b None (Some (record r { resident = false })))) e ∙ one

module _ {K V P View : Type 0} where
  -- no record has a handle but that of an id
  abbrev Only : ℕ → State K V P View → Type 0
  Only id s = (j : ℕ) → j ≢ id → handles_in s j ≡ 0

  -- one record is written
  only_at : (s t : State K V P View) (id : ℕ) (o : Option (Rec K V P)) →
      ((j : ℕ) → t.records j ≡ update nat_eq s.records id o j) → Only id s → Only id t
  only_at s t id o is only j apart =
      ap handles_of (is j ∙ update_apart s.records id o j apart) ∙ only j apart

  none_at : (s t : State K V P View) (id : ℕ) (o : Option (Rec K V P)) →
      ((j : ℕ) → t.records j ≡ update nat_eq s.records id o j) → handles_of o ≡ 0 → Only id s → HasNoHandle t
  none_at s t id o is none only j = elim (eqb_tells j id) [
    | inl e ↦ subst (λ (x : ℕ). handles_in t x ≡ 0) (sym e.1)
        (ap handles_of (is id ∙ update_here s.records id o) ∙ none)
    | inr e ↦ only_at s t id o is only j e.1
  ]

  only_none : (id : ℕ) (s : State K V P View) → HasNoHandle s → Only id s
  only_none id s none j apart = none j

  -- a record that is there has no handle
  none_of : (s : State K V P View) (id : ℕ) (r : Rec K V P) → s.records id ≡ Some r → HasNoHandle s → r.handles ≡ 0
  none_of s id r there none = ap handles_of (sym there) ∙ none id

  same_none : (s t : State K V P View) → t ≡ s → HasNoHandle s → HasNoHandle t
  same_none s t is none = subst HasNoHandle (sym is) none

module _ {K V P View C : Type 0} (m : Meaning K P View C) where
  leave_none : (event : Event) (ids : List ℕ) (s : State K V P View) (ls : List (Event × Gone K V P)) (v : View)
      (t : State K V P View) → Leave m event ids s ls v t → HasNoHandle s → HasNoHandle t
  leave_none event [] s [] v t h none = same_none (record s { view = v }) t h none
  leave_none event [] s (l ∷ ls) v t h none = absurd h
  leave_none event (id ∷ ids) s [] v t h none = absurd h
  leave_none event (id ∷ ids) s (l ∷ ls) v t h none =
      leave_none event ids (after_out m s id h.0) ls v t h.3
      (none_at s (after_out m s id h.0) id (outside h.0) (λ j. refl) (outside_none h.0 (none_of s id h.0 h.1 none)) (only_none id s none))

  gives_way_none : (o : Option ℕ) (s : State K V P View) (ls : List (Event × Gone K V P)) (t : State K V P View) →
      GivesWay m o s ls t → HasNoHandle s → HasNoHandle t
  gives_way_none None s ls t h none = same_none s t h.1 none
  gives_way_none (Some id) s ls t h none = leave_none Replace (id ∷ []) s ls (m.policy.remove s.view id) t h none

  -- the one handle is given back
  gives_back_none : (s : State K V P View) (id : ℕ) (leave : Option (Event × Gone K V P)) (t : State K V P View) →
      GivesBack m s id leave t → Only id s → handles_in s id ≡ 1 → HasNoHandle t
  gives_back_none s id leave t h only one =
      let had : h.rec.handles ≡ 1 = ap handles_of (sym h.there) ∙ one in
      let last : (h.rec.handles == 1) ≡ true = grind (arith, nat_tests) in
      same_none (after_last m s id h.rec) t
      (h.after ∙ ap (λ (b : Bool). cond b (after_last m s id h.rec)
      (record s { records = update nat_eq s.records id (Some (record h.rec { handles = h.rec.handles - 1 })) })) last)
      (go h.rec.resident) where
        released : State K V P View
        released = record s {
          view = m.policy.release s.view id;
          records = update nat_eq s.records id (Some (record h.rec { handles = 0 }));
        }

        forgotten : State K V P View
        forgotten = record s { records = update nat_eq s.records id None }

        go : (b : Bool) → HasNoHandle (cond b released forgotten)
        go true = none_at s released id (Some (record h.rec { handles = 0 })) (λ j. refl) refl only
        go false = none_at s forgotten id None (λ j. refl) refl only

  pub touches_none : (now : ℕ) (s : State K V P View) (k : ℕ × K) (answer : Result Bool Reason) (t : State K V P View) →
      Touches m now s k answer t → HasNoHandle s → HasNoHandle t
  touches_none now s k (Ok false) t h none = same_none s t h.1 none
  touches_none now s k (Ok true) t (entry, mid, gets, back) none =
      let r = gets.0 in
      let more : Option (Rec K V P) = Some (record r { handles = r.handles + 1 }) in
      let is : (j : ℕ) → mid.records j ≡ update nat_eq s.records entry.id more j =
      λ j. ap (λ (x : State K V P View). x.records j) gets.5 in
      let one : handles_in mid entry.id ≡ 1 = ap handles_of (is entry.id ∙ update_here s.records entry.id more)
      ∙ ap (λ (n : ℕ). n + 1) (none_of s entry.id r gets.2 none) in
      gives_back_none mid entry.id None t back
      (only_at s mid entry.id more is (only_none entry.id s none)) one
  touches_none now s k (Err Handles) t h none = same_none s t h.5 none
  touches_none now s k (Err _) t h none = absurd h

  -- a record that came in with one handle
  inserted_one : (source : Source) (s : State K V P View) (i : Incoming K V P) (ls : List (Event × Gone K V P))
      (entry : Held K V P) (t : State K V P View) → Inserts m source s i ls entry t → i.handles ≡ 1 → HasNoHandle s →
      (entry.id ≡ i.id) × Only i.id t × (handles_in t i.id ≡ 1)
  inserted_one source s i ls entry t h one none = go (is_phantom_record m i.kept) h where
    at : (mid : State K V P View) (resident : Bool) →
        ((j : ℕ) → t.records j ≡ update nat_eq mid.records i.id
        (Some record { kept = i.kept; handles = i.handles; resident = resident }) j) → HasNoHandle mid →
        Only i.id t × (handles_in t i.id ≡ 1)
    at mid resident is free =
        let o : Option (Rec K V P) = Some record { kept = i.kept; handles = i.handles; resident = resident } in (
          only_at mid t i.id o is (only_none i.id mid free),
          ap handles_of (is i.id ∙ update_here mid.records i.id o) ∙ one,
        )

    with_id : entry.id ≡ i.id → Only i.id t × (handles_in t i.id ≡ 1) →
        (entry.id ≡ i.id) × Only i.id t × (handles_in t i.id ≡ 1)
    with_id e x = (e, x.0, x.1)

    go : (b : Bool) → InsertsBy m b source s i ls entry t →
        (entry.id ≡ i.id) × Only i.id t × (handles_in t i.id ≡ 1)
    go true h = with_id (ap (λ (e : Held K V P). e.id) h.entry_is)
        (at h.last false (λ j. ap (λ (x : State K V P View). x.records j) h.after)
        (gives_way_none (s.index (key_of i.kept)) s h.replaced h.last h.gives_way none))
    go false h = with_id (ap (λ (e : Held K V P). e.id) h.entry_is)
        (at h.last true (λ j. ap (λ (x : State K V P View). x.records j) h.after)
        (gives_way_none (h.mid.index (key_of i.kept)) h.mid h.replaced h.last h.gives_way
        (leave_none _ _ s h.evictions _ h.mid h.evicts none)))

  refused_none : (s : State K V P View) (i : Incoming K V P) (reason : Reason) (ls : List (Event × Gone K V P))
      (t : State K V P View) → RefusesInsert m s i reason ls t → HasNoHandle s → HasNoHandle t
  refused_none s i reason ls t h none = go (is_phantom_record m i.kept) reason h where
    go : (b : Bool) (reason : Reason) → RefusesBy m b s i reason ls t → HasNoHandle t
    go true Ids h = same_none s t h.2 none
    go true Handles h = same_none s t h.3 none
    go true NoMemory h = same_none s t h.2 none
    go true _ h = absurd h
    go false Ids h = same_none s t h.2 none
    go false Handles h = same_none s t h.3 none
    go false Weight h = same_none s t h.4 none
    go false NoMemory h = leave_none _ _ s ls _ t h.1.leave none
    go false _ h = absurd h

  pub deletes_none : (s : State K V P View) (k : ℕ × K) (answer : Result (Option (Gone K V P)) Reason)
      (t : State K V P View) → Deletes m s k answer t → HasNoHandle s → HasNoHandle t
  deletes_none s k (Ok None) t h none = same_none s t h.1 none
  deletes_none s k (Ok (Some gone)) t (entry, mid, removes, back) none =
      let id = entry.id in
      let r = removes.0 in
      let more : Rec K V P = record r { handles = r.handles + 1 } in
      let q = removes.5.0 in
      let q_is : q ≡ more = same_rec q more (sym removes.5.1 ∙ update_here s.records id (Some more)) in
      let one : q.handles ≡ 1 = ap (λ (x : Rec K V P). x.handles) q_is
      ∙ ap (λ (n : ℕ). n + 1) (none_of s id r removes.2 none) in
      let is : (j : ℕ) → mid.records j ≡ update nat_eq (update nat_eq s.records id (Some more)) id (outside q) j =
      λ j. ap (λ (x : State K V P View). x.records j) removes.5.3 in
      let held : State K V P View = record s { records = update nat_eq s.records id (Some more) } in
      gives_back_none mid id None t back
      (only_at held mid id (outside q) is
      (only_at s held id (Some more) (λ j. refl) (only_none id s none)))
      (ap handles_of (is id ∙ update_here held.records id (outside q)) ∙ outside_one q one)
  deletes_none s k (Err Handles) t h none = same_none s t h.2.3 none
  deletes_none s k (Err _) t h none = absurd h

module _ {K V P View C : Type 0} (m : Meaning K P View C) where
  pub puts_none : (now : ℕ) (s : State K V P View) (i : Incoming K V P) (ls : List (Event × Gone K V P))
      (last : Option (Event × Gone K V P)) (t : State K V P View) → i.handles ≡ 1 → Puts m now s i ls last t →
      HasNoHandle s → HasNoHandle t
  puts_none now s i ls last t one h none =
      let in_one = inserted_one (at_moment now m) _ s i ls h.entry h.mid h.inserts one none in
      gives_back_none m h.mid h.entry.id last t h.gives_back
      (subst (λ (x : ℕ). Only x h.mid) (sym in_one.0) in_one.1)
      (ap (λ (x : ℕ). handles_in h.mid x) in_one.0 ∙ in_one.2)

  pub refused_put_none : (now : ℕ) (s : State K V P View) (i : Incoming K V P) (reason : Reason)
      (ls : List (Event × Gone K V P)) (t : State K V P View) → RefusesInsert (at_moment now m) s i reason ls t →
      HasNoHandle s → HasNoHandle t
  refused_put_none now s i reason ls t h none = refused_none (at_moment now m) s i reason ls t h none

  -- a new shard has no record
  pub new_none : {S W A : Type 0} (config : RawCacheConfig C S W A) (many : ℕ) (shards : List (State K V P View)) →
      AreNewShards m config many shards → All HasNoHandle shards
  new_none config many shards new place d within id =
      ap handles_of ((new.each place (slice_index_or shards place d) (slice_get-get_or shards place d within)).no_records id)
