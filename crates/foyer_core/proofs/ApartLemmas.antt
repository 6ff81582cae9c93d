-- A key that is in the index and has an open fetch was expired when that was opened.
use Rattle.std.proofs.Common.{◌≡◌, ◌≢◌, ℕ, ◌-◌, List, [], ◌∷◌, Option, Some, None, Ok, Err, Bool, true, false, cond, nat_eq, refl, sym, ◌∙◌, ap, subst, inl, inr, arith}
use Rattle.std.proofs.Math.Logic.{∥∥₁_elim}
use Rattle.std.proofs.Props.{props}
use Rattle.std.specs.Prelude.{Result, IfNone, IfOk, IfSome, OnErr, OnOk, OnSome, is_some, option_and_then}
use Rattle.std.specs.Map.{update}
use Rattle.std.proofs.lemmas.Map.{update_apart}
use Rattle.foyer_policy.specs.Moments.{is_expired}
use Rattle.foyer_policy.specs.Items.{IsNewIn}
use Rattle.foyer_policy.specs.Policy.{evicted}
use Rattle.foyer_policy.specs.declared.error.Reason.{Reason}
use Rattle.foyer_policy.specs.declared.error.Reason.TheVariants.{Ids, Handles, Weight, NoMemory}
use Rattle.foyer_policy.specs.declared.types.Event.{Event}
use Rattle.foyer_policy.specs.declared.types.Event.TheVariants.{Evict, Remove}
use Rattle.foyer_policy.specs.declared.types.Source.{Source}
use Rattle.foyer_core.specs.declared.outcome.Waiting.{Waiting}
use Rattle.foyer_core.specs.Bulk.{GoesOn, TakesRecordOut}
use Rattle.foyer_core.specs.Fetching.{Apart}
use Rattle.foyer_core.specs.Indexer.{same_key}
use Rattle.foyer_core.specs.Inflight.{Opens, OpenFetch, after_enqueue, after_nothing, closed, joined, without_later}
use Rattle.foyer_core.specs.Pieces.{RefusesReturn, RefusesReturnBy, Returns, ReturnsBy, is_in, returning}
use Rattle.foyer_core.specs.State.{Meaning, State, IsKept, hit, is_expired_in, is_phantom_record, key_of}
use Rattle.foyer_core.specs.Steps.{GivesWay, Inserts, InsertsBy, InsertsPhantom, InsertsPlain, Leave, RefusesBy, RefusesHandles, RefusesInsert, Removes, after_handle, ids_of, newcomer}
use Rattle.foyer_core.specs.Values.{Carried, Gone, Held, Incoming, Rec}
use Rattle.foyer_core.specs.declared.record.Data.{Data}
use Rattle.foyer_core.proofs.Hits.{missed_expired}
use Rattle.foyer_core.proofs.LeaveLemmas.{Rests, leave-rests, rests-rests}
use Rattle.foyer_core.proofs.Origins.{RecordsFrom, handles_from, nothing_new, removes_from}
use Rattle.foyer_core.proofs.Pushing.{out_new}
use Rattle.foyer_core.proofs.Returning.{inserted_entry, returned_key}
use Rattle.foyer_core.proofs.ShardTold.{SameIndex, refused_index}

module _ {K V P View : Type 0} where
  -- what is in the index was in it, with the data that it has
  abbrev pub Within : State K V P View → State K V P View → Type 0
  Within new old = (q : ℕ × K) (id : ℕ) (r : Rec K V P) → new.index q ≡ Some id → new.records id ≡ Some r
      → (o : Rec K V P) × (old.index q ≡ Some id) × (old.records id ≡ Some o) × (r.kept ≡ o.kept)

  pub within_equal : (old new : State K V P View) → new ≡ old → Within new old
  within_equal old new e q id r is there = (
    r,
    sym (ap (λ (s : State K V P View). s.index q) e) ∙ is,
    sym (ap (λ (s : State K V P View). s.records id) e) ∙ there,
    refl,
  )

  -- where the index stays and no record comes in
  pub within_same : (old new : State K V P View) → SameIndex old new → RecordsFrom nothing_new old new → Within new old
  within_same old new same from q id r is there = elim (from id r there) [
    | inl o ↦ (o.0, sym (same q) ∙ is, o.1, o.2)
    | inr n ↦ absurd n
  ]

  pub within_apart : {N R : Type 0} (expires : P → Option ℕ) (f : Opens K N R) (old new : State K V P View) →
      Within new old → Apart expires old f → Apart expires new f
  within_apart expires f old new within apart q id r o is there is_open =
      let w = within q id r is there in
      ap (λ (d : Data K V P). is_expired o.opened (expires d.properties)) w.3 ∙ apart q id w.0 o w.1 w.2 is_open

later_opened : {N R : Type 0} (w o : OpenFetch N R) → without_later w ≡ Some o → o.opened ≡ w.opened
later_opened {N} {R} w o h = go (is_some w.later) h where
  go : (b : Bool) → ◌≡◌ {A = Option (OpenFetch N R)} (cond b (Some (record w { later = None })) None) (Some o) →
      o.opened ≡ w.opened
  go true h =
      (let same : ◌≡◌ {A = OpenFetch N R} (record w { later = None }) o = cc in
      sym (ap (λ (x : OpenFetch N R). x.opened) same))
  go false h = absurd cc

module _ {K V P View N R : Type 0} (expires : P → Option ℕ) (s : State K V P View) (f : Opens K N R) where
  -- a fetch is closed
  pub closed_apart : (eq : K → K → Bool) (k : ℕ × K) → Apart expires s f → Apart expires s (closed eq f k)
  closed_apart eq k apart q id r o is there is_open = go (same_key eq k q) is_open where
    go : (b : Bool) → cond b None (f.by_key q) ≡ Some o → is_expired o.opened (expires r.kept.properties) ≡ true
    go true is_open = absurd cc
    go false is_open = apart q id r o is there is_open

  -- a fetch of a key found nothing
  pub nothing_apart : (eq : K → K → Bool) (k : ℕ × K) →
      ((q : ℕ × K) → same_key eq k q ≡ true → f.by_key k ≡ f.by_key q) → Apart expires s f →
      Apart expires s (after_nothing eq f k)
  nothing_apart eq k alike apart q id r o is there is_open = go (same_key eq k q) refl is_open where
    still : (w : Option (OpenFetch N R)) → f.by_key q ≡ w → option_and_then without_later w ≡ Some o →
        is_expired o.opened (expires r.kept.properties) ≡ true
    still None e is_open = absurd cc
    still (Some w) e is_open = ap (λ (n : ℕ). is_expired n (expires r.kept.properties)) (later_opened w o is_open)
        ∙ apart q id r w is there e

    go : (b : Bool) → same_key eq k q ≡ b →
        cond b (option_and_then without_later (f.by_key k)) (f.by_key q) ≡ Some o →
        is_expired o.opened (expires r.kept.properties) ≡ true
    go true same is_open = still (f.by_key q) refl
        (sym (ap (λ (w : Option (OpenFetch N R)). option_and_then without_later w) (alike q same)) ∙ is_open)
    go false same is_open = apart q id r o is there is_open

  -- open fetches that some step, where it answers, makes of others
  pub step_apart : {T : Type 0} (g to : Opens K N R) (r : Option T) → OnSome r (g ≡ to) → IfNone r (g ≡ f) →
      Apart expires s f → Apart expires s to → Apart expires s g
  step_apart g to (Some t) some none apart after = subst (Apart expires s) (sym some) after
  step_apart g to None some none apart after = subst (Apart expires s) (sym none) apart

  pub asked_apart : {T E : Type 0} (g to : Opens K N R) (r : Result T E) → OnOk r (g ≡ to) → OnErr r (g ≡ f) →
      Apart expires s f → Apart expires s to → Apart expires s g
  asked_apart g to (Ok t) done refused apart after = subst (Apart expires s) (sym done) after
  asked_apart g to (Err e) done refused apart after = subst (Apart expires s) (sym refused) apart

module _ {K V P View C : Type 0} (m : Meaning K P View C) where
  rests_within : (old new : State K V P View) → Rests m old new → Within new old
  rests_within old new rests q id r is there =
      (let o = rests.records id r there in (o.0, rests.index q id is, o.1, o.2))

  leave_within : (e : Event) (ids : List ℕ) (old : State K V P View) (ls : List (Event × Gone K V P)) (v : View)
      (new : State K V P View) → Leave m e ids old ls v new → Within new old
  leave_within e ids old ls v new h = rests_within old new (leave-rests m e ids old ls v new h)

  way-rests : (o : Option ℕ) (old : State K V P View) (ls : List (Event × Gone K V P)) (new : State K V P View) →
      GivesWay m o old ls new → Rests m old new
  way-rests None old ls new h = subst (Rests m old) (sym h.1) record {
    number = refl;
    capacity = refl;
    limits = refl;
    next = refl;
    index = λ k id e. e;
    records = λ id q e. (q, e, refl);
  }
  way-rests (Some id) old ls new h = leave-rests m _ (id ∷ []) old ls (m.policy.remove old.view id) new h

  -- one more asks for a key that is missing at a moment
  pub enqueued_apart : {N R : Type 0} (now : ℕ) (s : State K V P View) (f : Opens K N R) (k : ℕ × K) (w : N)
      (later : Option R) → ((q : ℕ × K) → same_key m.same k q ≡ true → s.index k ≡ s.index q) →
      hit m now s k ≡ None → Apart m.expires s f → Apart m.expires s (after_enqueue m.same now f k w later)
  enqueued_apart {N} {R} now s f k w later respects missed apart q id r o is there is_open =
      go (same_key m.same k q) refl is_open where
        asks : Waiting N
        asks = record { token = f.next_token; waiter = w }

        go : (b : Bool) → same_key m.same k q ≡ b →
            cond b (Some (joined (f.by_key k) now f.next_fetch asks later)) (f.by_key q) ≡ Some o →
            is_expired o.opened (m.expires r.kept.properties) ≡ true
        go true same is_open =
            by (f.by_key k) refl (let e : joined (f.by_key k) now f.next_fetch asks later ≡ o = cc in e) where
              under : s.index k ≡ Some id
              under = respects q same ∙ is

              by : (p : Option (OpenFetch N R)) → f.by_key k ≡ p → joined p now f.next_fetch asks later ≡ o →
                  is_expired o.opened (m.expires r.kept.properties) ≡ true
              by None none made = ap (λ (x : OpenFetch N R). is_expired x.opened (m.expires r.kept.properties)) (sym made)
                  ∙ sym (ap (is_expired_in m.expires now) there) ∙ missed_expired m now s k missed id under
              by (Some p) some made = ap (λ (x : OpenFetch N R). is_expired x.opened (m.expires r.kept.properties))
                  (sym made) ∙ apart k id r p under there some
        go false same is_open = apart q id r o is there is_open

  module _ {N R : Type 0} (f : Opens K N R) where
    pub leave_apart : (e : Event) (ids : List ℕ) (old : State K V P View) (ls : List (Event × Gone K V P)) (v : View)
        (new : State K V P View) → Leave m e ids old ls v new → Apart m.expires old f → Apart m.expires new f
    leave_apart e ids old ls v new h = within_apart m.expires f old new (leave_within e ids old ls v new h)

    -- a record is taken out, or nothing is
    pub taken_apart : (old : State K V P View) (id : ℕ) (left : Option (Gone K V P)) (new : State K V P View) →
        IfSome left (λ gone. TakesRecordOut m old id gone new) → IfNone left (new ≡ old) → Apart m.expires old f →
        Apart m.expires new f
    taken_apart old id None new taken none = within_apart m.expires f old new (within_equal old new none)
    taken_apart old id (Some gone) new taken none = leave_apart Evict (id ∷ []) old ((Evict, gone) ∷ [])
        (m.policy.remove old.view id) new
        (taken.rec, taken.there, ap (λ (g : Gone K V P). (Evict, g)) taken.gone_is, taken.after)

    -- what comes in is in the index only under its own key
    module _ (s : State K V P View) (kept : ∥ IsKept m s ∥₁) (i : Incoming K V P)
        (out : IsKept m s → (r : Rec K V P) → s.records i.id ≡ Some r → r.resident ≡ false)
        (last : State K V P View) (rests : Rests m s last) (r : Rec K V P) (resident : Bool) (q : ℕ × K) (id : ℕ)
        (is : last.index q ≡ Some id)
        (there : update nat_eq last.records i.id
        (Some record { kept = i.kept; handles = i.handles; resident = resident }) id ≡ Some r)
        (o : OpenFetch N R) (is_open : f.by_key q ≡ Some o) (apart : Apart m.expires s f) where
      other : IsKept m s → id ≢ i.id
      other k same = absurd
          (let none : IsNewIn id (m.policy.order s.view) =
          subst (λ (n : ℕ). IsNewIn n (m.policy.order s.view)) (sym same) (out_new m s k i.id (out k)) in
          omega (arith, none, (k.indexed q id (rests.index q id is)).0))

      by_kept : IsKept m s → is_expired o.opened (m.expires r.kept.properties) ≡ true
      by_kept k =
          let before : last.records id ≡ Some r =
          sym (update_apart last.records i.id
          (Some record { kept = i.kept; handles = i.handles; resident = resident }) id (other k)) ∙ there in
          let old = rests.records id r before in
          ap (λ (d : Data K V P). is_expired o.opened (m.expires d.properties)) old.2
          ∙ apart q id old.0 o (rests.index q id is) old.1 is_open

      others_apart : is_expired o.opened (m.expires r.kept.properties) ≡ true
      others_apart = ∥∥₁_elim kept (hlevel props) by_kept

    module _ (s : State K V P View) (kept : ∥ IsKept m s ∥₁) (i : Incoming K V P)
        (out : IsKept m s → (r : Rec K V P) → s.records i.id ≡ Some r → r.resident ≡ false) where
      plain_apart : (source : Source) (ls : List (Event × Gone K V P)) (entry : Held K V P) (t : State K V P View) →
          InsertsPlain m source s i ls entry t → Apart m.expires s f →
          Apart m.expires t (closed m.same f (key_of i.kept))
      plain_apart source ls entry t h apart q id r o is there is_open =
          go (same_key m.same (key_of i.kept) q) (sym (ap (λ (x : State K V P View). x.index q) h.after) ∙ is) is_open where
            rests : Rests m s h.last
            rests = rests-rests m s h.mid h.last
                (leave-rests m _ (ids_of (evicted m.policy (s.capacity - i.kept.weight) s.view)) s h.evictions _ h.mid
                h.evicts) (way-rests (h.mid.index (key_of i.kept)) h.mid h.replaced h.last h.gives_way)

            go : (b : Bool) → cond b (Some i.id) (h.last.index q) ≡ Some id → cond b None (f.by_key q) ≡ Some o →
                is_expired o.opened (m.expires r.kept.properties) ≡ true
            go true e is_open = absurd cc
            go false e is_open = others_apart s kept i out h.last rests r true q id e
                (sym (ap (λ (x : State K V P View). x.records id) h.after) ∙ there) o is_open apart

      phantom_apart : (source : Source) (ls : List (Event × Gone K V P)) (entry : Held K V P) (t : State K V P View) →
          InsertsPhantom m source s i ls entry t → Apart m.expires s f →
          Apart m.expires t (closed m.same f (key_of i.kept))
      phantom_apart source ls entry t h apart = closed_apart m.expires t f m.same (key_of i.kept)
          (λ q id r o is there is_open. others_apart s kept i out h.last
          (way-rests (s.index (key_of i.kept)) s h.replaced h.last h.gives_way) r false q id
          (sym (ap (λ (x : State K V P View). x.index q) h.after) ∙ is)
          (sym (ap (λ (x : State K V P View). x.records id) h.after) ∙ there) o is_open apart)

      -- a record comes in, and its key's fetch is closed
      pub inserts_apart : (source : Source) (ls : List (Event × Gone K V P)) (entry : Held K V P)
          (t : State K V P View) → Inserts m source s i ls entry t → Apart m.expires s f →
          Apart m.expires t (closed m.same f (key_of i.kept))
      inserts_apart source ls entry t h = go (is_phantom_record m i.kept) h where
        go : (b : Bool) → InsertsBy m b source s i ls entry t → Apart m.expires s f →
            Apart m.expires t (closed m.same f (key_of i.kept))
        go true h = phantom_apart source ls entry t h
        go false h = plain_apart source ls entry t h

      -- the same, where the fetch is closed of the entry's key
      pub arrived_apart : (source : Source) (ls : List (Event × Gone K V P)) (entry : Held K V P)
          (t : State K V P View) → Inserts m source s i ls entry t → (hash : ℕ) (key : K) → hash ≡ entry.kept.hash →
          key ≡ entry.kept.key → (g : Opens K N R) → g ≡ closed m.same f (hash, key) → Apart m.expires s f →
          Apart m.expires t g
      arrived_apart source ls entry t h hash key hash_is key_is g shut apart =
          let same : (hash, key) ≡ key_of entry.kept = λ j. (hash_is j, key_is j) in
          let own : entry.kept ≡ i.kept = ap (λ (e : Held K V P). e.kept)
          (inserted_entry m source s i ls entry t h) in
          subst (Apart m.expires t)
          (sym (shut ∙ ap (λ (q : ℕ × K). closed m.same f q) (same ∙ ap (λ (d : Data K V P). key_of d) own)))
          (inserts_apart source ls entry t h apart)

    -- the id of a new record is new
    pub new_apart : (s : State K V P View) (d : Data K V P) (handles : ℕ) → IsKept m s → (r : Rec K V P) →
        s.records (newcomer s d handles).id ≡ Some r → r.resident ≡ false
    new_apart s d handles k r there = absurd (let less = k.fresh s.next r there in omega arith)

    pub refuses_apart : (s : State K V P View) (i : Incoming K V P) (reason : Reason) (ls : List (Event × Gone K V P))
        (t : State K V P View) → RefusesInsert m s i reason ls t → Apart m.expires s f → Apart m.expires t f
    refuses_apart s i reason ls t h = within_apart m.expires f s t (go (is_phantom_record m i.kept) reason h) where
      go : (b : Bool) (reason : Reason) → RefusesBy m b s i reason ls t → Within t s
      go true Ids h = within_equal s t h.2
      go true Handles h = within_equal s t h.3
      go true NoMemory h = within_equal s t h.2
      go true _ h = absurd h
      go false Ids h = within_equal s t h.2
      go false Handles h = within_equal s t h.3
      go false Weight h = within_equal s t h.4
      go false NoMemory h = leave_within _ (ids_of h.1.left) s ls _ t h.1.leave
      go false _ h = absurd h

    -- a piece's record comes in, and its key's fetch is closed
    pub returns_apart : (s : State K V P View) → ∥ IsKept m s ∥₁ → (piece : Carried K V P) (more : ℕ)
        (ls : List (Event × Gone K V P)) (entry : Held K V P) (t : State K V P View) → Returns m s piece more ls entry t
        → Apart m.expires s f → Apart m.expires t (closed m.same f (key_of (returning s piece more).kept))
    returns_apart s kept piece more ls entry t h apart = go (is_in (s.records piece.id)) refl h where
      go : (b : Bool) → is_in (s.records piece.id) ≡ b → ReturnsBy m b s piece more ls entry t →
          Apart m.expires t (closed m.same f (key_of (returning s piece more).kept))
      go true e h = closed_apart m.expires t f m.same (key_of (returning s piece more).kept)
          (within_apart m.expires f s t
          (within_same s t (λ q. ap (λ (x : State K V P View). x.index q) h.after)
          (subst (RecordsFrom nothing_new s) (sym h.after) (handles_from nothing_new s piece.id more h.rec h.there)))
          apart)
      go false e h = inserts_apart s kept (returning s piece more)
          (λ k r there. sym (ap is_in there) ∙ e) _ ls entry t h apart

    pub back_apart : (s : State K V P View) → ∥ IsKept m s ∥₁ → (piece : Carried K V P) (more : ℕ)
        (ls : List (Event × Gone K V P)) (entry : Held K V P) (t : State K V P View) → Returns m s piece more ls entry t
        → (hash : ℕ) (key : K) → hash ≡ entry.kept.hash → key ≡ entry.kept.key → (g : Opens K N R) → g
        ≡ closed m.same f (hash, key) → Apart m.expires s f → Apart m.expires t g
    back_apart s kept piece more ls entry t h hash key hash_is key_is g shut apart =
        subst (Apart m.expires t)
        (sym (shut ∙ ap (λ (q : ℕ × K). closed m.same f q)
        (returned_key m s piece more ls entry t h hash key hash_is key_is)))
        (returns_apart s kept piece more ls entry t h apart)

    handles_within : (s : State K V P View) (id more : ℕ) (reason : Reason) (t : State K V P View) →
        RefusesHandles s id more reason t → Within t s
    handles_within s id more Handles t h = within_equal s t h.3
    handles_within s id more NoMemory t h = within_equal s t h.3
    handles_within s id more _ t h = absurd h

    pub refuses_return_apart : (s : State K V P View) (piece : Carried K V P) (more : ℕ) (reason : Reason)
        (ls : List (Event × Gone K V P)) (t : State K V P View) → RefusesReturn m s piece more reason ls t
        → Apart m.expires s f → Apart m.expires t f
    refuses_return_apart s piece more reason ls t h apart = go (is_in (s.records piece.id)) h where
      go : (b : Bool) → RefusesReturnBy m b s piece more reason ls t → Apart m.expires t f
      go true h = within_apart m.expires f s t (handles_within s piece.id more reason t h.1) apart
      go false h = refuses_apart s (returning s piece more) reason ls t h apart

    -- a record is taken out
    pub removes_apart : (s : State K V P View) (k : ℕ × K) (answer : Result (Option (Held K V P × Gone K V P)) Reason)
        (t : State K V P View) → Removes m s k answer t → Apart m.expires s f → Apart m.expires t f
    removes_apart s k answer t h = within_apart m.expires f s t (λ q id r is there.
        elim (removes_from nothing_new m s k answer t h id r there) [
          | inl o ↦ (o.0, index answer h q id is, o.1, o.2)
          | inr n ↦ absurd n
        ]) where
          index : (answer : Result (Option (Held K V P × Gone K V P)) Reason) → Removes m s k answer t →
              (q : ℕ × K) (id : ℕ) → t.index q ≡ Some id → s.index q ≡ Some id
          index (Ok None) h q id is = sym (ap (λ (x : State K V P View). x.index q) h.1) ∙ is
          index (Ok (Some out)) h q id is =
              (leave-rests m Remove (out.0.id ∷ []) (after_handle s out.0.id h.0) ((Remove, out.1) ∷ [])
              (m.policy.remove s.view out.0.id) t h.5).index q id is
          index (Err reason) h q id is = sym (refused_index s h.0 reason t h.2 q) ∙ is

-- what an answer tells of the index
module _ {K V P View N R T E : Type 0} (expires : P → Option ℕ) (f : Opens K N R) (old new : State K V P View) where
  pub answer_apart : (r : Result T E) {A : T → Type 0} {B : Type 0} → IfOk r A → OnErr r B →
      ((t : T) → A t → Within new old) → (B → Within new old) → Apart expires old f → Apart expires new f
  answer_apart (Ok t) done refused so not_so = within_apart expires f old new (so t done)
  answer_apart (Err e) done refused so not_so = within_apart expires f old new (not_so refused)

  pub goes_apart : (before after : List (Event × Gone K V P)) (r : Result T E)
      {A B : List (Event × Gone K V P) → Type 0} → OnOk r (GoesOn before after A) → OnErr r (GoesOn before after B)
      → ((ls : List (Event × Gone K V P)) → A ls → Apart expires new f) →
      ((ls : List (Event × Gone K V P)) → B ls → Apart expires new f) → Apart expires new f
  goes_apart before after (Ok t) done refused so not_so = so done.more done.so
  goes_apart before after (Err e) done refused so not_so = not_so refused.more refused.so
