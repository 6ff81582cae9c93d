-- Each step lets in no records but those that it takes in, and changes no record's data.
use Rattle.std.proofs.Common.{◌≡◌, ℕ, ◌+◌, ◌-◌, ◌%◌, ◌==◌, ◌⊎◌, zero, suc, inl, inr, length, List, [], ◌∷◌, map, Option, Some, None, Ok, Err, Bool, true, false, cond, nat_eq, refl, sym, ◌∙◌, ap, subst, ◌<◌}
use Rattle.std.specs.Prelude.{Result, IfOk, OnOk, OnErr, MatchResult, slice_get, slice_set, slice_index_or, option_map}
use Rattle.std.specs.List.{AllZip}
use Rattle.std.specs.Map.{update}
use Rattle.std.proofs.Math.ListN.{length-set}
use Rattle.std.proofs.lemmas.Bool.Decides.{eqb_tells}
use Rattle.std.proofs.lemmas.List.{length-map, map-set}
use Rattle.std.proofs.lemmas.Map.{update_here, update_apart}
use Rattle.std.proofs.lemmas.Option.{slice_get-map, slice_get_read}
use Rattle.std.proofs.lemmas.Slice.Zip.{AllZip-long}
use Rattle.foyer_policy.specs.Policy.{after_pops, after_all_pops, pops, evicted, removed}
use Rattle.foyer_policy.specs.declared.types.Event.{Event}
use Rattle.foyer_policy.specs.declared.types.Event.TheVariants.{Evict, Replace, Remove, Clear}
use Rattle.foyer_policy.specs.declared.types.Source.{Source}
use Rattle.foyer_policy.specs.declared.types.Source.TheVariants.{Memory}
use Rattle.foyer_policy.specs.declared.error.Reason.{Reason}
use Rattle.foyer_policy.specs.declared.error.Reason.TheVariants.{Ids, Handles, Weight, NoMemory}
use Rattle.foyer_core.specs.declared.config.RawCacheConfig.{RawCacheConfig}
use Rattle.foyer_core.specs.declared.record.Data.{Data}
use Rattle.foyer_core.specs.Bulk.{GoesOn, EvictsUnpinned, EvictingUnpinned, Clears, EvictsIf}
use Rattle.foyer_core.specs.Core.{AreNewShards, Belong, share_of}
use Rattle.foyer_core.specs.CoreBulk.{ConfiguresEach, InTurn, InTurnUntil, SharesOut, EvictsToCapacity, EvictingToCapacity}
use Rattle.foyer_core.specs.Pieces.{RefusesReturn, RefusesReturnBy, Returns, ReturnsBy, is_in, returning}
use Rattle.foyer_core.specs.State.{Meaning, State, key_of, is_phantom_record}
use Rattle.foyer_core.specs.Steps.{after_push, after_hold, after_get, after_handle, after_handles, after_give_back, ids_of, Leave, GivesWay, Inserts, InsertsBy, RefusesBy, RefusesPlain, RefusesInsert, Gets, GivesBack, Touches, Removes, ClonesHandle, RefusesHandle, RefusesHandles, newcomer}
use Rattle.foyer_core.specs.Values.{Carried, Rec, Gone, Held, Incoming}
use Rattle.foyer_core.proofs.CoreLemmas.{set_here, set_apart}
use Rattle.foyer_core.proofs.LeaveLemmas.{leave-rests}
use Rattle.foyer_core.proofs.TurnLaws.{turn-keeps, until-keeps, updates-keep}

same_rec : {K V P : Type 0} (a b : Rec K V P) → Some a ≡ Some b → a ≡ b
same_rec a b h = cc

module _ {K V P View : Type 0} (New : Data K V P → Type 0) where
  -- each record of a shard was there, with its data, or has data of which this holds
  abbrev pub RecordsFrom : State K V P View → State K V P View → Type 0
  RecordsFrom old new = (id : ℕ) (r : Rec K V P) → new.records id ≡ Some r →
      ((q : Rec K V P) × (old.records id ≡ Some q) × (r.kept ≡ q.kept)) ⊎ New r.kept

  pub from_same : (old new : State K V P View) → new ≡ old → RecordsFrom old new
  from_same old new e id r there = inl (r, ap (λ (s : State K V P View). s.records id) (sym e) ∙ there, refl)

  from_then : (old mid new : State K V P View) → RecordsFrom old mid → RecordsFrom mid new → RecordsFrom old new
  from_then old mid new first second id r there = elim (second id r there) [
    | inl q ↦ elim (first id q.0 q.1) [
      | inl o ↦ inl (o.0, o.1, q.2 ∙ o.2)
      | inr n ↦ inr (subst New (sym q.2) n)
    ]
    | inr n ↦ inr n
  ]

  -- one id is written
  from_update : (old new : State K V P View) (id : ℕ) (o : Option (Rec K V P)) →
      ((j : ℕ) → new.records j ≡ update nat_eq old.records id o j)
      → ((r : Rec K V P) → o ≡ Some r → ((q : Rec K V P) × (old.records id ≡ Some q) × (r.kept ≡ q.kept))
      ⊎ New r.kept) → RecordsFrom old new
  from_update old new id o write so j r there = elim (eqb_tells j id) [
    | inl e ↦ subst (λ (a : ℕ). ((q : Rec K V P) × (old.records a ≡ Some q) × (r.kept ≡ q.kept)) ⊎ New r.kept) (sym e.1)
        (so r (sym (update_here old.records id o) ∙ sym (write id) ∙ ap new.records (sym e.1) ∙ there))
    | inr e ↦ inl (r, sym (update_apart old.records id o j e.1) ∙ sym (write j) ∙ there, refl)
  ]

  -- a record is written with the data that it had
  from_write : (old new : State K V P View) (id : ℕ) (was now : Rec K V P) → old.records id ≡ Some was →
      ((j : ℕ) → new.records j ≡ update nat_eq old.records id (Some now) j) → now.kept ≡ was.kept
      → RecordsFrom old new
  from_write old new id was now there write same = from_update old new id (Some now) write
      (λ r is. inl (was, there, ap (λ (x : Rec K V P). x.kept) (sym (same_rec now r is)) ∙ same))

  -- a record is forgotten
  from_gone : (old new : State K V P View) (id : ℕ) → ((j : ℕ) → new.records j ≡ update nat_eq old.records id None j)
      → RecordsFrom old new
  from_gone old new id write = from_update old new id None write (λ r is. absurd cc)

  -- a record comes in
  from_new : (old new : State K V P View) (id : ℕ) (now : Rec K V P) →
      ((j : ℕ) → new.records j ≡ update nat_eq old.records id (Some now) j) → New now.kept → RecordsFrom old new
  from_new old new id now write so = from_update old new id (Some now) write
      (λ r is. inr (subst New (ap (λ (x : Rec K V P). x.kept) (same_rec now r is)) so))

  pub handles_from : (old : State K V P View) (id more : ℕ) (r : Rec K V P) → old.records id ≡ Some r →
      RecordsFrom old (after_handles old id more r)
  handles_from old id more r there = from_write old (after_handles old id more r) id r
      (record r { handles = r.handles + more }) there (λ j. refl) refl

  handle_from : (old : State K V P View) (id : ℕ) (r : Rec K V P) → old.records id ≡ Some r →
      RecordsFrom old (after_handle old id r)
  handle_from old id r there = handles_from old id 1 r there

  refused_from : (old : State K V P View) (id : ℕ) (reason : Reason) (new : State K V P View) →
      RefusesHandle old id reason new → RecordsFrom old new
  refused_from old id Handles new h = from_same old new h.3
  refused_from old id NoMemory new h = from_same old new h.3
  refused_from old id _ new h = absurd h

  refused_handles_from : (old : State K V P View) (id more : ℕ) (reason : Reason) (new : State K V P View) →
      RefusesHandles old id more reason new → RecordsFrom old new
  refused_handles_from old id more Handles new h = from_same old new h.3
  refused_handles_from old id more NoMemory new h = from_same old new h.3
  refused_handles_from old id more _ new h = absurd h

  pub clones_from : (old : State K V P View) (entry : Held K V P) (answer : Result (Held K V P) Reason)
      (new : State K V P View) → ClonesHandle old entry answer new → RecordsFrom old new
  clones_from old entry (Ok clone) new h = subst (RecordsFrom old) (sym h.4) (handle_from old entry.id h.0 h.1)
  clones_from old entry (Err reason) new h = refused_from old entry.id reason new h

  module _ {C : Type 0} (m : Meaning K P View C) where
    leave_from : (e : Event) (ids : List ℕ) (old : State K V P View) (ls : List (Event × Gone K V P)) (v : View)
        (new : State K V P View) → Leave m e ids old ls v new → RecordsFrom old new
    leave_from e ids old ls v new h id r there = inl ((leave-rests m e ids old ls v new h).records id r there)

    pub gets_from : (now : ℕ) (old : State K V P View) (k : ℕ × K) (answer : Result (Option (Held K V P)) Reason)
        (new : State K V P View) → Gets m now old k answer new → RecordsFrom old new
    gets_from now old k (Ok None) new h = from_same old new h.1
    gets_from now old k (Ok (Some entry)) new h = subst (RecordsFrom old) (sym h.5)
        (from_write old (after_get m old entry.id h.0) entry.id h.0 (record h.0 { handles = h.0.handles + 1 }) h.2
        (λ j. refl) refl)
    gets_from now old k (Err Handles) new h = from_same old new h.5
    gets_from now old k (Err NoMemory) new h = from_same old new h.5
    gets_from now old k (Err _) new h = absurd h

    pub removes_from : (old : State K V P View) (k : ℕ × K)
        (answer : Result (Option (Held K V P × Gone K V P)) Reason) (new : State K V P View) →
        Removes m old k answer new → RecordsFrom old new
    removes_from old k (Ok None) new h = from_same old new h.1
    removes_from old k (Ok (Some out)) new h =
        from_then old (after_handle old out.0.id h.0) new (handle_from old out.0.id h.0 h.2)
        (leave_from Remove (out.0.id ∷ []) (after_handle old out.0.id h.0) ((Remove, out.1) ∷ [])
        (m.policy.remove old.view out.0.id) new h.5)
    removes_from old k (Err reason) new h = refused_from old h.0 reason new h.2

    module _ (old : State K V P View) (id : ℕ) (r : Rec K V P) where
      abbrev released : State K V P View
      released = record old {
        view = m.policy.release old.view id;
        records =
            update nat_eq old.records id (Some (record r { handles = 0 }));
      }

      abbrev forgotten : State K V P View
      forgotten = record old { records = update nat_eq old.records id None }

      abbrev counted : State K V P View
      counted = record old { records = update nat_eq old.records id (Some (record r { handles = r.handles - 1 })) }

      back_by : old.records id ≡ Some r → (b c : Bool) → RecordsFrom old (cond b (cond c released forgotten) counted)
      back_by there true true = from_write old released id r (record r { handles = 0 }) there (λ j. refl) refl
      back_by there true false = from_gone old forgotten id (λ j. refl)
      back_by there false c = from_write old counted id r (record r { handles = r.handles - 1 }) there (λ j. refl) refl

    back_from : (old : State K V P View) (id : ℕ) (r : Rec K V P) → old.records id ≡ Some r →
        RecordsFrom old (after_give_back m old id r)
    back_from old id r there = back_by old id r there (r.handles == 1) r.resident

    pub gives_back_from : (old : State K V P View) (id : ℕ) (leave : Option (Event × Gone K V P)) (new : State K V P View)
        → GivesBack m old id leave new → RecordsFrom old new
    gives_back_from old id leave new h = subst (RecordsFrom old) (sym h.after) (back_from old id h.rec h.there)

    pub given_back_from : {A : Type 0} (old : State K V P View) (id : ℕ) (x : Option (Event × Gone K V P) → Type 0)
        (result : Result (Option (Event × Gone K V P)) A) (new : State K V P View)
        → IfOk result (λ leave. x leave × GivesBack m old id leave new) → OnErr result (new ≡ old) → RecordsFrom old new
    given_back_from old id x (Ok leave) new ok err = gives_back_from old id leave new ok.1
    given_back_from old id x (Err e) new ok err = from_same old new err

    pub touches_from : (now : ℕ) (old : State K V P View) (k : ℕ × K) (answer : Result Bool Reason)
        (new : State K V P View) → Touches m now old k answer new → RecordsFrom old new
    touches_from now old k (Ok false) new h = from_same old new h.1
    touches_from now old k (Ok true) new h = from_then old h.1 new (gets_from now old k (Ok (Some h.0)) h.1 h.2)
        (gives_back_from h.1 h.0.id None new h.3)
    touches_from now old k (Err Handles) new h = from_same old new h.5
    touches_from now old k (Err _) new h = absurd h

    -- an insert
    way_from : (o : Option ℕ) (old : State K V P View) (ls : List (Event × Gone K V P)) (new : State K V P View) →
        GivesWay m o old ls new → RecordsFrom old new
    way_from None old ls new h = from_same old new h.1
    way_from (Some id) old ls new h = leave_from Replace (id ∷ []) old ls (m.policy.remove old.view id) new h

    inserted_from : (b : Bool) (source : Source) (old : State K V P View) (inc : Incoming K V P)
        (ls : List (Event × Gone K V P)) (entry : Held K V P) (new : State K V P View) →
        InsertsBy m b source old inc ls entry new → New inc.kept
        → RecordsFrom old new
    inserted_from true source old inc ls entry new h so =
        from_then old h.last new (way_from (old.index (key_of inc.kept)) old h.replaced h.last h.gives_way)
        (subst (RecordsFrom h.last) (sym h.after)
        (from_new h.last (after_hold m h.last inc) inc.id
        (record { kept = inc.kept; handles = inc.handles; resident = false }) (λ j. refl) so))
    inserted_from false source old inc ls entry new h so =
        from_then old h.mid new (leave_from Evict _ old h.evictions _ h.mid h.evicts)
        (from_then h.mid h.last new (way_from (h.mid.index (key_of inc.kept)) h.mid h.replaced h.last h.gives_way)
        (subst (RecordsFrom h.last) (sym h.after)
        (from_new h.last (after_push m h.last inc) inc.id
        (record { kept = inc.kept; handles = inc.handles; resident = true }) (λ j. refl) so)))

    refused_plain_from : (old : State K V P View) (inc : Incoming K V P) (reason : Reason)
        (ls : List (Event × Gone K V P)) (new : State K V P View) → RefusesPlain m old inc reason ls new →
        RecordsFrom old new
    refused_plain_from old inc Ids ls new h = from_same old new h.2
    refused_plain_from old inc Handles ls new h = from_same old new h.3
    refused_plain_from old inc Weight ls new h = from_same old new h.4
    refused_plain_from old inc NoMemory ls new h =
        leave_from Evict (ids_of h.1.left) old ls (after_pops m.policy (length h.1.left) old.view) new h.1.leave
    refused_plain_from old inc _ ls new h = absurd h

    refused_insert_from : (b : Bool) (old : State K V P View) (inc : Incoming K V P) (reason : Reason)
        (ls : List (Event × Gone K V P)) (new : State K V P View) → RefusesBy m b old inc reason ls new →
        RecordsFrom old new
    refused_insert_from true old inc Ids ls new h = from_same old new h.2
    refused_insert_from true old inc Handles ls new h = from_same old new h.3
    refused_insert_from true old inc NoMemory ls new h = from_same old new h.2
    refused_insert_from true old inc _ ls new h = absurd h
    refused_insert_from false old inc reason ls new h = refused_plain_from old inc reason ls new h

    inserts_from : (source : Source) (old : State K V P View) (inc : Incoming K V P) (ls : List (Event × Gone K V P))
        (entry : Held K V P) (new : State K V P View) → Inserts m source old inc ls entry new → New inc.kept →
        RecordsFrom old new
    inserts_from source old inc ls entry new h so =
        inserted_from (is_phantom_record m inc.kept) source old inc ls entry new h so

    refuses_from : (old : State K V P View) (inc : Incoming K V P) (reason : Reason) (ls : List (Event × Gone K V P))
        (new : State K V P View) → RefusesInsert m old inc reason ls new → RecordsFrom old new
    refuses_from old inc reason ls new h = refused_insert_from (is_phantom_record m inc.kept) old inc reason ls new h

    pub emplaced_from : {A B : Type 0} (r : Result A B) (made : A → List (Event × Gone K V P))
        (entry : A → Held K V P) (reason : B → Reason) (left : B → List (Event × Gone K V P))
        (source : Source) (old : State K V P View) (d : Data K V P) (handles : ℕ) (new : State K V P View)
        → MatchResult r (λ a. Inserts m source old (newcomer old d handles) (made a) (entry a) new)
        (λ b. RefusesInsert m old (newcomer old d handles) (reason b) (left b) new) → New d → RecordsFrom old new
    emplaced_from (Ok a) made entry reason left source old d handles new h so =
        inserts_from source old (newcomer old d handles) (made a) (entry a) new h so
    emplaced_from (Err b) made entry reason left source old d handles new h so =
        refuses_from old (newcomer old d handles) (reason b) (left b) new h

    -- and one of a piece that stands for a record
    returned_by : (b : Bool) (old : State K V P View) (piece : Carried K V P) (more : ℕ)
        (ls : List (Event × Gone K V P)) (entry : Held K V P) (new : State K V P View) →
        ReturnsBy m b old piece more ls entry new
        → New (returning old piece more).kept → RecordsFrom old new
    returned_by true old piece more ls entry new h so =
        subst (RecordsFrom old) (sym h.after) (handles_from old piece.id more h.rec h.there)
    returned_by false old piece more ls entry new h so =
        inserts_from Memory old (returning old piece more) ls entry new h so

    refused_return_by : (b : Bool) (old : State K V P View) (piece : Carried K V P) (more : ℕ) (reason : Reason)
        (ls : List (Event × Gone K V P)) (new : State K V P View) → RefusesReturnBy m b old piece more reason ls new
        → RecordsFrom old new
    refused_return_by true old piece more reason ls new h = refused_handles_from old piece.id more reason new h.1
    refused_return_by false old piece more reason ls new h = refuses_from old (returning old piece more) reason ls new h

    pub taken_back_from : {A B : Type 0} (r : Result A B) (made : A → List (Event × Gone K V P))
        (entry : A → Held K V P) (reason : B → Reason) (left : B → List (Event × Gone K V P))
        (old : State K V P View) (piece : Carried K V P) (more : ℕ) (new : State K V P View)
        → MatchResult r (λ a. Returns m old piece more (made a) (entry a) new)
        (λ b. RefusesReturn m old piece more (reason b) (left b) new) → New (returning old piece more).kept →
        RecordsFrom old new
    taken_back_from (Ok a) made entry reason left old piece more new h so =
        returned_by (is_in (old.records piece.id)) old piece more (made a) (entry a) new h so
    taken_back_from (Err b) made entry reason left old piece more new h so =
        refused_return_by (is_in (old.records piece.id)) old piece more (reason b) (left b) new h

-- nothing comes in
abbrev pub nothing_new : {K V P : Type 0} → Data K V P → Type 0
nothing_new d = ⊥

from_more : {K V P View : Type 0} (New More : Data K V P → Type 0) → ((d : Data K V P) → New d → More d) →
    (old new : State K V P View) → RecordsFrom New old new → RecordsFrom More old new
from_more New More more old new h id r there = elim (h id r there) [
  | inl q ↦ inl q
  | inr n ↦ inr (more r.kept n)
]

module _ {K V P View : Type 0} where
  same_state : (a b : State K V P View) → Some a ≡ Some b → a ≡ b
  same_state a b h = cc

  -- where a shard's records belong there, they do after a step by which only records come in that do
  set_belongs : (shards : List (State K V P View)) (i : ℕ) (before after : State K V P View) → slice_get shards i
      ≡ Some before
      → RecordsFrom (λ d. d.hash % length shards ≡ i) before after → Belong shards → Belong (slice_set shards i after)
  set_belongs shards i before after at from belong j s there id r is =
      ap (λ (n : ℕ). r.kept.hash % n) (length-set shards i after) ∙ elim (eqb_tells j i) [
        | inl e ↦
            (let same : after ≡ s = same_state after s
            (sym (set_here shards i before after at) ∙ ap (slice_get (slice_set shards i after)) (sym e.1) ∙ there) in
            here (from id r (ap (λ (x : State K V P View). x.records id) same ∙ is)) ∙ sym e.1)
        | inr e ↦ belong j s (sym (set_apart shards i j after e.1) ∙ there) id r is
      ] where
        here : ((q : Rec K V P) × (before.records id ≡ Some q) × (r.kept ≡ q.kept)) ⊎ (r.kept.hash % length shards ≡ i) →
            r.kept.hash % length shards ≡ i
        here (inl q) = ap (λ (d : Data K V P). d.hash % length shards) q.2 ∙ belong i before at id q.0 q.1
        here (inr n) = n

  -- so it is for what each of a list shows
  pub placed_over : {A : Type 0} (f : A → State K V P View) (xs : List A) (n i : ℕ) (x : A) → n ≡ length xs → i < n →
      x ≡ slice_index_or xs i x
      → (y : A) → RecordsFrom (λ d. d.hash % n ≡ i) (f x) (f y) → Belong (map f xs) → Belong (map f (slice_set xs i y))
  placed_over f xs n i x many within read y from belong =
      let many' : length (map f xs) ≡ n = length-map xs f ∙ sym many in
      let shows : slice_get (map f xs) i ≡ Some (f x) = slice_get-map f xs i
      ∙ ap (option_map f) (slice_get_read xs n i x many within read) in
      subst Belong (sym (map-set f xs i y))
      (set_belongs (map f xs) i (f x) (f y) shows
      (from_more (λ d. d.hash % n ≡ i) (λ d. d.hash % length (map f xs) ≡ i)
      (λ d is. ap (λ (k : ℕ). d.hash % k) many' ∙ is) (f x) (f y) from) belong)

  -- where what comes in has the hash of the place
  pub belongs_over : {A : Type 0} (f : A → State K V P View) (xs : List A) (hash n i : ℕ) (x : A) → n ≡ length xs →
      i < n → i ≡ hash % n → x ≡ slice_index_or xs i x
      → (y : A) → RecordsFrom (λ d. d.hash ≡ hash) (f x) (f y) → Belong (map f xs) → Belong (map f (slice_set xs i y))
  belongs_over f xs hash n i x many within place read y from belong =
      placed_over f xs n i x many within read y
      (from_more (λ d. d.hash ≡ hash) (λ d. d.hash % n ≡ i) (λ d is. ap (λ (h : ℕ). h % n) is ∙ sym place) (f x)
      (f y) from) belong

  pub zip-back : (R : State K V P View → State K V P View → Type 0) (ss ts : List (State K V P View)) → AllZip R ss ts
      → (i : ℕ) (t : State K V P View) → slice_get ts i ≡ Some t
      → (s : State K V P View) × (slice_get ss i ≡ Some s) × R s t
  zip-back R [] [] h i t there = absurd cc
  zip-back R [] (b ∷ ts) h i t there = absurd h
  zip-back R (s ∷ ss) [] h i t there = absurd h
  zip-back R (s ∷ ss) (b ∷ ts) h zero t there =
      (let is : b ≡ t = cc in (s, refl, subst (λ (a : State K V P View). R s a) is h.0))
  zip-back R (s ∷ ss) (b ∷ ts) h (suc i) t there = zip-back R ss ts h.1 i t there

  -- and where each shard makes a step by which nothing comes in
  zip_belongs : (ss ts : List (State K V P View)) → AllZip (RecordsFrom nothing_new) ss ts → Belong ss → Belong ts
  zip_belongs ss ts h belong i t there id r is =
      let s = zip-back (RecordsFrom nothing_new) ss ts h i t there in
      ap (λ (n : ℕ). r.kept.hash % n) (AllZip-long (RecordsFrom nothing_new) ss ts h) ∙ elim (s.2 id r is) [
        | inl q ↦ ap (λ (d : Data K V P). d.hash % length ss) q.2 ∙ belong i s.0 s.1 id q.0 q.1
        | inr n ↦ absurd n
      ]

module _ {K V P View C : Type 0} (m : Meaning K P View C) where
  pub same_from : (s : State K V P View) → RecordsFrom nothing_new s s
  same_from s = from_same nothing_new s s refl

  pub unpinned_from : (s t : State K V P View) (ls : List (Event × Gone K V P)) → EvictsUnpinned m s ls t →
      RecordsFrom nothing_new s t
  unpinned_from s t ls h = leave_from nothing_new m Evict (ids_of (pops m.policy s.view)) s ls
      (after_all_pops m.policy s.view) t h

  pub some_unpinned_from : (s t : State K V P View) (ls : List (Event × Gone K V P)) → EvictingUnpinned m s ls t →
      RecordsFrom nothing_new s t
  some_unpinned_from s t ls h = leave_from nothing_new m Evict (ids_of h.left) s ls
      (after_pops m.policy (length h.left) s.view) t h.leave

  pub evicted_from : (s t : State K V P View) (ls : List (Event × Gone K V P)) → EvictsToCapacity m s ls t →
      RecordsFrom nothing_new s t
  evicted_from s t ls h = leave_from nothing_new m Evict (ids_of (evicted m.policy s.capacity s.view)) s ls
      (after_pops m.policy (length (evicted m.policy s.capacity s.view)) s.view) t h

  pub some_evicted_from : (s t : State K V P View) (ls : List (Event × Gone K V P)) → EvictingToCapacity m s ls t →
      RecordsFrom nothing_new s t
  some_evicted_from s t ls h = leave_from nothing_new m Evict (ids_of h.left) s ls
      (after_pops m.policy (length h.left) s.view) t h.leave

  pub cleared_from : (s t : State K V P View) (ls : List (Event × Gone K V P)) → Clears m s ls t →
      RecordsFrom nothing_new s t
  cleared_from s t ls h = leave_from nothing_new m Clear (ids_of (m.policy.order s.view)) s ls (m.policy.clear s.view)
      t h

  pub picked_from : (says : K → V → Bool → Type 0) (s t : State K V P View) (ls : List (Event × Gone K V P)) →
      EvictsIf m says s ls t → RecordsFrom nothing_new s t
  picked_from says s t ls h = leave_from nothing_new m Evict (ids_of h.picked) s ls (removed m.policy h.picked s.view)
      t h.leave

  -- the calls of a core on all of its shards
  module _ (ss : List (State K V P View)) (ls : List (Event × Gone K V P)) (ts : List (State K V P View)) where
    pub all_unpinned_belong : InTurn (EvictsUnpinned m) ss ls ts → Belong ss → Belong ts
    all_unpinned_belong h = zip_belongs ss ts
        (turn-keeps (RecordsFrom nothing_new) (EvictsUnpinned m) unpinned_from ss ls ts h)

    pub all_unpinned_until_belong : InTurnUntil (EvictsUnpinned m) (EvictingUnpinned m) ss ls ts → Belong ss → Belong ts
    all_unpinned_until_belong h = zip_belongs ss ts
        (until-keeps (RecordsFrom nothing_new) (EvictsUnpinned m) (EvictingUnpinned m) unpinned_from
        some_unpinned_from same_from ss ls ts h)

    pub all_cleared_belong : InTurn (Clears m) ss ls ts → Belong ss → Belong ts
    all_cleared_belong h = zip_belongs ss ts (turn-keeps (RecordsFrom nothing_new) (Clears m) cleared_from ss ls ts h)

    pub all_evicted_belong : InTurn (EvictsToCapacity m) ss ls ts → Belong ss → Belong ts
    all_evicted_belong h = zip_belongs ss ts
        (turn-keeps (RecordsFrom nothing_new) (EvictsToCapacity m) evicted_from ss ls ts h)

    pub all_evicted_until_belong : InTurnUntil (EvictsToCapacity m) (EvictingToCapacity m) ss ls ts → Belong ss →
        Belong ts
    all_evicted_until_belong h = zip_belongs ss ts
        (until-keeps (RecordsFrom nothing_new) (EvictsToCapacity m) (EvictingToCapacity m) evicted_from
        some_evicted_from same_from ss ls ts h)

    pub all_picked_belong : (says : K → V → Bool → Type 0) → InTurn (EvictsIf m says) ss ls ts → Belong ss → Belong ts
    all_picked_belong says h = zip_belongs ss ts
        (turn-keeps (RecordsFrom nothing_new) (EvictsIf m says) (picked_from says) ss ls ts h)

  pub shared_belong : (capacity : ℕ) (ss ts : List (State K V P View)) → SharesOut m capacity ss ts → Belong ss →
      Belong ts
  shared_belong capacity ss ts h = zip_belongs ss ts
      (updates-keep m (RecordsFrom nothing_new) None (λ s c. same_from s) (λ i s. share_of capacity (length ss) i) ss
      ts h.counted h.each)

  pub configured_belong : (config : C) (ss ts : List (State K V P View)) → ConfiguresEach m config ss ts → Belong ss →
      Belong ts
  configured_belong config ss ts h = zip_belongs ss ts
      (updates-keep m (RecordsFrom nothing_new) (Some config) (λ s c. same_from s) (λ i s. s.capacity) ss ts h.counted
      h.each)

  pub new_belong : {S W A : Type 0} (config : RawCacheConfig C S W A) (many : ℕ) (ss : List (State K V P View)) →
      AreNewShards m config many ss → Belong ss
  new_belong config many ss h i s there id r is =
      absurd (let none : s.records id ≡ None = (h.each i s there).no_records id in cc)

-- after a call on all shards, refused or not
module _ {K V P View A E : Type 0} (r : Result A E) (ss ts : List (State K V P View)) where
  -- where some leave in both cases
  pub told_belong : (had told : List (Event × Gone K V P))
      (whole part : List (State K V P View) → List (Event × Gone K V P) → List (State K V P View) → Type 0)
      → OnOk r (GoesOn had told (λ ls. whole ss ls ts)) → OnErr r (GoesOn had told (λ ls. part ss ls ts))
      → ((ls : List (Event × Gone K V P)) → whole ss ls ts → Belong ss → Belong ts) →
      ((ls : List (Event × Gone K V P)) → part ss ls ts → Belong ss → Belong ts) → Belong ss → Belong ts
  told_belong had told whole part ok err so so' belong = go r ok err where
    go : (q : Result A E) → OnOk q (GoesOn had told (λ ls. whole ss ls ts)) →
        OnErr q (GoesOn had told (λ ls. part ss ls ts)) → Belong ts
    go (Ok a) done refused = so done.more done.so belong
    go (Err e) done refused = so' refused.more refused.so belong

  -- where a refused one changes nothing
  pub done_belong : (leaves : A → List (Event × Gone K V P))
      (whole : List (State K V P View) → List (Event × Gone K V P) → List (State K V P View) → Type 0)
      → IfOk r (λ a. whole ss (leaves a) ts) → OnErr r (ts ≡ ss) →
      ((ls : List (Event × Gone K V P)) → whole ss ls ts → Belong ss → Belong ts) → Belong ss → Belong ts
  done_belong leaves whole ok err so belong = go r ok err where
    go : (q : Result A E) → IfOk q (λ a. whole ss (leaves a) ts) → OnErr q (ts ≡ ss) → Belong ts
    go (Ok a) done same = so (leaves a) done belong
    go (Err e) done same = subst Belong (sym same) belong
