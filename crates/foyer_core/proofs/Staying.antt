-- Each step lets the records stay whose handles are not given back, with their data.
use Rattle.std.proofs.Common.{◌≡◌, ◌≢◌, ℕ, ◌+◌, ◌-◌, ◌<◌, ◌≤◌, ◌==◌, length, List, [], ◌∷◌, Option, Some, None, Ok, Err, Bool, true, false, cond, nat_eq, refl, sym, ◌∙◌, ap, subst, inl, inr, arith}
use Rattle.std.specs.Prelude.{Result, IfOk, OnErr, if◌then◌else◌}
use Rattle.std.specs.Map.{update}
use Rattle.std.proofs.lemmas.Bool.Decides.{eqb_tells, nat_tests}
use Rattle.std.proofs.lemmas.Map.{update_here, update_apart}
use Rattle.foyer_policy.specs.Policy.{after_pops, evicted}
use Rattle.foyer_policy.specs.declared.types.Event.{Event}
use Rattle.foyer_policy.specs.declared.types.Source.{Source}
use Rattle.foyer_policy.specs.declared.types.Event.TheVariants.{Evict, Replace, Remove}
use Rattle.foyer_policy.specs.declared.error.Reason.{Reason}
use Rattle.foyer_policy.specs.declared.error.Reason.TheVariants.{Ids, Handles, Weight, NoMemory}
use Rattle.foyer_core.specs.declared.record.Data.{Data}
use Rattle.foyer_core.specs.Values.{Rec, Gone, Held, Incoming}
use Rattle.foyer_core.specs.State.{Meaning, State, key_of}
use Rattle.foyer_core.specs.Steps.{outside, newcomer, after_out, after_hold, after_get, after_handle, after_handles, after_give_back, ids_of, Leave, GivesWay, InsertsPlain, RefusesPlain, Gets, GivesBack, Touches, Removes, ClonesHandle, RefusesHandle, RefusesHandles}

-- no handle is given back
abbrev pub nothing : ℕ → ℕ
nothing _ = 0

-- one handle of an id is
abbrev pub one : ℕ → ℕ → ℕ
one id j = if j == id then 1 else 0

same_rec : {K V P : Type 0} (a b : Rec K V P) → Some a ≡ Some b → a ≡ b
same_rec a b h = cc

module _ {K V P View : Type 0} where
  -- the records of a shard stay but for handles that are given back
  abbrev pub RecordsStay : (ℕ → ℕ) → State K V P View → State K V P View → Type 0
  RecordsStay given old new = (id : ℕ) (r : Rec K V P) → old.records id ≡ Some r → given id < r.handles
      → (q : Rec K V P) × (new.records id ≡ Some q) × (q.kept ≡ r.kept) × (r.handles ≤ q.handles + given id)

  pub stay_same : (old new : State K V P View) → new ≡ old → RecordsStay nothing old new
  stay_same old new e id r there less = (r, ap (λ (s : State K V P View). s.records id) e ∙ there, refl, omega arith)

  pub stay_given : (given : ℕ → ℕ) (old new : State K V P View) → new ≡ old → RecordsStay given old new
  stay_given given old new e id r there less =
      (r, ap (λ (s : State K V P View). s.records id) e ∙ there, refl, omega arith)

  pub stay_then : (given : ℕ → ℕ) (old mid new : State K V P View) → RecordsStay nothing old mid →
      RecordsStay given mid new → RecordsStay given old new
  stay_then given old mid new first second id r there less =
      let a = first id r there (omega arith) in
      let b = second id a.0 a.1 (omega (arith, a.3)) in
      (b.0, b.1, b.2 ∙ a.2, omega (arith, a.3, b.3))

  -- one record is written
  pub stay_write : (given : ℕ → ℕ) (old new : State K V P View) (id : ℕ) (r q : Rec K V P) → old.records id ≡ Some r →
      ((j : ℕ) → new.records j ≡ update nat_eq old.records id (Some q) j)
      → q.kept ≡ r.kept → r.handles ≤ q.handles + given id → RecordsStay given old new
  stay_write given old new id r q there write same more j x is less = elim (eqb_tells j id) [
    | inl e ↦ (let alike : r ≡ x = same_rec r x (sym there ∙ ap old.records (sym e.1) ∙ is) in
        subst (λ (a : ℕ). (y : Rec K V P) × (new.records a ≡ Some y) × (y.kept ≡ x.kept)
        × (x.handles ≤ y.handles + given a)) (sym e.1) (
          q,
          write id ∙ update_here old.records id (Some q),
          same ∙ ap (λ (z : Rec K V P). z.kept) alike,
          subst (λ (z : Rec K V P). z.handles ≤ q.handles + given id) alike more,
        ))
    | inr e ↦ (x, write j ∙ update_apart old.records id (Some q) j e.1 ∙ is, refl, omega arith)
  ]

  pub handles_stay : (old : State K V P View) (id more : ℕ) (r : Rec K V P) → old.records id ≡ Some r →
      RecordsStay nothing old (after_handles old id more r)
  handles_stay old id more r there = stay_write nothing old (after_handles old id more r) id r
      (record r { handles = r.handles + more }) there (λ j. refl) refl (omega arith)

  handle_stays : (old : State K V P View) (id : ℕ) (r : Rec K V P) → old.records id ≡ Some r →
      RecordsStay nothing old (after_handle old id r)
  handle_stays old id r there = handles_stay old id 1 r there

  pub refused_stays : (old : State K V P View) (id : ℕ) (reason : Reason) (new : State K V P View) →
      RefusesHandle old id reason new → RecordsStay nothing old new
  refused_stays old id Handles new h = stay_same old new h.3
  refused_stays old id NoMemory new h = stay_same old new h.3
  refused_stays old id _ new h = absurd h

  pub refused_handles_stay : (old : State K V P View) (id more : ℕ) (reason : Reason) (new : State K V P View) →
      RefusesHandles old id more reason new → RecordsStay nothing old new
  refused_handles_stay old id more Handles new h = stay_same old new h.3
  refused_handles_stay old id more NoMemory new h = stay_same old new h.3
  refused_handles_stay old id more _ new h = absurd h

  pub clones_stay : (old : State K V P View) (entry : Held K V P) (answer : Result (Held K V P) Reason)
      (new : State K V P View) → ClonesHandle old entry answer new → RecordsStay nothing old new
  clones_stay old entry (Ok clone) new h = subst (RecordsStay nothing old) (sym h.4) (handle_stays old entry.id h.0 h.1)
  clones_stay old entry (Err reason) new h = refused_stays old entry.id reason new h

  -- what comes in has the data of the record that has its id, and as many handles
  abbrev pub GoesOnAs : State K V P View → Incoming K V P → Type 0
  GoesOnAs s inc = (r : Rec K V P) → s.records inc.id ≡ Some r → (inc.kept ≡ r.kept) × (r.handles ≤ inc.handles)

  -- so it is where the id is new
  pub new_goes_on : (s : State K V P View) (d : Data K V P) (handles : ℕ) →
      ((id : ℕ) (r : Rec K V P) → s.records id ≡ Some r → id < s.next) → GoesOnAs s (newcomer s d handles)
  new_goes_on s d handles below r there = absurd (let b = below s.next r there in omega arith)

  -- the others stay, and so does it
  pub write_stays : (old last new : State K V P View) (inc : Incoming K V P) (resident : Bool) →
      RecordsStay nothing old last → GoesOnAs old inc
      → ((id : ℕ) → new.records id ≡ update nat_eq last.records inc.id
      (Some record { kept = inc.kept; handles = inc.handles; resident = resident }) id) →
      RecordsStay nothing old new
  write_stays old last new inc resident stay same write id r there less = elim (eqb_tells id inc.id) [
    | inl e ↦ (let was = same r (ap old.records (sym e.1) ∙ there) in
        let now : Rec K V P = record { kept = inc.kept; handles = inc.handles; resident = resident } in (
          now,
          subst (λ (a : ℕ). new.records a ≡ Some now) (sym e.1)
              (write inc.id ∙ update_here last.records inc.id (Some now)),
          was.0,
          omega (arith, was.1),
        ))
    | inr e ↦ (let q = stay id r there less in
        let now : Rec K V P = record { kept = inc.kept; handles = inc.handles; resident = resident } in
        (q.0, write id ∙ update_apart last.records inc.id (Some now) id e.1 ∙ q.1, q.2, q.3))
  ]

module _ {K V P View C : Type 0} (m : Meaning K P View C) where
  out_stays : (old : State K V P View) (id : ℕ) (r : Rec K V P) → old.records id ≡ Some r →
      RecordsStay nothing old (after_out m old id r)
  out_stays old id r there j x is less = elim (eqb_tells j id) [
    | inl e ↦ (let alike : r ≡ x = same_rec r x (sym there ∙ ap old.records (sym e.1) ∙ is) in
        subst (λ (a : ℕ). (y : Rec K V P) × ((after_out m old id r).records a ≡ Some y) × (y.kept ≡ x.kept)
        × (x.handles ≤ y.handles + 0)) (sym e.1)
        (here (r.handles == 0) refl alike (update_here old.records id (outside r))))
    | inr e ↦ (x, update_apart old.records id (outside r) j e.1 ∙ is, refl, omega arith)
  ] where
    here : (b : Bool) → (r.handles == 0) ≡ b → r ≡ x → (after_out m old id r).records id
        ≡ cond b None (Some (record r { resident = false }))
        → (y : Rec K V P) × ((after_out m old id r).records id ≡ Some y) × (y.kept ≡ x.kept)
        × (x.handles ≤ y.handles + 0)
    here true z alike at =
        absurd (let n : r.handles ≡ x.handles = ap (λ (y : Rec K V P). y.handles) alike in grind (arith, nat_tests))
    here false z alike at = (
      record r { resident = false },
      at,
      ap (λ (y : Rec K V P). y.kept) alike,
      (let n : r.handles ≡ x.handles = ap (λ (y : Rec K V P). y.handles) alike in omega arith),
    )

  pub leave_stays : (e : Event) (ids : List ℕ) (old : State K V P View) (ls : List (Event × Gone K V P)) (v : View)
      (new : State K V P View) → Leave m e ids old ls v new → RecordsStay nothing old new
  leave_stays e [] old [] v new h = subst (RecordsStay nothing old) (sym h)
      (λ id r there less. (r, there, refl, omega arith))
  leave_stays e [] old (l ∷ ls) v new h = absurd h
  leave_stays e (i ∷ ids) old [] v new h = absurd h
  leave_stays e (i ∷ ids) old (l ∷ ls) v new h =
      stay_then nothing old (after_out m old i h.0) new (out_stays old i h.0 h.1)
      (leave_stays e ids (after_out m old i h.0) ls v new h.3)

  pub gets_stay : (now : ℕ) (old : State K V P View) (k : ℕ × K) (answer : Result (Option (Held K V P)) Reason)
      (new : State K V P View) → Gets m now old k answer new → RecordsStay nothing old new
  gets_stay now old k (Ok None) new h = stay_same old new h.1
  gets_stay now old k (Ok (Some entry)) new h = subst (RecordsStay nothing old) (sym h.5)
      (stay_write nothing old (after_get m old entry.id h.0) entry.id h.0 (record h.0 { handles = h.0.handles + 1 })
      h.2 (λ j. refl) refl (omega arith))
  gets_stay now old k (Err Handles) new h = stay_same old new h.5
  gets_stay now old k (Err NoMemory) new h = stay_same old new h.5
  gets_stay now old k (Err _) new h = absurd h

  pub removes_stay : (old : State K V P View) (k : ℕ × K) (answer : Result (Option (Held K V P × Gone K V P)) Reason)
      (new : State K V P View) → Removes m old k answer new → RecordsStay nothing old new
  removes_stay old k (Ok None) new h = stay_same old new h.1
  removes_stay old k (Ok (Some out)) new h =
      stay_then nothing old (after_handle old out.0.id h.0) new (handle_stays old out.0.id h.0 h.2)
      (leave_stays Remove (out.0.id ∷ []) (after_handle old out.0.id h.0) ((Remove, out.1) ∷ [])
      (m.policy.remove old.view out.0.id) new h.5)
  removes_stay old k (Err reason) new h = refused_stays old h.0 reason new h.2

  -- a handle that is given back
  module _ (old : State K V P View) (id : ℕ) (r : Rec K V P) (there : old.records id ≡ Some r) where
    back_apart : (j : ℕ) → j ≢ id → (after_give_back m old id r).records j ≡ old.records j
    back_apart j apart = go (r.handles == 1) r.resident where
      go : (b c : Bool) → (cond b
          (cond c
          (record old {
            view = m.policy.release old.view id;
            records =
                update nat_eq old.records id (Some (record r { handles = 0 }));
          })
          (record old { records = update nat_eq old.records id None }))
          (record old
          { records = update nat_eq old.records id (Some (record r { handles = r.handles - 1 })) })).records j
          ≡ old.records j
      go true true = update_apart old.records id (Some (record r { handles = 0 })) j apart
      go true false = update_apart old.records id None j apart
      go false c = update_apart old.records id (Some (record r { handles = r.handles - 1 })) j apart

    back_here : 1 < r.handles → (after_give_back m old id r).records id ≡ Some (record r { handles = r.handles - 1 })
    back_here more = go (r.handles == 1) refl where
      go : (b : Bool) → (r.handles == 1) ≡ b → (cond b
          (cond r.resident
          (record old {
            view = m.policy.release old.view id;
            records =
                update nat_eq old.records id (Some (record r { handles = 0 }));
          })
          (record old { records = update nat_eq old.records id None }))
          (record old
          { records = update nat_eq old.records id (Some (record r { handles = r.handles - 1 })) })).records id
          ≡ Some (record r { handles = r.handles - 1 })
      go true e = absurd (grind (arith, nat_tests))
      go false e = update_here old.records id (Some (record r { handles = r.handles - 1 }))

  pub gives_back_stays : (old : State K V P View) (id : ℕ) (leave : Option (Event × Gone K V P))
      (new : State K V P View) → GivesBack m old id leave new → RecordsStay (one id) old new
  gives_back_stays old id leave new h j x is less =
      subst (λ (s : State K V P View). (y : Rec K V P) × (s.records j ≡ Some y) × (y.kept ≡ x.kept)
      × (x.handles ≤ y.handles + one id j)) (sym h.after)
      (elim (eqb_tells j id) [
        | inl e ↦ (let alike : h.rec ≡ x = same_rec h.rec x (sym h.there ∙ ap old.records (sym e.1) ∙ is) in
            let counts : one id j ≡ 1 = rw e.0 refl in
            let n : h.rec.handles ≡ x.handles = ap (λ (y : Rec K V P). y.handles) alike in (
              record h.rec { handles = h.rec.handles - 1 },
              ap (after_give_back m old id h.rec).records e.1
                  ∙ back_here old id h.rec h.there (omega arith),
              ap (λ (y : Rec K V P). y.kept) alike,
              omega arith,
            ))
        | inr e ↦ (x, back_apart old id h.rec h.there j e.1 ∙ is, refl, omega arith)
      ])

  pub given_back_stays : {A : Type 0} (old : State K V P View) (id : ℕ) (x : Option (Event × Gone K V P) → Type 0)
      (result : Result (Option (Event × Gone K V P)) A) (new : State K V P View)
      → IfOk result (λ leave. x leave × GivesBack m old id leave new) → OnErr result (new ≡ old) →
      RecordsStay (one id) old new
  given_back_stays old id x (Ok leave) new ok err = gives_back_stays old id leave new ok.1
  given_back_stays old id x (Err e) new ok err = stay_given (one id) old new err

  -- a handle that comes and goes
  used_stays : (now : ℕ) (old : State K V P View) (k : ℕ × K) (entry : Held K V P) (mid new : State K V P View) →
      Gets m now old k (Ok (Some entry)) mid → GivesBack m mid entry.id None new → RecordsStay nothing old new
  used_stays now old k entry mid new g b j x is less = elim (eqb_tells j entry.id) [
    | inl e ↦ (let alike : g.0 ≡ x = same_rec g.0 x (sym g.2 ∙ ap old.records (sym e.1) ∙ is) in
        let more : Rec K V P = record g.0 { handles = g.0.handles + 1 } in
        let mid_is : mid.records entry.id ≡ Some more = ap (λ (s : State K V P View). s.records entry.id) g.5
        ∙ update_here old.records entry.id (Some more) in
        let same : b.rec ≡ more = same_rec b.rec more (sym b.there ∙ mid_is) in
        let n : b.rec.handles ≡ g.0.handles + 1 = ap (λ (y : Rec K V P). y.handles) same in
        let l : g.0.handles ≡ x.handles = ap (λ (y : Rec K V P). y.handles) alike in (
          record b.rec { handles = b.rec.handles - 1 },
          ap (λ (s : State K V P View). s.records j) b.after ∙ ap (after_give_back m mid entry.id b.rec).records e.1
              ∙ back_here mid entry.id b.rec b.there (omega arith),
          ap (λ (y : Rec K V P). y.kept) same ∙ ap (λ (y : Rec K V P). y.kept) alike,
          omega arith,
        ))
    | inr e ↦ (
      x,
      ap (λ (s : State K V P View). s.records j) b.after ∙ back_apart mid entry.id b.rec b.there j e.1
          ∙ ap (λ (s : State K V P View). s.records j) g.5
          ∙ update_apart old.records entry.id (Some (record g.0 { handles = g.0.handles + 1 })) j e.1 ∙ is,
      refl,
      omega arith,
    )
  ]

  pub touches_stay : (now : ℕ) (old : State K V P View) (k : ℕ × K) (answer : Result Bool Reason)
      (new : State K V P View) → Touches m now old k answer new → RecordsStay nothing old new
  touches_stay now old k (Ok false) new h = stay_same old new h.1
  touches_stay now old k (Ok true) new h = used_stays now old k h.0 h.1 new h.2 h.3
  touches_stay now old k (Err Handles) new h = stay_same old new h.5
  touches_stay now old k (Err _) new h = absurd h

  -- an insert
  pub way_stays : (o : Option ℕ) (old : State K V P View) (ls : List (Event × Gone K V P)) (new : State K V P View) →
      GivesWay m o old ls new → RecordsStay nothing old new
  way_stays None old ls new h = stay_same old new h.1
  way_stays (Some id) old ls new h = leave_stays Replace (id ∷ []) old ls (m.policy.remove old.view id) new h

  pub refused_insert_stays : (old : State K V P View) (inc : Incoming K V P) (reason : Reason)
      (ls : List (Event × Gone K V P)) (new : State K V P View) → RefusesPlain m old inc reason ls new →
      RecordsStay nothing old new
  refused_insert_stays old inc Ids ls new h = stay_same old new h.2
  refused_insert_stays old inc Handles ls new h = stay_same old new h.3
  refused_insert_stays old inc Weight ls new h = stay_same old new h.4
  refused_insert_stays old inc NoMemory ls new h =
      leave_stays Evict (ids_of h.1.left) old ls (after_pops m.policy (length h.1.left) old.view) new h.1.leave
  refused_insert_stays old inc _ ls new h = absurd h

  pub holds_stay : (old : State K V P View) (inc : Incoming K V P) (new : State K V P View)
      (replaced : List (Event × Gone K V P)) (last : State K V P View) →
      GivesWay m (old.index (key_of inc.kept)) old replaced last
      → new ≡ after_hold m last inc → GoesOnAs old inc → RecordsStay nothing old new
  holds_stay old inc new replaced last way after same =
      write_stays old last new inc false (way_stays (old.index (key_of inc.kept)) old replaced last way) same
      (λ id. ap (λ (s : State K V P View). s.records id) after)

  module _ (source : Source) (old : State K V P View) (inc : Incoming K V P) (ls : List (Event × Gone K V P))
      (entry : Held K V P) (new : State K V P View) (h : InsertsPlain m source old inc ls entry new) where
    pub inserts_stay : GoesOnAs old inc → RecordsStay nothing old new
    inserts_stay same =
        let target : ℕ = old.capacity - inc.kept.weight in
        let first = leave_stays Evict (ids_of (evicted m.policy target old.view)) old h.evictions
        (after_pops m.policy (length (evicted m.policy target old.view)) old.view) h.mid h.evicts in
        let second = way_stays (h.mid.index (key_of inc.kept)) h.mid h.replaced h.last h.gives_way in
        write_stays old h.last new inc true (stay_then nothing old h.mid h.last first second) same
        (λ id. ap (λ (s : State K V P View). s.records id) h.after)
