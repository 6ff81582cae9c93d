-- The steps of a shard keep each record's handles, but for the one that they say.
use Rattle.std.proofs.Common.{◌≡◌, ◌≢◌, ℕ, ◌+◌, ◌-◌, ◌⊎◌, List, [], ◌∷◌, Option, Some, None, Ok, arith, refl, sym, ap, ◌∙◌, subst, ◌==◌, Bool, true, false, nat_eq, cond, inl, inr}
use Rattle.std.specs.Map.{update}
use Rattle.std.proofs.lemmas.Map.{update_here, update_apart}
use Rattle.std.proofs.lemmas.Bool.Decides.{eqb_tells, nat_tests}
use Rattle.foyer_policy.specs.declared.types.Event.{Event}
use Rattle.foyer_policy.specs.declared.types.Event.TheVariants.{Evict, Replace}
use Rattle.foyer_policy.specs.declared.error.Reason.{Reason}
use Rattle.foyer_policy.specs.declared.error.Reason.TheVariants.{Ids, Handles, Weight, NoMemory}
use Rattle.foyer_policy.specs.declared.types.Source.{Source}
use Rattle.foyer_core.specs.Values.{Rec, Gone, Held, Incoming}
use Rattle.foyer_core.specs.State.{Meaning, State, key_of, handles_of, handles_in}
use Rattle.foyer_core.specs.Steps.{outside, after_out, after_push, after_last, after_give_back, Leave, Evicting, Evicts, GivesWay, InsertsBy, InsertsPhantom, InsertsPlain, RefusesBy, RefusesPlain, after_hold, entry_of, Gets, GivesBack}
use Rattle.foyer_session.specs.Owns.{Counts}

-- so many more handles of this id
abbrev pub gained : (ℕ → ℕ) → ℕ → ℕ → ℕ → ℕ
gained held id more j = held j + cond (id == j) more 0

-- one more
abbrev pub one_more : (ℕ → ℕ) → ℕ → ℕ → ℕ
one_more held id = gained held id 1

-- each record has the handles that it had, and the numbers stay
pub record Alike {K V P View : Type 0} (old new : State K V P View) : Type 0 where
  pub handles : (id : ℕ) → handles_in new id ≡ handles_in old id
  pub next : new.next ≡ old.next
  pub number : new.number ≡ old.number

pub alike_refl : {K V P View : Type 0} (s t : State K V P View) → t ≡ s → Alike s t
alike_refl {K} {V} {P} {View} s t e =
    record {
      handles = λ id. ap (λ (x : State K V P View). handles_in x id) e;
      next =
          ap (λ (x : State K V P View). x.next) e;
      number = ap (λ (x : State K V P View). x.number) e;
    }

pub alike_then : {K V P View : Type 0} (a b c : State K V P View) → Alike a b → Alike b c → Alike a c
alike_then a b c x y =
    record { handles = λ id. y.handles id ∙ x.handles id; next = y.next ∙ x.next; number = y.number ∙ x.number }

outside_handles : {K V P : Type 0} (r : Rec K V P) (b : Bool) → (r.handles == 0) ≡ b → handles_of (outside r)
    ≡ r.handles
outside_handles r true is = let z : r.handles ≡ 0 = grind (arith, nat_tests) in rw is (sym z)
outside_handles r false is = rw is refl

-- the handles of what is put under an id
put_handles : {K V P : Type 0} (f : ℕ → Option (Rec K V P)) (id : ℕ) (w : Option (Rec K V P)) (j : ℕ)
    → ((j ≡ id) × (handles_of (update nat_eq f id w j) ≡ handles_of w))
    ⊎ ((j ≢ id) × (handles_of (update nat_eq f id w j) ≡ handles_of (f j)))
put_handles {K} {V} {P} f id w j = elim (eqb_tells j id) [
  | inl h ↦
      inl (
        h.1,
        subst (λ (x : ℕ). handles_of (update nat_eq f id w x) ≡ handles_of w) (sym h.1)
            (ap (λ (x : Option (Rec K V P)). handles_of x) (update_here f id w)),
      )
  | inr h ↦ inr (h.1, ap (λ (x : Option (Rec K V P)). handles_of x) (update_apart f id w j h.1))
]

module _ {K V P View C : Type 0} (m : Meaning K P View C) where
  out_alike : (s : State K V P View) (id : ℕ) (r : Rec K V P) → s.records id ≡ Some r → Alike s (after_out m s id r)
  out_alike s id r there = record {
    handles = λ j. elim (put_handles s.records id (outside r) j) [
      | inl h ↦ h.1 ∙ outside_handles r (r.handles == 0) refl
          ∙ sym (ap (λ (x : Option (Rec K V P)). handles_of x)
          (subst (λ (x : ℕ). s.records x ≡ Some r) (sym h.0) there))
      | inr h ↦ h.1
    ];
    next = refl;
    number = refl;
  }

  pub leave_alike : (e : Event) (ids : List ℕ) (old : State K V P View) (ls : List (Event × Gone K V P)) (v : View)
      (new : State K V P View)
      → Leave m e ids old ls v new → Alike old new
  leave_alike e [] old [] v new h = record {
    handles = λ id. ap (λ (x : State K V P View). handles_in x id) h;
    next = ap (λ (x : State K V P View). x.next) h;
    number = ap (λ (x : State K V P View). x.number) h;
  }
  leave_alike e [] old (l ∷ ls) v new h = absurd h
  leave_alike e (id ∷ ids) old [] v new h = absurd h
  leave_alike e (id ∷ ids) old (l ∷ ls) v new h =
      alike_then old (after_out m old id h.0) new (out_alike old id h.0 h.1)
      (leave_alike e ids (after_out m old id h.0) ls v new h.3)

  evicts_alike : (target : ℕ) (old : State K V P View) (ls : List (Event × Gone K V P)) (new : State K V P View) →
      Evicts m target old ls new → Alike old new
  evicts_alike target old ls new h = leave_alike Evict _ old ls _ new h

  evicting_alike : (target : ℕ) (old : State K V P View) (ls : List (Event × Gone K V P)) (new : State K V P View) →
      Evicting m target old ls new → Alike old new
  evicting_alike target old ls new h = leave_alike Evict _ old ls _ new h.leave

  gives_way_alike : (id : Option ℕ) (old : State K V P View) (ls : List (Event × Gone K V P)) (new : State K V P View)
      → GivesWay m id old ls new → Alike old new
  gives_way_alike None old ls new h = alike_refl old new h.1
  gives_way_alike (Some id) old ls new h = leave_alike Replace (id ∷ []) old ls (m.policy.remove old.view id) new h

  refused_alike : (old : State K V P View) (i : Incoming K V P) (reason : Reason) (ls : List (Event × Gone K V P))
      (new : State K V P View) → RefusesPlain m old i reason ls new → Alike old new
  refused_alike old i Ids ls new h = alike_refl old new h.2
  refused_alike old i Handles ls new h = alike_refl old new h.3
  refused_alike old i Weight ls new h = alike_refl old new h.4
  refused_alike old i NoMemory ls new h = evicting_alike (old.capacity - i.kept.weight) old ls new h.1
  refused_alike old i _ ls new h = absurd h

  pub refused_by_alike : (b : Bool) (old : State K V P View) (i : Incoming K V P) (reason : Reason)
      (ls : List (Event × Gone K V P)) (new : State K V P View) → RefusesBy m b old i reason ls new → Alike old new
  refused_by_alike true old i Ids ls new h = alike_refl old new h.2
  refused_by_alike true old i Handles ls new h = alike_refl old new h.3
  refused_by_alike true old i NoMemory ls new h = alike_refl old new h.2
  refused_by_alike true old i _ ls new h = absurd h
  refused_by_alike false old i reason ls new h = refused_alike old i reason ls new h

  module _ (source : Source) (old : State K V P View) (i : Incoming K V P) (ls : List (Event × Gone K V P))
      (entry : Held K V P) (new : State K V P View) where
    plain_alike : (h : InsertsPlain m source old i ls entry new) → Alike old h.last
    plain_alike h =
        alike_then old h.mid h.last (evicts_alike (old.capacity - i.kept.weight) old h.evictions h.mid h.evicts)
        (gives_way_alike (h.mid.index (key_of i.kept)) h.mid h.replaced h.last h.gives_way)

    phantom_alike : (h : InsertsPhantom m source old i ls entry new) → Alike old h.last
    phantom_alike h = gives_way_alike (old.index (key_of i.kept)) old h.replaced h.last h.gives_way

  -- the count of a record that comes in with so many handles more than there were of its id
  push_counts : (s : State K V P View) (i : Incoming K V P) (held : ℕ → ℕ) (n : ℕ) → i.handles ≡ handles_in s i.id + n
      → Counts s held → Counts (after_push m s i) (gained held i.id n)
  push_counts s i held n more h j = elim
      (put_handles s.records i.id (Some record { kept = i.kept; handles = i.handles; resident = true }) j) [
        | inl e ↦
            (let c = h j in let was : handles_in s j ≡ handles_in s i.id = ap (handles_in s) e.0 in
            let now : handles_in (after_push m s i) j ≡ i.handles = e.1 in grind (arith, nat_tests))
        | inr e ↦
            (let same : handles_in (after_push m s i) j ≡ handles_in s j = e.1 in let c = h j in let ne = e.0 in
            grind (arith, nat_tests))
      ]

  -- and of one that is held alone
  hold_counts : (s : State K V P View) (i : Incoming K V P) (held : ℕ → ℕ) (n : ℕ) → i.handles ≡ handles_in s i.id + n
      → Counts s held → Counts (after_hold m s i) (gained held i.id n)
  hold_counts s i held n more h j = elim
      (put_handles s.records i.id (Some record { kept = i.kept; handles = i.handles; resident = false }) j) [
        | inl e ↦
            (let c = h j in let was : handles_in s j ≡ handles_in s i.id = ap (handles_in s) e.0 in
            let now : handles_in (after_hold m s i) j ≡ i.handles = e.1 in grind (arith, nat_tests))
        | inr e ↦
            (let same : handles_in (after_hold m s i) j ≡ handles_in s j = e.1 in let c = h j in let ne = e.0 in
            grind (arith, nat_tests))
      ]

  pub alike_counts : (old new : State K V P View) (held : ℕ → ℕ) → Alike old new → Counts old held → Counts new held
  alike_counts old new held a h j = omega (arith, h j, a.handles j)

  module _ (source : Source) (old : State K V P View) (i : Incoming K V P) (ls : List (Event × Gone K V P))
      (entry : Held K V P) (new : State K V P View) where
    -- the entry is of what came in
    pub inserts_entry : (b : Bool) → InsertsBy m b source old i ls entry new → entry ≡ entry_of old i.id i.kept source
    inserts_entry false h = h.entry_is
    inserts_entry true h = h.entry_is

    pub inserts_counts : (b : Bool) → InsertsBy m b source old i ls entry new → (n : ℕ) → i.handles
        ≡ handles_in old i.id + n → (held : ℕ → ℕ) → Counts old held → Counts new (gained held entry.id n)
    inserts_counts false h n more held counts =
        let a = plain_alike source old i ls entry new h in
        let id : entry.id ≡ i.id = ap (λ (x : Held K V P). x.id) h.entry_is in
        let last : i.handles ≡ handles_in h.last i.id + n = more ∙ ap (λ (x : ℕ). x + n) (sym (a.handles i.id)) in
        rw (h.after, id) (push_counts h.last i held n last (alike_counts old h.last held a counts))
    inserts_counts true h n more held counts =
        let a = phantom_alike source old i ls entry new h in
        let id : entry.id ≡ i.id = ap (λ (x : Held K V P). x.id) h.entry_is in
        let last : i.handles ≡ handles_in h.last i.id + n = more ∙ ap (λ (x : ℕ). x + n) (sym (a.handles i.id)) in
        rw (h.after, id) (hold_counts h.last i held n last (alike_counts old h.last held a counts))

    pub inserts_number : (b : Bool) → InsertsBy m b source old i ls entry new → new.number ≡ old.number
    inserts_number false h = ap (λ (x : State K V P View). x.number) h.after
        ∙ (plain_alike source old i ls entry new h).number
    inserts_number true h = ap (λ (x : State K V P View). x.number) h.after
        ∙ (phantom_alike source old i ls entry new h).number

  -- other handles of a record
  count_handles : (s t : State K V P View) (id : ℕ) (r : Rec K V P) (w : Option (Rec K V P)) → s.records id ≡ Some r →
      t.records ≡ update nat_eq s.records id w
      → (j : ℕ) → ((j ≡ id) × (handles_in s j ≡ r.handles) × (handles_in t j ≡ handles_of w))
      ⊎ ((j ≢ id) × (handles_in t j ≡ handles_in s j))
  count_handles s t id r w there is j =
      let now : handles_in t j ≡ handles_of (update nat_eq s.records id w j) =
      ap (λ (f : ℕ → Option (Rec K V P)). handles_of (f j)) is in
      elim (put_handles s.records id w j) [
        | inl h ↦
            inl (
              h.0,
              ap (λ (x : Option (Rec K V P)). handles_of x)
                  (subst (λ (x : ℕ). s.records x ≡ Some r) (sym h.0) there),
              now ∙ h.1,
            )
        | inr h ↦ inr (h.0, now ∙ h.1)
      ]

  -- a record with so many handles more
  pub more_counts : (s t : State K V P View) (id : ℕ) (r : Rec K V P) (w : Option (Rec K V P)) (held : ℕ → ℕ) (n : ℕ)
      → s.records id ≡ Some r → t.records ≡ update nat_eq s.records id w
      → handles_of w ≡ r.handles + n → Counts s held → Counts t (gained held id n)
  more_counts s t id r w held n there is count h j = elim (count_handles s t id r w there is j) [
    | inl e ↦ (let c = h j in let a = e.1 in let b = e.2 in grind (arith, nat_tests))
    | inr e ↦ (let c = h j in let ne = e.0 in let same = e.1 in grind (arith, nat_tests))
  ]

  -- a record with one handle less
  less_counts : (s t : State K V P View) (id : ℕ) (r : Rec K V P) (w : Option (Rec K V P)) (held : ℕ → ℕ) →
      s.records id ≡ Some r → t.records ≡ update nat_eq s.records id w
      → handles_of w + 1 ≡ r.handles → Counts s (one_more held id) → Counts t held
  less_counts s t id r w held there is count h j = elim (count_handles s t id r w there is j) [
    | inl e ↦ (let c = h j in let same = e.0 in let a = e.1 in let b = e.2 in grind (arith, nat_tests))
    | inr e ↦ (let c = h j in let ne = e.0 in let same = e.1 in grind (arith, nat_tests))
  ]

  pub gets_counts : (now : ℕ) (old : State K V P View) (k : ℕ × K) (entry : Held K V P) (new : State K V P View)
      → Gets m now old k (Ok (Some entry)) new → (held : ℕ → ℕ) → Counts old held → Counts new (one_more held entry.id)
  gets_counts now old k entry new h held counts =
      more_counts old new entry.id h.0 (Some (record h.0 { handles = h.0.handles + 1 })) held 1 h.2
      (ap (λ (x : State K V P View). x.records) h.5) refl counts

  -- another record, or none, is under an id
  abbrev Puts : State K V P View → State K V P View → ℕ → ℕ → Type 0
  Puts s t id n = (w : Option (Rec K V P)) × (t.records ≡ update nat_eq s.records id w) × (handles_of w ≡ n)
      × (t.number ≡ s.number)

  last_put : (s : State K V P View) (id : ℕ) (r : Rec K V P) (b : Bool) → r.resident ≡ b →
      Puts s (after_last m s id r) id 0
  last_put s id r true is =
      let e : after_last m s id r ≡ record s {
        view = m.policy.release s.view id;
        records =
            update nat_eq s.records id (Some (record r { handles = 0 }));
      } =
      ap (λ (t : Bool). cond t
      (record s {
        view = m.policy.release s.view id;
        records =
            update nat_eq s.records id (Some (record r { handles = 0 }));
      })
      (record s { records = update nat_eq s.records id None })) is in (
        Some (record r { handles = 0 }),
        ap (λ (x : State K V P View). x.records) e,
        refl,
        ap (λ (x : State K V P View). x.number) e,
      )
  last_put s id r false is =
      let e : after_last m s id r ≡ record s { records = update nat_eq s.records id None } =
      ap (λ (t : Bool). cond t
      (record s {
        view = m.policy.release s.view id;
        records =
            update nat_eq s.records id (Some (record r { handles = 0 }));
      })
      (record s { records = update nat_eq s.records id None })) is in
      (None, ap (λ (x : State K V P View). x.records) e, refl, ap (λ (x : State K V P View). x.number) e)

  give_back_put : (s : State K V P View) (id : ℕ) (r : Rec K V P) (b : Bool) → (r.handles == 1) ≡ b →
      Puts s (after_give_back m s id r) id (r.handles - 1)
  give_back_put s id r true is =
      let one : r.handles ≡ 1 = grind (arith, nat_tests) in
      let p = last_put s id r r.resident refl in
      let e : after_give_back m s id r ≡ after_last m s id r = rw is refl in (
        p.0,
        ap (λ (x : State K V P View). x.records) e ∙ p.1,
        omega (arith, p.2),
        ap (λ (x : State K V P View). x.number) e ∙ p.3,
      )
  give_back_put s id r false is =
      let e : after_give_back m s id r ≡ record s
      { records = update nat_eq s.records id (Some (record r { handles = r.handles - 1 })) } = rw is refl in (
        Some (record r { handles = r.handles - 1 }),
        ap (λ (x : State K V P View). x.records) e,
        refl,
        ap (λ (x : State K V P View). x.number) e,
      )

  pub gives_back_counts : (old : State K V P View) (id : ℕ) (leave : Option (Event × Gone K V P))
      (new : State K V P View)
      → GivesBack m old id leave new → (held : ℕ → ℕ) → Counts old (one_more held id) → Counts new held
  gives_back_counts old id leave new h held counts =
      let p = give_back_put old id h.rec (h.rec.handles == 1) refl in
      less_counts old new id h.rec p.0 held h.there (ap (λ (x : State K V P View). x.records) h.after ∙ p.1)
      (omega (arith, p.2, h.held)) counts

  pub gives_back_number : (old : State K V P View) (id : ℕ) (leave : Option (Event × Gone K V P))
      (new : State K V P View)
      → GivesBack m old id leave new → new.number ≡ old.number
  gives_back_number old id leave new h =
      let p = give_back_put old id h.rec (h.rec.handles == 1) refl in
      ap (λ (x : State K V P View). x.number) h.after ∙ p.3
