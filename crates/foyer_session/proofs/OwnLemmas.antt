-- The steps of a core keep what a session owns.
use Rattle.std.proofs.Common.{◌≡◌, ◌≢◌, ℕ, zero, suc, ◌+◌, ◌*◌, ◌⊎◌, ◌%◌, Bool, List, [], ◌∷◌, ◌++◌, length, set, sum_by, Option, Some, None, arith, refl, sym, ap, ◌∙◌, subst, ◌==◌, true, false, cond, inl, inr, get_or, replicate}
use Rattle.std.specs.Prelude.{slice_get, slice_set}
use Rattle.std.specs.Option.{option_flatten}
use Rattle.std.proofs.Math.Logic.{∥∥₁_elim}
use Rattle.std.proofs.Props.{props}
use Rattle.std.proofs.lemmas.Bool.Decides.{nat_tests}
use Rattle.std.proofs.lemmas.List.Sums.{sum_by-append, sum_by-set}
use Rattle.std.proofs.lemmas.List.Folds.{sum_by-replicate}
use Rattle.std.proofs.lemmas.List.{set-get_or}
use Rattle.std.proofs.lemmas.Option.{get_or_from_slice_get, slice_get_within}
use Rattle.std.proofs.Math.ListN.{length-set}
use Rattle.foyer_core.specs.Values.{Held}
use Rattle.foyer_core.specs.State.{State}
use Rattle.foyer_core.specs.Core.{Core, AtShard, Owns, shard_at, shard_of}
use Rattle.foyer_session.specs.Step.{held_at}
use Rattle.foyer_session.specs.Owns.{Counts, held_in, held_count, OwnsHandles}
use Rattle.foyer_session.proofs.CountLemmas.{gained, one_more}

-- what a list has after a write
pub get_written : {A : Type 0} (xs : List A) (i : ℕ) (y : A) (j : ℕ) (x : A) → slice_get (slice_set xs i y) j ≡ Some x
    → ((j ≡ i) × (x ≡ y)) ⊎ ((j ≢ i) × (slice_get xs j ≡ Some x))
get_written [] i y j x h = inr (λ e. absurd cc, h)
get_written (a ∷ xs) zero y zero x h = inl (refl, cc)
get_written (a ∷ xs) zero y (suc j) x h = inr (λ e. absurd (omega arith), h)
get_written (a ∷ xs) (suc i) y zero x h = inr (λ e. absurd (omega arith), h)
get_written (a ∷ xs) (suc i) y (suc j) x h = elim (get_written xs i y j x h) [
  | inl e ↦ inl (ap suc e.0, e.1)
  | inr e ↦ inr (λ same. e.0 (omega arith), e.1)
]

-- what was at a place of a list, after a write
written_get : {A : Type 0} (xs : List A) (i : ℕ) (y : A) (j : ℕ) (x : A) → slice_get xs j ≡ Some x
    → ((j ≡ i) × (slice_get (slice_set xs i y) j ≡ Some y)) ⊎ ((j ≢ i) × (slice_get (slice_set xs i y) j ≡ Some x))
written_get [] i y j x h = absurd cc
written_get (a ∷ xs) zero y zero x h = inl (refl, refl)
written_get (a ∷ xs) zero y (suc j) x h = inr (λ e. absurd (omega arith), h)
written_get (a ∷ xs) (suc i) y zero x h = inr (λ e. absurd (omega arith), h)
written_get (a ∷ xs) (suc i) y (suc j) x h = elim (written_get xs i y j x h) [
  | inl e ↦ inl (ap suc e.0, e.1)
  | inr e ↦ inr (λ same. e.0 (omega arith), e.1)
]

-- to write what is there changes nothing
pub set_same : {A : Type 0} (xs : List A) (i : ℕ) (x : A) → slice_get xs i ≡ Some x → slice_set xs i x ≡ xs
set_same xs i x h = ap (set xs i) (sym (get_or_from_slice_get xs i x x h)) ∙ set-get_or xs i x

-- a held handle is of a record of its shard
abbrev pub IsIn : {K V P : Type 0} → ℕ → ℕ → Held K V P → Type 0
IsIn shards shard entry = entry.kept.hash % shards ≡ shard

held_here : {K V P : Type 0} (shards shard id : ℕ) (entry : Held K V P) → IsIn shards shard entry →
    held_in shards shard id (Some entry) ≡ cond (entry.id == id) 1 0
held_here shards shard id entry at = let e : (entry.kept.hash % shards == shard) ≡ true = grind (arith, nat_tests) in
    rw e

held_apart : {K V P : Type 0} (shards shard id : ℕ) (entry : Held K V P) → (entry.kept.hash % shards ≢ shard) →
    held_in shards shard id (Some entry) ≡ 0
held_apart shards shard id entry at = let e : (entry.kept.hash % shards == shard) ≡ false =
    grind (arith, nat_tests) in rw e

-- the same counts
pub counts_same : {K V P View : Type 0} (s : State K V P View) (held now : ℕ → ℕ) → ((id : ℕ) → now id ≡ held id) →
    Counts s held → Counts s now
counts_same s held now same h id = omega (arith, same id, h id)

-- as many handles more in the list
push_all : {K V P : Type 0} (shards shard : ℕ) (handles : List (Option (Held K V P))) (entry : Held K V P) (more id : ℕ)
    → held_count shards (handles ++ replicate more (Some entry)) shard id
    ≡ held_count shards handles shard id + more * held_in shards shard id (Some entry)
push_all shards shard handles entry more id =
    sum_by-append (held_in shards shard id) handles (replicate more (Some entry))
    ∙ ap (λ (n : ℕ). held_count shards handles shard id + n)
    (sum_by-replicate (held_in shards shard id) more (Some entry))

so_often : (b : Bool) (more : ℕ) → more * cond b 1 0 ≡ cond b more 0
so_often true more = omega arith
so_often false more = omega arith

push_here : {K V P : Type 0} (shards shard : ℕ) (handles : List (Option (Held K V P))) (entry : Held K V P) (more : ℕ)
    → IsIn shards shard entry → (id : ℕ)
    → held_count shards (handles ++ replicate more (Some entry)) shard id
    ≡ gained (held_count shards handles shard) entry.id more id
push_here shards shard handles entry more at id =
    push_all shards shard handles entry more id
    ∙ ap (λ (n : ℕ). held_count shards handles shard id + n)
    (ap (λ (n : ℕ). more * n) (held_here shards shard id entry at) ∙ so_often (entry.id == id) more)

push_apart : {K V P : Type 0} (shards shard : ℕ) (handles : List (Option (Held K V P))) (entry : Held K V P)
    (more : ℕ) → (entry.kept.hash % shards ≢ shard) → (id : ℕ)
    → held_count shards (handles ++ replicate more (Some entry)) shard id ≡ held_count shards handles shard id
push_apart shards shard handles entry more at id =
    let none : more * held_in shards shard id (Some entry) ≡ more * 0 =
    ap (λ (n : ℕ). more * n) (held_apart shards shard id entry at) in
    let zero_times : more * 0 ≡ 0 = omega arith in
    omega (arith, push_all shards shard handles entry more id, none, zero_times)

-- a handle less in the list
found_at : {K V P : Type 0} (handles : List (Option (Held K V P))) (n : ℕ) (entry : Held K V P) → held_at handles n
    ≡ Some entry → slice_get handles n ≡ Some (Some entry)
found_at {K} {V} {P} handles n entry h = go (slice_get handles n) refl where
  go : (o : Option (Option (Held K V P))) → slice_get handles n ≡ o → slice_get handles n ≡ Some (Some entry)
  go None is =
      absurd (let e : option_flatten {T = Held K V P} None ≡ Some entry =
      sym (ap (λ (x : Option (Option (Held K V P))). option_flatten x) is) ∙ h in cc)
  go (Some o) is = is ∙ ap (λ (x : Option (Held K V P)). Some x)
      (sym (ap (λ (x : Option (Option (Held K V P))). option_flatten x) is) ∙ h)

taken : {K V P : Type 0} (f : Option (Held K V P) → ℕ) (handles : List (Option (Held K V P))) (n : ℕ)
    (entry : Held K V P) → f None ≡ 0 → held_at handles n ≡ Some entry
    → sum_by f (slice_set handles n None) + f (Some entry) ≡ sum_by f handles
taken f handles n entry none h =
    let at = found_at handles n entry h in
    let was : get_or handles n None ≡ Some entry = get_or_from_slice_get handles n (Some entry) None at in
    let w = sum_by-set f handles n None None (slice_get_within handles n (Some entry) at) in
    omega (arith, w, none, ap f was)

take_here : {K V P : Type 0} (shards shard : ℕ) (handles : List (Option (Held K V P))) (n : ℕ) (entry : Held K V P) →
    held_at handles n ≡ Some entry → IsIn shards shard entry → (id : ℕ)
    → held_count shards handles shard id ≡ one_more (held_count shards (slice_set handles n None) shard) entry.id id
take_here shards shard handles n entry h at id =
    omega (arith, taken (held_in shards shard id) handles n entry refl h, held_here shards shard id entry at)

take_apart : {K V P : Type 0} (shards shard : ℕ) (handles : List (Option (Held K V P))) (n : ℕ) (entry : Held K V P) →
    held_at handles n ≡ Some entry → (entry.kept.hash % shards ≢ shard) → (id : ℕ)
    → held_count shards (slice_set handles n None) shard id ≡ held_count shards handles shard id
take_apart shards shard handles n entry h at id =
    omega (arith, taken (held_in shards shard id) handles n entry refl h, held_apart shards shard id entry at)

-- what is held after more were handed out, or one was given back
held_alike : {K V P : Type 0} (entry : Held K V P) (more n : ℕ) (e : Held K V P) →
    held_at (replicate more (Some entry)) n ≡ Some e → e ≡ entry
held_alike entry zero n e h = absurd cc
held_alike entry (suc more) zero e h = cc
held_alike entry (suc more) (suc n) e h = held_alike entry more n e h

held_pushed : {K V P : Type 0} (handles : List (Option (Held K V P))) (entry : Held K V P) (more n : ℕ)
    (e : Held K V P) → held_at (handles ++ replicate more (Some entry)) n ≡ Some e
    → (e ≡ entry) ⊎ (held_at handles n ≡ Some e)
held_pushed [] entry more n e h = inl (held_alike entry more n e h)
held_pushed (x ∷ handles) entry more zero e h = inr h
held_pushed (x ∷ handles) entry more (suc n) e h = held_pushed handles entry more n e h

held_taken : {K V P : Type 0} (handles : List (Option (Held K V P))) (n j : ℕ) (e : Held K V P) →
    held_at (slice_set handles n None) j ≡ Some e → held_at handles j ≡ Some e
held_taken [] n j e h = h
held_taken (x ∷ handles) zero zero e h = absurd cc
held_taken (x ∷ handles) zero (suc j) e h = h
held_taken (x ∷ handles) (suc n) zero e h = h
held_taken (x ∷ handles) (suc n) (suc j) e h = held_taken handles n j e h

module _ {K V P View S W A : Type 0} (core new : Core K V P View S W A)
    (step : State K V P View → State K V P View → Type 0) (hash : ℕ)
    (at : AtShard step hash core new) (number : at.after.number ≡ at.before.number) where
  shards_same : length new.shards ≡ length core.shards
  shards_same = ap (λ (c : Core K V P View S W A). length c.shards) at.rest
      ∙ length-set core.shards (shard_of core hash) at.after

  -- what a shard is now
  now_at : (i : ℕ) (s : State K V P View) → slice_get new.shards i ≡ Some s
      → ((i ≡ shard_of core hash) × (s ≡ at.after)) ⊎ ((i ≢ shard_of core hash) × (slice_get core.shards i ≡ Some s))
  now_at i s h = get_written core.shards (shard_of core hash) at.after i s
      (sym (ap (λ (c : Core K V P View S W A). slice_get c.shards i) at.rest) ∙ h)

  -- what a shard was is there, with the same number
  was_at : (h : ℕ) (s : State K V P View) → shard_at core h ≡ Some s → (t : State K V P View)
      × (shard_at new h ≡ Some t) × (t.number ≡ s.number)
  was_at h s e =
      let place : shard_at new h ≡ slice_get (slice_set core.shards (shard_of core hash) at.after) (shard_of core h) =
      ap (λ (n : ℕ). slice_get new.shards (h % n)) shards_same
      ∙ ap (λ (c : Core K V P View S W A). slice_get c.shards (shard_of core h)) at.rest in
      elim (written_get core.shards (shard_of core hash) at.after (shard_of core h) s e) [
        | inl w ↦
            (let was : ◌≡◌ {A = Option (State K V P View)} (Some at.before) (Some s) = sym at.there
            ∙ ap (λ (j : ℕ). slice_get core.shards j) (sym w.0) ∙ e in
            let same : at.before ≡ s = cc in
            (at.after, place ∙ w.1, number ∙ ap (λ (x : State K V P View). x.number) same))
        | inr w ↦ (s, place ∙ w.1, refl)
      ]

  counts_step : (held now : ℕ → ℕ → ℕ) →
      (Counts at.before (held (shard_of core hash)) → Counts at.after (now (shard_of core hash)))
      → ((i : ℕ) → i ≢ shard_of core hash → (id : ℕ) → now i id ≡ held i id)
      → ((i : ℕ) (s : State K V P View) → slice_get core.shards i ≡ Some s → Counts s (held i))
      → (i : ℕ) (s : State K V P View) → slice_get new.shards i ≡ Some s → Counts s (now i)
  counts_step held now here apart h i s e = elim (now_at i s e) [
    | inl w ↦ subst (λ (x : State K V P View). Counts x (now i)) (sym w.1)
        (subst (λ (j : ℕ). Counts at.after (now j)) (sym w.0) (here (h (shard_of core hash) at.before at.there)))
    | inr w ↦ counts_same s (held i) (now i) (apart i w.0) (h i s w.1)
  ]

  numbered_step : (handles now : List (Option (Held K V P))) →
      ((n : ℕ) (entry : Held K V P) → held_at now n ≡ Some entry
      → (s : State K V P View) × (shard_at core entry.kept.hash ≡ Some s) × (entry.number ≡ s.number))
      → (n : ℕ) (entry : Held K V P) → held_at now n ≡ Some entry → (s : State K V P View)
      × (shard_at new entry.kept.hash ≡ Some s) × (entry.number ≡ s.number)
  numbered_step handles now was n entry h = let s = was n entry h in let t = was_at entry.kept.hash s.0 s.1 in
      (t.0, t.1, s.2 ∙ sym t.2)

  -- a step that gives and takes no handle
  pub owns_same : (handles : List (Option (Held K V P))) →
      ((held : ℕ → ℕ) → Counts at.before held → Counts at.after held) → OwnsHandles core handles →
      OwnsHandles new handles
  owns_same handles keeps owns = record {
    numbered = numbered_step handles handles owns.numbered;
    counts = rw shards_same
        (counts_step (held_count (length core.shards) handles) (held_count (length core.shards) handles)
        (keeps (held_count (length core.shards) handles (shard_of core hash))) (λ i ne id. refl) owns.counts);
  }

  -- a step that hands out so many that are alike
  pub owns_gained : (handles : List (Option (Held K V P))) (entry : Held K V P) (more : ℕ) →
      shard_of core entry.kept.hash ≡ shard_of core hash → entry.number ≡ at.before.number
      → ((held : ℕ → ℕ) → Counts at.before held → Counts at.after (gained held entry.id more)) →
      OwnsHandles core handles → OwnsHandles new (handles ++ replicate more (Some entry))
  owns_gained handles entry more is numbered gives owns = record {
    numbered = numbered_step handles (handles ++ replicate more (Some entry))
        (λ n e h. elim (held_pushed handles entry more n e h) [
          | inl same ↦ (
            at.before,
            ap (λ (x : Held K V P). shard_at core x.kept.hash) same ∙ ap (slice_get core.shards) is
                ∙ at.there,
            ap (λ (x : Held K V P). x.number) same ∙ numbered,
          )
          | inr old ↦ owns.numbered n e old
        ]);
    counts = rw shards_same
        (counts_step (held_count (length core.shards) handles)
        (held_count (length core.shards) (handles ++ replicate more (Some entry)))
        (λ c. counts_same at.after
        (gained (held_count (length core.shards) handles (shard_of core hash)) entry.id more)
        (held_count (length core.shards) (handles ++ replicate more (Some entry)) (shard_of core hash))
        (push_here (length core.shards) (shard_of core hash) handles entry more is)
        (gives (held_count (length core.shards) handles (shard_of core hash)) c))
        (λ i ne id. push_apart (length core.shards) i handles entry more (λ e. ne (sym e ∙ is)) id)
        owns.counts);
  }

  -- and one that hands one out
  pub owns_more : (handles : List (Option (Held K V P))) (entry : Held K V P) → shard_of core entry.kept.hash
      ≡ shard_of core hash → entry.number ≡ at.before.number
      → ((held : ℕ → ℕ) → Counts at.before held → Counts at.after (one_more held entry.id)) → OwnsHandles core handles
      → OwnsHandles new (handles ++ Some entry ∷ [])
  owns_more handles entry is numbered gives owns = owns_gained handles entry 1 is numbered gives owns

  -- a step that takes one back
  pub owns_less : (handles : List (Option (Held K V P))) (n : ℕ) (entry : Held K V P) → held_at handles n ≡ Some entry
      → entry.kept.hash ≡ hash
      → ((held : ℕ → ℕ) → Counts at.before (one_more held entry.id) → Counts at.after held) → OwnsHandles core handles
      → OwnsHandles new (slice_set handles n None)
  owns_less handles n entry there is takes owns = record {
    numbered = numbered_step handles (slice_set handles n None)
        (λ j e h. owns.numbered j e (held_taken handles n j e h));
    counts = rw shards_same
        (counts_step (held_count (length core.shards) handles)
        (held_count (length core.shards) (slice_set handles n None))
        (λ c. takes (held_count (length core.shards) (slice_set handles n None) (shard_of core hash))
        (counts_same at.before (held_count (length core.shards) handles (shard_of core hash))
        (one_more (held_count (length core.shards) (slice_set handles n None) (shard_of core hash)) entry.id)
        (λ id. sym
        (take_here (length core.shards) (shard_of core hash) handles n entry there
        (ap (λ (x : ℕ). x % length core.shards) is) id)) c))
        (λ i ne id. take_apart (length core.shards) i handles n entry there
        (λ e. ne (sym e ∙ ap (λ (x : ℕ). x % length core.shards) is)) id)
        owns.counts);
  }

-- nothing was handed out
pub owns_none : {K V P View S W A : Type 0} (core : Core K V P View S W A) → OwnsHandles core []
owns_none core = record { numbered = λ n e h. absurd cc; counts = λ i s h id. omega arith }

-- a held handle is the core's
pub owned_entry : {K V P View S W A : Type 0} (core : Core K V P View S W A) (handles : List (Option (Held K V P)))
    (n : ℕ) (entry : Held K V P)
    → OwnsHandles core handles → held_at handles n ≡ Some entry → Owns core entry
owned_entry core handles n entry owns there =
    let s = owns.numbered n entry there in
    let c = owns.counts (shard_of core entry.kept.hash) s.0 s.1 entry.id in
    let t = take_here (length core.shards) (shard_of core entry.kept.hash) handles n entry there refl entry.id in
    let one : ◌≡◌ {A = ℕ} (cond (entry.id == entry.id) 1 0) 1 = grind (arith, nat_tests) in
    rw s.1 (s.2, omega (arith, c, t, one))

-- the same where it is only known that the core owns the handles
pub owned_held : {K V P View S W A : Type 0} (core : Core K V P View S W A) (handles : List (Option (Held K V P)))
    (n : ℕ) (entry : Held K V P)
    → ∥ OwnsHandles core handles ∥₁ → held_at handles n ≡ Some entry → Owns core entry
owned_held {K} {V} {P} {View} core handles n entry owns there = go (shard_at core entry.kept.hash) refl
  where
    go : (o : Option (State K V P View)) → shard_at core entry.kept.hash ≡ o → Owns core entry
    go None is = absurd (∥∥₁_elim owns (hlevel props) (λ o. rw is at (owned_entry core handles n entry o there)))
    go (Some s) is = rw is (∥∥₁_elim owns (hlevel props) (λ o. rw is at (owned_entry core handles n entry o there)))

-- where the shard of a hash stays, all does
pub shard_same : {K V P View S W A : Type 0} (core new : Core K V P View S W A)
    (step : State K V P View → State K V P View → Type 0) (hash : ℕ)
    (at : AtShard step hash core new) → at.after ≡ at.before → new ≡ core
shard_same core new step hash at same =
    at.rest ∙ ap (λ (l : List (State _ _ _ _)). record core { shards = l })
    (ap (λ (x : State _ _ _ _). slice_set core.shards (shard_of core hash) x) same
    ∙ set_same core.shards (shard_of core hash) at.before at.there)
