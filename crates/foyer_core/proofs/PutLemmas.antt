-- What a put makes of its shard, and of a core.
use Rattle.std.proofs.Common.{◌≡◌, ℕ, ◌+◌, ◌%◌, ◌<◌, ◌⊎◌, [], ◌∷◌, length, List, map, Option, Some, None, Ok, Err, Bool, true, refl, sym, ◌∙◌, ap, subst, inl, inr}
use Rattle.std.specs.Prelude.{IfNone, IfOk, IfSome, MatchResult, OnErr, OnOk, Result, slice_index_or, slice_set}
use Rattle.std.specs.Cmp.{IsEquivalence}
use Rattle.foyer_policy.specs.Policy.{IsPolicy}
use Rattle.foyer_policy.specs.declared.error.Reason.{Reason}
use Rattle.foyer_policy.specs.declared.error.Reason.TheVariants.{NoMemory}
use Rattle.foyer_policy.specs.declared.types.Event.{Event}
use Rattle.foyer_policy.specs.declared.types.Event.TheVariants.{Remove}
use Rattle.foyer_policy.specs.declared.types.Source.TheVariants.{Outer}
use Rattle.foyer_core.specs.declared.outcome.InsertedOnto.{InsertedOnto}
use Rattle.foyer_core.specs.declared.outcome.PutOnto.{PutOnto}
use Rattle.foyer_core.specs.declared.record.Data.{Data}
use Rattle.foyer_core.specs.Bulk.{TakesRecordOut}
use Rattle.foyer_core.specs.CallLaws.{AnswersIn, IsNewEntry}
use Rattle.foyer_core.specs.Core.{AtShard, Core, shard_at, shard_of}
use Rattle.foyer_core.specs.CoreFetches.{open_in}
use Rattle.foyer_core.specs.Inflight.{Opens, OpenFetch, closed, waiters_of}
use Rattle.foyer_core.specs.NoEntry.{PutsAnswering, last_of}
use Rattle.foyer_core.specs.State.{Meaning, State, at_moment, key_of}
use Rattle.foyer_core.specs.Steps.{entry_of, newcomer}
use Rattle.foyer_core.specs.Values.{Gone, Held, Rec}
use Rattle.foyer_core.specs.Waited.{AnswersEach, waiting_for}
use Rattle.foyer_core.proofs.Answered.{answers_over, comes_new}
use Rattle.foyer_core.proofs.CoreLemmas.{at_over, core_over}
use Rattle.foyer_core.proofs.CoreTold.{AreSound}
use Rattle.foyer_core.proofs.FetchesOver.{opened_over}
use Rattle.foyer_core.proofs.LeaveLemmas.{leave-rests}
use Rattle.foyer_core.proofs.Origins.{RecordsFrom, emplaced_from, from_same, gives_back_from}
use Rattle.foyer_core.proofs.Returning.{inserted_entry}

module _ {K V P View C : Type 0} (New : Data K V P → Type 0) (m : Meaning K P View C) where
  from_both : (old mid new : State K V P View) → RecordsFrom New old mid → RecordsFrom New mid new → RecordsFrom New old new
  from_both old mid new first second id r there = elim (second id r there) [
    | inl q ↦ elim (first id q.0 q.1) [
      | inl o ↦ inl (o.0, o.1, q.2 ∙ o.2)
      | inr n ↦ inr (subst New (sym q.2) n)
    ]
    | inr n ↦ inr n
  ]

  -- each record after a put was there, or has its data
  pub puts_from : (now : ℕ) (old : State K V P View) (d : Data K V P) (handles : ℕ)
      (r : Result (Option (Event × Gone K V P)) Reason) (ls : List (Event × Gone K V P)) (new : State K V P View)
      → PutsAnswering m now old (newcomer old d handles) r ls new → New d → RecordsFrom New old new
  puts_from now old d handles (Ok last) ls new h so =
      from_both old h.mid new
      (emplaced_from New (at_moment now m) {A = Unit {0}} {B = Unit {0}} (Ok tt) (λ _. ls) (λ _. h.entry) (λ _. NoMemory) (λ _. ls)
      Outer old d handles h.mid h.inserts so)
      (gives_back_from New m h.mid h.entry.id last new h.gives_back)
  puts_from now old d handles (Err reason) ls new h so =
      emplaced_from New (at_moment now m) {A = Unit {0}} {B = Unit {0}} (Err tt) (λ _. ls) (λ _. entry_of old 0 d Outer) (λ _. reason)
      (λ _. ls) Outer old d handles new h so

  -- and each after a record was taken out
  pub taken_from : (old : State K V P View) (id : ℕ) (left : Option (Gone K V P)) (new : State K V P View) →
      IfSome left (λ gone. TakesRecordOut m old id gone new) → IfNone left (new ≡ old) → RecordsFrom New old new
  taken_from old id None new taken none = from_same New old new none
  taken_from old id (Some gone) new taken none =
      λ i r there. inl ((leave-rests m Remove (id ∷ []) old ((Remove, gone) ∷ []) (m.policy.remove old.view id) new
      (taken.rec, taken.there, ap (λ (g : Gone K V P). (Remove, g)) taken.gone_is, taken.after)).records i r there)

-- so for a core as what a list of shards shows
module _ {X K V P View C S W A N R : Type 0} (m : Meaning K P View C) (f : X → State K V P View) (h : X → Opens K N R)
    (capacity : ℕ) (b : S) (w : W) (a : A)
    (xs : List X) (hash n i : ℕ) (x y : X)
    (many : n ≡ length xs) (within : i < n) (place : i ≡ hash % n) (read : x ≡ slice_index_or xs i x) (now : ℕ)
    (d : Data K V P) (here : d.hash ≡ hash) where
  pub puts_over : (r : Result (Option (Event × Gone K V P)) Reason) (ls : List (Event × Gone K V P))
      → PutsAnswering m now (f x) (newcomer (f x) d (1 + waiting_for (h x) (key_of d))) r ls (f y)
      → AtShard
      (λ s t. PutsAnswering m now s
      (newcomer s d (1 + length (waiters_of (open_in (map h xs) (key_of d))))) r ls t)
      hash (core_over f capacity b w a xs) (core_over f capacity b w a (slice_set xs i y))
  puts_over r ls did = at_over f capacity b w a xs hash n i x many within place read
      (λ s t. PutsAnswering m now s
      (newcomer s d (1 + length (waiters_of (open_in (map h xs) (key_of d))))) r ls t) y
      (subst (λ (o : Option (OpenFetch N R)). PutsAnswering m now (f x)
      (newcomer (f x) d (1 + length (waiters_of o))) r ls (f y))
      (sym (opened_over h xs d.hash n i x many within (place ∙ ap (λ (k : ℕ). k % n) (sym here)) read d.key)) did)

  -- those who wait are answered in the shard, by entries like this one
  pub put_answers : (entry : Held K V P) → entry.kept ≡ d → (r : Result (PutOnto K V P N) Reason)
      → IfOk r (λ put. AnswersEach (waiters_of ((h x).by_key (key_of d))) entry put.answers)
      → OnOk r (h y ≡ closed m.same (h x) (key_of d)) → OnErr r (h y ≡ h x)
      → MatchResult r
      (λ put. AnswersIn m.same hash entry put.answers (map h xs) (map h (slice_set xs i y)))
      (λ reason. map h (slice_set xs i y) ≡ map h xs)
  put_answers entry is (Ok put) each shut same =
      answers_over m f h capacity b w a xs hash n i x y many within place read
      (Ok (record { entry = entry; answers = put.answers }))
      (ap (λ (q : Data K V P). q.hash % n) is ∙ ap (λ (k : ℕ). k % n) here ∙ sym place)
      (subst (λ (q : Data K V P). AnswersEach (waiters_of ((h x).by_key (key_of q))) entry put.answers) (sym is) each)
      (subst (λ (q : Data K V P). h y ≡ closed m.same (h x) (key_of q)) (sym is) shut) tt
  put_answers entry is (Err reason) each shut same =
      answers_over m f h capacity b w a xs hash n i x y many within place read (Err reason) tt tt tt same

-- the entry of a put is new
module _ {K V P View C S W A : Type 0} (m : Meaning K P View C) (laws : IsEquivalence m.same)
    (hash : K → ℕ) (equal : (a b : K) → m.same a b ≡ true → hash a ≡ hash b)
    (old new : Core K V P View S W A) (now : ℕ) (good : IsPolicy (at_moment now m).policy)
    (sound : AreSound (at_moment now m) laws good hash equal (length old.shards) old.shards)
    (d : Data K V P) (hashed : d.hash ≡ hash d.key) (handles : ℕ) (ls : List (Event × Gone K V P)) where
  put_new : (s : State K V P View) → shard_at old d.hash ≡ Some s → (last : Option (Event × Gone K V P))
      → AtShard (λ s t. PutsAnswering m now s (newcomer s d handles) (Ok last) ls t) d.hash old new
      → IsNewEntry old d.hash d.key d.value (entry_of s s.next d Outer)
  put_new s there last at =
      let put = at.stepped in
      let same : at.before ≡ s = (let e : Some at.before ≡ Some s = sym at.there ∙ there in cc) in
      let is = inserted_entry (at_moment now m) Outer at.before (newcomer at.before d handles) ls put.entry put.mid
      put.inserts in
      subst (λ (x : State K V P View). IsNewEntry old d.hash d.key d.value (entry_of x x.next d Outer)) same
      (subst (λ (e : Held K V P). IsNewEntry old d.hash d.key d.value e) is
      (comes_new (at_moment now m) laws good hash equal old
      (record old { shards = slice_set old.shards (shard_of old d.hash) put.mid }) sound Outer d hashed handles
      (Ok (record { entry = put.entry; leaves = ls }))
      record { before = at.before; after = put.mid; there = at.there; stepped = put.inserts; rest = refl }))

  pub put_if_new : {N : Type 0} (s : State K V P View) → shard_at old d.hash ≡ Some s
      → (r : Result (PutOnto K V P N) Reason)
      → AtShard (λ s t. PutsAnswering m now s (newcomer s d handles) (last_of r) ls t) d.hash old new
      → IfOk r (λ put. IsNewEntry old d.hash d.key d.value (entry_of s s.next d Outer))
  put_if_new s there (Ok put) at = put_new s there put.last at
  put_if_new s there (Err reason) at = tt

-- the entries that those who wait get are of the new record
pub new_answers : {K V P View S W A N R : Type 0} (same : K → K → Bool) (old : Core K V P View S W A) (hash : ℕ) (key : K)
    (value : V) (fs gs : List (Opens K N R)) (entry : Held K V P) (r : Result (PutOnto K V P N) Reason)
    → IfOk r (λ put. IsNewEntry old hash key value entry)
    → MatchResult r (λ put. AnswersIn same hash entry put.answers fs gs) (λ _. gs ≡ fs)
    → MatchResult r (λ put. (e : Held K V P) × IsNewEntry old hash key value e × AnswersIn same hash e put.answers fs gs)
    (λ _. gs ≡ fs)
new_answers same old hash key value fs gs entry (Ok put) new answers = (entry, new, answers)
new_answers same old hash key value fs gs entry (Err reason) new answers = answers

-- what follows of what there is, or of nothing
pub if_some : {A : Type 0} (o : Option A) (P Q : A → Type 0) → ((a : A) → P a → Q a) → IfSome o P → IfSome o Q
if_some None P Q so h = tt
if_some (Some a) P Q so h = so a h

pub if_none : {A : Type 0} (o : Option A) (P Q : Type 0) → (P → Q) → IfNone o P → IfNone o Q
if_none None P Q so h = so h
if_none (Some a) P Q so h = tt
