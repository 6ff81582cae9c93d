-- Inserts and removals that depend on what a key has.
use Rattle.std.specs.Prelude.{◌≡◌, ◌+◌, ◌⊎◌, ℕ, IfOk, IfSome, IsTrue, List, [], MatchResult, Option, Some, None, Result, Ok, Err}
use Rattle.foyer_policy.specs.Properties.{is_phantom}
use Rattle.foyer_policy.specs.declared.error.Reason.{Reason}
use Rattle.foyer_policy.specs.declared.error.Reason.TheVariants.{NoMemory}
use Rattle.foyer_policy.specs.declared.types.Event.{Event}
use Rattle.foyer_policy.specs.declared.types.Source.TheVariants.{Outer}
use Rattle.foyer_core.specs.Conditional.{is_current}
use Rattle.foyer_core.specs.Inflight.{Opens, closed, waiters_of}
use Rattle.foyer_core.specs.NoEntry.{PutsAnswering, last_of}
use Rattle.foyer_core.specs.State.{Meaning, State, at_moment, key_of}
use Rattle.foyer_core.specs.Stats.{counted}
use Rattle.foyer_core.specs.Steps.{Gets, GivesBack, Inserts, RefusesInsert, entry_of, newcomer}
use Rattle.foyer_core.specs.Values.{Gone, Held}
use Rattle.foyer_core.specs.Waited.{AnswersEach, waiting_for}
use Rattle.foyer_core.specs.declared.outcome.InsertedOnto.{InsertedOnto}
use Rattle.foyer_core.specs.declared.outcome.PutOnto.{PutOnto}
use Rattle.foyer_core.specs.declared.record.Data.{Data}
use Rattle.foyer_core.specs.declared.stats.Counted.TheVariants.{Hit, Miss, Refused}
use Rattle.foyer_core.specs.declared.stats.Stats.{Stats}
use Rattle.foyer_raw.specs.Counts.{leaves_counted, put_counted}
use Rattle.foyer_raw.specs.Told.{IsOf}
use Rattle.foyer_raw.specs.declared.replaced.Replaced.{Replaced}
use Rattle.foyer_raw.specs.declared.replaced.Replaced.TheVariants.{Changed, Inserted}

module _ {K V P View C : Type 0} (m : Meaning K P View C) (now : ℕ) (s : State K V P View) where
  -- a key of a shard still has what was seen: the record of this entry of the shard, or no record that a look-up finds
  abbrev pub StillHas : ℕ × K → Option (Held K V P) → Type 0
  StillHas k (Some e) = IsOf s e × (e.kept.hash ≡ k.0) × IsTrue (is_current m now s k (Some e.id))
  StillHas k None = IsTrue (is_current m now s k None)

  -- an insert of a record with so many handles, which returned this, and at which these left
  abbrev pub InsertsOnto : {N : Type 0} → Data K V P → ℕ → Result (InsertedOnto K V P N) Reason →
      List (Event × Gone K V P) → State K V P View → Type 0
  InsertsOnto d handles (Ok made) ls new = Inserts (at_moment now m) Outer s (newcomer s d handles) ls made.entry new
  InsertsOnto d handles (Err reason) ls new =
      RefusesInsert (at_moment now m) s (newcomer s d handles) reason ls new

module _ {X Y : Type 0} where
  -- what an insert returned, if there was one
  abbrev pub IfInserting : Result (Replaced X Y) Reason → (Result X Reason → Type 0) → Type 0
  IfInserting (Ok (Inserted made)) Q = Q (Ok made)
  IfInserting (Ok (Changed found)) Q = ⊥
  IfInserting (Err reason) Q = Q (Err reason)

  -- what a look-up returned, if nothing was to be inserted
  abbrev pub IfChanged : Result (Replaced X Y) Reason → (Result (Option Y) Reason → Type 0) → Type 0
  IfChanged (Ok (Inserted made)) Q = ⊥
  IfChanged (Ok (Changed found)) Q = Q (Ok found)
  IfChanged (Err reason) Q = Q (Err reason)

  -- what holds of what was inserted
  abbrev pub IfInserted : Result (Replaced X Y) Reason → (X → Type 0) → Type 0
  IfInserted (Ok (Inserted made)) Q = Q made
  IfInserted (Ok (Changed found)) Q = Unit {0}
  IfInserted (Err reason) Q = Unit {0}

  -- what holds of what the key has instead
  abbrev pub IfFound : Result (Replaced X Y) Reason → (Y → Type 0) → Type 0
  IfFound (Ok (Inserted made)) Q = Unit {0}
  IfFound (Ok (Changed found)) Q = IfSome found Q
  IfFound (Err reason) Q = Unit {0}

-- what an insert returned, if the record fits
abbrev pub IfFitting : {X : Type 0} → Result (Option X) Reason → (Result X Reason → Type 0) → Type 0
IfFitting (Ok (Some made)) Q = Q (Ok made)
IfFitting (Ok None) Q = ⊥
IfFitting (Err reason) Q = Q (Err reason)

-- the data of a record, copied, with this expiry
pub record IsAgain {K V P : Type 0} (is_key : K → K → Type 0) (is_value : V → V → Type 0) (are_properties : P → P → Type 0)
    (with_expiry_of : P → Option ℕ → P) (expires : Option ℕ) (kept again : Data K V P) : Type 0 where
  pub properties : P
  pub copied : are_properties kept.properties properties
  pub expiring : again.properties ≡ with_expiry_of properties expires
  pub key : is_key kept.key again.key
  pub value : is_value kept.value again.value
  pub rest : (again.hash ≡ kept.hash) × (again.weight ≡ kept.weight)

module _ {K V P View C : Type 0} (m : Meaning K P View C) (now : ℕ) where
  -- the key hits the record of this entry, which is given back at once
  pub record Uses (k : ℕ × K) (entry : Held K V P) (old new : State K V P View) : Type 0 where
    pub mid : State K V P View
    pub gets : Gets m now old k (Ok (Some entry)) mid
    pub gives_back : GivesBack m mid entry.id None new

  module _ {N R : Type 0} (is_again : Data K V P → Data K V P → Type 0) (k : ℕ × K) where
    -- The record that the key hits is used, and its data, copied, are put in, which answers this.
    pub record PutsAgain (put : Result (PutOnto K V P N) Reason) (ls : List (Event × Gone K V P))
        (old new : State K V P View) (opens opens' : Opens K N R) (stats stats' : Stats) : Type 0 where
      pub entry : Held K V P
      pub used : State K V P View
      pub uses : Uses k entry old used
      pub kept : Data K V P
      pub again : is_again entry.kept kept
      pub puts : PutsAnswering m now used (newcomer used kept (1 + waiting_for opens (key_of kept))) (last_of put) ls new
      pub answers : IfOk put (λ p. AnswersEach (waiters_of (opens.by_key (key_of kept)))
          (entry_of used used.next kept Outer) p.answers)
      pub closes : MatchResult put (λ _. opens' ≡ closed m.same opens (key_of kept)) (λ _. opens' ≡ opens)
      pub counts : stats' ≡ leaves_counted m.phantom m.expires now ls
          (put_counted (is_phantom (m.phantom kept.properties)) put (counted Hit stats))

    -- what a look-up and a put of what it hits, with another expiry, answer; F7 comes also where the data can't be copied
    abbrev pub SetsExpiry : Result (Option (PutOnto K V P N)) Reason → List (Event × Gone K V P) → State K V P View →
        State K V P View → Opens K N R → Opens K N R → Stats → Stats → Type 0
    SetsExpiry (Ok None) ls old new opens opens' stats stats' =
        Gets m now old k (Ok None) new × (ls ≡ []) × (opens' ≡ opens) × (stats' ≡ counted Miss stats)
    SetsExpiry (Ok (Some put)) ls old new opens opens' stats stats' = PutsAgain (Ok put) ls old new opens opens' stats stats'
    SetsExpiry (Err reason) ls old new opens opens' stats stats' =
        PutsAgain (Err reason) ls old new opens opens' stats stats'
        ⊎ ((ls ≡ []) × (opens' ≡ opens)
        × ((Gets m now old k (Err reason) new × (stats' ≡ stats))
        ⊎ ((reason ≡ NoMemory) × ((entry : Held K V P) × Uses k entry old new)
        × (stats' ≡ counted Refused (counted Hit stats)))))
