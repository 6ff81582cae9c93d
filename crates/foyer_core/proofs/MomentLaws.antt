-- What follows from a core's steps at a moment says nothing of the moment.
use Rattle.std.proofs.Common.{ℕ, List, ◌∷◌, [], Option, Some, None, Bool, Ok, Err}
use Rattle.std.specs.Prelude.{Result}
use Rattle.foyer_policy.specs.declared.error.Reason.{Reason}
use Rattle.foyer_policy.specs.declared.error.Reason.TheVariants.{Handles, NoMemory}
use Rattle.foyer_policy.specs.declared.types.Event.{Event}
use Rattle.foyer_policy.specs.declared.types.Location.{Location}
use Rattle.foyer_core.specs.declared.outcome.FetchTarget.{FetchTarget}
use Rattle.foyer_core.specs.declared.outcome.FetchTarget.TheVariants.{Entry, Piece as PieceOf}
use Rattle.foyer_core.specs.CallLaws.{InsertLaws}
use Rattle.foyer_core.specs.Core.{Core}
use Rattle.foyer_core.specs.CoreBulk.{OfShards, Resizes, SharesOut}
use Rattle.foyer_core.specs.FetchLaws.{BoundsTarget, FindsTarget, IfEntries}
use Rattle.foyer_core.specs.Laws.{Finds}
use Rattle.foyer_core.specs.State.{Meaning, State, at_moment}
use Rattle.foyer_core.specs.Steps.{Gets}
use Rattle.foyer_core.specs.Values.{Denied, Gone, Held, Made}

-- what is so of the entry that a fetch answers
entries_map : {K V P : Type 0} (A B : Held K V P → Type 0) → ((e : Held K V P) → A e → B e)
    → (outcome : Result (Option (List (Held K V P))) Reason) → IfEntries outcome A → IfEntries outcome B
entries_map A B so (Ok (Some (e ∷ more))) h = so e h
entries_map A B so (Ok (Some [])) h = tt
entries_map A B so (Ok None) h = tt
entries_map A B so (Err reason) h = tt

module _ {K V P View C : Type 0} (m : Meaning K P View C) (now : ℕ) where
  gets_at : (later : ℕ) (s : State K V P View) (k : ℕ × K) (answer : Result (Option (Held K V P)) Reason)
      (t : State K V P View) → Gets m later s k answer t → Gets (at_moment now m) later s k answer t
  gets_at later s k (Ok None) t h = h
  gets_at later s k (Ok (Some entry)) t h = h
  gets_at later s k (Err Handles) t h = h
  gets_at later s k (Err NoMemory) t h = h
  gets_at later s k (Err _) t h = absurd h

  module _ {S W A : Type 0} where
    finds_at : (hash : K → ℕ) (core : Core K V P View S W A) (key : K) (value : V) (properties : P) →
        Finds (at_moment now m) hash core key value properties → Finds m hash core key value properties
    finds_at hash core key value properties h later live k same answer new got = h later live k same answer new record {
      before = got.before;
      after = got.after;
      there = got.there;
      stepped = gets_at later got.before (hash k, k) answer got.after got.stepped;
      rest = got.rest;
    }

    -- from an insert
    pub laws_at : (before after : K → ℕ) (hash : ℕ) (old : Core K V P View S W A)
        (answer : Result (Made K V P) (Denied K V P)) (new : Core K V P View S W A) →
        InsertLaws (at_moment now m) before after hash old answer new → InsertLaws m before after hash old answer new
    laws_at before after hash old (Ok made) new h = record {
      stay = h.stay;
      told = h.told;
      found = λ plain.
          let d = made.entry.kept in finds_at after new d.key d.value d.properties (h.found plain);
      bounded = h.bounded;
    }
    laws_at before after hash old (Err denied) new h =
        record { stay = h.stay; told = h.told; found = tt; bounded = tt }

    -- from the end of a fetch
    module _ (hash : K → ℕ) (location : P → Option Location) (admits : K → V → Bool → Type 0) where
      pub finds_target_at : (target : FetchTarget K V P) (key : K)
          (outcome : Result (Option (List (Held K V P))) Reason) (new : Core K V P View S W A) →
          FindsTarget (at_moment now m) hash location admits target key outcome new →
          FindsTarget m hash location admits target key outcome new
      finds_target_at (Entry value p) key outcome new h = λ plain sure. entries_map _ _
          (λ e so. finds_at hash new key value e.kept.properties so) outcome (h plain sure)
      finds_target_at (PieceOf piece) key outcome new h = entries_map _ _
          (λ e so plain. finds_at hash new e.kept.key e.kept.value e.kept.properties (so plain)) outcome h

    pub bounds_target_at : (location : P → Option Location) (admits : K → V → Bool → Type 0)
        (target : FetchTarget K V P) (hash : ℕ) (key : K) (outcome : Result (Option (List (Held K V P))) Reason)
        (old new : Core K V P View S W A) →
        BoundsTarget (at_moment now m) location admits target hash key outcome old new →
        BoundsTarget m location admits target hash key outcome old new
    bounds_target_at location admits (Entry value p) hash key outcome old new h = h
    bounds_target_at location admits (PieceOf piece) hash key outcome old new h = h

    -- shares are given out alike at each moment
    pub resized_at : (capacity : ℕ)
        (evicts : List (State K V P View) → List (Event × Gone K V P) → List (State K V P View) → Type 0)
        (old : Core K V P View S W A) (ls : List (Event × Gone K V P)) (new : Core K V P View S W A)
        (shared : List (State K V P View)) → SharesOut m capacity old.shards shared
        → OfShards evicts (record old { capacity = capacity; shards = shared }) ls new
        → Resizes (at_moment now m) evicts capacity old ls new
    resized_at capacity evicts old ls new shared shares evicted = record {
      shared = shared;
      shares = record { counted = shares.counted; each = shares.each };
      evicted = evicted;
    }
