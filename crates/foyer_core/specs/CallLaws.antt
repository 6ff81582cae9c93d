-- What follows from a call of a core, and what an insert makes of those who wait.
use Rattle.std.specs.Prelude.{◌≡◌, ℕ, Bool, false, List, IfOk, MatchResult, Result}
use Rattle.foyer_policy.specs.declared.types.Event.{Event}
use Rattle.foyer_core.specs.declared.outcome.Answers.{Answers}
use Rattle.foyer_core.specs.Core.{Core}
use Rattle.foyer_core.specs.CoreFetches.{at_hash, open_in}
use Rattle.foyer_core.specs.Inflight.{Opens, closed, waiters_of}
use Rattle.foyer_core.specs.Laws.{Finds, HandlesStay, IsBoundedAt, IsOutside}
use Rattle.foyer_core.specs.Observed.{IsTold, IsToldWith}
use Rattle.foyer_core.specs.State.{Meaning, is_phantom_record, key_of}
use Rattle.foyer_core.specs.Values.{Denied, Gone, Held, Made}
use Rattle.foyer_core.specs.Waited.{AnswersEach}

-- Whoever has a handle that is not given back still has it, and these leaves tell of the index. `given e` is how many
-- handles of an entry's record are given back, and `hash` gives each key its hash.
pub record CallLaws {K V P View S W A : Type 0} (same : K → K → Bool) (hash : K → ℕ) (given : Held K V P → ℕ)
    (old : Core K V P View S W A) (leaves : List (Event × Gone K V P)) (new : Core K V P View S W A) : Type 0 where
  pub stay : HandlesStay given old new
  pub told : IsTold same hash old leaves new

-- Those who wait for the key of a record that came in, of which this is an entry, get one each, and the key's fetch is
-- closed, in the shard of a hash. `same` says when keys are equal.
pub record AnswersIn {K V P N R : Type 0} (same : K → K → Bool) (hash : ℕ) (entry : Held K V P)
    (answers : Answers K V P N) (fetches after : List (Opens K N R)) : Type 0 where
  pub each : AnswersEach (waiters_of (open_in fetches (key_of entry.kept))) entry answers
  pub closes : after ≡ at_hash (λ f. closed same f (key_of entry.kept)) fetches hash

-- an entry of a new record of this hash, key and value
pub record IsNewEntry {K V P View S W A : Type 0} (core : Core K V P View S W A) (hash : ℕ) (key : K) (value : V)
    (entry : Held K V P) : Type 0 where
  pub hash_is : entry.kept.hash ≡ hash
  pub key_is : entry.kept.key ≡ key
  pub value_is : entry.kept.value ≡ value
  pub outside : IsOutside core hash entry.id

-- What follows from an insert in the shard of a hash: whoever has a handle still has it, the leaves and what came in
-- tell of the index, a get of an equal key finds what came in, unless it is phantom or expired by then, and the shard's
-- usage is bounded, where it was not in before. `before` and `after` give each key its hash.
pub record InsertLaws {K V P View C S W A : Type 0} (m : Meaning K P View C) (before after : K → ℕ) (hash : ℕ)
    (old : Core K V P View S W A) (result : Result (Made K V P) (Denied K V P)) (new : Core K V P View S W A) : Type 0
  where
    pub stay : HandlesStay (λ _. 0) old new
    pub told : MatchResult result
        (λ made. IsToldWith m.same before m.phantom old made.leaves made.entry.id made.entry.kept new)
        (λ denied. IsTold m.same before old denied.leaves new)
    pub found : IfOk result (λ made. is_phantom_record m made.entry.kept ≡ false →
        Finds m after new made.entry.kept.key made.entry.kept.value made.entry.kept.properties)
    pub bounded : IfOk result (λ made. is_phantom_record m made.entry.kept ≡ false → IsOutside old hash made.entry.id →
        IsBoundedAt m hash made.entry.kept.weight old new)
