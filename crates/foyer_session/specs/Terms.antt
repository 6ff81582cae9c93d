-- What a session is over.
use Rattle.std.specs.Prelude.{ℕ, Bool}
use Rattle.foyer_policy.specs.Policy.{Policy}
use Rattle.foyer_core.specs.State.{Meaning}
use Rattle.foyer_policy.specs.Moments.{timed}

-- When keys are equal, what its policy does and what properties answer, the hash that a hash builder gives a key,
-- what a weighter and a filter may answer of a key and a value, and the properties with which a record comes in, by
-- what the filter answered.
pub record Terms (K V P View C S W A : Type 0) : Type 1 where
  pub meaning : Meaning K P View C
  pub hash : S → K → ℕ
  pub weighs : W → K → V → ℕ → Type 0
  pub admits : A → K → V → Bool → Type 0
  pub incoming : Bool → P → P

-- the same with this policy
abbrev pub with_policy : {K V P View C S W A : Type 0} → Policy View C → Terms K V P View C S W A →
    Terms K V P View C S W A
with_policy policy t = record t { meaning = record t.meaning { policy = policy } }

-- the same at a moment
abbrev pub terms_at : {K V P View C S W A : Type 0} → ℕ → Terms K V P View C S W A → Terms K V P View C S W A
terms_at now t = with_policy (timed now t.meaning.policy) t
