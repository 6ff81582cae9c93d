-- Who waits with a token, and how many.
use Rattle.std.specs.Prelude.{◌≡◌, ℕ, ◌+◌, ◌%◌, ◌⊎◌, ◌==◌, ◌&&◌, Bool, true, cond, List, [], ◌∷◌, Some, length}
use Rattle.foyer_core.specs.Chains.{has}
use Rattle.foyer_core.specs.CoreFetches.{open_in}
use Rattle.foyer_core.specs.Inflight.{Opens, OpenFetch, tokens_of}

-- a token of the shard of this number waits for a key
pub record WaitsIn {K N R : Type 0} (fetches : List (Opens K N R)) (shard token : ℕ) : Type 0 where
  pub key : ℕ × K
  pub home : key.0 % length fetches ≡ shard
  pub opened : OpenFetch N R
  pub is_open : open_in fetches key ≡ Some opened
  pub waits : has token (tokens_of opened) ≡ true

-- whether a token of a shard is this one
abbrev pub is_token : ℕ → ℕ → ℕ × ℕ → Bool
is_token shard token other = (shard == other.0) && (token == other.1)

-- how often a token of a shard stands in a list
abbrev pub times : ℕ → ℕ → List (ℕ × ℕ) → ℕ
times shard token [] = 0
times shard token (other ∷ others) = cond (is_token shard token other) 1 0 + times shard token others

module _ {K N R : Type 0} where
  -- how often a token waits: once, or not
  abbrev pub IsWaiting : List (Opens K N R) → ℕ → ℕ → ℕ → Type 0
  IsWaiting fetches shard token count = (∥ WaitsIn fetches shard token ∥₁ × (count ≡ 1))
      ⊎ ((WaitsIn fetches shard token → ⊥) × (count ≡ 0))

  -- so many tokens wait in all shards together: these, each of which stands once, and no others
  pub record SoManyWait (fetches : List (Opens K N R)) (count : ℕ) : Type 0 where
    pub tokens : List (ℕ × ℕ)
    pub counted : length tokens ≡ count
    pub each : (shard token : ℕ) → IsWaiting fetches shard token (times shard token tokens)
