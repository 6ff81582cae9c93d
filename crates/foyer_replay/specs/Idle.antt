-- Cores of which nobody has an entry, and for which nobody waits.
use Rattle.std.specs.Prelude.{◌≡◌, ℕ, List, All}
use Rattle.foyer_core.specs.Inflight.{Opens, no_opens}
use Rattle.foyer_core.specs.State.{State, handles_in}

-- no record of a shard has a handle
abbrev pub HasNoHandle : {K V P View : Type 0} → State K V P View → Type 0
HasNoHandle s = (id : ℕ) → handles_in s id ≡ 0

-- no record of these shards has a handle, and none of them has an open fetch, for which one might wait
pub record IsIdle {K V P View N R : Type 0} (shards : List (State K V P View)) (fetches : List (Opens K N R)) : Type 0
  where
    pub no_handles : All HasNoHandle shards
    pub no_fetches : All (λ f. f ≡ no_opens) fetches
