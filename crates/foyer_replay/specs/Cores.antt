-- What contracts see of the core that a replay runs over.
use Rattle.std.specs.Prelude.{ℕ, List, Some, map, nat_eq, ⊤}
use Rattle.std.specs.Hash.{u64 as u64_input}
use Rattle.foyer_policy.specs.Policy.{Policy}
use Rattle.foyer_policy.specs.declared.eviction.Eviction.{Ghosts as EvictionGhosts}
use Rattle.foyer_policy.specs.declared.hash.HashBuilder.{Ghosts as HashBuilderGhosts}
use Rattle.foyer_core.specs.declared.filter.AdmitAll.{AdmitAll}
use Rattle.foyer_core.specs.Core.{Core}
use Rattle.foyer_core.specs.Inflight.{Opens}
use Rattle.foyer_core.specs.Shards.{opens_of, state_of}
use Rattle.foyer_core.specs.State.{Meaning}
use Rattle.foyer_core.specs.Values.{Answered}
use Rattle.foyer_replay.specs.Replay.{Serves}
use Rattle.foyer_replay.specs.declared.cache.ReplayCore.{ReplayCore}
use Rattle.foyer_replay.specs.declared.request.Outcome.{Outcome}
use Rattle.foyer_replay.specs.declared.request.Request.{Request}
use Rattle.foyer_replay.specs.declared.request.RequestWeighter.{RequestWeighter}

-- what a replay is over: keys are numbers, and a record may expire
abbrev pub meaning : {View C : Type 0} → Policy View C → Meaning ℕ Answered View C
meaning policy = record {
  same = nat_eq;
  policy = policy;
  hint = λ p. Some p.hint;
  phantom = λ p. p.phantom;
  expires = λ p. p.expires;
}

module _ {E S C : Type 0} {e : EvictionGhosts E C} {b : HashBuilderGhosts S} where
  -- what contracts see of it
  abbrev pub core_of : ReplayCore E S C e b → Core ℕ ℕ Answered e.View S RequestWeighter AdmitAll
  core_of s = record {
    capacity = s.config.capacity;
    hash_builder = s.config.hash_builder;
    weighter = s.config.weighter;
    filter = s.config.filter;
    shards = map state_of s.shards.items;
  }

  -- the open fetches of each shard
  abbrev pub fetches_of : ReplayCore E S C e b → List (Opens ℕ ⊤ ⊤)
  fetches_of s = map opens_of s.shards.items

  -- what it is over
  abbrev pub meaning_of_core : ReplayCore E S C e b → Meaning ℕ Answered e.View C
  meaning_of_core s = meaning e.model

  -- how it serves a request, by its model
  abbrev pub serves_of : ReplayCore E S C e b → Request → Outcome →
      Core ℕ ℕ Answered e.View S RequestWeighter AdmitAll → Core ℕ ℕ Answered e.View S RequestWeighter AdmitAll → Type 0
  serves_of s = Serves (meaning_of_core s) (λ builder key. b.hash_of builder (u64_input key))
