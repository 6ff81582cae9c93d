-- A shard as a state and its open fetches.
use Rattle.std.specs.declared.cmp.PartialEq.{Ghosts as EqGhosts}
use Rattle.std.specs.declared.hash.Hash.{Ghosts as HashGhosts}
use Rattle.std.specs.declared.clone.Clone.{Ghosts as CloneGhosts}
use Rattle.std.specs.declared.default.Default.{Ghosts as DefaultGhosts}
use Rattle.foyer_policy.specs.declared.eviction.Eviction.{Ghosts as EvictionGhosts}
use Rattle.foyer_policy.specs.declared.properties.Properties.{Ghosts as PropertiesGhosts}
use Rattle.foyer_core.specs.declared.finder.Finder.{Ghosts as FinderGhosts}
use Rattle.foyer_core.specs.declared.shard.Shard.{Shard}
use Rattle.foyer_core.specs.State.{Meaning, State}
use Rattle.foyer_core.specs.Stores.{state_of as store_state, meaning_of as store_meaning}
use Rattle.foyer_core.specs.Inflight.{Opens}
use Rattle.foyer_core.specs.Inflights.{opens_of as manager_opens}

module _ {E K V P N R I C : Type 0} {e : EvictionGhosts E C}
    {q : EqGhosts K} {h : HashGhosts K} {c : CloneGhosts K} {p : PropertiesGhosts P} {d : DefaultGhosts P}
    {i : FinderGhosts I K} where
  -- what contracts see of a shard
  abbrev pub state_of : Shard E K V P N R I C e q h c p d i → State K V P e.View
  state_of s = store_state s.store

  -- what a shard is over
  abbrev pub meaning_of : Shard E K V P N R I C e q h c p d i → Meaning K P e.View C
  meaning_of s = store_meaning s.store

  -- the open fetches
  abbrev pub opens_of : Shard E K V P N R I C e q h c p d i → Opens K N R
  opens_of s = manager_opens s.inflights
