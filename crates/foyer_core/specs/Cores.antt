-- A core's struct as a core.
use Rattle.std.specs.Prelude.{ℕ, List, map}
use Rattle.std.specs.declared.cmp.PartialEq.{Ghosts as EqGhosts}
use Rattle.std.specs.declared.hash.Hash.{Ghosts as HashGhosts}
use Rattle.std.specs.declared.clone.Clone.{Ghosts as CloneGhosts}
use Rattle.std.specs.declared.default.Default.{Ghosts as DefaultGhosts}
use Rattle.foyer_policy.specs.declared.eviction.Eviction.{Ghosts as EvictionGhosts}
use Rattle.foyer_policy.specs.declared.hash.HashBuilder.{Ghosts as HashBuilderGhosts}
use Rattle.foyer_policy.specs.declared.properties.Properties.{Ghosts as PropertiesGhosts}
use Rattle.foyer_core.specs.declared.finder.Finder.{Ghosts as FinderGhosts}
use Rattle.foyer_core.specs.declared.weighter.Weighter.{Ghosts as WeighterGhosts}
use Rattle.foyer_core.specs.declared.filter.Filter.{Ghosts as FilterGhosts}
use Rattle.foyer_core.specs.declared.cache_core.CacheCore.{CacheCore}
use Rattle.foyer_core.specs.Core.{Core}
use Rattle.foyer_core.specs.Inflight.{Opens}
use Rattle.foyer_core.specs.Shards.{state_of, opens_of}
use Rattle.foyer_core.specs.State.{Meaning}
use Rattle.foyer_core.specs.Stored.{meaning}

module _ {E K V P S W A N R I C : Type 0} {e : EvictionGhosts E C}
    {q : EqGhosts K} {h : HashGhosts K} {c : CloneGhosts K} {p : PropertiesGhosts P} {d : DefaultGhosts P}
    {b : HashBuilderGhosts S} {w : WeighterGhosts W K V} {f : FilterGhosts A K V} {i : FinderGhosts I K} where
  -- what contracts see of a core
  abbrev pub core_of : CacheCore E K V P S W A N R I C e q h c p d b w f i → Core K V P e.View S W A
  core_of s =
      record {
        capacity = s.capacity;
        hash_builder = s.hash_builder;
        weighter = s.rules.weighter;
        filter = s.rules.filter;
        shards = map state_of s.shards.items;
      }

  -- what a core is over
  abbrev pub meaning_of_core : CacheCore E K V P S W A N R I C e q h c p d b w f i → Meaning K P e.View C
  meaning_of_core s = meaning q.eq e.model p.hint_of p.phantom_of p.expiry_of

  -- the hash that each key has in a core
  abbrev pub hashes_of : CacheCore E K V P S W A N R I C e q h c p d b w f i → K → ℕ
  hashes_of s key = b.hash_of s.hash_builder (h.hash_input key)

  -- the open fetches of each shard
  abbrev pub fetches_of : CacheCore E K V P S W A N R I C e q h c p d b w f i → List (Opens K N R)
  fetches_of s = map opens_of s.shards.items
