-- What a run begins with, and what it comes to over requests, by the core's model.
use Rattle.std.specs.Prelude.{◌≡◌, ℕ, List, sum_by, ⊤}
use Rattle.foyer_policy.specs.declared.eviction.Eviction.{Ghosts as EvictionGhosts}
use Rattle.foyer_policy.specs.declared.fifo.FifoConfig.{FifoConfig}
use Rattle.foyer_policy.specs.declared.hash.HashBuilder.{Ghosts as HashBuilderGhosts}
use Rattle.foyer_policy.specs.declared.sieve.SieveConfig.{SieveConfig}
use Rattle.foyer_core.specs.Core.{IsNewCore}
use Rattle.foyer_core.specs.declared.config.RawCacheConfig.{RawCacheConfig}
use Rattle.foyer_core.specs.declared.filter.AdmitAll.{AdmitAll}
use Rattle.foyer_replay.specs.Cores.{core_of, meaning_of_core, serves_of}
use Rattle.foyer_replay.specs.Counting.{Counted}
use Rattle.foyer_replay.specs.declared.cache.ReplayCore.{ReplayCore}
use Rattle.foyer_replay.specs.declared.counts.Counts.{Counts}
use Rattle.foyer_replay.specs.declared.request.Request.{Request}
use Rattle.foyer_replay.specs.declared.request.RequestWeighter.{RequestWeighter}
use Rattle.foyer_trace.specs.Trace.{requests_of_windows}
use Rattle.foyer_trace.specs.declared.policy.Kind.{Kind}
use Rattle.foyer_trace.specs.declared.policy.Kind.TheVariants.{Fifo as FifoKind, Lru as LruKind, Lfu as LfuKind, S3Fifo as S3FifoKind, Sieve as SieveKind, Belady as BeladyKind}
use Rattle.foyer_trace.specs.declared.runner.Core.{Core}
use Rattle.foyer_trace.specs.declared.runner.Core.TheVariants.{Fifo, Lru, Lfu, S3Fifo, Sieve, Belady}
use Rattle.foyer_trace.specs.declared.trace.Terms.{Terms}
use Rattle.foyer_trace.specs.declared.trace.Trace.{Trace}

module _ {E S C : Type 0} {e : EvictionGhosts E C} {b : HashBuilderGhosts S} where
  -- an empty core with this configuration of its policy, whose capacity so many shards share
  pub record IsEmpty (config : C) (capacity shards : ℕ) (core : ReplayCore E S C e b) : Type 0 where
    pub given : RawCacheConfig C S RequestWeighter AdmitAll
    pub config_is : given.eviction_config ≡ config
    pub capacity_is : given.capacity ≡ capacity
    pub shards_are : given.shards ≡ shards
    pub new : IsNewCore (meaning_of_core core) given (core_of core)

-- An empty cache of a policy, with its configuration. Of Belady's cache nothing is said.
abbrev pub IsNew : Kind → ℕ → ℕ → Core → Type 0
IsNew FifoKind capacity shards (Fifo core) = (config : FifoConfig) × IsEmpty config capacity shards core
IsNew (LruKind config) capacity shards (Lru core) = IsEmpty config capacity shards core
IsNew (LfuKind config) capacity shards (Lfu core) = IsEmpty config capacity shards core
IsNew (S3FifoKind config) capacity shards (S3Fifo core) = IsEmpty config capacity shards core
IsNew SieveKind capacity shards (Sieve core) = (config : SieveConfig) × IsEmpty config capacity shards core
IsNew BeladyKind capacity shards (Belady cache) = ⊤
IsNew _ capacity shards core = ⊥

-- A core serves these requests, and of those after the first few so many hit and so many miss by its model. Of Belady's
-- cache nothing is said.
abbrev pub Serves : Core → ℕ → List Request → ℕ → ℕ → Core → Type 0
Serves (Fifo old) skipped requests hits misses new =
    (next : _) × (new ≡ Fifo next) × Counted (serves_of old) skipped requests hits misses (core_of old) (core_of next)
Serves (Lru old) skipped requests hits misses new =
    (next : _) × (new ≡ Lru next) × Counted (serves_of old) skipped requests hits misses (core_of old) (core_of next)
Serves (Lfu old) skipped requests hits misses new =
    (next : _) × (new ≡ Lfu next) × Counted (serves_of old) skipped requests hits misses (core_of old) (core_of next)
Serves (S3Fifo old) skipped requests hits misses new =
    (next : _) × (new ≡ S3Fifo next) × Counted (serves_of old) skipped requests hits misses (core_of old) (core_of next)
Serves (Sieve old) skipped requests hits misses new =
    (next : _) × (new ≡ Sieve next) × Counted (serves_of old) skipped requests hits misses (core_of old) (core_of next)
Serves (Belady old) skipped requests hits misses new = ⊤

-- A core that is new serves the windows of a trace, one after the other, and this is what it counted in each.
pub record IsRun (kind : Kind) (capacity shards : ℕ) (terms : Terms) (warmup : ℕ) (trace : List Trace)
    (windows : List Counts) : Type 0 where
  pub start : Core
  pub end : Core
  pub new : IsNew kind capacity shards start
  pub served : Serves start warmup (requests_of_windows terms trace) (sum_by (λ it. it.hits) windows)
      (sum_by (λ it. it.misses) windows) end
