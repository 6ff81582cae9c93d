-- Of which policy a configuration is, and where it is refused.
use Rattle.std.specs.Prelude.{ℕ, Bool, true, false, Option, Some, ◌==◌, if◌then◌else◌}
use Rattle.foyer_policy.specs.Any.{any}
use Rattle.foyer_policy.specs.declared.error.Reason.{Reason}
use Rattle.foyer_policy.specs.declared.error.Reason.TheVariants.{NoShards, WrongPolicy}
use Rattle.foyer_policy.specs.declared.eviction_config.EvictionConfig.{EvictionConfig}
use Rattle.foyer_policy.specs.declared.eviction_config.EvictionConfig.TheVariants.{Fifo, S3Fifo, Lru, Lfu, Sieve}
use Rattle.foyer_core.specs.declared.config.RawCacheConfig.{RawCacheConfig}
use Rattle.foyer_memory.specs.declared.kind.Kind.{Kind}
use Rattle.foyer_memory.specs.declared.kind.Kind.TheVariants.{Fifo as OfFifo, S3Fifo as OfS3Fifo, Lru as OfLru, Lfu as OfLfu, Sieve as OfSieve}

-- the policy that a configuration is of
abbrev pub kind_of_config : EvictionConfig → Kind
kind_of_config (Fifo c) = OfFifo
kind_of_config (S3Fifo c) = OfS3Fifo
kind_of_config (Lru c) = OfLru
kind_of_config (Lfu c) = OfLfu
kind_of_config (Sieve c) = OfSieve

-- whether a configuration is of this policy
abbrev pub is_of : Kind → EvictionConfig → Bool
is_of OfFifo (Fifo c) = true
is_of OfS3Fifo (S3Fifo c) = true
is_of OfLru (Lru c) = true
is_of OfLfu (Lfu c) = true
is_of OfSieve (Sieve c) = true
is_of _ _ = false

-- the first fault of a cache of so many shards whose policy has this configuration, where there is one
abbrev pub fault_of : ℕ → EvictionConfig → Option Reason
fault_of shards config = if shards == 0 then Some NoShards else any.fault config

-- the first fault of what a builder is to make, where there is one
abbrev pub build_fault : {S W A : Type 0} → RawCacheConfig EvictionConfig S W A → Option Reason
build_fault config = fault_of config.shards config.eviction_config

-- why a cache of this policy refuses to take this configuration while it runs, where it does
abbrev pub reconfigure_fault : Kind → EvictionConfig → Option Reason
reconfigure_fault kind config = if is_of kind config then any.fault config else Some WrongPolicy
