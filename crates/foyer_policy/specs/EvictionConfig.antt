-- Policies by their names.
use Rattle.std.specs.Prelude.{ℕ, List, Option, Some, None, if◌then◌else◌, codes}
use Rattle.std.specs.Str.{bytes_eq}
use Rattle.foyer_policy.specs.declared.eviction_config.EvictionConfig.{EvictionConfig}
use Rattle.foyer_policy.specs.declared.eviction_config.EvictionConfig.TheVariants.{Fifo, Lru, Lfu, S3Fifo, Sieve}

-- the default configuration of the policy of a name
abbrev pub config_named : List ℕ → Option EvictionConfig
config_named name =
    if bytes_eq name (codes "fifo") then Some (Fifo (record {}))
    else if bytes_eq name (codes "lru") then Some (Lru (record { high_priority_pool_ratio = record { num = 9; den = 10 } }))
    else if bytes_eq name (codes "lfu") then Some (Lfu (record {
      window_capacity_ratio = record { num = 1; den = 10 };
      protected_capacity_ratio = record { num = 8; den = 10 };
      cmsketch_buckets = 2719;
      cmsketch_hashes = 3;
    }))
    else if bytes_eq name (codes "s3fifo") then Some (S3Fifo (record {
      small_queue_capacity_ratio = record { num = 1; den = 10 };
      ghost_queue_capacity_ratio = record { num = 1; den = 1 };
      small_to_main_freq_threshold = 1;
    }))
    else if bytes_eq name (codes "sieve") then Some (Sieve (record {}))
    else None
