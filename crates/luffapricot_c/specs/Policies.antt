-- The policies by the numbers that C gives them.
use Rattle.std.specs.Prelude.{◌==◌, Option, Some, None, if◌then◌else◌}
use Rattle.foyer_policy.specs.declared.types.Ratio.{Ratio}
use Rattle.foyer_policy.specs.declared.eviction_config.EvictionConfig.{EvictionConfig}
use Rattle.foyer_policy.specs.declared.eviction_config.EvictionConfig.TheVariants.{Fifo, Lru, Lfu, S3Fifo, Sieve}
use Rattle.luffapricot_c.specs.declared.policy.LuffaPolicy.{LuffaPolicy}
use Rattle.luffapricot_c.specs.declared.policy.LuffaRatio.{LuffaRatio}

-- a ratio as C writes it
abbrev pub ratio_of : LuffaRatio → Ratio
ratio_of r = record { num = r.num; den = r.den }

-- the configuration of the policy that is named, and none for another number
abbrev pub config_of : LuffaPolicy → Option EvictionConfig
config_of p = if p.kind == 0 then Some (Fifo (record {}))
    else (if p.kind == 1 then Some (Lru (record { high_priority_pool_ratio = ratio_of p.high_priority_pool }))
    else (if p.kind == 2 then Some (Lfu (record {
      window_capacity_ratio = ratio_of p.window;
      protected_capacity_ratio = ratio_of p.protected;
      cmsketch_buckets = p.sketch_buckets;
      cmsketch_hashes = p.sketch_rows;
    }))
    else (if p.kind == 3 then Some (S3Fifo (record {
      small_queue_capacity_ratio = ratio_of p.small_queue;
      ghost_queue_capacity_ratio = ratio_of p.ghost_queue;
      small_to_main_freq_threshold = p.small_to_main;
    }))
    else (if p.kind == 4 then Some (Sieve (record {})) else None))))
