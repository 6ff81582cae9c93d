-- The arguments of the program.
use Rattle.std.specs.Prelude.{ℕ, ◌==◌, List, [], ◌∷◌, Option, Some, None, option_and_then, if◌then◌else◌, bytes_eq, codes}
use Rattle.foyer_policy.specs.declared.eviction_config.EvictionConfig.{EvictionConfig}
use Rattle.foyer_policy.specs.declared.eviction_config.EvictionConfig.TheVariants.{Fifo as FifoConfigured, Lru as LruConfigured, Lfu as LfuConfigured, S3Fifo as S3FifoConfigured, Sieve as SieveConfigured}
use Rattle.foyer_session.specs.Text.{number_of}
use Rattle.foyer_session.specs.declared.sim.args.SimArgs.{SimArgs}
use Rattle.foyer_session.specs.declared.sim.args.SimPolicy.{SimPolicy}
use Rattle.foyer_session.specs.declared.sim.args.SimPolicy.TheVariants.{Fifo, Lru, Lfu, S3Fifo, Sieve}

-- the policy of this name
abbrev pub policy_of : List ℕ → Option SimPolicy
policy_of name = if bytes_eq name (codes "fifo") then Some Fifo
    else (if bytes_eq name (codes "lru") then Some Lru
    else (if bytes_eq name (codes "lfu") then Some Lfu
    else (if bytes_eq name (codes "s3fifo") then Some S3Fifo
    else (if bytes_eq name (codes "sieve") then Some Sieve
    else None))))

-- the default configuration of a policy
abbrev pub config_of : SimPolicy → EvictionConfig
config_of Fifo = FifoConfigured (record {})
config_of Lru = LruConfigured (record { high_priority_pool_ratio = record { num = 9; den = 10 } })
config_of Lfu = LfuConfigured (record {
  window_capacity_ratio = record { num = 1; den = 10 };
  protected_capacity_ratio = record { num = 8; den = 10 };
  cmsketch_buckets = 2719;
  cmsketch_hashes = 3;
})
config_of S3Fifo = S3FifoConfigured (record {
  small_queue_capacity_ratio = record { num = 1; den = 10 };
  ghost_queue_capacity_ratio = record { num = 1; den = 1 };
  small_to_main_freq_threshold = 1;
})
config_of Sieve = SieveConfigured (record {})

-- a policy, a capacity and some shards
abbrev pub args_with : SimPolicy → ℕ → ℕ → Option SimArgs
args_with policy capacity shards = if shards == 0 then None
    else Some record { policy = policy; capacity = capacity; shards = shards }

-- what these words ask for
abbrev pub args_of : List (List ℕ) → Option SimArgs
args_of (policy ∷ capacity ∷ shards ∷ []) =
    option_and_then
    (λ p. option_and_then (λ c. option_and_then (args_with p c) (number_of shards)) (number_of capacity))
    (policy_of policy)
args_of _ = None
