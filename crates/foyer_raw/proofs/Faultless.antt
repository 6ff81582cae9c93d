-- When a configuration has no fault.
use Rattle.std.proofs.Common.{◌≡◌, ◌≢◌, None, ne_eqb}
use Rattle.foyer_policy.specs.Policy.{Policy}
use Rattle.foyer_core.specs.declared.config.RawCacheConfig.{RawCacheConfig}
use Rattle.foyer_core.specs.Core.{core_fault}

-- if there is to be a shard and its policy has none
pub faultless : {View C S W A : Type 0} (policy : Policy View C) (config : RawCacheConfig C S W A)
    → config.shards ≢ 0 → policy.fault config.eviction_config ≡ None → core_fault policy config ≡ None
faultless policy config some none = rw (ne_eqb config.shards 0 some) none
