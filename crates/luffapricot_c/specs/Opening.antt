-- What C gets that creates a cache.
use Rattle.std.specs.Prelude.{◌≡◌, ℕ, All, Bool, [], Option, None, Some}
use Rattle.foyer_policy.specs.Any.{any}
use Rattle.foyer_policy.specs.Errors.{number_of}
use Rattle.foyer_policy.specs.Hash.{Digits}
use Rattle.foyer_policy.specs.declared.error.Reason.{Reason}
use Rattle.foyer_policy.specs.declared.eviction_config.EvictionConfig.{EvictionConfig}
use Rattle.foyer_core.specs.declared.config.RawCacheConfig.{RawCacheConfig}
use Rattle.foyer_core.specs.declared.filter.AdmitAll.{AdmitAll}
use Rattle.foyer_core.specs.Core.{IsNewCore}
use Rattle.foyer_core.specs.Cores.{core_of, fetches_of, meaning_of_core}
use Rattle.foyer_core.specs.Inflight.{no_opens}
use Rattle.luffapricot_c.specs.declared.cache.ByteCache.{ByteCache}
use Rattle.luffapricot_c.specs.declared.value.GivenWeight.{GivenWeight}

-- a cache of one shard, of this policy and capacity, which holds nothing, has no open fetch, and of which C holds nothing
pub record IsOpened (config : EvictionConfig) (capacity : ℕ) (has_listener : Bool) (cache : ByteCache) : Type 0 where
  pub given : RawCacheConfig EvictionConfig Digits GivenWeight AdmitAll
  pub capacity_is : given.capacity ≡ capacity
  pub shards_are : given.shards ≡ 1
  pub policy_is : given.eviction_config ≡ config
  pub core : IsNewCore (meaning_of_core cache.core) given (core_of cache.core)
  pub fetches : All (λ f. f ≡ no_opens) (fetches_of cache.core)
  pub holds : cache.holds.slots ≡ []
  pub left : cache.left.items ≡ []
  pub listener : cache.has_listener ≡ has_listener

-- the number of a refusal: that of the configuration's fault, or else F7's
abbrev pub refused_with : Option Reason → ℕ
refused_with None = 7
refused_with (Some reason) = number_of reason

-- a cache was opened, or not
abbrev pub OpensAs : EvictionConfig → ℕ → Bool → ℕ → Option ByteCache → Type 0
OpensAs config capacity has_listener status None = status ≡ refused_with (any.fault config)
OpensAs config capacity has_listener status (Some cache) = (status ≡ 0) × (any.fault config ≡ None)
    × IsOpened config capacity has_listener cache

-- what a create makes of what an address holds: 106 if that is something, 105 if there is no such policy
unfoldable pub Creates : Option ByteCache → Option EvictionConfig → ℕ → Bool → ℕ → Option ByteCache → Type 0
Creates (Some old) config capacity has_listener status held = (status ≡ 106) × (held ≡ Some old)
Creates None None capacity has_listener status held = (status ≡ 105) × (held ≡ None)
Creates None (Some config) capacity has_listener status held = OpensAs config capacity has_listener status held
