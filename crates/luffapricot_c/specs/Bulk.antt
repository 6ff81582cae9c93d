-- What the calls for all records of a cache of bytes make of it, by the steps of its core.
use Rattle.std.specs.Prelude.{◌≡◌, ℕ, ◌⊎◌, List, Option, None, Some}
use Rattle.foyer_policy.specs.Errors.{number_of}
use Rattle.foyer_policy.specs.declared.error.Reason.{Reason}
use Rattle.foyer_policy.specs.declared.eviction_config.EvictionConfig.{EvictionConfig}
use Rattle.foyer_policy.specs.declared.types.Event.{Event}
use Rattle.foyer_core.specs.Bulk.{Clears, EvictingUnpinned, EvictsUnpinned}
use Rattle.foyer_core.specs.CoreBulk.{Configures, EvictingToCapacity, EvictsToCapacity, InTurn, InTurnUntil, NotTaken, OfShards, Resizes, TakenByEach}
use Rattle.foyer_core.specs.Cores.{core_of, meaning_of_core}
use Rattle.foyer_core.specs.State.{at_moment}
use Rattle.foyer_core.specs.Values.{Answered, Gone}
use Rattle.luffapricot_c.specs.declared.cache.ByteCache.{ByteCache}
use Rattle.luffapricot_c.specs.declared.key.Key.{Key}
use Rattle.luffapricot_c.specs.declared.value.Value.{Value}
use Rattle.luffapricot_c.specs.Calls.{IsToldOf}
use Rattle.luffapricot_c.specs.Frames.{Frames}

-- these left, which is told, and beside them nothing changed but records
abbrev pub Leaves : List (Event × Gone Key Value Answered) → ByteCache → ByteCache → Type 0
Leaves leaves old new = IsToldOf leaves old new × Frames (record old { left = new.left }) new

-- a core is resized, or memory runs out meanwhile
abbrev pub ResizesTo : ℕ → ℕ → ℕ → ByteCache → ByteCache → Type 0
ResizesTo now capacity status old new = (leaves : List (Event × Gone Key Value Answered)) × Leaves leaves old new
    × (((status ≡ 0) × Resizes (meaning_of_core old.core)
    (InTurn (EvictsToCapacity (at_moment now (meaning_of_core old.core)))) capacity (core_of old.core) leaves
    (core_of new.core))
    ⊎ ((status ≡ 7) × Resizes (meaning_of_core old.core)
    (InTurnUntil (EvictsToCapacity (at_moment now (meaning_of_core old.core)))
    (EvictingToCapacity (at_moment now (meaning_of_core old.core)))) capacity (core_of old.core) leaves
    (core_of new.core)))

-- all that is not pinned is evicted, or memory runs out meanwhile
abbrev pub EvictsAll : ℕ → ℕ → ByteCache → ByteCache → Type 0
EvictsAll now status old new = (leaves : List (Event × Gone Key Value Answered)) × Leaves leaves old new
    × (((status ≡ 0) × OfShards (InTurn (EvictsUnpinned (at_moment now (meaning_of_core old.core)))) (core_of old.core)
    leaves (core_of new.core))
    ⊎ ((status ≡ 7) × OfShards (InTurnUntil (EvictsUnpinned (at_moment now (meaning_of_core old.core)))
    (EvictingUnpinned (at_moment now (meaning_of_core old.core)))) (core_of old.core) leaves (core_of new.core)))

-- all is removed, or memory is refused and nothing changes
abbrev pub ClearsAll : ℕ → ByteCache → ByteCache → Type 0
ClearsAll status old new = ((leaves : List (Event × Gone Key Value Answered)) × Leaves leaves old new × (status ≡ 0)
    × OfShards (InTurn (Clears (meaning_of_core old.core))) (core_of old.core) leaves (core_of new.core))
    ⊎ ((status ≡ 7) × (core_of new.core ≡ core_of old.core) × Frames old new)

-- the number of a configuration's fault, or 0
abbrev pub fault_number : Option Reason → ℕ
fault_number None = 0
fault_number (Some reason) = number_of reason

-- Each policy takes a configuration, or nothing changes: it is refused as another policy's (F17), or by its fault.
pub record Reconfigures (config : EvictionConfig) (status : ℕ) (old new : ByteCache) : Type 0 where
  pub configured : ((status ≡ 0) × Configures (meaning_of_core old.core) config (core_of old.core) (core_of new.core))
      ⊎ (core_of new.core ≡ core_of old.core)
  pub wrong : NotTaken (meaning_of_core old.core) config (core_of old.core).shards → status ≡ 17
  pub taken : TakenByEach (meaning_of_core old.core) config (core_of old.core).shards →
      status ≡ fault_number ((meaning_of_core old.core).policy.fault config)
  pub rest : Frames old new
