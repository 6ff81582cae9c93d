-- Sets of flags.
use Rattle.std.specs.Prelude.{◌≡◌, ℕ, ◌+◌, Bool, true, if◌then◌else◌, ◌||◌}
use Rattle.foyer_core.specs.declared.record.Flags.{Flags}

-- 1 for the index, 2 for the policy
abbrev pub bits_of : Flags → ℕ
bits_of f = (if f.in_indexer then 1 else 0) + (if f.in_eviction then 2 else 0)

-- the flags of either
abbrev pub union_of : Flags → Flags → Flags
union_of a b = record { in_eviction = a.in_eviction || b.in_eviction; in_indexer = a.in_indexer || b.in_indexer }

-- each flag of the second set is in the first
abbrev pub Includes : Flags → Flags → Type 0
Includes a b = (b.in_indexer ≡ true → a.in_indexer ≡ true) × (b.in_eviction ≡ true → a.in_eviction ≡ true)

-- the first set, where the flags of the second are as told
abbrev pub with_flags : Flags → Flags → Bool → Flags
with_flags a b on = record {
  in_eviction = if b.in_eviction then on else a.in_eviction;
  in_indexer = if b.in_indexer then on else a.in_indexer;
}
