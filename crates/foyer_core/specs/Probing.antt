-- Tags in buckets: where the probe for a hash begins, and what it meets.
use Rattle.std.specs.Prelude.{◌≡◌, ◌≢◌, ℕ, zero, suc, ◌+◌, ◌-◌, ◌*◌, ◌/◌, ◌%◌, ◌^◌, ◌<◌, ◌≤◌, ◌==◌, Option, Some, None, length, slice_get, if◌then◌else◌}
use Rattle.std.proofs.Props.{props}
use Rattle.foyer_core.specs.declared.tags.buckets.Tag.{Tag}
use Rattle.foyer_core.specs.declared.tags.buckets.Buckets.{Buckets}

-- the part of a hash that its tag keeps: the upper half of its product with an odd number
abbrev pub fingerprint : ℕ → ℕ
fingerprint hash = (hash * 0x9e3779b97f4a7c15) % 2 ^ 64 / 2 ^ 32

-- the bucket at which the probe for a fingerprint begins, of 2^bits
abbrev pub home : ℕ → ℕ → ℕ
home bits part = part / 2 ^ (32 - bits)

-- the tag, if it names a slot
abbrev pub named : Option Tag → Option Tag
named None = None
named (Some t) = if t.slot == 4294967295 then None else Some t

-- the tag in a bucket
abbrev pub tag_in : Buckets → ℕ → Option Tag
tag_in b i = named (slice_get b.tags.items i)

-- how many buckets there are
abbrev pub size_of : Buckets → ℕ
size_of b = length b.tags.items

-- a bucket has the tag of this fingerprint and slot
pub record IsNamed (at : ℕ → Option Tag) (part bucket slot : ℕ) : Type 0 where
  pub tag : Tag
  pub here : at bucket ≡ Some tag
  pub hashed : tag.fingerprint ≡ part
  pub names : tag.slot ≡ slot

-- something holds of each slot that a tag of this fingerprint names
abbrev pub AllNamed : (ℕ → Option Tag) → ℕ → (ℕ → Type 0) → Type 0
AllNamed at part P = (i : ℕ) (t : Tag) → at i ≡ Some t → t.fingerprint ≡ part → P t.slot

-- one bucket has this now, and the others what they had
pub record IsPut (at at' : ℕ → Option Tag) (bucket : ℕ) (o : Option Tag) : Type 0 where
  pub here : at' bucket ≡ o
  pub others : (i : ℕ) → i ≢ bucket → at' i ≡ at i

-- no bucket from one on and before another is empty
abbrev pub IsFull : (ℕ → Option Tag) → ℕ → ℕ → Type 0
IsFull at from end = (i : ℕ) → from ≤ i → i < end → at i ≢ None

-- each tag is in its home or behind it, and no bucket between is empty
pub record IsProbed (bits : ℕ) (at : ℕ → Option Tag) : Type 0 where
  pub behind : (i : ℕ) (t : Tag) → at i ≡ Some t → home bits t.fingerprint ≤ i
  pub full : (i j : ℕ) (t : Tag) → at i ≡ Some t → home bits t.fingerprint ≤ j → j < i → at j ≢ None

-- the same, but for one bucket
pub record IsProbedBut (gap bits : ℕ) (at : ℕ → Option Tag) : Type 0 where
  pub behind : (i : ℕ) (t : Tag) → at i ≡ Some t → home bits t.fingerprint ≤ i
  pub full : (i j : ℕ) (t : Tag) → at i ≡ Some t → home bits t.fingerprint ≤ j → j < i → j ≢ gap → at j ≢ None

-- no two buckets have tags of one slot
abbrev pub IsOnce : (ℕ → Option Tag) → Type 0
IsOnce at = (i j : ℕ) (t u : Tag) → at i ≡ Some t → at j ≡ Some u → t.slot ≡ u.slot → i ≡ j

-- every tag stands before a bucket
abbrev pub IsBefore : ℕ → (ℕ → Option Tag) → Type 0
IsBefore end at = (i : ℕ) (t : Tag) → at i ≡ Some t → i < end

-- a tag's fingerprint if it is this slot's, or else the other
abbrev pub part_in : Option Tag → ℕ → Option ℕ → Option ℕ
part_in None slot other = other
part_in (Some t) slot other = if t.slot == slot then Some t.fingerprint else other

-- the fingerprint of a slot's tag in the first buckets
abbrev pub part_of : (ℕ → Option Tag) → ℕ → ℕ → Option ℕ
part_of at zero slot = None
part_of at (suc n) slot = part_in (at n) slot (part_of at n slot)

abbrev pub one_if : Option Tag → ℕ
one_if None = 0
one_if (Some t) = 1

-- how many of the first buckets have a tag
abbrev pub count_in : (ℕ → Option Tag) → ℕ → ℕ
count_in at zero = 0
count_in at (suc n) = count_in at n + one_if (at n)

-- the first buckets have the same tags, none further behind
pub record IsMoved (n : ℕ) (at at' : ℕ → Option Tag) : Type 0 where
  pub parts : (slot : ℕ) → part_of at' n slot ≡ part_of at n slot
  pub count : count_in at' n ≡ count_in at n
  pub before : (end : ℕ) → IsBefore end at → IsBefore end at'

pub IsProbed-prop : (bits : ℕ) (at : ℕ → Option Tag) → IsProp (IsProbed bits at)
IsProbed-prop bits at = hlevel props
