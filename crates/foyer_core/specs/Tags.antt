-- What contracts see of an index of tags: a map from slots to fingerprints of their hashes.
use Rattle.std.specs.Prelude.{ℕ, ◌+◌, ◌≤◌, Option}
use Rattle.foyer_core.specs.Probing.{tag_in, size_of, part_of}
use Rattle.foyer_core.specs.declared.tags.Tags.{Tags}

-- the fingerprint of the hash under which a slot is in
abbrev pub slots_of : Tags → ℕ → Option ℕ
slots_of t slot = part_of (tag_in t.buckets) (size_of t.buckets) slot

-- so many more slots fit with no allocation
abbrev pub HasRoomForTags : Tags → ℕ → Type 0
HasRoomForTags t more = t.end + more ≤ size_of t.buckets

-- the homes are enough for so many more
abbrev pub HasHomesFor : Tags → ℕ → Type 0
HasHomesFor t more = t.len + more ≤ t.limit

-- how many slots are in
abbrev pub len_of : Tags → ℕ
len_of t = t.len
