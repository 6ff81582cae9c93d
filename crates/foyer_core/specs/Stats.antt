-- The counts after each call of `Stats`.
use Rattle.std.specs.Prelude.{ℕ, List, [], ◌∷◌, ◌+◌, ◌%◌, ◌^◌, Bool, true, false, if◌then◌else◌}
use Rattle.foyer_policy.specs.declared.types.Event.{Event}
use Rattle.foyer_policy.specs.declared.types.Event.TheVariants.{Evict, Replace, Remove, Clear}
use Rattle.foyer_core.specs.declared.stats.Stats.{Stats}
use Rattle.foyer_core.specs.declared.stats.Counted.{Counted}
use Rattle.foyer_core.specs.declared.stats.Counted.TheVariants.{Hit, Miss, Fetch, Wait, Insert, Refused}

-- a count wraps to 0 after 2^64 - 1
abbrev pub wrapped : ℕ → ℕ
wrapped n = n % 2 ^ 64

-- one more
abbrev pub next : ℕ → ℕ
next n = wrapped (n + 1)

-- the counts after a call
abbrev pub counted : Counted → Stats → Stats
counted Hit s = record s { hits = next s.hits }
counted Miss s = record s { misses = next s.misses }
counted Fetch s = record s { misses = next s.misses; fetches = next s.fetches }
counted Wait s = record s { misses = next s.misses; waits = next s.waits }
counted Insert s = record s { inserts = next s.inserts }
counted Refused s = record s { refused = next s.refused }

-- the counts after an insert, of a phantom or not
abbrev pub insert_counted : Bool → Stats → Stats
insert_counted phantom s = if phantom then s else counted Insert s

-- the counts after a record left that is no phantom, and was expired or not
abbrev pub plain_left_counted : Bool → Event → Stats → Stats
plain_left_counted true Evict s = record s { evictions = next s.evictions; expired = next s.expired }
plain_left_counted false Evict s = record s { evictions = next s.evictions }
plain_left_counted _ Replace s = record s { replaced = next s.replaced }
plain_left_counted _ Remove s = record s { removed = next s.removed }
plain_left_counted _ Clear s = record s { cleared = next s.cleared }

-- the counts after a record left, a phantom or not, that was expired or not
abbrev pub left_counted : Bool → Bool → Event → Stats → Stats
left_counted phantom expired event s = if phantom then s else plain_left_counted expired event s

-- the counts, in the order of the fields
abbrev pub counts_of : Stats → List ℕ
counts_of s = s.hits ∷ s.misses ∷ s.inserts ∷ s.evictions ∷ s.expired ∷ s.replaced ∷ s.removed ∷ s.cleared ∷ s.fetches
    ∷ s.waits ∷ s.refused ∷ []

-- the sums of counts
abbrev pub sum : Stats → Stats → Stats
sum a b = record {
  hits = wrapped (a.hits + b.hits);
  misses = wrapped (a.misses + b.misses);
  inserts = wrapped (a.inserts + b.inserts);
  evictions = wrapped (a.evictions + b.evictions);
  expired = wrapped (a.expired + b.expired);
  replaced = wrapped (a.replaced + b.replaced);
  removed = wrapped (a.removed + b.removed);
  cleared = wrapped (a.cleared + b.cleared);
  fetches = wrapped (a.fetches + b.fetches);
  waits = wrapped (a.waits + b.waits);
  refused = wrapped (a.refused + b.refused);
}
