-- A ghost queue's parts: the hash set as a set.
use Rattle.std.specs.Prelude.{ℕ, List}
use Rattle.std.specs.Ordering.{nat_cmp}
use Rattle.std.specs.FinSet.{FinSet, from_list}

-- the set of these keys
abbrev pub set_of : List ℕ → FinSet nat_cmp
set_of keys = from_list keys
