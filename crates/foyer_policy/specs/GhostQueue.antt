-- The ghost queue: what left lately, by hash and weight.
use Rattle.std.specs.Prelude.{◌==◌, ℕ, ◌-◌, List, [], ◌∷◌, ◌++◌, if◌then◌else◌, sum_by}
use Rattle.std.specs.Ordering.{nat_cmp}
use Rattle.std.specs.FinSet.{FinSet, insert, remove, from_list}
use Rattle.foyer_policy.specs.Items.{fit, over, IsLongestTail}

-- a hash, and the weight that left with it
abbrev pub Pair : Type 0
Pair = ℕ × ℕ

pub record Ghost : Type 0 where
  pub pairs : List Pair
  pub hashes : FinSet nat_cmp
  pub capacity : ℕ

abbrev pub pair_weight : Pair → ℕ
pair_weight p = p.1

-- the sum of the weights
abbrev pub ghost_weight : List Pair → ℕ
ghost_weight = sum_by pair_weight

-- the set without the hash of each of these pairs, also where a pair beside them has that hash
abbrev pub without_hashes : FinSet nat_cmp → List Pair → FinSet nat_cmp
without_hashes hashes [] = hashes
without_hashes hashes (p ∷ ps) = without_hashes (remove hashes p.0) ps

-- the longest tail of pairs within a weight, and the set without the hashes of those before it
abbrev pub shrunk : ℕ → Ghost → Ghost
shrunk most g = record {
  pairs = fit pair_weight most g.pairs;
  hashes = without_hashes g.hashes (over pair_weight most g.pairs);
  capacity = g.capacity;
}

abbrev pub with_pair : ℕ → ℕ → Ghost → Ghost
with_pair hash weight g = record {
  pairs = g.pairs ++ (hash, weight) ∷ [];
  hashes = insert g.hashes hash;
  capacity = g.capacity;
}

-- A push keeps the longest tail that weighs 0, or at most the capacity together with the new pair: the
-- difference is 0 where the new pair alone passes the capacity. With capacity 0 it changes nothing.
abbrev pub ghost_push : Ghost → ℕ → ℕ → Ghost
ghost_push g hash weight = if g.capacity == 0 then g else with_pair hash weight (shrunk (g.capacity - weight) g)

-- what an update and a push keep of the pairs is the longest tail within a weight
abbrev pub LongestTailsAreKept : Type 0
LongestTailsAreKept = (most : ℕ) (g : Ghost) →
    IsLongestTail pair_weight most (over pair_weight most g.pairs) (shrunk most g).pairs g.pairs

abbrev pub with_capacity : Ghost → ℕ → Ghost
with_capacity g capacity = record { pairs = g.pairs; hashes = g.hashes; capacity = capacity }

-- An update to capacity 0 drops nothing.
abbrev pub ghost_update : Ghost → ℕ → Ghost
ghost_update g capacity = if capacity == 0 then with_capacity g capacity else shrunk capacity (with_capacity g capacity)

-- A ghost queue as its code holds it: the keys of its hash set in some order, and room for so many pushes.
pub record GhostState : Type 0 where
  pub pairs : List Pair
  pub keys : List ℕ
  pub capacity : ℕ
  pub room : ℕ

-- the ghost queue that these parts are
abbrev pub ghost_of : GhostState → Ghost
ghost_of s = record { pairs = s.pairs; hashes = from_list s.keys; capacity = s.capacity }
