-- A segment tree of least numbers, whose nodes stand in one list, level by level, from node 1 on.
use Rattle.std.specs.Prelude.{◌≡◌, ℕ, zero, suc, ◌+◌, ◌-◌, ◌*◌, ◌<◌, ◌≤◌, min, List, length, slice_index}

-- the first of the nodes so many levels below a node: a node's first child is 4 * node - 2
unfoldable pub leftmost : ℕ → ℕ → ℕ
leftmost node zero = node
leftmost node (suc height) = leftmost (4 * node - 2) height

-- the least number of four nodes in a row
abbrev pub least_of : List ℕ → ℕ → ℕ
least_of nodes at = min (min (slice_index nodes at) (slice_index nodes (at + 1)))
    (min (slice_index nodes (at + 2)) (slice_index nodes (at + 3)))

-- a node has the least number of its four children
abbrev pub IsLeast : List ℕ → ℕ → Type 0
IsLeast nodes i = slice_index nodes i ≡ least_of nodes (4 * i - 2)

-- the nodes from the first leaf on are the leaves, the lowest level, and each node before them has its least number
pub record IsTree (first : ℕ) (nodes : List ℕ) : Type 0 where
  pub height : ℕ
  pub lowest : first ≡ leftmost 1 height
  pub size : length nodes + 2 ≡ 4 * first
  pub least : (i : ℕ) → 0 < i → i < first → IsLeast nodes i

-- a node stands so high above the leaves: those below it are the nodes from leftmost node height to
-- leftmost (node + 1) height
pub record HasHeight (first node height : ℕ) : Type 0 where
  pub from : first ≤ leftmost node height
  pub to : leftmost (node + 1) height + 2 ≤ 4 * first
