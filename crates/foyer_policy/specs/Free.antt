-- The free nodes of a block. They are a list like those of values, linked in both directions: of the number that no
-- list has, and without values.
use Rattle.std.specs.Prelude.{◌≡◌, ℕ, ◌+◌, ◌<◌, ◌≤◌, List, Option, Some, None, length, slice_index_or, slice_set, is_some, count_by, if◌then◌else◌}
use Rattle.std.specs.Option.{ForSome}
use Rattle.foyer_policy.specs.declared.lists.arena.Links.{Links}
use Rattle.foyer_policy.specs.Block.{IsFilled}
use Rattle.foyer_policy.specs.Lists.{first_or, find_in, IsDistinct}
use Rattle.foyer_policy.specs.Nodes.{Node, node_with, walk, IsChain}

module _ {T : Type 0} where
  -- a node of the block, where it has no value
  abbrev pub free_node : Option Links → Option T → Option (Node (Unit {0}))
  free_node (Some l) None = Some (node_with l tt)
  free_node (Some l) (Some v) = None
  free_node None o = None

  -- the node of a number, where it has no value
  abbrev pub free_nodes : List (Option Links) → List (Option T) → ℕ → Option (Node (Unit {0}))
  free_nodes ls vs q = free_node (slice_index_or ls q None) (slice_index_or vs q None)

  -- so many nodes have a value
  abbrev pub used_of : List (Option T) → ℕ
  used_of = count_by is_some

  -- the free ones among the nodes from k on are these, of the list n: each once, and there is no other
  pub record AreFree (n : ℕ) (ls : List (Option Links)) (vs : List (Option T)) (free : Option ℕ) (k : ℕ)
      (l : List (ℕ × Unit {0})) : Type 0 where
    pub first : free ≡ first_or l None
    pub chain : IsChain (free_nodes ls vs) n None l None
    pub once : IsDistinct l
    pub every : (q : ℕ) → k ≤ q → q < length vs → slice_index_or vs q None ≡ None → find_in q l ≡ Some tt
    pub count : length l + used_of vs + k ≡ length vs

  -- the free nodes from one on, at most so many
  abbrev pub free_from : List (Option Links) → List (Option T) → ℕ → Option ℕ → List (ℕ × Unit {0})
  free_from ls vs = walk (free_nodes ls vs)

-- the links of the first free node
abbrev pub free_links : ℕ → Option ℕ → Links
free_links n after = record { list = n; before = None; after = after }

-- links that lead back to another node
abbrev pub leads_back : Option ℕ → Option Links → Option Links
leads_back to None = None
leads_back to (Some l) = Some (record { list = l.list; before = to; after = l.after })

-- links that lead on to another node
abbrev pub leads_on : Option ℕ → Option Links → Option Links
leads_on to None = None
leads_on to (Some l) = Some (record { list = l.list; before = l.before; after = to })

-- the links of the nodes, with those of one written anew, where there is such a one
abbrev pub rewritten : (Option Links → Option Links) → Option ℕ → List (Option Links) → List (Option Links)
rewritten h None ls = ls
rewritten h (Some p) ls = slice_set ls p (h (slice_index_or ls p None))

-- once the node p, in the list n, stands before the free ones
abbrev pub put_free : ℕ → ℕ → Option ℕ → List (Option Links) → List (Option Links)
put_free n p free ls = slice_set (rewritten (leads_back (Some p)) free ls) p (Some (free_links n free))

-- once the neighbours of a node with these links lead to each other
abbrev pub joined : Option Links → List (Option Links) → List (Option Links)
joined None ls = ls
joined (Some l) ls = rewritten (leads_on l.after) l.before (rewritten (leads_back l.before) l.after ls)

-- the first free node, once one with these links is none of them
abbrev pub first_beside : Option Links → Option ℕ → Option ℕ
first_beside None free = free
first_beside (Some l) free = if is_some l.before then free else l.after

-- the neighbours of a node with these links have links
abbrev pub HasNeighbours : List (Option Links) → Option Links → Type 0
HasNeighbours ls None = Unit {0}
HasNeighbours ls (Some l) = ForSome l.before (IsFilled ls) × ForSome l.after (IsFilled ls)
