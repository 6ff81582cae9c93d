-- An arena of nodes over one block: what a node holds, and which are free.
use Rattle.std.specs.Prelude.{◌≡◌, ℕ, ◌^◌, ◌<◌, ◌≤◌, List, Option, Some, None, length, slice_index_or, slice_set, IsSome}
use Rattle.foyer_policy.specs.declared.lists.arena.Links.{Links}
use Rattle.foyer_policy.specs.declared.lists.arena.Arena.{Arena}
use Rattle.foyer_policy.specs.Nodes.{Node, node_with}
use Rattle.foyer_policy.specs.Free.{AreFree, free_from, used_of, put_free}

module _ {T : Type 0} where
  -- a node of the block, where it has a value
  abbrev pub node_of : Option Links → Option T → Option (Node T)
  node_of (Some l) (Some v) = Some (node_with l v)
  node_of (Some l) None = None
  node_of None o = None

  -- the value of a node
  abbrev pub value_of : Option (Node T) → Option T
  value_of None = None
  value_of (Some node) = Some node.value

  -- its links
  abbrev pub links_of : Option (Node T) → Option Links
  links_of None = None
  links_of (Some node) = Some (record { list = node.list; before = node.before; after = node.after })

  -- a node with other links
  abbrev pub relinked : Links → Option (Node T) → Option (Node T)
  relinked l None = None
  relinked l (Some node) = Some (node_with l node.value)

  -- the node of a number, where it has a value
  abbrev pub node_at : List (Option Links) → List (Option T) → ℕ → Option (Node T)
  node_at ls vs q = node_of (slice_index_or ls q None) (slice_index_or vs q None)

  abbrev pub get : {n : ℕ} → Arena T n → ℕ → Option (Node T)
  get p = node_at p.nodes.links p.nodes.values

-- the first free node of the other block once the node p moved there
abbrev pub moved_free : {T : Type 0} → Option T → ℕ → Option ℕ → Option ℕ
moved_free (Some v) p free = free
moved_free None p free = Some p

module _ {T : Type 0} (n : ℕ) where
  -- a node with a value is in a list, and a free one has the number n
  abbrev pub IsMarked : Option Links → Option T → Type 0
  IsMarked None o = ⊥
  IsMarked (Some l) None = l.list ≡ n
  IsMarked (Some l) (Some v) = l.list < n

  -- what the nodes of a block and the number of the first free one are
  pub record IsLinkedBlock (ls : List (Option Links)) (vs : List (Option T)) (len : ℕ) (free : Option ℕ)
      : Type 0 where
    pub links_len : length ls ≡ len
    pub values_len : length vs ≡ len
    pub small : len < 2 ^ 63
    pub marked : (q : ℕ) → q < len → IsMarked (slice_index_or ls q None) (slice_index_or vs q None)
    pub vacant : AreFree n ls vs free 0 (free_from ls vs len free)

  -- the links of the nodes of the other block once the node p, with these links and this value, moved there: they are
  -- what they were, or it stands before the free ones
  abbrev pub moved_links : Option Links → Option T → ℕ → Option ℕ → List (Option Links) → List (Option Links)
  moved_links l (Some v) p free ls = slice_set ls p l
  moved_links l None p free ls = put_free n p free ls

  -- the nodes from k on have moved from a block, whose values were vs0, to another
  pub record AreMoved (ls : List (Option Links)) (vs0 vs : List (Option T)) (ls1 : List (Option Links))
      (vs1 : List (Option T)) (free : Option ℕ) (k : ℕ) : Type 0 where
    pub stays : (q : ℕ) → q < k → slice_index_or vs q None ≡ slice_index_or vs0 q None
    pub gone : (q : ℕ) → k ≤ q → slice_index_or vs q None ≡ None
    pub blank : (q : ℕ) → q < k → slice_index_or vs1 q None ≡ None
    pub bare : (q : ℕ) → q < k → slice_index_or ls1 q None ≡ None
    pub values : (q : ℕ) → k ≤ q → slice_index_or vs1 q None ≡ slice_index_or vs0 q None
    pub links : (q : ℕ) → k ≤ q → IsSome (slice_index_or vs0 q None)
        → slice_index_or ls1 q None ≡ slice_index_or ls q None
    pub marked : (q : ℕ) → k ≤ q → q < length ls1
        → IsMarked (slice_index_or ls1 q None) (slice_index_or vs1 q None)
    pub same_len : length ls1 ≡ length vs1
    pub kept_len : length vs ≡ length vs0
    pub vacant : AreFree n ls1 vs1 free k (free_from ls1 vs1 (length ls1) free)

-- what holds of an arena
pub record IsArena {T : Type 0} {n : ℕ} (p : Arena T n) : Type 0 where
  pub block : (p.nodes.at ≡ p.base.ptr) × (p.deed.at ≡ p.base.ptr) × (p.deed.len ≡ p.len)
      × (p.deed.alloc ≡ p.alloc)
  pub nodes : IsLinkedBlock n p.nodes.links p.nodes.values p.len p.free
  pub used : used_of p.nodes.values ≡ p.used
