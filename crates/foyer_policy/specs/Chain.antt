-- How the nodes of an arena are linked.
use Rattle.std.specs.Prelude.{◌≡◌, ◌==◌, ℕ, ◌<◌, List, Option, Some, None, length, map, sum_by, slice_index_or, slice_set, Bool, false, if◌then◌else◌}
use Rattle.foyer_policy.specs.declared.lists.arena.Arena.{Arena}
use Rattle.foyer_policy.specs.Nodes.{Node, walk, IsChain}
use Rattle.foyer_policy.specs.Arena.{get, IsArena}
use Rattle.foyer_policy.specs.Lists.{list_at, first_or, last_or, IsDistinct}

-- whether an optional number is this one
abbrev pub is_at : Option ℕ → ℕ → Bool
is_at None q = false
is_at (Some p) q = p == q

-- the ends, where there is no node at this side
abbrev pub end_set : Option ℕ → ℕ → Option ℕ → List (Option ℕ) → List (Option ℕ)
end_set None k to ends = slice_set ends k to
end_set (Some p) k to ends = ends

module _ {T : Type 0} where
  -- the list k, with its head and its tail
  pub record IsList (f : ℕ → Option (Node T)) (k : ℕ) (front back : Option ℕ) (l : List (ℕ × T)) : Type 0 where
    pub head : front ≡ first_or l None
    pub tail : back ≡ last_or l None
    pub chain : IsChain f k None l None

  -- the nodes, the heads and the tails are linked as these lists
  pub record Linked (f : ℕ → Option (Node T)) (heads tails : List (Option ℕ)) (ls : List (List (ℕ × T))) : Type 0 where
    pub heads_len : length heads ≡ length ls
    pub tails_len : length tails ≡ length ls
    pub each : (k : ℕ) → k < length ls → IsList f k (slice_index_or heads k None) (slice_index_or tails k None)
        (list_at ls k)
    pub distinct : (k : ℕ) → k < length ls → IsDistinct (list_at ls k)

  -- and there are no other nodes
  pub record Holds {n : ℕ} (nodes : Arena T n) (heads tails : List (Option ℕ)) (ls : List (List (ℕ × T))) : Type 0 where
    pub arena : IsArena nodes
    pub linked : Linked (get nodes) heads tails ls
    pub count : sum_by length ls ≡ nodes.used

  abbrev pub lists_of : {n : ℕ} → Arena T n → List (Option ℕ) → List (List (ℕ × T))
  lists_of nodes heads = map (walk (get nodes) nodes.used) heads

  abbrev pub after_set : Option ℕ → Option (Node T) → Option (Node T)
  after_set to None = None
  after_set to (Some node) = Some (record { value = node.value; list = node.list; before = node.before; after = to })

  abbrev pub before_set : Option ℕ → Option (Node T) → Option (Node T)
  before_set to None = None
  before_set to (Some node) = Some (record { value = node.value; list = node.list; before = to; after = node.after })

  -- the nodes but the one at a place
  abbrev pub all_but : ℕ → (ℕ → Option (Node T)) → ℕ → Option (Node T)
  all_but p f q = if q == p then None else f q

  -- the nodes, the heads and the tails are lists
  abbrev pub IsSound : {n : ℕ} → Arena T n → List (Option ℕ) → List (Option ℕ) → Type 0
  IsSound nodes heads tails = Holds nodes heads tails (lists_of nodes heads)
