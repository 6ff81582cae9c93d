-- Nodes with values, and chains of them.
use Rattle.std.specs.Prelude.{◌≡◌, ℕ, zero, suc, List, [], ◌∷◌, Option, Some, None}
use Rattle.foyer_policy.specs.declared.lists.arena.Links.{Links}
use Rattle.foyer_policy.specs.Lists.{first_or}

-- a node with a value
pub record Node (T : Type 0) : Type 0 where
  pub value : T
  pub list : ℕ
  pub before : Option ℕ
  pub after : Option ℕ

module _ {T : Type 0} where
  abbrev pub node_with : Links → T → Node T
  node_with l v = record { value = v; list = l.list; before = l.before; after = l.after }

  -- the entries from a node on, along the links, at most so many
  abbrev pub walk_on : ℕ → Option (Node T) → (Option ℕ → List (ℕ × T)) → List (ℕ × T)
  walk_on p None rest = []
  walk_on p (Some node) rest = (p, node.value) ∷ rest node.after

  abbrev pub walk : (ℕ → Option (Node T)) → ℕ → Option ℕ → List (ℕ × T)
  walk f zero at = []
  walk f (suc n) None = []
  walk f (suc n) (Some p) = walk_on p (f p) (λ a. walk f n a)

  -- the nodes of these entries are linked in their order, between these two
  abbrev pub IsChain : (ℕ → Option (Node T)) → ℕ → Option ℕ → List (ℕ × T) → Option ℕ → Type 0
  IsChain f k before [] after = Unit {0}
  IsChain f k before (e ∷ es) after =
      (f e.0 ≡ Some (record { value = e.1; list = k; before = before; after = first_or es after }))
      × IsChain f k (Some e.0) es after
