-- Which item of some lists is due first.
use Rattle.std.specs.Prelude.{ℕ, zero, suc, List, [], ◌∷◌, ◌++◌, Option, Some, None, map}
use Rattle.foyer_policy.specs.Lists.{list_at}
use Rattle.foyer_policy.specs.declared.types.Item.{Item}

-- the first item, if there is one
abbrev pub first_item : List Item → Option Item
first_item [] = None
first_item (i ∷ is) = Some i

module _ {T : Type 0} (item : T → Item) where
  -- the items of the first lists, so many, list by list
  abbrev pub first_lists : List (List (ℕ × T)) → ℕ → List Item
  first_lists ls zero = []
  first_lists ls (suc k) = first_lists ls k ++ map (λ e. item e.1) (list_at ls k)
