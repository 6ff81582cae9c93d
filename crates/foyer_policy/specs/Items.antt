-- Lists of items.
use Rattle.std.specs.Prelude.{◌≡◌, ◌==◌, ℕ, ◌+◌, ◌<◌, ◌≤◌, List, [], ◌∷◌, ◌++◌, Option, Some, None, length, if◌then◌else◌, sum_by, nat_le}
use Rattle.foyer_policy.specs.declared.types.Item.{Item}

-- the sum of the weights
abbrev pub weight_of : List Item → ℕ
weight_of = sum_by (λ i. i.weight)

-- how many items have the id
abbrev pub count_of : ℕ → List Item → ℕ
count_of id = sum_by (λ i. if i.id == id then 1 else 0)

-- no item has the id
abbrev pub IsNewIn : ℕ → List Item → Type 0
IsNewIn id items = count_of id items ≡ 0

-- no two items have one id
abbrev pub HasIdsOnce : List Item → Type 0
HasIdsOnce items = (id : ℕ) → count_of id items ≤ 1

-- the items of the first list are among those of the second, each as often at least: whatever is
-- counted of an item, the first list's sum is at most the second's
abbrev pub IsWithin : List Item → List Item → Type 0
IsWithin xs ys = (measure : Item → ℕ) → sum_by measure xs ≤ sum_by measure ys

-- the list without its first item of this id
abbrev pub remove_id : ℕ → List Item → List Item
remove_id id [] = []
remove_id id (i ∷ is) = if i.id == id then is else i ∷ remove_id id is

-- the first item of this id
abbrev pub find_id : ℕ → List Item → Option Item
find_id id [] = None
find_id id (i ∷ is) = if i.id == id then Some i else find_id id is

module _ {X : Type 0} (weight : X → ℕ) where
  -- the longest tail of weight at most this
  abbrev pub fit : ℕ → List X → List X
  fit limit [] = []
  fit limit (x ∷ xs) = if nat_le (weight x + sum_by weight xs) limit then x ∷ xs else fit limit xs

  -- what stands before that tail
  abbrev pub over : ℕ → List X → List X
  over limit [] = []
  over limit (x ∷ xs) = if nat_le (weight x + sum_by weight xs) limit then [] else x ∷ over limit xs

  -- the two parts make the list, the second is within the limit, and each longer tail is not
  pub record IsLongestTail (limit : ℕ) (before tail whole : List X) : Type 0 where
    pub parts : whole ≡ before ++ tail
    pub within : sum_by weight tail ≤ limit
    pub longest : (xs ys : List X) → whole ≡ xs ++ ys → length tail < length ys → limit < sum_by weight ys
