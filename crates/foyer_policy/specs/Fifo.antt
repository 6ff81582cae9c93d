-- First in, first out.
use Rattle.std.specs.Prelude.{true, List, [], ◌∷◌, ◌++◌, Option, Some, None}
use Rattle.foyer_policy.specs.Items.{remove_id}
use Rattle.foyer_policy.specs.Policy.{Policy}
use Rattle.foyer_policy.specs.declared.types.Item.{Item}

-- the first item, and the rest
abbrev pub take_first : List Item → Option (Item × List Item)
take_first [] = None
take_first (i ∷ is) = Some (i, is)

-- One list: push appends, pop takes the first. Every configuration is accepted.
abbrev pub fifo : (C : Type 0) → Policy (List Item) C
fifo C = record {
  fault = λ c. None;
  takes = λ _ _. true;
  opening = λ capacity c. [];
  order = λ v. v;
  pinned = λ v. [];
  push = λ v i. v ++ i ∷ [];
  pop = take_first;
  remove = λ v id. remove_id id v;
  acquire = λ v id. v;
  release = λ v id. v;
  update = λ v capacity config. v;
  clear = λ v. [];
  looks = λ v. 0;
  credit = λ v. 0;
}
