-- What the rules of a cache make of a record that is to come in.
use Rattle.std.specs.Prelude.{◌≡◌, ℕ, Bool}

-- What the rules of a cache say of what is to come in.
pub record Rules (K V P : Type 0) : Type 1 where
  -- the hash of a key
  pub hash : K → ℕ
  -- the weights that the weighter may give a key's value
  pub weighs : K → V → ℕ → Type 0
  -- the answers that the filter may give of it
  pub admits : K → V → Bool → Type 0
  -- the properties that a value comes in with, by the filter's answer
  pub properties : P → Bool → P

-- a weight that the weighter may give it, and its properties with an answer that the filter may give: `properties` says
-- what they are with that answer
pub record Judges {P : Type 0} (weighs : ℕ → Type 0) (admits : Bool → Type 0) (properties : Bool → P) (weight : ℕ)
    (marked : P) : Type 0 where
  pub weighed : weighs weight
  pub admitted : Bool
  pub answered : admits admitted
  pub marked_is : marked ≡ properties admitted
