-- What reading a part of a line does to a reader.
use Rattle.std.specs.Prelude.{◌≡◌, ◌≢◌, ℕ, ◌<◌, List, [], ◌∷◌, ◌++◌, length, All, Option}
use Rattle.std.specs.Io.KnownBytes.{Keeps, Consumes, IsAtEnd}
use Rattle.foyer_session.specs.Kept.{StandsFor}
use Rattle.foyer_session.specs.declared.text.scan.Part.{Part}
use Rattle.foyer_session.specs.declared.text.scan.Part.TheVariants.{Nothing, Open, Closed, End}

-- no byte ends a line
abbrev pub HasNoEnd : List ℕ → Type 0
HasNoEnd bytes = All (λ b. b ≢ 10) bytes

-- the reader lost nothing but some first bytes of the line
abbrev pub StopsWithin : Option (List ℕ) → Option (List ℕ) → Type 0
StopsWithin old new = (part : List ℕ) × HasNoEnd part × Consumes old new part

-- a part of the line was taken, and what was kept stands for that too
abbrev pub TakesPart : Option (List ℕ) → Option (List ℕ) → List ℕ → List ℕ → Part → Type 0
TakesPart old new kept next Nothing = Keeps old new × (next ≡ kept)
TakesPart old new kept next Open = (text : List ℕ) × (0 < length text) × HasNoEnd text × Consumes old new text
    × StandsFor next (kept ++ text)
TakesPart old new kept next Closed = (text : List ℕ) × HasNoEnd text × Consumes old new (text ++ 10 ∷ [])
    × StandsFor next (kept ++ text)
TakesPart old new kept next End = IsAtEnd old × Keeps old new × (next ≡ kept)
