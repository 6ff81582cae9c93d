-- The text that a program writes for the lines that it reads.
use Rattle.std.specs.Prelude.{◌≡◌, ℕ, List, [], ◌∷◌, ◌++◌, Option, IfSome}
use Rattle.std.specs.Io.KnownBytes.{Appends}
use Rattle.foyer_session.specs.declared.text.Line.{Line}
use Rattle.foyer_session.specs.Text.{Lines}
use Rattle.foyer_session.specs.Print.{AppendsFront}

-- the text of a run over these lines; `Answers` says which text one line may get, and from which state to which
abbrev pub Told : {S : Type 0} → (S → Line → List ℕ → S → Type 0) → S → List Line → List ℕ → S → Type 0
Told Answers old [] text new = (text ≡ []) × (new ≡ old)
Told {S = S} Answers old (line ∷ lines) text new =
    (first : List ℕ) × (rest : List ℕ) × (mid : S) × (text ≡ first ++ rest) × Answers old line first mid
    × Told Answers mid lines rest new

-- the same over the first lines of the input, of which this is left
pub record ToldOf {S : Type 0} (Answers : S → Line → List ℕ → S → Type 0) (old : S) (input rest text : List ℕ)
    (new : S) : Type 0 where
  pub lines : List Line
  pub read : Lines input lines rest
  pub told : Told Answers old lines text new

-- every line of the known input was answered, and the text of them all was appended
abbrev pub TellsAll : {S : Type 0} → (S → Line → List ℕ → S → Type 0) → S → S → Option (List ℕ) → Option (List ℕ) →
    Option (List ℕ) → Type 0
TellsAll Answers old new known held holds =
    IfSome known (λ input. (text : List ℕ) × ToldOf Answers old input [] text new × Appends held holds text)

-- some first lines of the known input were answered, and a beginning of their text was appended
abbrev pub TellsPart : {S : Type 0} → (S → Line → List ℕ → S → Type 0) → S → S → Option (List ℕ) → Option (List ℕ) →
    Option (List ℕ) → Type 0
TellsPart Answers old new known held holds =
    IfSome known
    (λ input. (rest : List ℕ) × (text : List ℕ) × ToldOf Answers old input rest text new
    × AppendsFront held holds text)
