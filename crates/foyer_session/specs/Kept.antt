-- A text that stands for the beginning of a line.
use Rattle.std.specs.Prelude.{◌≡◌, ℕ, ◌==◌, Bool, true, not, ◌&&◌, List, [], ◌∷◌, ◌++◌}
use Rattle.foyer_session.specs.Text.{line_of}

-- whatever follows, the line is the same
abbrev pub StandsFor : List ℕ → List ℕ → Type 0
StandsFor kept done = (rest : List ℕ) → line_of (kept ++ rest) ≡ line_of (done ++ rest)

-- the last byte, or this one where there is none
abbrev pub last_after : ℕ → List ℕ → ℕ
last_after last [] = last
last_after last (b ∷ bs) = last_after b bs

-- no space follows a space, where this byte comes first
abbrev pub is_tight_after : ℕ → List ℕ → Bool
is_tight_after last [] = true
is_tight_after last (b ∷ bs) = not (last == 32 && b == 32) && is_tight_after b bs
