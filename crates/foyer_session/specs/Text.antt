-- The lines that the program reads.
use Rattle.std.specs.Prelude.{◌≡◌, ℕ, ◌==◌, ◌^◌, ◌&&◌, List, [], ◌∷◌, length, filter, Option, Some, None, option_map, option_and_then, nat_lt, nat_le, if◌then◌else◌, bytes_eq, codes}
use Rattle.std.specs.List.{slice_split}
use Rattle.std.specs.Str.{all_ascii_digits}
use Rattle.std.specs.Str.Parse.{digits_value}
use Rattle.std.specs.Io.BufRead.{first_piece, drop_through}
use Rattle.foyer_session.specs.declared.text.Line.{Line}
use Rattle.foyer_session.specs.declared.text.Line.TheVariants.{Blank, Insert, Phantom, Get, Contains, Touch, Remove, Drop, Clear, Evict, Resize, High, Fetch, At, Done, Cancel, Bad}

-- the words: the longest runs of bytes other than the space, in order
unfoldable pub words : List ℕ → List (List ℕ)
words bytes = filter (λ run. nat_lt 0 (length run)) (slice_split (λ b. b == 32) bytes)

-- the number that a word is, if it is one: 1 to 20 decimal digits with a value below 2^64
unfoldable pub number_of : List ℕ → Option ℕ
number_of word = if nat_lt 0 (length word) && nat_le (length word) 20 && all_ascii_digits word
    && nat_lt (digits_value 10 word) (2 ^ 64)
    then Some (digits_value 10 word) else None

-- the numbers that the words are, if each is one
abbrev pub numbers_of : List (List ℕ) → Option (List ℕ)
numbers_of [] = Some []
numbers_of (word ∷ more) = option_and_then (λ n. option_map (λ ns. n ∷ ns) (numbers_of more)) (number_of word)

-- the line of a first word alone
unfoldable pub line_with_none : List ℕ → Line
line_with_none verb = if bytes_eq verb (codes "clear") then Clear
    else (if bytes_eq verb (codes "evict") then Evict
    else Bad)

-- of a first word and one number
unfoldable pub line_with_one : List ℕ → ℕ → Line
line_with_one verb n = if bytes_eq verb (codes "get") then Get n
    else (if bytes_eq verb (codes "contains") then Contains n
    else (if bytes_eq verb (codes "touch") then Touch n
    else (if bytes_eq verb (codes "remove") then Remove n
    else (if bytes_eq verb (codes "drop") then Drop n
    else (if bytes_eq verb (codes "resize") then Resize n
    else (if bytes_eq verb (codes "fetch") then Fetch n
    else (if bytes_eq verb (codes "at") then At n
    else Bad)))))))

-- of a share, whose numbers are below 2^32
abbrev pub high_line : ℕ → ℕ → Line
high_line num den = if nat_lt num (2 ^ 32) && nat_lt den (2 ^ 32) then High (record { num = num; den = den }) else Bad

-- of a record that is to come in
unfoldable pub insert_line : List ℕ → ℕ → ℕ → ℕ → Line
insert_line verb key value weight = if bytes_eq verb (codes "insert") then Insert key value weight None
    else (if bytes_eq verb (codes "phantom") then Phantom key value weight
    else Bad)

-- of a first word and two numbers; a weight that is left out is 1
unfoldable pub line_with_two : List ℕ → ℕ → ℕ → Line
line_with_two verb m n = if bytes_eq verb (codes "high") then high_line m n
    else (if bytes_eq verb (codes "cancel") then Cancel m n
    else insert_line verb m n 1)

-- of a first word and three numbers
unfoldable pub line_with_three : List ℕ → ℕ → ℕ → ℕ → Line
line_with_three verb k m n = if bytes_eq verb (codes "done") then Done k m n
    else insert_line verb k m n

-- of a first word and four numbers, of which the last one is when a record expires
unfoldable pub line_with_four : List ℕ → ℕ → ℕ → ℕ → ℕ → Line
line_with_four verb key value weight expires = if bytes_eq verb (codes "insert")
    then Insert key value weight (Some expires) else Bad

-- of a first word and the numbers after it, `None` where a later word is no number
abbrev pub line_with : List ℕ → Option (List ℕ) → Line
line_with verb (Some []) = line_with_none verb
line_with verb (Some (n ∷ [])) = line_with_one verb n
line_with verb (Some (m ∷ n ∷ [])) = line_with_two verb m n
line_with verb (Some (k ∷ m ∷ n ∷ [])) = line_with_three verb k m n
line_with verb (Some (k ∷ m ∷ n ∷ e ∷ [])) = line_with_four verb k m n e
line_with verb _ = Bad

-- the line of these words
abbrev pub line_of_words : List (List ℕ) → Line
line_of_words [] = Blank
line_of_words (verb ∷ more) = line_with verb (numbers_of more)

-- the line of these bytes, which have no byte 10
abbrev pub line_of : List ℕ → Line
line_of bytes = line_of_words (words bytes)

-- the first line of the input, up to a byte 10 or to the end; an empty input has none
abbrev pub next_line : List ℕ → Option Line
next_line [] = None
next_line (b ∷ bs) = Some (line_of (first_piece 10 (b ∷ bs)))

-- these are the first lines of the input, and this is left after them
abbrev pub Lines : List ℕ → List Line → List ℕ → Type 0
Lines input [] rest = rest ≡ input
Lines input (line ∷ lines) rest = (next_line input ≡ Some line) × Lines (drop_through 10 input) lines rest
