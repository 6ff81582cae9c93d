-- Lines that are bad for their length.
use Rattle.std.proofs.Common.{◌≡◌, ℕ, suc, ◌+◌, ◌*◌, ◌<◌, ◌≤◌, false, List, [], ◌∷◌, length, Option, Some, None, IfSome, option_map, option_and_then, bytes_eq, codes, refl, ap, arith}
use Rattle.std.proofs.lemmas.Bool.{false_from_ne_true}
use Rattle.std.proofs.lemmas.Slice.Eq.{bytes_eq-Decides}
use Rattle.foyer_session.specs.declared.text.Line.TheVariants.{Bad}
use Rattle.foyer_session.specs.Text.{number_of, numbers_of, line_with_none, line_with_one, line_with_two, line_with_three, line_with_four, insert_line, line_with, line_of_words}
use Rattle.foyer_session.proofs.NumberLemmas.{number_of-short}

bytes_eq-long : (word name : List ℕ) → length name < length word → bytes_eq word name ≡ false
bytes_eq-long word name long = false_from_ne_true (bytes_eq word name)
    (λ e. omega (arith, ap length ((bytes_eq-Decides word name).0 e)))

-- no first word is longer than 8 bytes
line_with_none-long : (verb : List ℕ) → 8 < length verb → line_with_none verb ≡ Bad
unfolding line_with_none
line_with_none-long verb long = rw (bytes_eq-long verb (codes "clear") (omega arith), bytes_eq-long verb (codes "evict") (omega arith)) refl

line_with_one-long : (verb : List ℕ) (n : ℕ) → 8 < length verb → line_with_one verb n ≡ Bad
unfolding line_with_one
line_with_one-long verb n long = rw (bytes_eq-long verb (codes "get") (omega arith), bytes_eq-long verb (codes "contains") (omega arith), bytes_eq-long verb (codes "touch") (omega arith), bytes_eq-long verb (codes "remove") (omega arith), bytes_eq-long verb (codes "drop") (omega arith), bytes_eq-long verb (codes "resize") (omega arith), bytes_eq-long verb (codes "fetch") (omega arith), bytes_eq-long verb (codes "at") (omega arith)) refl

insert_line-long : (verb : List ℕ) (key value weight : ℕ) → 8 < length verb → insert_line verb key value weight ≡ Bad
unfolding insert_line
insert_line-long verb key value weight long = rw (bytes_eq-long verb (codes "insert") (omega arith), bytes_eq-long verb (codes "phantom") (omega arith)) refl

line_with_two-long : (verb : List ℕ) (m n : ℕ) → 8 < length verb → line_with_two verb m n ≡ Bad
unfolding line_with_two
line_with_two-long verb m n long = rw (bytes_eq-long verb (codes "high") (omega arith), bytes_eq-long verb (codes "cancel") (omega arith)) (insert_line-long verb m n 1 long)

line_with_three-long : (verb : List ℕ) (k m n : ℕ) → 8 < length verb → line_with_three verb k m n ≡ Bad
unfolding line_with_three
line_with_three-long verb k m n long = rw (bytes_eq-long verb (codes "done") (omega arith)) (insert_line-long verb k m n long)

line_with_four-long : (verb : List ℕ) (key value weight expires : ℕ) → 8 < length verb →
    line_with_four verb key value weight expires ≡ Bad
unfolding line_with_four
line_with_four-long verb key value weight expires long = rw (bytes_eq-long verb (codes "insert") (omega arith)) refl

-- the bytes of the words, and one more for each
abbrev pub weight_of : List (List ℕ) → ℕ
weight_of [] = 0
weight_of (word ∷ more) = suc (length word) + weight_of more

-- words that are numbers are short
numbers_of-short : (more : List (List ℕ)) →
    IfSome (numbers_of more) (λ ns. (length ns ≡ length more) × (weight_of more ≤ 21 * length more))
numbers_of-short [] = (refl, omega arith)
numbers_of-short (word ∷ more) = at (number_of word) (numbers_of more) (number_of-short word) (numbers_of-short more)
  where
    at : (o : Option ℕ) (os : Option (List ℕ)) → IfSome o (λ _. length word ≤ 20) →
        IfSome os (λ ns. (length ns ≡ length more) × (weight_of more ≤ 21 * length more))
        → IfSome (option_and_then (λ n. option_map (λ ns. n ∷ ns) os) o)
        (λ ns. (length ns ≡ suc (length more)) × (suc (length word) + weight_of more ≤ 21 * suc (length more)))
    at None os h k = tt
    at (Some n) None h k = tt
    at (Some n) (Some ns) h k = (ap suc k.0, omega (arith, k.1))

line_with-long : (verb : List ℕ) (o : Option (List ℕ)) (count weight : ℕ) →
    IfSome o (λ ns. (length ns ≡ count) × (weight ≤ 21 * count)) → 105 < suc (length verb) + weight → line_with verb o
    ≡ Bad
line_with-long verb None count weight h long = refl
line_with-long verb (Some []) count weight h long = line_with_none-long verb (omega (arith, h.0, h.1))
line_with-long verb (Some (n ∷ [])) count weight h long = line_with_one-long verb n (omega (arith, h.0, h.1))
line_with-long verb (Some (m ∷ n ∷ [])) count weight h long = line_with_two-long verb m n (omega (arith, h.0, h.1))
line_with-long verb (Some (k ∷ m ∷ n ∷ [])) count weight h long =
    line_with_three-long verb k m n (omega (arith, h.0, h.1))
line_with-long verb (Some (j ∷ k ∷ m ∷ n ∷ [])) count weight h long =
    line_with_four-long verb j k m n (omega (arith, h.0, h.1))
line_with-long verb (Some (i ∷ j ∷ k ∷ m ∷ n ∷ ns)) count weight h long = refl

-- words of more than 105 bytes, with one more for each, are no good line
pub line_of_words-long : (all : List (List ℕ)) → 105 < weight_of all → line_of_words all ≡ Bad
line_of_words-long [] long = absurd (omega arith)
line_of_words-long (verb ∷ more) long = line_with-long verb (numbers_of more) (length more) (weight_of more)
    (numbers_of-short more) long
