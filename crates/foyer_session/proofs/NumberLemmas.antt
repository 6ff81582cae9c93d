-- When a word is a number.
use Rattle.std.proofs.Common.{◌≡◌, ℕ, ◌+◌, ◌-◌, ◌^◌, ◌<◌, ◌≤◌, ◌*◌, le-ltb, take_all, Bool, true, false, cond, ◌&&◌, List, length, get_or, take, Some, None, IfSome, refl, sym, ap, ◌∙◌, subst, arith, ltb, leb, ltb-true, leb-true, lt-ltb, le-leb}
use Rattle.std.specs.Char.{digit_value}
use Rattle.std.specs.Int.{IsInRange}
use Rattle.std.specs.Str.{all_ascii_digits}
use Rattle.std.specs.Str.Parse.{digits_value, AllDigits}
use Rattle.std.proofs.lemmas.Bool.{and_parts, and_from, cond-true, cond-false, false_from_ne_true}
use Rattle.std.proofs.lemmas.Int.Digits.{digits_value_more, digits_more}
use Rattle.std.proofs.lemmas.Str.Parse.{IsNumeralModel, numerals_by_value, tells_all_ascii_digits, digit_at, digits_value-take-le}
use Rattle.foyer_session.specs.Text.{number_of}

numerals : IsNumeralModel (λ ds. all_ascii_digits ds ≡ true) (digits_value 10)
numerals = numerals_by_value (λ ds. all_ascii_digits ds ≡ true) tells_all_ascii_digits

-- a word that is a number
pub record IsNumber (word : List ℕ) : Type 0 where
  pub some : 0 < length word
  pub short : length word ≤ 20
  pub digits : AllDigits 10 word
  pub small : digits_value 10 word < 2 ^ 64

-- the test of `number_of`
abbrev is_number : List ℕ → Bool
is_number word = ltb 0 (length word) && leb (length word) 20 && all_ascii_digits word
    && ltb (digits_value 10 word) (2 ^ 64)

is_number-true : (word : List ℕ) → IsNumber word → is_number word ≡ true
is_number-true word h = and_from _ _
    (and_from _ _ (and_from _ _ (lt-ltb _ _ h.some) (le-leb _ _ h.short)) (numerals.from word h.digits))
    (lt-ltb _ _ h.small)

IsNumber-from_test : (word : List ℕ) → is_number word ≡ true → IsNumber word
IsNumber-from_test word h =
    let (front, small) = and_parts (ltb 0 (length word) && leb (length word) 20 && all_ascii_digits word) _ h in
    let (sized, digits) = and_parts (ltb 0 (length word) && leb (length word) 20) _ front in
    let (some, short) = and_parts (ltb 0 (length word)) _ sized in
    record {
      some = ltb-true _ _ some;
      short = leb-true _ _ short;
      digits = numerals.to word digits;
      small =
          ltb-true _ _ small;
    }

pub number_of-number : (word : List ℕ) → IsNumber word → number_of word ≡ Some (digits_value 10 word)
unfolding number_of
number_of-number word h = cond-true (is_number word) _ _ (is_number-true word h)

pub number_of-other : (word : List ℕ) → (IsNumber word → ⊥) → number_of word ≡ None
unfolding number_of
number_of-other word h = cond-false (is_number word) _ _ (false_from_ne_true _ (λ e. h (IsNumber-from_test word e)))

-- the first i bytes of a word are digits, and write this value
pub record IsFront (word : List ℕ) (i value : ℕ) : Type 0 where
  pub digits : AllDigits 10 (take i word)
  pub value_is : value ≡ digits_value 10 (take i word)
  pub small : value < 2 ^ 64

-- the byte is a digit, with which the value goes on below the limit
abbrev pub GoesOn : ℕ → ℕ → Type 0
GoesOn value byte = IsInRange 48 57 byte × (value * 10 + (byte - 48) < 2 ^ 64)

digit_value-in_range : (c : ℕ) → IsInRange 48 57 c → digit_value c ≡ c - 48
digit_value-in_range c h =
    let low : ltb c 48 ≡ false = le-ltb c 48 h.0 in
    let high : ltb c 58 ≡ true = lt-ltb c 58 (omega (arith, h.1)) in
    rw (low, high) refl

pub IsFront-more : (word : List ℕ) (i value more : ℕ) → i < length word → IsFront word i value →
    GoesOn value (get_or word i 0) × (more ≡ value * 10 + (get_or word i 0 - 48)) → IsFront word (i + 1) more
IsFront-more word i value more within front (goes, more_is) =
    let digit = get_or word i 0 in
    let value_of = digit_value-in_range digit goes.0 in
    record {
      digits = digits_more 10 word i within front.digits (omega (arith, value_of, goes.0));
      value_is = more_is ∙ ap (λ v. v * 10 + (digit - 48)) front.value_is
          ∙ ap (λ d. digits_value 10 (take i word) * 10 + d) (sym value_of) ∙ sym (digits_value_more 10 word i within);
      small = subst (λ v. v < 2 ^ 64) (sym more_is) goes.1;
    }

pub number_of-stopped : (word : List ℕ) (i value : ℕ) → i < length word → IsFront word i value →
    (GoesOn value (get_or word i 0) → ⊥) → number_of word ≡ None
number_of-stopped word i value within front bad = number_of-other word (λ number.
    let range = digit_at word i number.digits within in
    let value_of = digit_value-in_range (get_or word i 0) range in
    let so_far = digits_value_more 10 word i within in
    let below = digits_value-take-le 10 word (i + 1) (omega arith) in
    bad (range, omega (arith, number.small, so_far, below, value_of, front.value_is)))

-- all bytes were read
pub number_of-read : (word : List ℕ) (i value : ℕ) → 0 < length word → length word ≤ 20 → length word ≤ i →
    IsFront word i value → Some value ≡ number_of word
number_of-read word i value some short read front =
    let whole : take i word ≡ word = take_all i word read in
    let is : value ≡ digits_value 10 word = front.value_is ∙ ap (digits_value 10) whole in
    ap Some is ∙
    sym (number_of-number word
    (record {
      some = some;
      short = short;
      digits = subst (AllDigits 10) whole front.digits;
      small =
          subst (λ v. v < 2 ^ 64) is front.small;
    }))

-- a number is short
pub number_of-short : (word : List ℕ) → IfSome (number_of word) (λ _. length word ≤ 20)
unfolding number_of
number_of-short word = at (is_number word) (λ e. (IsNumber-from_test word e).short)
  where
    at : (b : Bool) → (b ≡ true → length word ≤ 20) →
        IfSome (cond b (Some (digits_value 10 word)) None) (λ _. length word ≤ 20)
    at true h = h refl
    at false h = tt
