-- Texts and digits that are written piece by piece.
use Rattle.std.proofs.Common.{◌≡◌, ℕ, ◌+◌, ◌-◌, ◌/◌, ◌%◌, ◌^◌, ◌<◌, ◌≤◌, List, [], ◌∷◌, ◌++◌, Some, length, drop, set, decimal, sym, ap, ◌∙◌, arith, append_assoc, append-nil, length-append, length-drop, length-set}
use Rattle.std.proofs.lemmas.List.{drop_all, drop-set}
use Rattle.std.proofs.lemmas.Fmt.{decimal_is_IsNumeral, decimal_is_IsNumeral_wide, decimal_digit, decimal_step_wide, length-decimal-le}
use Rattle.foyer_session.specs.Text.{number_of}
use Rattle.foyer_session.proofs.NumberLemmas.{number_of-number}

-- what is printed of a number is read as it
pub number_of-decimal : (n : ℕ) → n < 2 ^ 64 → number_of (decimal n) ≡ Some n
number_of-decimal n small =
    let (numeral, value) = decimal_is_IsNumeral n small in
    number_of-number (decimal n) (record {
      some = numeral.0;
      short = length-decimal-le 20 n (omega arith) (omega arith) small;
      digits = numeral.1;
      small = rw value small;
    }) ∙ ap Some value

-- the last digits of a number stand in the buffer, from start on, and those of front are still to come
pub record Fills (number front start : ℕ) (buffer : List ℕ) : Type 0 where
  pub within : start ≤ length buffer
  pub room : 0 < start
  pub small : front < 10 ^ 64
  pub text : decimal number ≡ decimal front ++ drop start buffer

decimal_some : (n : ℕ) → n < 10 ^ 64 → 0 < length (decimal n)
decimal_some n small = (decimal_is_IsNumeral_wide n small).0.0

drop-length : (xs : List ℕ) → drop (length xs) xs ≡ []
drop-length xs = drop_all (length xs) xs (omega arith)

pub Fills-none : (number : ℕ) (buffer : List ℕ) → number < 10 ^ 64 → length (decimal number) ≤ length buffer →
    Fills number number (length buffer) buffer
Fills-none number buffer small fits = record {
  within = omega arith;
  room = omega (arith, fits, decimal_some number small);
  small = small;
  text = sym (ap (λ l. decimal number ++ l) (drop-length buffer) ∙ append-nil (decimal number));
}

drop-written : (start digit : ℕ) (buffer : List ℕ) → start ≤ length buffer → 0 < start →
    drop (start - 1) (set buffer (start - 1) digit) ≡ digit ∷ drop start buffer
drop-written start digit buffer within room =
    let next : start - 1 + 1 ≡ start = omega arith in
    drop-set buffer (start - 1) digit (omega arith) ∙ ap (λ k. digit ∷ drop k buffer) next

-- a digit more
pub Fills-more : (number front start : ℕ) (buffer : List ℕ) → length (decimal number) ≤ length buffer →
    Fills number front start buffer → 10 ≤ front →
    Fills number (front / 10) (start - 1) (set buffer (start - 1) (48 + front % 10))
Fills-more number front start buffer fits f more =
    let digit = 48 + front % 10 in
    let small : front / 10 < 10 ^ 64 = omega (arith, f.small) in
    let step = decimal_step_wide front more f.small in
    record {
      within = omega (arith, f.within, length-set buffer (start - 1) digit);
      room = omega (
        arith,
        f.within,
        fits,
        ap length f.text,
        length-append (decimal front) (drop start buffer),
        length-drop start buffer,
        ap length step,
        length-append (decimal (front / 10)) (digit ∷ []),
        decimal_some (front / 10) small,
      );
      small = small;
      text = f.text ∙ ap (λ l. l ++ drop start buffer) step
          ∙ append_assoc (decimal (front / 10)) (digit ∷ []) (drop start buffer)
          ∙ ap (λ l. decimal (front / 10) ++ l) (sym (drop-written start digit buffer f.within f.room));
    }

-- the first digit
pub Fills-last : (number front start : ℕ) (buffer : List ℕ) → Fills number front start buffer → front < 10 →
    drop (start - 1) (set buffer (start - 1) (48 + front)) ≡ decimal number
Fills-last number front start buffer f last =
    drop-written start (48 + front) buffer f.within f.room
    ∙ ap (λ l. l ++ drop start buffer) (sym (decimal_digit front last)) ∙ sym f.text
