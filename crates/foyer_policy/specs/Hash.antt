-- What a `ModHasher` computes: the number that the written bytes are the digits of.
use Rattle.std.specs.Prelude.{ℕ, ◌+◌, ◌*◌, ◌%◌, ◌^◌, List, length, sum_by}
use Rattle.std.specs.List.{enumerate_from}

-- the digits so far: their sum, and what the next byte counts, both modulo 2 ^ 64
pub record Digits : Type 0 where
  pub sum : ℕ
  pub place : ℕ

-- bytes as the digits of a number to base 256, the least significant first
abbrev pub number_of_bytes : List ℕ → ℕ
number_of_bytes bytes = sum_by (λ d. d.1 * 256 ^ d.0) (enumerate_from 0 bytes)

-- before the first byte
abbrev pub no_digits : Digits
no_digits = record { sum = 0; place = 1 }

-- after these bytes
abbrev pub with_bytes : Digits → List ℕ → Digits
with_bytes d bytes =
    record { sum = (d.sum + d.place * number_of_bytes bytes) % 2 ^ 64; place = (d.place * 256 ^ length bytes) % 2 ^ 64 }
