-- Remainders by powers of two.
use Rattle.std.proofs.Common.{◌≡◌, ℕ, zero, suc, ◌+◌, ◌-◌, ◌*◌, ◌/◌, ◌%◌, ◌^◌, ◌<◌, ◌≤◌, refl, sym, subst, arith, bit_and}
use Rattle.std.specs.Prelude.{count_ones}
use Rattle.std.proofs.lemmas.Nat.{and_mask, ones_cat, ones_le_self, pow-add, zero_from_ones}

-- the bits of a number are its lowest one and those of its half
halved : (n : ℕ) → count_ones n ≡ count_ones (n / 2) + count_ones (n % 2)
halved n = let parts : n / 2 * 2 ^ 1 + n % 2 ≡ n = omega arith in
    subst (λ (m : ℕ). count_ones m ≡ count_ones (n / 2) + count_ones (n % 2)) parts
    (ones_cat 1 (n / 2) (n % 2) (omega arith))

-- a number above 0 has a bit
ones_some : (m : ℕ) → 0 < m → 1 ≤ count_ones m
ones_some m more = go (count_ones m) refl where
  go : (c : ℕ) → count_ones m ≡ c → 1 ≤ c
  go zero none = let is : m ≡ 0 = zero_from_ones m none in omega arith
  go (suc c) is = omega arith

-- a number of one bit is a power of two
one_bit : (d n : ℕ) → n ≤ d → count_ones n ≡ 1 → (k : ℕ) × (n ≡ 2 ^ k)
one_bit zero n h e = let no : ⊥ = omega (arith, ones_le_self n) in absurd no
one_bit (suc d) n h e = go (one_bit d (n / 2)) (n % 2) refl where
  go : (n / 2 ≤ d → count_ones (n / 2) ≡ 1 → (k : ℕ) × (n / 2 ≡ 2 ^ k)) → (r : ℕ) → n % 2 ≡ r → (k : ℕ) × (n ≡ 2 ^ k)
  go halves zero even =
      let none : count_ones (n % 2) ≤ 0 = omega (arith, ones_le_self (n % 2)) in
      let half = halves (omega arith) (omega (arith, halved n, none)) in
      let twice : 2 ^ (1 + half.0) ≡ 2 * 2 ^ half.0 = pow-add 2 1 half.0 in
      (1 + half.0, omega (arith, half.1, twice))
  go halves (suc r) odd =
      let some : 1 ≤ count_ones (n % 2) = ones_some (n % 2) (omega arith) in
      let half : n / 2 ≡ 0 = zero_from_ones (n / 2) (omega (arith, halved n, some)) in
      (0, omega (arith, half))

-- a mask with the bits below a number's only one gives the remainder by it
pub masked : (h n : ℕ) → count_ones n ≡ 1 → bit_and h (n - 1) ≡ h % n
masked h n e = let power = one_bit n n (omega arith) e in
    subst (λ (m : ℕ). bit_and h (m - 1) ≡ h % m) (sym power.1) (and_mask h power.0)
