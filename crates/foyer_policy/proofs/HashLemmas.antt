-- Numbers of keys: equal keys have equal ones, and what digits to base 256 come to.
use Rattle.std.proofs.Common.{◌≡◌, ℕ, suc, ◌+◌, ◌*◌, ◌%◌, ◌^◌, ◌<◌, Bool, true, List, [], ◌∷◌, ◌++◌, length, refl, sym, ◌∙◌, ap, ap₂, arith, lit<, add-one, length-append, append-nil, sum_by, get_or, take, drop}
use Rattle.std.proofs.Math.Nat.{add-mod-mod, mod-add-mod, mod-eq_of_lt, mod-mod, mul-one, mul-mod_left, zero-mul, mul_comm, mul_assoc, mul_left_comm, mul-add, pow-suc}
use Rattle.std.proofs.lemmas.List.{take_more, take-append-drop}
use Rattle.std.proofs.lemmas.List.Sums.{sum_by-cons}
use Rattle.std.proofs.lemmas.Nat.{mul-mod_first, pow-add, mod_below, from_le_bytes-to_le_bytes_8}
use Rattle.std.specs.Hash.{le_bytes}
use Rattle.std.specs.List.{enumerate_from, concat, fold}
use Rattle.foyer_policy.specs.Hash.{Digits, number_of_bytes, no_digits, with_bytes}

-- equal keys make the same writes, and so have equal numbers
pub hash_of-equal : {K : Type 0} {eq : K → K → Bool} {input : K → List (List ℕ)} →
    ((x y : K) → eq x y ≡ true → input x ≡ input y) → (hash_of : List (List ℕ) → ℕ) (x y : K) → eq x y ≡ true →
    hash_of (input x) ≡ hash_of (input y)
hash_of-equal respects_eq hash_of x y e = ap hash_of (respects_eq x y e)

-- what bytes count as digits, the first of them at place s
abbrev worth_from : ℕ → List ℕ → ℕ
worth_from s bytes = sum_by (λ d. d.1 * 256 ^ d.0) (enumerate_from s bytes)

worth_from-cons : (s b : ℕ) (bs : List ℕ) → worth_from s (b ∷ bs) ≡ b * 256 ^ s + worth_from (s + 1) bs
worth_from-cons s b bs = sum_by-cons {X = ℕ × ℕ} (λ d. d.1 * 256 ^ d.0) (s, b) (enumerate_from (s + 1) bs)

pow_up : (s : ℕ) → 256 ^ (s + 1) ≡ 256 * 256 ^ s
pow_up s = rw add-one (pow-suc 256 s ∙ mul_comm (256 ^ s) 256)

scaled : (b p w u v : ℕ) → p ≡ 256 * w → u ≡ 256 * v → b * p + u ≡ 256 * (b * w + v)
scaled b p w u v e f = rw (e, f) (omega (arith, mul_left_comm b 256 w))

-- one place further on, each byte counts 256 times as much
worth_from-suc : (s : ℕ) (bs : List ℕ) → worth_from (s + 1) bs ≡ 256 * worth_from s bs
worth_from-suc s [] = refl
worth_from-suc s (b ∷ bs) =
    worth_from-cons (s + 1) b bs
    ∙ scaled b (256 ^ (s + 1)) (256 ^ s) _ _ (pow_up s) (worth_from-suc (s + 1) bs)
    ∙ ap (λ n. 256 * n) (sym (worth_from-cons s b bs))

pub number_of_bytes-cons : (b : ℕ) (bs : List ℕ) → number_of_bytes (b ∷ bs) ≡ b + 256 * number_of_bytes bs
number_of_bytes-cons b bs = omega (arith, worth_from-cons 0 b bs, worth_from-suc 0 bs)

pub number_of_bytes-append : (xs ys : List ℕ) → number_of_bytes (xs ++ ys)
    ≡ number_of_bytes xs + 256 ^ length xs * number_of_bytes ys
number_of_bytes-append [] ys = omega arith
number_of_bytes-append (x ∷ xs) ys =
    let w : ℕ = 256 ^ length xs in
    let here : number_of_bytes (x ∷ (xs ++ ys)) ≡ x + 256 * number_of_bytes (xs ++ ys) =
    number_of_bytes-cons x (xs ++ ys) in
    let one_on : number_of_bytes (x ∷ xs) ≡ x + 256 * number_of_bytes xs = number_of_bytes-cons x xs in
    let power : 256 ^ suc (length xs) * number_of_bytes ys ≡ 256 * (w * number_of_bytes ys) =
    ap (λ n. n * number_of_bytes ys) (pow-suc 256 (length xs) ∙ mul_comm w 256)
    ∙ mul_assoc 256 w (number_of_bytes ys) in
    here ∙ omega (arith, one_on, power, number_of_bytes-append xs ys)

-- the bytes of a `u64` are its digits
pub number_of_bytes-le_bytes : (n : ℕ) → n < 2 ^ 64 → number_of_bytes (le_bytes 8 n) ≡ n
unfolding le_bytes
number_of_bytes-le_bytes n small = omega (arith, from_le_bytes-to_le_bytes_8 n small)

-- the remainders of a sum and of a factor may wait
mod_later : (a b c m : ℕ) → (a % m + b % m * c) % m ≡ (a + b * c) % m
mod_later a b c m =
    mod-add-mod a m (b % m * c)
    ∙ sym (add-mod-mod a (b % m * c) m)
    ∙ ap (λ n. (a + n) % m) (mul-mod_first b c m)
    ∙ add-mod-mod a (b * c) m

regrouped : (s p x w y n : ℕ) → n ≡ x + w * y → s + p * x + p * w * y ≡ s + p * n
regrouped s p x w y n e = omega (arith, ap (λ k. p * k) e, mul-add p x (w * y), mul_assoc p w y)

abbrev pub made_of : ℕ → ℕ → Digits
made_of s p = record { sum = s; place = p }

-- one write after another
pub with_bytes-append : (d : Digits) (xs ys : List ℕ) → with_bytes (with_bytes d xs) ys ≡ with_bytes d (xs ++ ys)
with_bytes-append d xs ys =
    let m : ℕ = 2 ^ 64 in
    let w : ℕ = 256 ^ length xs in
    let worth : d.sum + d.place * number_of_bytes xs + d.place * w * number_of_bytes ys
    ≡ d.sum + d.place * number_of_bytes (xs ++ ys) =
    regrouped d.sum d.place _ w _ _ (number_of_bytes-append xs ys) in
    let places : d.place * w * 256 ^ length ys ≡ d.place * 256 ^ length (xs ++ ys) =
    mul_assoc d.place w (256 ^ length ys)
    ∙ ap (λ n. d.place * n)
    (sym (pow-add 256 (length xs) (length ys)) ∙ ap (λ n. 256 ^ n) (sym (length-append xs ys))) in
    ap₂ made_of
    (mod_later (d.sum + d.place * number_of_bytes xs) (d.place * w) (number_of_bytes ys) m ∙ ap (λ n. n % m) worth)
    (mul-mod_first (d.place * w) (256 ^ length ys) m ∙ ap (λ n. n % m) places)

drop_zero : (s p : ℕ) → s < 2 ^ 64 → (s + p * 0) % 2 ^ 64 ≡ s
drop_zero s p small = let same : s + p * 0 ≡ s = omega arith in ap (λ n. n % 2 ^ 64) same ∙ mod-eq_of_lt small

drop_one : (p : ℕ) → p < 2 ^ 64 → (p * 1) % 2 ^ 64 ≡ p
drop_one p small = ap (λ n. n % 2 ^ 64) (mul-one p) ∙ mod-eq_of_lt small

-- what all writes come to
pub fold-with_bytes : (d : Digits) (writes : List (List ℕ)) → d.sum < 2 ^ 64 → d.place < 2 ^ 64 →
    fold with_bytes d writes ≡ with_bytes d (concat writes)
fold-with_bytes d [] s p =
    ap₂ made_of
    (sym (drop_zero d.sum d.place s))
    (sym (drop_one d.place p))
fold-with_bytes d (w ∷ ws) s p =
    fold-with_bytes (with_bytes d w) ws (mod_below _ _ (lit< tt)) (mod_below _ _ (lit< tt))
    ∙ with_bytes-append d w (concat ws)

-- one byte more
pub with_bytes-one : (s p b : ℕ) → with_bytes (record { sum = s; place = p }) (b ∷ [])
    ≡ record { sum = (s + (b * p) % 2 ^ 64) % 2 ^ 64; place = (p * 256) % 2 ^ 64 }
with_bytes-one s p b = ap₂ made_of (later s p b) refl where
  later : (s p b : ℕ) → (s + p * (0 + b * 1)) % 2 ^ 64 ≡ (s + (b * p) % 2 ^ 64) % 2 ^ 64
  later s p b =
      let byte : 0 + b * 1 ≡ b = omega arith in
      let product : p * (0 + b * 1) ≡ b * p = ap (λ n. p * n) byte ∙ mul_comm p b in
      ap (λ n. (s + n) % 2 ^ 64) product ∙ sym (add-mod-mod s (b * p) (2 ^ 64))

-- eight bytes more
pub with_bytes-u64 : (s p n : ℕ) → n < 2 ^ 64 → with_bytes (record { sum = s; place = p }) (le_bytes 8 n)
    ≡ record { sum = (s + (n * p) % 2 ^ 64) % 2 ^ 64; place = 0 }
unfolding le_bytes
with_bytes-u64 s p n small =
    ap₂ made_of
    (ap (λ k. (s + p * k) % 2 ^ 64) (number_of_bytes-le_bytes n small) ∙ ap (λ k. (s + k) % 2 ^ 64) (mul_comm p n)
    ∙ sym (add-mod-mod s (n * p) (2 ^ 64)))
    (mul-mod_left p (2 ^ 64))

-- from the ninth byte on, none counts
pub with_bytes-zero : (s : ℕ) (bs : List ℕ) → s < 2 ^ 64 → with_bytes (record { sum = s; place = 0 }) bs
    ≡ record { sum = s; place = 0 }
with_bytes-zero s bs small =
    ap₂ made_of
    (ap (λ k. (s + k) % 2 ^ 64) (zero-mul (number_of_bytes bs)) ∙ drop_zero s 0 small)
    (ap (λ k. k % 2 ^ 64) (zero-mul (256 ^ length bs)))

-- the step of a loop over the bytes
pub with_bytes-more : (d : Digits) (s p : ℕ) (bs : List ℕ) (i : ℕ) → i < length bs → made_of s p
    ≡ with_bytes d (take i bs) → made_of ((s + (get_or bs i 0 * p) % 2 ^ 64) % 2 ^ 64) ((p * 256) % 2 ^ 64)
    ≡ with_bytes d (take (i + 1) bs)
with_bytes-more d s p bs i within so_far =
    let b : ℕ = get_or bs i 0 in
    sym (with_bytes-one s p b)
    ∙ ap (λ e. with_bytes e (b ∷ [])) so_far
    ∙ with_bytes-append d (take i bs) (b ∷ [])
    ∙ ap (with_bytes d) (sym (take_more bs i 0 within))

-- its exit where no later byte counts
pub with_bytes-spent : (d : Digits) (s p : ℕ) (bs : List ℕ) (i : ℕ) → p ≡ 0 → made_of s p ≡ with_bytes d (take i bs) →
    made_of s p ≡ with_bytes d bs
with_bytes-spent d s p bs i none so_far =
    let small : s < 2 ^ 64 =
    omega (
      arith,
      ap (λ e. e.sum) so_far,
      mod_below (d.sum + d.place * number_of_bytes (take i bs)) (2 ^ 64)
          (lit< tt),
    ) in
    let rest : made_of s p ≡ with_bytes (made_of s p) (drop i bs) =
    rw none (sym (with_bytes-zero s (drop i bs) small)) in
    rest
    ∙ ap (λ e. with_bytes e (drop i bs)) so_far
    ∙ with_bytes-append d (take i bs) (drop i bs)
    ∙ ap (with_bytes d) (take-append-drop i bs)

-- the number that a `ModHasher` gives a key with these writes
pub mod_hash_of : (writes : List (List ℕ)) → (fold with_bytes no_digits writes).sum % 2 ^ 64
    ≡ number_of_bytes (concat writes) % 2 ^ 64
mod_hash_of writes =
    let n : ℕ = number_of_bytes (concat writes) in
    let whole : 0 + 1 * n ≡ n = omega arith in
    ap (λ d. d.sum % 2 ^ 64) (fold-with_bytes no_digits writes (lit< tt) (lit< tt))
    ∙ mod-mod (0 + 1 * n) (2 ^ 64)
    ∙ ap (λ k. k % 2 ^ 64) whole

-- a `u64` gets itself
pub mod_hash_of-u64 : (n : ℕ) → n < 2 ^ 64 → number_of_bytes (concat (le_bytes 8 n ∷ [])) % 2 ^ 64 ≡ n
mod_hash_of-u64 n small =
    ap (λ bs. number_of_bytes bs % 2 ^ 64) (append-nil (le_bytes 8 n))
    ∙ ap (λ k. k % 2 ^ 64) (number_of_bytes-le_bytes n small)
    ∙ mod-eq_of_lt small

-- what a `HashBuilder` that is a `ModHasher` gives a `u64`: that key
pub hash_of-u64 : (n : ℕ) → n < 2 ^ 64 → (fold with_bytes no_digits (le_bytes 8 n ∷ [])).sum % 2 ^ 64 ≡ n
hash_of-u64 n small = mod_hash_of (le_bytes 8 n ∷ []) ∙ mod_hash_of-u64 n small
