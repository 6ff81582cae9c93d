-- What an index is to a shard: a map from hashed keys to numbers.
use Rattle.std.specs.Prelude.{◌≡◌, ℕ, Bool, ◌==◌, ◌&&◌, List, Option}
use Rattle.std.specs.List.{IsDistinct}
use Rattle.std.specs.Map.{keys_of, values_of, lookup}
use Rattle.std.specs.Cmp.{IsEquivalence, on_equiv, and_equiv, nat_eq_equiv}

-- whether two hashed keys are one: the hashes are equal, and the keys are by eq
abbrev pub same_key : {K : Type 0} → (K → K → Bool) → ℕ × K → ℕ × K → Bool
same_key eq p q = (p.0 == q.0) && eq p.1 q.1

pub same_key_equiv : {K : Type 0} {eq : K → K → Bool} → IsEquivalence eq → IsEquivalence (same_key eq)
same_key_equiv laws = and_equiv (on_equiv (λ p. p.0) nat_eq_equiv) (on_equiv (λ p. p.1) laws)

-- the numbers are those of the view, each once for each hashed key that has it
pub record AreNumbersOf {K : Type 0} (eq : K → K → Bool) (view : ℕ × K → Option ℕ) (numbers : List ℕ) : Type 0 where
  -- the hashed keys that have a number, no two of them equal, in the order of their numbers
  pub entries : List ((ℕ × K) × ℕ)
  pub distinct : IsDistinct (same_key eq) (keys_of entries)
  pub complete : (q : ℕ × K) → view q ≡ lookup (same_key eq q) entries
  pub values : numbers ≡ values_of entries
