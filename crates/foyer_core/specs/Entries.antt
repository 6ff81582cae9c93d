-- Entries of hashed keys, by their keys.
use Rattle.std.specs.Prelude.{◌≡◌, ℕ, Bool, true, cond, List, [], ◌∷◌, Option, Some, refl}
use Rattle.std.proofs.Common.{ap}
use Rattle.std.specs.Cmp.{IsEquivalence}
use Rattle.std.specs.Map.{lookup}
use Rattle.foyer_core.specs.Indexer.{same_key, same_key_equiv}

found_same : {K : Type 0} {eq : K → K → Bool} → IsEquivalence eq → (p q : K) → eq p q ≡ true → (es : List (K × ℕ)) →
    lookup (eq p) es ≡ lookup (eq q) es
found_same laws p q same [] = refl
found_same {eq = eq} laws p q same (e ∷ es) =
    rw (laws.congr p q e.0 same) (ap (λ (o : Option ℕ). cond (eq q e.0) (Some e.1) o) (found_same laws p q same es))

-- equal hashed keys find the same
pub lookup_same : {K : Type 0} {eq : K → K → Bool} → IsEquivalence eq → (p q : ℕ × K) → same_key eq p q ≡ true →
    (es : List ((ℕ × K) × ℕ)) → lookup (same_key eq p) es ≡ lookup (same_key eq q) es
lookup_same laws p q same es = found_same (same_key_equiv laws) p q same es
