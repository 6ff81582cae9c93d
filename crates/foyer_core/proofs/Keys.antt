-- Hashed keys are compared as their hashes and keys are.
use Rattle.std.proofs.Common.{◌≡◌, ℕ, Bool, true, false, cond, Option, ◌==◌, ◌&&◌, ap, ap₂, ◌∙◌, refl, arith}
use Rattle.std.proofs.lemmas.Bool.Decides.{nat_tests}
use Rattle.std.specs.Cmp.{IsEquivalence}
use Rattle.std.specs.Map.{update}
use Rattle.foyer_core.specs.Indexer.{same_key}

nat_refl : (a : ℕ) → (a == a) ≡ true
nat_refl a = grind (arith, nat_tests)

nat_symm : (a b : ℕ) → (a == b) ≡ (b == a)
nat_symm a b = grind (arith, nat_tests)

nat_congr : (a b c : ℕ) → (a == b) ≡ true → (a == c) ≡ (b == c)
nat_congr a b c h = grind (arith, nat_tests)

both : (a b : Bool) → (a && b) ≡ true → (a ≡ true) × (b ≡ true)
both true b h = (refl, h)
both false b h = absurd cc

pub same_key_laws : {K : Type 0} (same : K → K → Bool) → IsEquivalence same → IsEquivalence (same_key same)
same_key_laws same laws = record {
  refl = λ p. ap₂ (λ a b. a && b) (nat_refl p.0) (laws.refl p.1);
  symm = λ p q. ap₂ (λ a b. a && b) (nat_symm p.0 q.0) (laws.symm p.1 q.1);
  congr = λ p q r h. let e = both (p.0 == q.0) (same p.1 q.1) h in
      ap₂ (λ a b. a && b) (nat_congr p.0 q.0 r.0 e.0) (laws.congr p.1 q.1 r.1 e.1);
}

-- to put under a key is to put under one that is equal
pub update_alike : {A X : Type 0} (same : A → A → Bool) → IsEquivalence same →
    (f g : A → Option X) (a b : A) (w : Option X) → same a b ≡ true
    → ((q : A) → g q ≡ update same f a w q) → (q : A) → g q ≡ update same f b w q
update_alike same laws f g a b w h put q = put q ∙ ap (λ t. cond t w (f q)) (laws.congr a b q h)
