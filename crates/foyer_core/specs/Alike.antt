-- When two leaves are equal.
use Rattle.std.specs.Prelude.{Bool, nat_eq}
use Rattle.std.specs.Cmp.{IsPartialEquivalence, and_per, nat_eq_equiv, on_per, partial_equiv_from_equiv}
use Rattle.std.specs.Ordering.{eq_of_both, on}
use Rattle.foyer_core.specs.Values.{Gone}

-- they are of the same record of the same core, and what is kept of it is equal
abbrev pub gone_eq : {K V P : Type 0} → (K → K → Bool) → (V → V → Bool) → (P → P → Bool) → Gone K V P → Gone K V P →
    Bool
gone_eq keys values properties =
    eq_of_both (on (λ g. g.number) nat_eq)
    (eq_of_both (on (λ g. g.id) nat_eq)
    (eq_of_both (on (λ g. g.kept.key) keys)
    (eq_of_both (on (λ g. g.kept.value) values)
    (eq_of_both (on (λ g. g.kept.properties) properties)
    (eq_of_both (on (λ g. g.kept.hash) nat_eq) (on (λ g. g.kept.weight) nat_eq))))))

pub gone_eq_per : {K V P : Type 0} {keys : K → K → Bool} {values : V → V → Bool} {properties : P → P → Bool}
    → IsPartialEquivalence keys → IsPartialEquivalence values → IsPartialEquivalence properties →
    IsPartialEquivalence (gone_eq keys values properties)
gone_eq_per keys values properties =
    let numbers = partial_equiv_from_equiv nat_eq_equiv in
    and_per (on_per (λ g. g.number) numbers)
    (and_per (on_per (λ g. g.id) numbers)
    (and_per (on_per (λ g. g.kept.key) keys)
    (and_per (on_per (λ g. g.kept.value) values)
    (and_per (on_per (λ g. g.kept.properties) properties)
    (and_per (on_per (λ g. g.kept.hash) numbers) (on_per (λ g. g.kept.weight) numbers))))))
