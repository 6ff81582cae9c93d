use Rattle.std.proofs.Common.{◌≡◌, ℕ, ◌-◌, ◌%◌, sym, subst, bit_and, arith}
use Rattle.std.proofs.lemmas.Nat.{and_mask, and_le_r}
use Rattle.foyer_core.proofs.records.ids.place_of.Goals as goal

pub returns-clause-within : goal.returns-clause-within
returns-clause-within c = omega (arith, and_le_r c.args.id (c.args.places - 1), c.requires)

pub returns-clause-low : goal.returns-clause-low
returns-clause-low c bits is =
    subst (λ (n : ℕ). bit_and c.args.id (n - 1) ≡ c.args.id % n) (sym is) (and_mask c.args.id bits)
