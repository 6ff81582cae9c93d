-- A pop that is repeated.
use Rattle.std.specs.Prelude.{ℕ, zero, suc, Option, Some, None}
use Rattle.foyer_policy.specs.declared.types.Item.{Item}

module _ {V : Type 0} where
  abbrev pub after_pop : Option (Item × V) → V → (V → V) → V
  after_pop None v next = v
  after_pop (Some p) v next = next p.1

  -- the view once pop was repeated so often, or gave none
  abbrev pub pop_times : (V → Option (Item × V)) → ℕ → V → V
  pop_times pop zero v = v
  pop_times pop (suc n) v = after_pop (pop v) v (λ w. pop_times pop n w)
