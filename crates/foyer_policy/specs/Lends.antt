-- What `Lists` end as, where a `&mut` to one of their values is returned.
use Rattle.std.specs.Prelude.{ℕ, map}
use Rattle.std.specs.Borrow.{Lends, Fml, RattleType, MutBor}
use Rattle.foyer_policy.specs.Lists.{Lists, with_value}
use Rattle.foyer_policy.specs.contracts.lists.Lists.{the_row}

-- the lists with another value at a place
abbrev pub with_value_at : {T : Type 0} → Lists T → ℕ → T → Lists T
with_value_at s p w = record { lists = map (with_value p w) s.lists; room = s.room; span = s.span }

-- once the borrow r ends, the place has the last value written through r
abbrev pub lends_value : (T N : RattleType) → MutBor (Lists T.Denot) → ℕ → MutBor T.Denot → Fml
lends_value T N s p r = Lends (the_row T N) T s r (with_value_at s.now p)
