-- What slots end as, where a `&mut` to one of their values is returned.
use Rattle.std.specs.Prelude.{ℕ, Option}
use Rattle.std.specs.Borrow.{Lends, LendsIf, Fml, RattleType, MutBor}
use Rattle.foyer_core.specs.Slots.{Slots, with_value}
use Rattle.foyer_core.specs.contracts.slots.Slots.{the_row}

module _ (T : RattleType) (s : MutBor (Slots T.Denot)) (slot : ℕ) where
  -- once the borrow r ends, the slot has the last value written through r
  abbrev pub lends_value : MutBor T.Denot → Fml
  lends_value r = Lends (the_row T) T s r (with_value s.now slot)

  -- the same where r is a reference, and at `None` the slots stay as they are
  abbrev pub lends_get : Option (MutBor T.Denot) → Fml
  lends_get r = LendsIf (the_row T) T s r (with_value s.now slot) s.now
