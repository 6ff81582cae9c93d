-- What a cache of bytes has beside its records.
use Rattle.std.specs.Prelude.{◌≡◌}
use Rattle.foyer_core.specs.Cores.{fetches_of}
use Rattle.luffapricot_c.specs.declared.cache.ByteCache.{ByteCache}

-- Beside the records all stays: what C holds by number, the open fetches, what left and was not taken, and whether there
-- is a listener. Of a call that changes one of these it is said with an old cache that has the new one there.
pub record Frames (old new : ByteCache) : Type 0 where
  pub held : new.holds.slots ≡ old.holds.slots
  pub fetches : fetches_of new.core ≡ fetches_of old.core
  pub left : new.left.items ≡ old.left.items
  pub listener : new.has_listener ≡ old.has_listener
