use Rattle.foyer_raw.proofs.cache.RawCache.peek.Goals as goal

pub returns : goal.returns
returns g c = rw (c.new.ensures, c.hashed-key.ensures.key) at c.peek.ensures.asked
