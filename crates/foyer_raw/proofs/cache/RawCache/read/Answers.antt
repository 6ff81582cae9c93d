use Rattle.foyer_raw.proofs.cache.RawCache.read.Goals as goal

pub returns : goal.returns
returns g c = rw (c.new.ensures, c.hashed-key.ensures.key) at c.read.ensures.asked
