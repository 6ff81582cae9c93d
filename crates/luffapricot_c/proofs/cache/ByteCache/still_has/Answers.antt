use Rattle.luffapricot_c.proofs.cache.ByteCache.still_has.Goals as goal

pub returns-clause-has : goal.returns-clause-has
returns-clause-has c = record {
  own = c.in_ok-own.own;
  own_is = (c.in_ok-own.ensures.hash, c.in_ok-own.ensures.bytes);
  is = rw c.seen.ensures at c.is_current.ensures;
}
