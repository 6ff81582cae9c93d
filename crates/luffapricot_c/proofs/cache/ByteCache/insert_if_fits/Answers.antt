use Rattle.std.proofs.Common.{inr}
use Rattle.luffapricot_c.proofs.cache.ByteCache.insert_if_fits.Goals as goal

pub returns-in-Err : goal.returns-in-Err
returns-in-Err c = inr (rw c.if-not-branch.false at c.in_ok-fits.ensures.fits, c.in-Err.ensures)
