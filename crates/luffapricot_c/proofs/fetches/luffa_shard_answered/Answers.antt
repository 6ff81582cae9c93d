use Rattle.std.proofs.Common.{refl}
use Rattle.luffapricot_c.proofs.HeldLemmas.{on_held, on_none}
use Rattle.luffapricot_c.proofs.fetches.luffa_shard_answered.Goals as goal

pub returns-in_default : goal.returns-in_default
returns-in_default c = on_none _ _ _ c.in_default.ensures.none c.take.ensures.empty

pub returns : goal.returns
returns c = on_held _ c.in-Some.cache.value c.in-Some.cache.value _ _ _ c.in-Some.ensures.taken c.of.ensures
    (rw c.deref.ensures at c.answered-status.ensures, refl)
