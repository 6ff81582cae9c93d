use Rattle.luffapricot_c.proofs.HeldLemmas.{on_held, on_none}
use Rattle.luffapricot_c.proofs.conditional.luffa_shard_set_expires.Goals as goal

pub returns-in_default : goal.returns-in_default
returns-in_default c = on_none _ _ _ c.in_default.ensures.none c.take.ensures.empty

pub returns : goal.returns
returns c = on_held _ c.in-Some.cache.value c.set_expires.new.self _ _ _ c.in-Some.ensures.taken c.of.ensures
    (c.set_expires.result, rw c.deref_mut.ensures.value at c.set_expires.ensures, c.found-status.ensures)
