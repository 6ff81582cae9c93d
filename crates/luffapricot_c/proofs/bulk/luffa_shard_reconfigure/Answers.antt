use Rattle.std.proofs.Common.{sym}
use Rattle.luffapricot_c.proofs.HeldLemmas.{on_held, on_none}
use Rattle.luffapricot_c.proofs.bulk.luffa_shard_reconfigure.Goals as goal

pub returns-in_default-take : goal.returns-in_default-take
returns-in_default-take c = rw (sym c.in-Some.ensures)
    (on_none _ _ _ c.in_default-take.ensures.none c.take.ensures.empty)

pub returns : goal.returns
returns c = rw (sym c.in-Some.ensures)
    (on_held _ c.in-Some-take.cache.value c.reconfigure-status.new.self _ _ _ c.in-Some-take.ensures.taken c.of.ensures
    (rw c.deref_mut.ensures.value at c.reconfigure-status.ensures))
