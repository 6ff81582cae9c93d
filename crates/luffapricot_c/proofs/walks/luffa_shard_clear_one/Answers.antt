use Rattle.luffapricot_c.proofs.HeldLemmas.{on_held, on_none}
use Rattle.luffapricot_c.proofs.walks.luffa_shard_clear_one.Goals as goal

pub returns-in_default : goal.returns-in_default
returns-in_default c = on_none _ _ _ c.in_default.ensures.none c.take.ensures.empty

pub returns : goal.returns
returns c = on_held _ c.in-Some.cache.value c.clear_one.new.self _ _ _ c.in-Some.ensures.taken c.of.ensures
    (c.clear_one.result, rw c.deref_mut.ensures.value at c.clear_one.ensures, c.of_open-status.ensures)
