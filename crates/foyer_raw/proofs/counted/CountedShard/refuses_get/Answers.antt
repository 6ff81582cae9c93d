use Rattle.foyer_raw.proofs.counted.CountedShard.refuses_get.Goals as goal

pub returns-clause-some : goal.returns-clause-some
returns-clause-some g c = rw (← c.key.view_is) c.refuses_get.ensures.some

pub returns-clause-none : goal.returns-clause-none
returns-clause-none g c = rw (← c.key.view_is) c.refuses_get.ensures.none
