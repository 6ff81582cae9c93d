use Rattle.foyer_raw.proofs.counted.CountedShard.refuse_piece.Goals as goal

pub returns-then-knows-clause-known : goal.returns-then-knows-clause-known
returns-then-knows-clause-known g c known = rw c.key.ensures at c.refuses_get.ensures.some
