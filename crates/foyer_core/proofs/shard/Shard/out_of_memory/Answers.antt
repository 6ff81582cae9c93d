use Rattle.foyer_core.proofs.shard.Shard.out_of_memory.Goals as goal

pub returns : goal.returns
returns g c now value = rw c.further-further.ensures.count at (c.out_of_memory.ensures now value)
