use Rattle.foyer_core.specs.Steps.{RefusesInsert, newcomer}
use Rattle.foyer_core.specs.State.{at_moment, key_of}
use Rattle.std.proofs.Common.{◌+◌}
use Rattle.foyer_core.specs.Inflights.{opens_of}
use Rattle.foyer_core.specs.Waited.{waiting_for}
use Rattle.foyer_core.specs.Stores.{meaning_of, state_of}
use Rattle.foyer_core.proofs.Told.{goes_start}
use Rattle.foyer_core.proofs.shard.Shard.emplace.Goals as goal

pub returns-in-Ok-clause-inserted : goal.returns-in-Ok-clause-inserted
returns-in-Ok-clause-inserted g c = rw c.in-Ok.ensures.made at c.emplace_share.ensures.inserted

pub returns-in-Ok-clause-given : goal.returns-in-Ok-clause-given
returns-in-Ok-clause-given g c = rw c.in-Ok.ensures.made at c.emplace_share.ensures.given

pub returns-in-Err-clause-inserted : goal.returns-in-Err-clause-inserted
returns-in-Err-clause-inserted g c =
    let s = c.args.self.now in
    let old = state_of s.store in
    goes_start c.args.leaves.now.items
    (λ ls. RefusesInsert (at_moment c.args.now (meaning_of s.store)) old
    (newcomer old c.args.kept (1 + waiting_for (opens_of s.inflights) (key_of c.args.kept))) c.out_of_memory.result ls old)
    (rw c.in-Err.ensures.returned at (c.out_of_memory.ensures c.args.now c.in-Err.kept.value))
