use Rattle.std.proofs.Common.{◌+◌}
use Rattle.foyer_core.specs.Steps.{RefusesInsert, newcomer}
use Rattle.foyer_core.specs.State.{at_moment}
use Rattle.foyer_core.specs.Stores.{meaning_of, state_of}
use Rattle.foyer_core.proofs.Told.{goes_start}
use Rattle.foyer_core.proofs.store.Store.emplace_data.Goals as goal

pub returns-in-Ok-clause-inserted : goal.returns-in-Ok-clause-inserted
returns-in-Ok-clause-inserted g c = rw c.in-Ok.ensures.made at c.emplace.ensures.inserted

pub returns-in-Err-clause-inserted : goal.returns-in-Err-clause-inserted
returns-in-Err-clause-inserted g c =
    let s = c.args.self.now in
    goes_start c.args.leaves.now.items
    (λ ls. RefusesInsert (at_moment c.args.now (meaning_of s)) (state_of s)
    (newcomer (state_of s) c.args.kept (1 + c.args.further.count)) c.out_of_memory.result ls (state_of s))
    (rw c.in-Err.ensures.returned at (c.out_of_memory.ensures c.args.now c.in-Err.kept.value))
