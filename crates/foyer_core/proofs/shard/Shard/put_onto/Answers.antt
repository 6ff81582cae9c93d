use Rattle.std.proofs.Common.{◌+◌, Err}
use Rattle.foyer_core.specs.Inflights.{opens_of}
use Rattle.foyer_core.specs.NoEntry.{PutsAnswering}
use Rattle.foyer_core.specs.State.{key_of}
use Rattle.foyer_core.specs.Steps.{newcomer}
use Rattle.foyer_core.specs.Stores.{meaning_of, state_of}
use Rattle.foyer_core.specs.Waited.{waiting_for}
use Rattle.foyer_core.proofs.Told.{goes_start}
use Rattle.foyer_core.proofs.shard.Shard.put_onto.Goals as goal

pub returns-in-Ok-clause-puts : goal.returns-in-Ok-clause-puts
returns-in-Ok-clause-puts g c = rw c.in-Ok.ensures.made at c.put_share.ensures.puts

pub returns-in-Err-clause-puts : goal.returns-in-Err-clause-puts
returns-in-Err-clause-puts g c =
    let s = c.args.self.now in
    let old = state_of s.store in
    goes_start c.args.leaves.now.items
    (λ ls. PutsAnswering (meaning_of s.store) c.args.now old
    (newcomer old c.args.kept (1 + waiting_for (opens_of s.inflights) (key_of c.args.kept))) (Err c.out_of_memory.result) ls old)
    (rw c.in-Err.ensures.returned at (c.out_of_memory.ensures c.args.now c.in-Err.kept.value))
