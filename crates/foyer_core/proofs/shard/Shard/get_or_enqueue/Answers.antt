use Rattle.std.proofs.Common.{ℕ, ◌∙◌, ap}
use Rattle.foyer_core.specs.State.{State, hit}
use Rattle.foyer_core.specs.Stores.{meaning_of}
use Rattle.foyer_core.proofs.shard.Shard.get_or_enqueue.Goals as goal

pub enqueue-requires-clause-missing : goal.enqueue-requires-clause-missing
enqueue-requires-clause-missing g c κs within =
    let k : ℕ × g.row.K.Denot = (c.args.hash, c.args.key.now) in
    let gets = rw c.in-Ok-None.field-0-is at c.in-Ok-None.ensures.gets in
    ap (λ (x : State g.row.K.Denot g.row.V.Denot g.row.P.Denot g.E.Eviction.View).
    hit (meaning_of c.args.self.now.store) c.args.now x k) gets.1 ∙ gets.0
