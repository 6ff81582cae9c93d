use Rattle.std.specs.Fn.{FnOnceReturnsAt}
use Rattle.foyer_core.specs.Stores.{meaning_of, state_of}
use Rattle.foyer_core.proofs.Asked.{peeks_live}
use Rattle.foyer_core.proofs.shard.Shard.peek.Goals as goal

pub returns-clause-asked : goal.returns-clause-asked
returns-clause-asked g c =
    let s = c.args.self.now in
    peeks_live (meaning_of s.store) (state_of s.store) s.store.sound c.args.now (c.args.hash, c.args.key.now)
    (FnOnceReturnsAt g.F.FnOnce c.args.look) c.peek.result c.peek.ensures
