use Rattle.std.proofs.Common.{◌≡◌, sym, subst}
use Rattle.std.specs.Prelude.{Option, IsSomeAnd, option_map, vec_len}
use Rattle.foyer_core.specs.Shards.{state_of}
use Rattle.foyer_core.specs.State.{State}
use Rattle.foyer_core.specs.Table.{rec_of}
use Rattle.foyer_core.proofs.CoreLemmas.{shard_over}
use Rattle.foyer_core.proofs.cache_core.CacheCore.held.Goals as goal

pub returns : goal.returns
returns g c =
    let s = c.args.self.now in
    let hold = c.args.hold in
    let here = shard_over state_of s.capacity s.hash_builder s.rules.weighter s.rules.filter s.shards.items hold.hash
    (vec_len s.shards) c.shard_index.result c.index.result.now
    s.shards.ok.0 c.shard_index.ensures.within c.shard_index.ensures.index c.index.ensures in
    subst (λ (o : Option (State g.row.K.Denot g.row.V.Denot g.row.P.Denot g.E.Eviction.View)). IsSomeAnd o
    (λ t. option_map rec_of c.held.result ≡ t.records hold.id)) (sym here) c.held.ensures
