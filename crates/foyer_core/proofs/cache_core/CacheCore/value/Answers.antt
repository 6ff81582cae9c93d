use Rattle.std.proofs.Common.{◌≡◌, ◌∙◌, ◌%◌, ℕ, ap, sym, subst, vec_len}
use Rattle.std.specs.Prelude.{Option, IsSomeAnd, option_copied}
use Rattle.foyer_core.specs.Cores.{meaning_of_core}
use Rattle.foyer_core.specs.NoEntry.{Peeks}
use Rattle.foyer_core.specs.Shards.{state_of}
use Rattle.foyer_core.specs.State.{State}
use Rattle.foyer_core.proofs.CoreLemmas.{shard_over}
use Rattle.foyer_core.proofs.cache_core.CacheCore.value.Goals as goal

pub returns : goal.returns
returns g c =
    let s = c.args.self.now in
    let hash = g.S.HashBuilder.hash_of s.hash_builder (g.K.Hash.hash_input c.args.key.now) in
    let here = shard_over state_of s.capacity s.hash_builder s.rules.weighter s.rules.filter s.shards.items hash
    (vec_len s.shards) c.shard_index.result c.index.result.now
    s.shards.ok.0 c.shard_index.ensures.within
    (c.shard_index.ensures.index ∙ ap (λ (n : ℕ). n % vec_len s.shards) c.hash-hash.ensures.hash)
    c.index.ensures in
    subst (λ (o : Option (State g.row.K.Denot g.row.V.Denot g.row.P.Denot g.E.Eviction.View)). IsSomeAnd o
    (λ t. Peeks (meaning_of_core s) c.args.now t (hash, c.args.key.now) (λ v seen. seen ≡ v) (option_copied c.value.result)))
    (sym here) (rw c.hash-hash.ensures.hash at c.value.ensures)
