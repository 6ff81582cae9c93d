use Rattle.std.proofs.Common.{ap, ◌∙◌, ℕ, ◌%◌, vec_len}
use Rattle.foyer_core.specs.Cores.{hashes_of}
use Rattle.foyer_core.specs.Shards.{opens_of, state_of}
use Rattle.foyer_core.specs.Waited.{ending_of}
use Rattle.foyer_core.proofs.CoreLemmas.{same_over}
use Rattle.foyer_core.proofs.FetchesOver.{ends_over}
use Rattle.foyer_core.proofs.Zips.{map-write}
use Rattle.foyer_core.proofs.cache_core.CacheCore.end.Goals as goal

pub invariant_of-self-clause-whole : goal.invariant_of-self-clause-whole
invariant_of-self-clause-whole g c =
    let s = c.args.self.now in
    let x = c.index_mut.result.now in
    let y = c.end.new.self in
    let same = map-write state_of s.shards.items (vec_len s.shards) c.shard_index-place.result x y s.shards.ok.0
    c.shard_index-place.ensures.within c.index_mut.ensures.value c.end.ensures.state in
    rw same s.whole

pub returns-clause-core : goal.returns-clause-core
returns-clause-core g c =
    let s = c.args.self.now in
    let x = c.index_mut.result.now in
    let y = c.end.new.self in
    same_over state_of s.capacity s.hash_builder s.rules.weighter s.rules.filter s.shards.items c.hash-hash.result
    (vec_len s.shards) c.shard_index-place.result x
    s.shards.ok.0 c.shard_index-place.ensures.within c.shard_index-place.ensures.index c.index_mut.ensures.value y
    c.end.ensures.state

pub returns-clause-ended : goal.returns-clause-ended
returns-clause-ended g c =
    let s = c.args.self.now in
    let x = c.index_mut.result.now in
    let y = c.end.new.self in
    let hash = hashes_of s c.args.key.now in
    let at = c.shard_index-place.ensures.index ∙ ap (λ (n : ℕ). n % vec_len s.shards) c.hash-hash.ensures.hash in
    ends_over opens_of s.shards.items hash (vec_len s.shards) c.shard_index-place.result x y s.shards.ok.0
    c.shard_index-place.ensures.within at c.index_mut.ensures.value g.K.PartialEq.eq c.args.key.now c.args.fetch
    c.args.error (ending_of c.end.result) (rw c.hash-hash.ensures.hash at c.end.ensures.ended)
