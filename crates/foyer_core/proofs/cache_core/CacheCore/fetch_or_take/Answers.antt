use Rattle.std.proofs.Common.{ap, ◌∙◌, ℕ, ◌%◌, vec_len}
use Rattle.foyer_core.specs.Cores.{hashes_of}
use Rattle.foyer_core.specs.Inflight.{after_nothing}
use Rattle.foyer_core.specs.Shards.{opens_of, state_of}
use Rattle.foyer_core.proofs.CoreLemmas.{same_over}
use Rattle.foyer_core.proofs.FetchesOver.{fetches_become, fetches_stay, if_none_weaker, on_some_weaker, opened_over}
use Rattle.foyer_core.proofs.Zips.{map-write}
use Rattle.foyer_core.proofs.cache_core.CacheCore.fetch_or_take.Goals as goal

pub invariant_of-self-clause-whole : goal.invariant_of-self-clause-whole
invariant_of-self-clause-whole g c =
    let s = c.args.self.now in
    let x = c.index_mut.result.now in
    let y = c.fetch_or_take.new.self in
    let same = map-write state_of s.shards.items (vec_len s.shards) c.shard_index-place.result x y s.shards.ok.0
    c.shard_index-place.ensures.within c.index_mut.ensures.value c.fetch_or_take.ensures.state in
    rw same s.whole

pub returns-clause-core : goal.returns-clause-core
returns-clause-core g c =
    let s = c.args.self.now in
    let x = c.index_mut.result.now in
    let y = c.fetch_or_take.new.self in
    same_over state_of s.capacity s.hash_builder s.rules.weighter s.rules.filter s.shards.items c.hash-hash.result
    (vec_len s.shards) c.shard_index-place.result x
    s.shards.ok.0 c.shard_index-place.ensures.within c.shard_index-place.ensures.index c.index_mut.ensures.value y
    c.fetch_or_take.ensures.state

pub returns-clause-answer : goal.returns-clause-answer
returns-clause-answer g c =
    let s = c.args.self.now in
    let x = c.index_mut.result.now in
    let y = c.fetch_or_take.new.self in
    let hash = hashes_of s c.args.key.now in
    let at = c.shard_index-place.ensures.index ∙ ap (λ (n : ℕ). n % vec_len s.shards) c.hash-hash.ensures.hash in
    let placed = opened_over opens_of s.shards.items hash (vec_len s.shards) c.shard_index-place.result x s.shards.ok.0
    c.shard_index-place.ensures.within at c.index_mut.ensures.value c.args.key.now in
    rw placed (rw c.hash-hash.ensures.hash at c.fetch_or_take.ensures.answer)

pub returns-clause-none : goal.returns-clause-none
returns-clause-none g c =
    let s = c.args.self.now in
    let x = c.index_mut.result.now in
    let y = c.fetch_or_take.new.self in
    let hash = hashes_of s c.args.key.now in
    let at = c.shard_index-place.ensures.index ∙ ap (λ (n : ℕ). n % vec_len s.shards) c.hash-hash.ensures.hash in
    let placed = opened_over opens_of s.shards.items hash (vec_len s.shards) c.shard_index-place.result x s.shards.ok.0
    c.shard_index-place.ensures.within at c.index_mut.ensures.value c.args.key.now in
    rw placed (rw c.hash-hash.ensures.hash at c.fetch_or_take.ensures.none)

pub returns-clause-opens : goal.returns-clause-opens
returns-clause-opens g c =
    let s = c.args.self.now in
    let x = c.index_mut.result.now in
    let y = c.fetch_or_take.new.self in
    let hash = hashes_of s c.args.key.now in
    let at = c.shard_index-place.ensures.index ∙ ap (λ (n : ℕ). n % vec_len s.shards) c.hash-hash.ensures.hash in
    on_some_weaker c.fetch_or_take.result
    (fetches_become opens_of s.shards.items hash (vec_len s.shards) c.shard_index-place.result x s.shards.ok.0
    c.shard_index-place.ensures.within at c.index_mut.ensures.value
    (λ f. after_nothing g.K.PartialEq.eq f (hash, c.args.key.now)) y)
    (rw c.hash-hash.ensures.hash at c.fetch_or_take.ensures.opens)

pub returns-clause-same : goal.returns-clause-same
returns-clause-same g c =
    let s = c.args.self.now in
    let x = c.index_mut.result.now in
    let y = c.fetch_or_take.new.self in
    let hash = hashes_of s c.args.key.now in
    let at = c.shard_index-place.ensures.index ∙ ap (λ (n : ℕ). n % vec_len s.shards) c.hash-hash.ensures.hash in
    if_none_weaker c.fetch_or_take.result
    (fetches_stay opens_of s.shards.items hash (vec_len s.shards) c.shard_index-place.result x s.shards.ok.0
    c.shard_index-place.ensures.within at c.index_mut.ensures.value y) c.fetch_or_take.ensures.same
