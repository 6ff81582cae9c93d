use Rattle.std.proofs.Common.{ap, ◌∙◌, ℕ, ◌%◌, vec_len, ◌≡◌, true}
use Rattle.foyer_core.specs.Cores.{meaning_of_core}
use Rattle.foyer_core.specs.Shards.{meaning_of, opens_of, state_of}
use Rattle.foyer_core.specs.Holds.{Names}
use Rattle.foyer_core.specs.NoEntry.{Reads, is_found}
use Rattle.foyer_core.proofs.CoreLemmas.{at_over}
use Rattle.foyer_core.proofs.Hashing.{IsHashed, hashed_over}
use Rattle.foyer_core.proofs.Loads.{sums_same, touches_load}
use Rattle.foyer_core.proofs.Origins.{belongs_over, touches_from}
use Rattle.foyer_core.proofs.Zips.{map-write}
use Rattle.foyer_core.proofs.cache_core.CacheCore.touch_named.Goals as goal

pub invariant_of-self-clause-whole : goal.invariant_of-self-clause-whole
invariant_of-self-clause-whole g c =
    let s = c.args.self.now in
    let x = c.index_mut.result.now in
    let y = c.touch_named.new.self in
    record {
      belong = belongs_over state_of s.shards.items c.hash-hash.result (vec_len s.shards) c.shard_index-place.result x s.shards.ok.0
          c.shard_index-place.ensures.within c.shard_index-place.ensures.index c.index_mut.ensures.value
          y (touches_from (λ d. d.hash ≡ c.hash-hash.result) (meaning_of x) c.args.now (state_of x)
          (c.hash-hash.result, c.args.key.now) (is_found c.touch_named.result) (state_of y) c.touch_named.ensures.reads.touches) s.whole.belong;
      hashed = hashed_over (λ k. g.S.HashBuilder.hash_of s.hash_builder (g.K.Hash.hash_input k)) state_of s.shards.items
          (vec_len s.shards) c.shard_index-place.result x s.shards.ok.0 c.shard_index-place.ensures.within c.index_mut.ensures.value
          y (touches_from (IsHashed (λ k. g.S.HashBuilder.hash_of s.hash_builder (g.K.Hash.hash_input k))) (meaning_of x) c.args.now
          (state_of x) (c.hash-hash.result, c.args.key.now) (is_found c.touch_named.result) (state_of y) c.touch_named.ensures.reads.touches) s.whole.hashed;
      summed = sums_same (meaning_of_core s) state_of s.shards.items (vec_len s.shards) c.shard_index-place.result x s.load.usage
          s.load.entries s.shards.ok.0 c.shard_index-place.ensures.within c.index_mut.ensures.value s.whole.summed
          y (touches_load (meaning_of_core s) g.met.E.Eviction.lawful c.args.now (state_of x) (state_of y)
          (c.hash-hash.result, c.args.key.now) (is_found c.touch_named.result) x.store.sound c.touch_named.ensures.reads.touches);
    }

pub returns : goal.returns
returns g c =
    let s = c.args.self.now in
    let x = c.index_mut.result.now in
    let y = c.touch_named.new.self in
    let hash = g.S.HashBuilder.hash_of s.hash_builder (g.K.Hash.hash_input c.args.key.now) in
    let read = rw c.hash-hash.ensures.hash at c.touch_named.ensures.reads in
    let over = at_over state_of s.capacity s.hash_builder s.rules.weighter s.rules.filter s.shards.items hash (vec_len s.shards)
    c.shard_index-place.result x
    s.shards.ok.0 c.shard_index-place.ensures.within
    (c.shard_index-place.ensures.index ∙ ap (λ (n : ℕ). n % vec_len s.shards) c.hash-hash.ensures.hash)
    c.index_mut.ensures.value in record {
      reads = over
          (λ a b. Reads (meaning_of x) c.args.now a (hash, c.args.key.now) (Names b hash) c.touch_named.result b)
          y read;
      fetches = map-write opens_of s.shards.items (vec_len s.shards) c.shard_index-place.result x y s.shards.ok.0
          c.shard_index-place.ensures.within c.index_mut.ensures.value c.touch_named.ensures.opens;
    }
