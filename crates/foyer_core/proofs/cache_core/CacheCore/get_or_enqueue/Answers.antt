use Rattle.std.proofs.Common.{ap, ◌∙◌, ℕ, ◌%◌, vec_len, ◌≡◌, true}
use Rattle.std.specs.Prelude.{slice_set}
use Rattle.foyer_core.specs.Cores.{core_of, hashes_of, meaning_of_core}
use Rattle.foyer_core.specs.Fetching.{LooksUp}
use Rattle.foyer_core.specs.Shards.{meaning_of, opens_of, state_of}
use Rattle.foyer_core.proofs.CallsTold.{stays_so}
use Rattle.foyer_core.proofs.CoreLaws.{stays_at}
use Rattle.foyer_core.proofs.CoreLemmas.{at_over, core_over}
use Rattle.foyer_core.proofs.FetchesOver.{open_over}
use Rattle.foyer_core.proofs.Hashing.{IsHashed, hashed_over}
use Rattle.foyer_core.proofs.Loads.{sums_same}
use Rattle.foyer_core.proofs.Looking.{looks_from, looks_index, looks_load, looks_stay}
use Rattle.foyer_core.proofs.Origins.{belongs_over}
use Rattle.foyer_core.proofs.ShardTold.{SameIndex}
use Rattle.foyer_core.proofs.Sound.{core_sound}
use Rattle.foyer_core.proofs.Staying.{RecordsStay, nothing}
use Rattle.foyer_core.proofs.cache_core.CacheCore.get_or_enqueue.Goals as goal

pub invariant_of-self-clause-whole : goal.invariant_of-self-clause-whole
invariant_of-self-clause-whole g c =
    let s = c.args.self.now in
    let x = c.index_mut.result.now in
    let y = c.get_or_enqueue.new.self in
    record {
      belong = belongs_over state_of s.shards.items c.hash-hash.result (vec_len s.shards) c.shard_index-place.result x s.shards.ok.0
          c.shard_index-place.ensures.within c.shard_index-place.ensures.index c.index_mut.ensures.value
          y (looks_from (meaning_of x) c.args.now (state_of x) (opens_of x) (c.hash-hash.result, c.args.key.now) c.args.waiter
          c.args.required (state_of y) (opens_of y) c.get_or_enqueue.result c.get_or_enqueue.ensures.looked_up
          (λ d. d.hash ≡ c.hash-hash.result)) s.whole.belong;
      hashed = hashed_over (hashes_of s) state_of s.shards.items (vec_len s.shards) c.shard_index-place.result x s.shards.ok.0
          c.shard_index-place.ensures.within c.index_mut.ensures.value
          y (looks_from (meaning_of x) c.args.now (state_of x) (opens_of x) (c.hash-hash.result, c.args.key.now) c.args.waiter
          c.args.required (state_of y) (opens_of y) c.get_or_enqueue.result c.get_or_enqueue.ensures.looked_up
          (IsHashed (hashes_of s))) s.whole.hashed;
      summed = sums_same (meaning_of_core s) state_of s.shards.items (vec_len s.shards) c.shard_index-place.result x s.load.usage
          s.load.entries s.shards.ok.0 c.shard_index-place.ensures.within c.index_mut.ensures.value s.whole.summed
          y (looks_load (meaning_of x) c.args.now (state_of x) (opens_of x) (c.hash-hash.result, c.args.key.now) c.args.waiter
          c.args.required (state_of y) (opens_of y) c.get_or_enqueue.result c.get_or_enqueue.ensures.looked_up
          g.met.E.Eviction.lawful x.store.sound);
    }

pub returns : goal.returns
returns g c =
    let s = c.args.self.now in
    let x = c.index_mut.result.now in
    let y = c.get_or_enqueue.new.self in
    let m = meaning_of_core s in
    let hash = hashes_of s c.args.key.now in
    let did = rw c.hash-hash.ensures.hash at c.get_or_enqueue.ensures.looked_up in
    let at = c.shard_index-place.ensures.index ∙ ap (λ (n : ℕ). n % vec_len s.shards) c.hash-hash.ensures.hash in
    let over = at_over state_of s.capacity s.hash_builder s.rules.weighter s.rules.filter s.shards.items hash (vec_len s.shards)
    c.shard_index-place.result x s.shards.ok.0 c.shard_index-place.ensures.within at c.index_mut.ensures.value in
    let equal : (a b : g.row.K.Denot) → g.K.PartialEq.eq a b ≡ true → hashes_of s a ≡ hashes_of s b =
    λ a b same. ap (g.S.HashBuilder.hash_of s.hash_builder) (g.met.K.Hash.respects_eq a b same) in
    let sound = core_sound s g.met.K.Eq.laws g.met.E.Eviction.lawful equal in
    let new = core_over state_of s.capacity s.hash_builder s.rules.weighter s.rules.filter
    (slice_set s.shards.items c.shard_index-place.result y) in
    let index = over (λ s t. SameIndex s t) y
    (looks_index (meaning_of x) c.args.now (state_of x) (opens_of x) (c.hash-hash.result, c.args.key.now) c.args.waiter
    c.args.required (state_of y) (opens_of y) c.get_or_enqueue.result c.get_or_enqueue.ensures.looked_up) in
    record {
      looked_up = open_over state_of opens_of s.capacity s.hash_builder s.rules.weighter s.rules.filter s.shards.items hash
          (vec_len s.shards) c.shard_index-place.result x s.shards.ok.0 c.shard_index-place.ensures.within at
          c.index_mut.ensures.value y
          (λ s f t g. LooksUp m c.args.now s f (hash, c.args.key.now) c.args.waiter c.args.required c.get_or_enqueue.result t g)
          did;
      laws = record {
        stay = stays_at (core_of s) _ hash
            (over (RecordsStay nothing) y
            (looks_stay (meaning_of x) c.args.now (state_of x) (opens_of x) (c.hash-hash.result, c.args.key.now) c.args.waiter
            c.args.required (state_of y) (opens_of y) c.get_or_enqueue.result
            c.get_or_enqueue.ensures.looked_up));
        told = stays_so m g.met.K.Eq.laws g.met.E.Eviction.lawful (hashes_of s) equal (core_of s) new sound
            (λ s t. SameIndex s t) hash index index.stepped;
      };
    }
