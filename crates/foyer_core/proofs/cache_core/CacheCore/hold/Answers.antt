use Rattle.std.proofs.Common.{ap, ◌∙◌, ℕ, ◌%◌, vec_len, ◌≡◌, true}
use Rattle.std.specs.Prelude.{slice_set}
use Rattle.foyer_core.specs.Cores.{core_of, hashes_of, meaning_of_core}
use Rattle.foyer_core.specs.Shards.{meaning_of, opens_of, state_of}
use Rattle.foyer_core.specs.Holds.{Holds}
use Rattle.foyer_core.specs.Steps.{Gets}
use Rattle.foyer_core.proofs.CallsTold.{get_told}
use Rattle.foyer_core.proofs.CoreLaws.{stays_at}
use Rattle.foyer_core.proofs.CoreLemmas.{at_over, core_over}
use Rattle.foyer_core.proofs.Staying.{RecordsStay, nothing, gets_stay}
use Rattle.foyer_core.proofs.Hashing.{IsHashed, hashed_over}
use Rattle.foyer_core.proofs.Loads.{sums_same, gets_load}
use Rattle.foyer_core.proofs.Origins.{belongs_over, gets_from}
use Rattle.foyer_core.proofs.Named.{holds_got}
use Rattle.foyer_core.proofs.Sound.{core_sound}
use Rattle.foyer_core.proofs.Zips.{map-write}
use Rattle.foyer_core.proofs.cache_core.CacheCore.hold.Goals as goal

pub invariant_of-self-clause-whole : goal.invariant_of-self-clause-whole
invariant_of-self-clause-whole g c =
    let s = c.args.self.now in
    let x = c.index_mut.result.now in
    let y = c.hold.new.self in
    let got = holds_got (meaning_of x) c.args.now (state_of x) (c.hash-hash.result, c.args.key.now) c.hold.result
    (state_of y) c.hold.ensures.holds in
    record {
      belong = belongs_over state_of s.shards.items c.hash-hash.result (vec_len s.shards) c.shard_index-place.result x s.shards.ok.0
          c.shard_index-place.ensures.within c.shard_index-place.ensures.index c.index_mut.ensures.value
          y (gets_from (λ d. d.hash ≡ c.hash-hash.result) (meaning_of x) c.args.now (state_of x)
          (c.hash-hash.result, c.args.key.now) got.answer (state_of y) got.gets) s.whole.belong;
      hashed = hashed_over (λ k. g.S.HashBuilder.hash_of s.hash_builder (g.K.Hash.hash_input k)) state_of s.shards.items
          (vec_len s.shards) c.shard_index-place.result x s.shards.ok.0 c.shard_index-place.ensures.within c.index_mut.ensures.value
          y (gets_from (IsHashed (λ k. g.S.HashBuilder.hash_of s.hash_builder (g.K.Hash.hash_input k))) (meaning_of x) c.args.now
          (state_of x) (c.hash-hash.result, c.args.key.now) got.answer (state_of y) got.gets) s.whole.hashed;
      summed = sums_same (meaning_of_core s) state_of s.shards.items (vec_len s.shards) c.shard_index-place.result x s.load.usage
          s.load.entries s.shards.ok.0 c.shard_index-place.ensures.within c.index_mut.ensures.value s.whole.summed
          y (gets_load (meaning_of x) g.met.E.Eviction.lawful c.args.now (state_of x) (state_of y) (c.hash-hash.result, c.args.key.now)
          got.answer x.store.sound got.gets);
    }

pub returns : goal.returns
returns g c =
    let s = c.args.self.now in
    let x = c.index_mut.result.now in
    let y = c.hold.new.self in
    let hash = g.S.HashBuilder.hash_of s.hash_builder (g.K.Hash.hash_input c.args.key.now) in
    let did = rw c.hash-hash.ensures.hash at c.hold.ensures.holds in
    let got = holds_got (meaning_of x) c.args.now (state_of x) (hash, c.args.key.now) c.hold.result (state_of y) did in
    let over = at_over state_of s.capacity s.hash_builder s.rules.weighter s.rules.filter s.shards.items hash (vec_len s.shards)
    c.shard_index-place.result x
    s.shards.ok.0 c.shard_index-place.ensures.within
    (c.shard_index-place.ensures.index ∙ ap (λ (n : ℕ). n % vec_len s.shards) c.hash-hash.ensures.hash)
    c.index_mut.ensures.value in
    let m = meaning_of_core s in
    let equal : (a b : g.row.K.Denot) → g.K.PartialEq.eq a b ≡ true → hashes_of s a ≡ hashes_of s b =
    λ a b same. ap (g.S.HashBuilder.hash_of s.hash_builder) (g.met.K.Hash.respects_eq a b same) in
    let sound = core_sound s g.met.K.Eq.laws g.met.E.Eviction.lawful equal in
    let step = over (λ a b. Gets (meaning_of x) c.args.now a (hash, c.args.key.now) got.answer b) y got.gets in
    let new = core_over state_of s.capacity s.hash_builder s.rules.weighter s.rules.filter
    (slice_set s.shards.items c.shard_index-place.result y) in
    record {
      holds = over (λ a b. Holds (meaning_of x) c.args.now a (hash, c.args.key.now) c.hold.result b) y did;
      fetches = map-write opens_of s.shards.items (vec_len s.shards) c.shard_index-place.result x y s.shards.ok.0
          c.shard_index-place.ensures.within c.index_mut.ensures.value c.hold.ensures.opens;
      laws = record {
        stay = stays_at (core_of s) _ hash
            (over (RecordsStay nothing) y
            (gets_stay (meaning_of x) c.args.now (state_of x) (hash, c.args.key.now) got.answer (state_of y) got.gets));
        told = get_told m g.met.K.Eq.laws g.met.E.Eviction.lawful (hashes_of s) equal (core_of s) new sound
            (hash, c.args.key.now) hash c.args.now got.answer step;
      };
    }
