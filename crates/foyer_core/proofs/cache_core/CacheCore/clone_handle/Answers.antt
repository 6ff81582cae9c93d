use Rattle.std.proofs.Common.{ap, ◌∙◌, ℕ, ◌%◌, vec_len, ◌≡◌, true}
use Rattle.std.specs.Prelude.{slice_set}
use Rattle.foyer_core.specs.Cores.{core_of, hashes_of, meaning_of_core}
use Rattle.foyer_core.specs.Shards.{opens_of, state_of}
use Rattle.foyer_core.specs.Steps.{ClonesHandle}
use Rattle.foyer_core.proofs.CallsTold.{clone_told}
use Rattle.foyer_core.proofs.CoreLaws.{stays_at}
use Rattle.foyer_core.proofs.CoreLemmas.{at_over, core_over}
use Rattle.foyer_core.proofs.Staying.{RecordsStay, nothing, clones_stay}
use Rattle.foyer_core.proofs.Hashing.{IsHashed, hashed_over}
use Rattle.foyer_core.proofs.Loads.{sums_same, clones_load}
use Rattle.foyer_core.proofs.Origins.{belongs_over, clones_from}
use Rattle.foyer_core.proofs.Sound.{core_sound}
use Rattle.foyer_core.proofs.Zips.{map-write}
use Rattle.foyer_core.proofs.cache_core.CacheCore.clone_handle.Goals as goal

pub invariant_of-self-clause-whole : goal.invariant_of-self-clause-whole
invariant_of-self-clause-whole g c =
    let s = c.args.self.now in
    let x = c.index_mut.result.now in
    let y = c.clone_handle.new.self in
    record {
      belong = belongs_over state_of s.shards.items c.hash.result (vec_len s.shards) c.shard_index-place.result x s.shards.ok.0
          c.shard_index-place.ensures.within c.shard_index-place.ensures.index c.index_mut.ensures.value
          y (clones_from (λ d. d.hash ≡ c.hash.result) (state_of x) c.args.entry.now c.clone_handle.result (state_of y)
          c.clone_handle.ensures.clones) s.whole.belong;
      hashed = hashed_over (λ k. g.S.HashBuilder.hash_of s.hash_builder (g.K.Hash.hash_input k)) state_of s.shards.items
          (vec_len s.shards) c.shard_index-place.result x s.shards.ok.0 c.shard_index-place.ensures.within c.index_mut.ensures.value
          y (clones_from (IsHashed (λ k. g.S.HashBuilder.hash_of s.hash_builder (g.K.Hash.hash_input k))) (state_of x)
          c.args.entry.now c.clone_handle.result (state_of y) c.clone_handle.ensures.clones) s.whole.hashed;
      summed = sums_same (meaning_of_core s) state_of s.shards.items (vec_len s.shards) c.shard_index-place.result x s.load.usage
          s.load.entries s.shards.ok.0 c.shard_index-place.ensures.within c.index_mut.ensures.value s.whole.summed
          y (clones_load (meaning_of_core s) g.met.E.Eviction.lawful (state_of x) (state_of y) c.args.entry.now
          c.clone_handle.result c.clone_handle.ensures.clones);
    }

pub returns : goal.returns
returns g c =
    let s = c.args.self.now in
    let e = c.args.entry.now in
    let x = c.index_mut.result.now in
    let y = c.clone_handle.new.self in
    let did = c.clone_handle.ensures.clones in
    let over = at_over state_of s.capacity s.hash_builder s.rules.weighter s.rules.filter s.shards.items e.kept.hash
    (vec_len s.shards) c.shard_index-place.result x
    s.shards.ok.0 c.shard_index-place.ensures.within
    (c.shard_index-place.ensures.index ∙ ap (λ (n : ℕ). n % vec_len s.shards) c.hash.ensures) c.index_mut.ensures.value in
    let m = meaning_of_core s in
    let equal : (a b : g.row.K.Denot) → g.K.PartialEq.eq a b ≡ true → hashes_of s a ≡ hashes_of s b =
    λ a b same. ap (g.S.HashBuilder.hash_of s.hash_builder) (g.met.K.Hash.respects_eq a b same) in
    let sound = core_sound s g.met.K.Eq.laws g.met.E.Eviction.lawful equal in
    let step = over (λ a b. ClonesHandle a e c.clone_handle.result b) y did in
    let new = core_over state_of s.capacity s.hash_builder s.rules.weighter s.rules.filter
    (slice_set s.shards.items c.shard_index-place.result y) in
    record {
      clones = step;
      fetches = map-write opens_of s.shards.items (vec_len s.shards) c.shard_index-place.result x y s.shards.ok.0
          c.shard_index-place.ensures.within c.index_mut.ensures.value c.clone_handle.ensures.opens;
      laws = record {
        stay = stays_at (core_of s) _ e.kept.hash
            (over (RecordsStay nothing) y (clones_stay (state_of x) e c.clone_handle.result (state_of y) did));
        told = clone_told m g.met.K.Eq.laws g.met.E.Eviction.lawful (hashes_of s) equal (core_of s) new sound e
            e.kept.hash c.clone_handle.result step;
      };
    }
