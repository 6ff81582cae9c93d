use Rattle.std.proofs.Common.{◌≡◌, ◌∙◌, ℕ, ◌%◌, ◌<◌, arith, vec_len}
use Rattle.std.specs.Hash.{u64 as u64_input}
use Rattle.foyer_core.specs.Inflight.{no_opens}
use Rattle.foyer_core.specs.Shards.{opens_of, state_of}
use Rattle.foyer_core.proofs.CoreLemmas.{at_over}
use Rattle.foyer_replay.specs.Cores.{core_of, meaning_of_core}
use Rattle.foyer_replay.specs.Idle.{HasNoHandle}
use Rattle.foyer_replay.specs.Replay.{ServesAs}
use Rattle.foyer_replay.proofs.Places.{all_at, all_written, if_ok_map, place_of}
use Rattle.foyer_replay.proofs.cache.ReplayCore.serve.Goals as goal

pub serve_in-requires : goal.serve_in-requires
serve_in-requires g c =
    let s = c.args.self.now in
    let within : c.shard_of-place.result < vec_len s.shards = omega (arith, c.len.ensures, c.shard_of-place.ensures.within) in
    record {
      alone = all_at (λ f. f ≡ no_opens) opens_of s.shards.items (vec_len s.shards) c.shard_of-place.result c.index_mut.result.now
          s.shards.ok.0 within c.index_mut.ensures.value s.idle.no_fetches;
    }

pub invariant_of-self-clause-idle : goal.invariant_of-self-clause-idle
invariant_of-self-clause-idle g c =
    let s = c.args.self.now in
    let x = c.index_mut.result.now in
    let y = c.serve_in.new.shard in
    let place = c.shard_of-place.result in
    let within : c.shard_of-place.result < vec_len s.shards = omega (arith, c.len.ensures, c.shard_of-place.ensures.within) in
    record {
      no_handles = all_written HasNoHandle state_of s.shards.items place y
          (c.serve_in.ensures.idle (all_at HasNoHandle state_of s.shards.items (vec_len s.shards) place x s.shards.ok.0 within
          c.index_mut.ensures.value s.idle.no_handles)) s.idle.no_handles;
      no_fetches = all_written (λ f. f ≡ no_opens) opens_of s.shards.items place y
          (c.serve_in.ensures.opens ∙ all_at (λ f. f ≡ no_opens) opens_of s.shards.items (vec_len s.shards) place x
          s.shards.ok.0 within c.index_mut.ensures.value s.idle.no_fetches) s.idle.no_fetches;
    }

pub returns : goal.returns
returns g c =
    let s = c.args.self.now in
    let r = c.args.request.now in
    let x = c.index_mut.result.now in
    let y = c.serve_in.new.shard in
    let hash = g.S.HashBuilder.hash_of s.config.hash_builder (u64_input r.key) in
    let within : c.shard_of-place.result < vec_len s.shards = omega (arith, c.len.ensures, c.shard_of-place.ensures.within) in
    let place_is : c.shard_of-place.result ≡ hash % vec_len s.shards =
    place_of c.shard_of-place.result c.hash_one-hash.result hash c.len.result (vec_len s.shards) c.shard_of-place.ensures.number
    c.len.ensures c.hash_one-hash.ensures.number in
    let over = at_over state_of s.config.capacity s.config.hash_builder s.config.weighter s.config.filter s.shards.items hash
    (vec_len s.shards) c.shard_of-place.result x s.shards.ok.0 within place_is c.index_mut.ensures.value in
    let served = rw c.hash_one-hash.ensures.number at c.serve_in.ensures.served in
    record {
      served = if_ok_map c.serve_in.result
          (λ outcome h. over (ServesAs (meaning_of_core s) r.operation outcome r hash) y h) served;
    }
