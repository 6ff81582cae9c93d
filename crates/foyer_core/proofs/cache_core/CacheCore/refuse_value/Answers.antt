use Rattle.std.proofs.Common.{vec_len}
use Rattle.foyer_core.specs.State.{at_moment}
use Rattle.foyer_core.specs.Cores.{meaning_of_core}
use Rattle.foyer_core.specs.declared.record.Data.{Data}
use Rattle.foyer_core.specs.Fetching.{CompletesBy}
use Rattle.std.proofs.Common.{ℕ, Some}
use Rattle.foyer_core.specs.Inflight.{asked}
use Rattle.foyer_core.specs.Shards.{opens_of, state_of}
use Rattle.foyer_core.specs.Waited.{ending_of}
use Rattle.foyer_core.proofs.FetchesOver.{open_over}
use Rattle.foyer_core.proofs.Zips.{map-write}
use Rattle.foyer_core.proofs.cache_core.CacheCore.refuse_value.Goals as goal

pub invariant_of-self-clause-whole : goal.invariant_of-self-clause-whole
invariant_of-self-clause-whole g c =
    let s = c.args.self.now in
    let same = map-write state_of s.shards.items (vec_len s.shards) c.shard_index-place.result c.index_mut.result.now
    c.refuse_value.new.self s.shards.ok.0 c.shard_index-place.ensures.within c.index_mut.ensures.value
    c.refuse_value.ensures.state in
    rw same s.whole

pub returns : goal.returns
returns g c = record {
  completed = λ now source value.
      let s = c.args.self.now in
      let x = c.index_mut.result.now in
      let y = c.refuse_value.new.self in
      let k : ℕ × g.row.K.Denot = (c.args.hash, c.args.key.now) in
      let d : Data g.row.K.Denot g.row.V.Denot g.row.P.Denot =
      record {
        key = c.args.key.now;
        value = value;
        properties = c.args.properties.now;
        hash = c.args.hash;
        weight = c.args.weight;
      } in
      open_over state_of opens_of s.capacity s.hash_builder s.rules.weighter s.rules.filter s.shards.items c.args.hash
      (vec_len s.shards) c.shard_index-place.result x s.shards.ok.0 c.shard_index-place.ensures.within
      c.shard_index-place.ensures.index c.index_mut.ensures.value y
      (λ a f b h. CompletesBy (at_moment now (meaning_of_core s)) (asked (Some c.args.fetch) (f.by_key k)) source a f k d
      (ending_of c.refuse_value.result) b h) (c.refuse_value.ensures.completed now source value);
}
