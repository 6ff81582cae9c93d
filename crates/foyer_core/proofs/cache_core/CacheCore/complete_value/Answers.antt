use Rattle.std.proofs.Common.{◌≡◌, ◌∙◌, ℕ, ◌%◌, sym, refl, true, ap, length, vec_len, arith, Some}
use Rattle.std.proofs.Common.{map}
use Rattle.std.specs.Prelude.{slice_set}
use Rattle.std.proofs.lemmas.List.{length-map}
use Rattle.foyer_core.specs.declared.record.Data.{Data}
use Rattle.foyer_core.specs.Cores.{core_of, fetches_of, hashes_of, meaning_of_core}
use Rattle.foyer_core.specs.Fetching.{CompletesBy}
use Rattle.foyer_core.specs.Inflight.{asked}
use Rattle.foyer_core.specs.Shards.{meaning_of, opens_of, state_of}
use Rattle.foyer_core.specs.State.{at_moment, coming_in, key_of}
use Rattle.foyer_core.specs.Waited.{ending_of}
use Rattle.foyer_core.proofs.Arriving.{arrives_at, place_alike}
use Rattle.foyer_core.proofs.Completed.{completes_from}
use Rattle.foyer_core.proofs.CoreLemmas.{core_over}
use Rattle.foyer_core.proofs.FetchesOver.{open_over}
use Rattle.foyer_core.proofs.Hashing.{IsHashed, hashed_over}
use Rattle.foyer_core.proofs.InflightLemmas.{alike_at}
use Rattle.foyer_core.proofs.Loads.{sums_set, usage_fits, entries_fit}
use Rattle.foyer_core.proofs.Origins.{belongs_over}
use Rattle.foyer_core.proofs.cache_core.CacheCore.complete_value.Goals as goal

pub invariant_of-self-clause-whole : goal.invariant_of-self-clause-whole
invariant_of-self-clause-whole g c =
    let s = c.args.self.now in
    let x = c.index_mut.result.now in
    let y = c.complete-ended.new.self in
    let d : Data g.row.K.Denot g.row.V.Denot g.row.P.Denot =
    record {
      key = c.in-Ok.own;
      value = c.args.value;
      properties = c.judge-weight.result.1;
      hash = c.hash-hash.result;
      weight = c.judge-weight.result.0;
    } in
    let same : g.K.PartialEq.eq c.args.key.now c.in-Ok.own ≡ true = g.met.K.Eq.laws.symm c.args.key.now c.in-Ok.own
    ∙ c.requires.clones c.args.key.now c.in-Ok.own c.in-Ok.ensures.cases in
    let before = c.of-before in
    let after = c.of-after in
    record {
      belong = belongs_over state_of s.shards.items d.hash (vec_len s.shards) c.shard_index-place.result x s.shards.ok.0
          c.shard_index-place.ensures.within c.shard_index-place.ensures.index c.index_mut.ensures.value
          y (completes_from (λ e. e.hash ≡ d.hash) (at_moment c.args.now (meaning_of x)) (state_of x) (opens_of x) (key_of d)
          (ending_of c.complete-ended.result) (state_of y) (opens_of y)
          (asked (Some c.args.fetch) ((opens_of x).by_key (key_of d))) c.args.source d
          c.complete-ended.ensures.completed refl) s.whole.belong;
      hashed = hashed_over (hashes_of s) state_of s.shards.items (vec_len s.shards) c.shard_index-place.result x s.shards.ok.0
          c.shard_index-place.ensures.within c.index_mut.ensures.value
          y (completes_from (IsHashed (hashes_of s)) (at_moment c.args.now (meaning_of x)) (state_of x) (opens_of x) (key_of d)
          (ending_of c.complete-ended.result) (state_of y) (opens_of y)
          (asked (Some c.args.fetch) ((opens_of x).by_key (key_of d))) c.args.source d
          c.complete-ended.ensures.completed
          (c.hash-hash.ensures.hash ∙ ap (g.S.HashBuilder.hash_of s.hash_builder)
          (g.met.K.Hash.respects_eq c.args.key.now c.in-Ok.own same))) s.whole.hashed;
      summed = sums_set (meaning_of_core s) state_of s.shards.items (vec_len s.shards) c.shard_index-place.result c.index.result.now
          s.load.usage s.load.entries
          s.shards.ok.0 (omega (arith, s.shards.ok.1, s.shards.small)) c.shard_index-place.ensures.within c.index.ensures s.whole.summed
          before.result.usage before.result.entries before.ensures.usage before.ensures.entries
          c.complete-ended.new.self c.index-2.result.now c.index-2.ensures after.result.usage after.result.entries
          after.ensures.usage after.ensures.entries after.ensures.small
          c.replace.new.self.usage c.replace.new.self.entries c.replace.ensures.usage c.replace.ensures.entries;
    }

pub replace-requires-clause-usage : goal.replace-requires-clause-usage
replace-requires-clause-usage g c =
    let s = c.args.self.now in
    let before = c.of-before in
    let after = c.of-after in
    usage_fits (meaning_of_core s) state_of s.shards.items (vec_len s.shards) c.shard_index-place.result c.index.result.now
    s.load.usage s.load.entries
    s.shards.ok.0 (omega (arith, s.shards.ok.1, s.shards.small)) c.shard_index-place.ensures.within c.index.ensures s.whole.summed
    before.result.usage before.result.entries before.ensures.usage before.ensures.entries
    c.complete-ended.new.self c.index-2.result.now c.index-2.ensures after.result.usage after.result.entries
    after.ensures.usage after.ensures.entries after.ensures.small

pub replace-requires-clause-entries : goal.replace-requires-clause-entries
replace-requires-clause-entries g c =
    let s = c.args.self.now in
    let before = c.of-before in
    let after = c.of-after in
    entries_fit (meaning_of_core s) state_of s.shards.items (vec_len s.shards) c.shard_index-place.result c.index.result.now
    s.load.usage s.load.entries
    s.shards.ok.0 (omega (arith, s.shards.ok.1, s.shards.small)) c.shard_index-place.ensures.within c.index.ensures s.whole.summed
    before.result.usage before.result.entries before.ensures.usage before.ensures.entries
    c.complete-ended.new.self c.index-2.result.now c.index-2.ensures after.result.usage after.result.entries
    after.ensures.usage after.ensures.entries after.ensures.small

pub returns-in_default : goal.returns-in_default
returns-in_default g c = record {
  completed = λ o opened.
      let s = c.args.self.now in
      let t = c.refuse_value.new.self in
      let m = at_moment c.args.now (meaning_of_core s) in
      let key = c.args.key.now in
      let hash = hashes_of s key in
      let judged = c.judge-weight.ensures in
      let d : Data g.row.K.Denot g.row.V.Denot g.row.P.Denot =
      record {
        key = key;
        value = c.args.value;
        properties =
            coming_in g.P.Properties.location_of g.P.Properties.with_phantom_of judged.admitted c.args.properties;
        hash = hash;
        weight = c.judge-weight.result.0;
      } in
      let many : length (fetches_of s) ≡ length (core_of s).shards = length-map s.shards.items opens_of
      ∙ sym (length-map s.shards.items state_of) in
      let did = rw (c.hash-hash.ensures.hash, judged.marked_is) at
      (c.refuse_value.ensures.completed c.args.now c.args.source c.args.value) in
      record {
        own = key;
        equal = g.met.K.Eq.laws.refl key;
        weight = c.judge-weight.result.0;
        weighed = judged.weighed;
        admitted = judged.admitted;
        answered = judged.answered;
        completes = arrives_at m g.met.K.Eq.laws (core_of s) (core_of t) (fetches_of s) (fetches_of t) many hash key
            key (g.met.K.Eq.laws.refl key) refl c.args.fetch o opened (ending_of c.refuse_value.result) c.args.source
            d did;
      };
}

pub returns : goal.returns
returns g c = record {
  completed = λ o opened.
      let s = c.args.self.now in
      let x = c.index_mut.result.now in
      let y = c.complete-ended.new.self in
      let m = at_moment c.args.now (meaning_of_core s) in
      let key = c.args.key.now in
      let own = c.in-Ok.own in
      let hash = hashes_of s key in
      let judged = c.judge-weight.ensures in
      let n = vec_len s.shards in
      let place = c.shard_index-place.result in
      let same : g.K.PartialEq.eq key own ≡ true = g.met.K.Eq.laws.symm key own
      ∙ c.requires.clones key own c.in-Ok.ensures.cases in
      let d : Data g.row.K.Denot g.row.V.Denot g.row.P.Denot =
      record {
        key = own;
        value = c.args.value;
        properties =
            coming_in g.P.Properties.location_of g.P.Properties.with_phantom_of judged.admitted c.args.properties;
        hash = hash;
        weight = c.judge-weight.result.0;
      } in
      let many : length (fetches_of s) ≡ length (core_of s).shards = length-map s.shards.items opens_of
      ∙ sym (length-map s.shards.items state_of) in
      let alike = place_alike opens_of s.shards.items hash key own
      (λ z. alike_at g.met.K.Eq.laws z.inflights hash key own same) in
      let did = rw (c.hash-hash.ensures.hash, judged.marked_is) at c.complete-ended.ensures.completed in
      let new = core_over state_of s.capacity s.hash_builder s.rules.weighter s.rules.filter
      (slice_set s.shards.items place y) in
      record {
        own = own;
        equal = same;
        weight = c.judge-weight.result.0;
        weighed = judged.weighed;
        admitted = judged.admitted;
        answered = judged.answered;
        completes = arrives_at m g.met.K.Eq.laws (core_of s) new (fetches_of s)
            (map opens_of (slice_set s.shards.items place y)) many hash key own same alike c.args.fetch o opened
            (ending_of c.complete-ended.result) c.args.source d
            (open_over state_of opens_of s.capacity s.hash_builder s.rules.weighter s.rules.filter s.shards.items hash
            n place x s.shards.ok.0 c.shard_index-place.ensures.within
            (c.shard_index-place.ensures.index ∙ ap (λ (h : ℕ). h % n) c.hash-hash.ensures.hash)
            c.index_mut.ensures.value y
            (λ a f b h. CompletesBy m (asked (Some c.args.fetch) (f.by_key (hash, own))) c.args.source a f (hash, own)
            d (ending_of c.complete-ended.result) b h) did);
      };
}
