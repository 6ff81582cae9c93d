use Rattle.std.proofs.Common.{refl, ap, sym, ◌∙◌, ℕ, ◌+◌, ◌%◌, vec_len, ◌≡◌, true, arith, length, subst}
use Rattle.std.specs.Prelude.{MatchResult, map, slice_set}
use Rattle.foyer_policy.specs.declared.types.Source.TheVariants.{Outer}
use Rattle.foyer_core.specs.declared.record.Data.{Data}
use Rattle.foyer_core.specs.CallLaws.{AnswersIn}
use Rattle.foyer_core.specs.Core.{AtShard}
use Rattle.foyer_core.specs.CoreFetches.{open_in}
use Rattle.foyer_core.specs.Cores.{core_of, fetches_of, hashes_of, meaning_of_core}
use Rattle.foyer_core.specs.Inflight.{waiters_of}
use Rattle.foyer_core.specs.NoEntry.{PutsAnswering, last_of}
use Rattle.foyer_core.specs.Shards.{opens_of, state_of}
use Rattle.foyer_core.specs.State.{coming_in, key_of}
use Rattle.foyer_core.specs.Steps.{entry_of, newcomer}
use Rattle.foyer_core.specs.Waited.{waiting_for}
use Rattle.foyer_core.proofs.CoreLemmas.{core_over, shard_over}
use Rattle.foyer_core.proofs.Hashing.{IsHashed, hashed_over}
use Rattle.foyer_core.proofs.Loads.{sums_set, usage_fits, entries_fit}
use Rattle.foyer_core.proofs.Origins.{belongs_over}
use Rattle.foyer_core.proofs.Sound.{core_sound_at}
use Rattle.foyer_core.proofs.Moments.{timed_lawful}
use Rattle.foyer_core.proofs.PutLemmas.{new_answers, put_answers, put_if_new, puts_from, puts_over}
use Rattle.foyer_core.proofs.cache_core.CacheCore.put_onto.Goals as goal

pub invariant_of-self-clause-whole : goal.invariant_of-self-clause-whole
invariant_of-self-clause-whole g c =
    let s = c.args.self.now in
    let x = c.index_mut.result.now in
    let y = c.put_onto-put.new.self in
    let d = c.data-kept.result in
    let m = meaning_of_core s in
    let went = c.put_onto-put.ensures.puts in
    let before = c.of-before in
    let after = c.of-after in
    record {
      belong = belongs_over state_of s.shards.items c.hash-hash.result (vec_len s.shards) c.shard_index-place.result x s.shards.ok.0
          c.shard_index-place.ensures.within c.shard_index-place.ensures.index c.index_mut.ensures.value
          y (puts_from (λ e. e.hash ≡ c.hash-hash.result) m c.args.now (state_of x) d
          (1 + waiting_for (opens_of x) (key_of d)) (last_of c.put_onto-put.result) went.more (state_of y) went.so
          c.data-kept.ensures.hash)
          s.whole.belong;
      hashed = hashed_over (hashes_of s) state_of s.shards.items
          (vec_len s.shards) c.shard_index-place.result x s.shards.ok.0 c.shard_index-place.ensures.within c.index_mut.ensures.value
          y (puts_from (IsHashed (hashes_of s)) m c.args.now (state_of x) d
          (1 + waiting_for (opens_of x) (key_of d)) (last_of c.put_onto-put.result) went.more (state_of y) went.so
          (c.data-kept.ensures.hash ∙ c.hash-hash.ensures.hash ∙ ap (hashes_of s) (sym c.data-kept.ensures.key))) s.whole.hashed;
      summed = sums_set (meaning_of_core s) state_of s.shards.items (vec_len s.shards) c.shard_index-place.result c.index.result.now
          s.load.usage s.load.entries
          s.shards.ok.0 (omega (arith, s.shards.ok.1, s.shards.small)) c.shard_index-place.ensures.within c.index.ensures s.whole.summed
          before.result.usage before.result.entries before.ensures.usage before.ensures.entries
          c.put_onto-put.new.self c.index-2.result.now c.index-2.ensures after.result.usage after.result.entries
          after.ensures.usage after.ensures.entries after.ensures.small
          c.replace.new.self.usage c.replace.new.self.entries c.replace.ensures.usage c.replace.ensures.entries;
    }

pub replace-requires-clause-usage : goal.replace-requires-clause-usage
replace-requires-clause-usage g c =
    let s = c.args.self.now in
    let before = c.of-before in
    let after = c.of-after in
    usage_fits (meaning_of_core s) state_of s.shards.items (vec_len s.shards) c.shard_index-place.result c.index.result.now
    s.load.usage s.load.entries
    s.shards.ok.0 (omega (arith, s.shards.ok.1, s.shards.small)) c.shard_index-place.ensures.within c.index.ensures s.whole.summed
    before.result.usage before.result.entries before.ensures.usage before.ensures.entries
    c.put_onto-put.new.self c.index-2.result.now c.index-2.ensures after.result.usage after.result.entries
    after.ensures.usage after.ensures.entries after.ensures.small

pub replace-requires-clause-entries : goal.replace-requires-clause-entries
replace-requires-clause-entries g c =
    let s = c.args.self.now in
    let before = c.of-before in
    let after = c.of-after in
    entries_fit (meaning_of_core s) state_of s.shards.items (vec_len s.shards) c.shard_index-place.result c.index.result.now
    s.load.usage s.load.entries
    s.shards.ok.0 (omega (arith, s.shards.ok.1, s.shards.small)) c.shard_index-place.ensures.within c.index.ensures s.whole.summed
    before.result.usage before.result.entries before.ensures.usage before.ensures.entries
    c.put_onto-put.new.self c.index-2.result.now c.index-2.ensures after.result.usage after.result.entries
    after.ensures.usage after.ensures.entries after.ensures.small

pub returns : goal.returns
returns g c =
    let s = c.args.self.now in
    let x = c.index_mut.result.now in
    let y = c.put_onto-put.new.self in
    let m = meaning_of_core s in
    let n = vec_len s.shards in
    let place = c.shard_index-place.result in
    let given = c.data-kept.result in
    let judged = c.data-kept.ensures.judged in
    let hash = hashes_of s c.args.key in
    let d : Data g.row.K.Denot g.row.V.Denot g.row.P.Denot =
    record {
      key = c.args.key;
      value = c.args.value;
      properties =
          coming_in g.P.Properties.location_of g.P.Properties.with_phantom_of judged.admitted c.args.properties;
      hash = hash;
      weight = given.weight;
    } in
    let under : given.hash ≡ hash = c.data-kept.ensures.hash ∙ c.hash-hash.ensures.hash in
    let is : given ≡ d = λ j. record {
      key = c.data-kept.ensures.key j;
      value = c.data-kept.ensures.value j;
      properties = judged.marked_is j;
      hash = under j;
      weight = given.weight;
    } in
    let at = c.shard_index-place.ensures.index ∙ ap (λ (h : ℕ). h % n) c.hash-hash.ensures.hash in
    let went = c.put_onto-put.ensures.puts in
    let answer = last_of c.put_onto-put.result in
    let new = core_over state_of s.capacity s.hash_builder s.rules.weighter s.rules.filter
    (slice_set s.shards.items place y) in
    let equal : (a b : g.row.K.Denot) → g.K.PartialEq.eq a b ≡ true → hashes_of s a ≡ hashes_of s b =
    λ a b same. ap (g.S.HashBuilder.hash_of s.hash_builder) (g.met.K.Hash.respects_eq a b same) in
    let laws = g.met.K.Eq.laws in
    let good = timed_lawful c.args.now g.E.Eviction.model g.met.E.Eviction.lawful in
    let sound = core_sound_at c.args.now s laws g.met.E.Eviction.lawful equal in
    let handles = 1 + length (waiters_of (open_in (fetches_of s) (hash, c.args.key))) in
    let step : AtShard (λ a b. PutsAnswering m c.args.now a (newcomer a d handles) answer went.more b) hash (core_of s) new =
    subst
    (λ (q : Data g.row.K.Denot g.row.V.Denot g.row.P.Denot). AtShard
    (λ a b. PutsAnswering m c.args.now a
    (newcomer a q (1 + length (waiters_of (open_in (fetches_of s) (key_of q))))) answer went.more b) hash (core_of s) new) is
    (puts_over m state_of opens_of s.capacity s.hash_builder s.rules.weighter s.rules.filter s.shards.items hash n
    place x y s.shards.ok.0 c.shard_index-place.ensures.within at c.index_mut.ensures.value c.args.now
    given under answer went.more went.so) in
    let here = shard_over state_of s.capacity s.hash_builder s.rules.weighter s.rules.filter s.shards.items hash n place x
    s.shards.ok.0 c.shard_index-place.ensures.within at c.index_mut.ensures.value in
    let entry = entry_of (state_of x) (state_of x).next d Outer in
    record {
      puts = record {
        more = went.more;
        told = went.told;
        so = record {
          weight = given.weight;
          weighed = judged.weighed;
          admitted = judged.admitted;
          answered = judged.answered;
          puts = step;
        };
      };
      fetches = new_answers g.K.PartialEq.eq (core_of s) hash c.args.key c.args.value (fetches_of s)
          (map opens_of (slice_set s.shards.items place y)) entry c.put_onto-put.result
          (put_if_new m laws (hashes_of s) equal (core_of s) new c.args.now good sound d refl handles went.more
          (state_of x) here c.put_onto-put.result step)
          (subst (λ (q : Data g.row.K.Denot g.row.V.Denot g.row.P.Denot). MatchResult c.put_onto-put.result
          (λ put. AnswersIn g.K.PartialEq.eq hash (entry_of (state_of x) (state_of x).next q Outer) put.answers
          (fetches_of s) (map opens_of (slice_set s.shards.items place y)))
          (λ _. map opens_of (slice_set s.shards.items place y) ≡ fetches_of s)) is
          (put_answers m state_of opens_of s.capacity s.hash_builder s.rules.weighter s.rules.filter
          s.shards.items hash n place x y s.shards.ok.0 c.shard_index-place.ensures.within at
          c.index_mut.ensures.value c.args.now given under (entry_of (state_of x) (state_of x).next given Outer) refl
          c.put_onto-put.result c.put_onto-put.ensures.answers c.put_onto-put.ensures.closed
          c.put_onto-put.ensures.opens));
    }
