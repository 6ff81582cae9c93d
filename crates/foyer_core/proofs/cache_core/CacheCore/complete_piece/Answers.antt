use Rattle.std.proofs.Common.{◌≡◌, ℕ, ◌%◌, ◌∙◌, Bool, Some, map, sym, true, false, refl, ap, length, vec_len, arith}
use Rattle.std.proofs.lemmas.List.{length-map}
use Rattle.std.proofs.lemmas.Bool.{eqb-true}
use Rattle.std.specs.Prelude.{◌==◌, slice_set}
use Rattle.foyer_core.specs.Core.{shard_of}
use Rattle.foyer_core.specs.State.{at_moment}
use Rattle.foyer_core.specs.Cores.{core_of, fetches_of, hashes_of, meaning_of_core}
use Rattle.foyer_core.specs.Indexer.{same_key}
use Rattle.foyer_core.specs.Inflight.{asked}
use Rattle.foyer_core.specs.PieceEnds.{CompletesPieceBy, comes_under}
use Rattle.foyer_core.specs.Pieces.{coming_under, is_known}
use Rattle.foyer_core.specs.Shards.{opens_of, state_of}
use Rattle.foyer_core.specs.Waited.{ending_of}
use Rattle.foyer_core.proofs.Arriving.{piece_ends_at}
use Rattle.foyer_core.proofs.ArrivingPieces.{and_left, ends_weighed, foreign_key, of_alike}
use Rattle.foyer_core.proofs.Completed.{completes_piece_from}
use Rattle.foyer_core.proofs.CoreLemmas.{core_over, shard_over}
use Rattle.foyer_core.proofs.FetchesOver.{open_over}
use Rattle.foyer_core.proofs.Hashing.{IsHashed, hashed_over, records_over}
use Rattle.foyer_core.proofs.Loads.{sums_set, usage_fits, entries_fit}
use Rattle.foyer_core.proofs.Origins.{placed_over}
use Rattle.foyer_core.proofs.PieceTold.{returning_at, under_at}
use Rattle.foyer_core.proofs.Moments.{timed_lawful}
use Rattle.foyer_core.proofs.cache_core.CacheCore.complete_piece.Goals as goal

pub invariant_of-self-clause-whole : goal.invariant_of-self-clause-whole
invariant_of-self-clause-whole g c =
    let s = c.args.self.now in
    let x = c.index_mut.result.now in
    let y = c.complete_piece-ended.new.self in
    let m = at_moment c.args.now (meaning_of_core s) in
    let n = vec_len s.shards in
    let place = c.shard_index-place.result in
    let piece = c.args.piece in
    let key = c.args.key.now in
    let hash = hashes_of s key in
    let own = hashes_of s piece.kept.key in
    let own_is : c.hash-own.result ≡ own = c.hash-own.ensures.hash ∙ ap (hashes_of s) c.key.ensures in
    let at : place ≡ hash % n = c.shard_index-place.ensures.index
    ∙ ap (λ (h : ℕ). h % n) c.hash-hash.ensures.hash in
    let equal : (a b : g.row.K.Denot) → g.K.PartialEq.eq a b ≡ true → hashes_of s a ≡ hashes_of s b =
    λ a b same. ap (g.S.HashBuilder.hash_of s.hash_builder) (g.met.K.Hash.respects_eq a b same) in
    let laws = g.met.K.Eq.laws in
    let good = timed_lawful c.args.now g.E.Eviction.model g.met.E.Eviction.lawful in
    let recs = records_over (hashes_of s) state_of s.shards.items n place x s.shards.ok.0
    c.shard_index-place.ensures.within c.index_mut.ensures.value s.whole.belong s.whole.hashed in
    let home = c.shard_index.result == place in
    let comes = λ (b : Bool). comes_under m (state_of x) own piece b (hash, key) in
    let here : comes home ≡ true → own % n ≡ place =
    λ yes. sym (c.shard_index.ensures.index ∙ ap (λ (h : ℕ). h % n) own_is)
    ∙ eqb-true c.shard_index.result place
    (and_left home (same_key m.same (hash, key) (coming_under (state_of x) own piece)) yes) in
    let did = rw (c.hash-hash.ensures.hash, own_is) at c.complete_piece-ended.ensures.completed in
    let weight = c.weight_under-weight.result in
    let p = asked (Some c.args.fetch) ((opens_of x).by_key (hash, key)) in
    let ended = ending_of c.complete_piece-ended.result in
    let before = c.of-before in
    let after = c.of-after in
    record {
      belong = placed_over state_of s.shards.items n place x s.shards.ok.0 c.shard_index-place.ensures.within
          c.index_mut.ensures.value y
          (completes_piece_from (λ d. d.hash % n ≡ place) m (state_of x) (state_of y) own piece (λ w. w ≡ weight) home
          (opens_of x) (opens_of y) (hash, key) ended
          (λ yes known. (returning_at m laws good (hashes_of s) equal n place (state_of x) recs piece 0 (here yes) known).0)
          (λ yes w. here yes) p did) s.whole.belong;
      hashed = hashed_over (hashes_of s) state_of s.shards.items n place x s.shards.ok.0 c.shard_index-place.ensures.within
          c.index_mut.ensures.value y
          (completes_piece_from (IsHashed (hashes_of s)) m (state_of x) (state_of y) own piece (λ w. w ≡ weight) home
          (opens_of x) (opens_of y) (hash, key) ended
          (λ yes known. (returning_at m laws good (hashes_of s) equal n place (state_of x) recs piece 0 (here yes) known).1)
          (λ yes w. refl) p did) s.whole.hashed;
      summed = sums_set (meaning_of_core s) state_of s.shards.items (vec_len s.shards) c.shard_index-place.result c.index.result.now
          s.load.usage s.load.entries
          s.shards.ok.0 (omega (arith, s.shards.ok.1, s.shards.small)) c.shard_index-place.ensures.within c.index.ensures s.whole.summed
          before.result.usage before.result.entries before.ensures.usage before.ensures.entries
          c.complete_piece-ended.new.self c.index-2.result.now c.index-2.ensures after.result.usage after.result.entries
          after.ensures.usage after.ensures.entries after.ensures.small
          c.replace.new.self.usage c.replace.new.self.entries c.replace.ensures.usage c.replace.ensures.entries;
    }

pub replace-requires-clause-usage : goal.replace-requires-clause-usage
replace-requires-clause-usage g c =
    let s = c.args.self.now in
    let before = c.of-before in
    let after = c.of-after in
    usage_fits (meaning_of_core s) state_of s.shards.items (vec_len s.shards) c.shard_index-place.result c.index.result.now
    s.load.usage s.load.entries
    s.shards.ok.0 (omega (arith, s.shards.ok.1, s.shards.small)) c.shard_index-place.ensures.within c.index.ensures s.whole.summed
    before.result.usage before.result.entries before.ensures.usage before.ensures.entries
    c.complete_piece-ended.new.self c.index-2.result.now c.index-2.ensures after.result.usage after.result.entries
    after.ensures.usage after.ensures.entries after.ensures.small

pub replace-requires-clause-entries : goal.replace-requires-clause-entries
replace-requires-clause-entries g c =
    let s = c.args.self.now in
    let before = c.of-before in
    let after = c.of-after in
    entries_fit (meaning_of_core s) state_of s.shards.items (vec_len s.shards) c.shard_index-place.result c.index.result.now
    s.load.usage s.load.entries
    s.shards.ok.0 (omega (arith, s.shards.ok.1, s.shards.small)) c.shard_index-place.ensures.within c.index.ensures s.whole.summed
    before.result.usage before.result.entries before.ensures.usage before.ensures.entries
    c.complete_piece-ended.new.self c.index-2.result.now c.index-2.ensures after.result.usage after.result.entries
    after.ensures.usage after.ensures.entries after.ensures.small

pub returns : goal.returns
returns g c =
    let s = c.args.self.now in
    let x = c.index_mut.result.now in
    let y = c.complete_piece-ended.new.self in
    let m = at_moment c.args.now (meaning_of_core s) in
    let n = vec_len s.shards in
    let place = c.shard_index-place.result in
    let piece = c.args.piece in
    let key = c.args.key.now in
    let hash = hashes_of s key in
    let own = hashes_of s piece.kept.key in
    let own_is : c.hash-own.result ≡ own = c.hash-own.ensures.hash ∙ ap (hashes_of s) c.key.ensures in
    let at : place ≡ hash % n = c.shard_index-place.ensures.index
    ∙ ap (λ (h : ℕ). h % n) c.hash-hash.ensures.hash in
    let equal : (a b : g.row.K.Denot) → g.K.PartialEq.eq a b ≡ true → hashes_of s a ≡ hashes_of s b =
    λ a b same. ap (g.S.HashBuilder.hash_of s.hash_builder) (g.met.K.Hash.respects_eq a b same) in
    let laws = g.met.K.Eq.laws in
    let good = timed_lawful c.args.now g.E.Eviction.model g.met.E.Eviction.lawful in
    let recs = records_over (hashes_of s) state_of s.shards.items n place x s.shards.ok.0
    c.shard_index-place.ensures.within c.index_mut.ensures.value s.whole.belong s.whole.hashed in
    let home = c.shard_index.result == place in
    let comes = λ (b : Bool). comes_under m (state_of x) own piece b (hash, key) in
    let here : comes home ≡ true → own % n ≡ place =
    λ yes. sym (c.shard_index.ensures.index ∙ ap (λ (h : ℕ). h % n) own_is)
    ∙ eqb-true c.shard_index.result place
    (and_left home (same_key m.same (hash, key) (coming_under (state_of x) own piece)) yes) in
    let did = rw (c.hash-hash.ensures.hash, own_is) at c.complete_piece-ended.ensures.completed in
    let weight = c.weight_under-weight.result in
    let p = asked (Some c.args.fetch) ((opens_of x).by_key (hash, key)) in
    let ended = ending_of c.complete_piece-ended.result in
    let new = core_over state_of s.capacity s.hash_builder s.rules.weighter s.rules.filter
    (slice_set s.shards.items place y) in
    let weighs = g.W.Weighter.weighs s.rules.weighter piece.kept.key piece.kept.value in
    let long : n ≡ length (core_of s).shards = s.shards.ok.0 ∙ sym (length-map s.shards.items state_of) in
    let many : length (fetches_of s) ≡ length (core_of s).shards = length-map s.shards.items opens_of
    ∙ sym (length-map s.shards.items state_of) in
    let own_at : c.shard_index.result ≡ shard_of (core_of s) own = c.shard_index.ensures.index
    ∙ ap (λ (h : ℕ). h % n) own_is ∙ ap (λ (k : ℕ). own % k) long in
    let place_at : place ≡ shard_of (core_of s) hash = at ∙ ap (λ (k : ℕ). hash % k) long in
    let home_is : home ≡ (shard_of (core_of s) own == shard_of (core_of s) hash) = λ j. own_at j == place_at j in
    let weighed : comes home ≡ true → is_known (state_of x) own piece ≡ false → weighs weight =
    λ yes foreign. rw own_is at (c.weight_under-weight.ensures (state_of x))
    (shard_over state_of s.capacity s.hash_builder s.rules.weighter s.rules.filter s.shards.items own n place x
    s.shards.ok.0 c.shard_index-place.ensures.within (sym (here yes)) c.index_mut.ensures.value) foreign
    (foreign_key m (state_of x) own piece home (hash, key) yes foreign) in
    let there = shard_over state_of s.capacity s.hash_builder s.rules.weighter s.rules.filter s.shards.items hash n
    place x s.shards.ok.0 c.shard_index-place.ensures.within at c.index_mut.ensures.value in
    let alike = of_alike m (core_of s) hash own key piece (state_of x) home home_is
    (λ same yes. equal key (coming_under (state_of x) own piece).1 same
    ∙ sym (under_at m laws good (hashes_of s) equal n place (state_of x) recs piece 0
    (sym (c.shard_index.ensures.index ∙ ap (λ (h : ℕ). h % n) own_is) ∙ eqb-true c.shard_index.result place yes)).1) in
    record {
      completed = λ o opened.
          piece_ends_at m laws (core_of s) new (fetches_of s) (map opens_of (slice_set s.shards.items place y)) many
          hash key key (laws.refl key) refl c.args.fetch o opened ended weighs own piece home
          (open_over state_of opens_of s.capacity s.hash_builder s.rules.weighter s.rules.filter s.shards.items hash n
          place x s.shards.ok.0 c.shard_index-place.ensures.within at c.index_mut.ensures.value y
          (λ a f b h. CompletesPieceBy m (asked (Some c.args.fetch) (f.by_key (hash, key))) weighs own piece home a f
          (hash, key) ended b h)
          (ends_weighed m (state_of x) (state_of y) own piece weighs weight home (opens_of x) (opens_of y) (hash, key)
          ended weighed p did)) (state_of x) there alike;
    }
