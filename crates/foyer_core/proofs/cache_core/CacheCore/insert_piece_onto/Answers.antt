use Rattle.std.proofs.Common.{◌≡◌, ℕ, ◌+◌, ◌%◌, Option, true, false, length, refl, sym, ◌∙◌, ap, subst, vec_len, arith}
use Rattle.std.specs.Prelude.{slice_set}
use Rattle.foyer_core.specs.CoreFetches.{open_in}
use Rattle.foyer_core.specs.State.{at_moment}
use Rattle.foyer_core.specs.Cores.{core_of, fetches_of, hashes_of, meaning_of_core}
use Rattle.foyer_core.specs.Inflight.{OpenFetch, waiters_of}
use Rattle.foyer_core.specs.Onto.{insertion_onto}
use Rattle.foyer_core.specs.Pieces.{InsertsPiece, coming_under, is_known}
use Rattle.foyer_core.specs.Shards.{opens_of, state_of}
use Rattle.foyer_core.specs.Waited.{waiting_for}
use Rattle.foyer_core.proofs.Answered.{answers_over, of_onto}
use Rattle.foyer_core.proofs.ArrivingPieces.{insert_weighed}
use Rattle.foyer_core.proofs.Completed.{piece_from}
use Rattle.foyer_core.proofs.CoreLemmas.{at_over, core_over, shard_over}
use Rattle.foyer_core.proofs.FetchesOver.{opened_over}
use Rattle.foyer_core.proofs.Hashing.{IsHashed, hashed_over, records_over}
use Rattle.foyer_core.proofs.Loads.{sums_set, usage_fits, entries_fit}
use Rattle.foyer_core.proofs.Origins.{placed_over}
use Rattle.foyer_core.proofs.PieceCalls.{piece_laws}
use Rattle.foyer_core.proofs.PieceTold.{piece_here, returning_at, under_at}
use Rattle.foyer_core.proofs.Sound.{core_sound_at}
use Rattle.foyer_core.proofs.Moments.{timed_lawful}
use Rattle.foyer_core.proofs.MomentLaws.{laws_at}
use Rattle.foyer_core.proofs.cache_core.CacheCore.insert_piece_onto.Goals as goal

pub invariant_of-self-clause-whole : goal.invariant_of-self-clause-whole
invariant_of-self-clause-whole g c =
    let s = c.args.self.now in
    let x = c.index_mut.result.now in
    let y = c.emplace_piece-made.new.self in
    let m = at_moment c.args.now (meaning_of_core s) in
    let n = vec_len s.shards in
    let place = c.shard_index-place.result in
    let piece = c.args.piece in
    let hash = hashes_of s piece.kept.key in
    let is : c.hash-hash.result ≡ hash = c.hash-hash.ensures.hash ∙ ap (hashes_of s) c.key.ensures in
    let at : place ≡ hash % n = c.shard_index-place.ensures.index ∙ ap (λ (h : ℕ). h % n) is in
    let equal : (a b : g.row.K.Denot) → g.K.PartialEq.eq a b ≡ true → hashes_of s a ≡ hashes_of s b =
    λ a b same. ap (g.S.HashBuilder.hash_of s.hash_builder) (g.met.K.Hash.respects_eq a b same) in
    let laws = g.met.K.Eq.laws in
    let good = timed_lawful c.args.now g.E.Eviction.model g.met.E.Eviction.lawful in
    let recs = records_over (hashes_of s) state_of s.shards.items n place x s.shards.ok.0
    c.shard_index-place.ensures.within c.index_mut.ensures.value s.whole.belong s.whole.hashed in
    let went = rw is at c.emplace_piece-made.ensures.inserted in
    let weight = c.weight_under-weight.result in
    let answer = insertion_onto c.emplace_piece-made.result went.more in
    let more = 1 + waiting_for (opens_of x) (coming_under (state_of x) hash piece) in
    let before = c.of-before in
    let after = c.of-after in
    record {
      belong = placed_over state_of s.shards.items n place x s.shards.ok.0 c.shard_index-place.ensures.within
          c.index_mut.ensures.value y
          (piece_from (λ d. d.hash % n ≡ place) m (state_of x) (state_of y) hash piece (λ w. w ≡ weight)
          (λ known. (returning_at m laws good (hashes_of s) equal n place (state_of x) recs piece more (sym at) known).0)
          (λ w. sym at) more answer went.so) s.whole.belong;
      hashed = hashed_over (hashes_of s) state_of s.shards.items n place x s.shards.ok.0 c.shard_index-place.ensures.within
          c.index_mut.ensures.value y
          (piece_from (IsHashed (hashes_of s)) m (state_of x) (state_of y) hash piece (λ w. w ≡ weight)
          (λ known. (returning_at m laws good (hashes_of s) equal n place (state_of x) recs piece more (sym at) known).1)
          (λ w. refl) more answer went.so) s.whole.hashed;
      summed = sums_set (meaning_of_core s) state_of s.shards.items (vec_len s.shards) c.shard_index-place.result c.index.result.now
          s.load.usage s.load.entries
          s.shards.ok.0 (omega (arith, s.shards.ok.1, s.shards.small)) c.shard_index-place.ensures.within c.index.ensures s.whole.summed
          before.result.usage before.result.entries before.ensures.usage before.ensures.entries
          c.emplace_piece-made.new.self c.index-2.result.now c.index-2.ensures after.result.usage after.result.entries
          after.ensures.usage after.ensures.entries after.ensures.small
          c.replace.new.self.usage c.replace.new.self.entries c.replace.ensures.usage c.replace.ensures.entries;
    }

pub replace-requires-clause-usage : goal.replace-requires-clause-usage
replace-requires-clause-usage g c =
    let s = c.args.self.now in
    let before = c.of-before in
    let after = c.of-after in
    usage_fits (meaning_of_core s) state_of s.shards.items (vec_len s.shards) c.shard_index-place.result c.index.result.now
    s.load.usage s.load.entries
    s.shards.ok.0 (omega (arith, s.shards.ok.1, s.shards.small)) c.shard_index-place.ensures.within c.index.ensures s.whole.summed
    before.result.usage before.result.entries before.ensures.usage before.ensures.entries
    c.emplace_piece-made.new.self c.index-2.result.now c.index-2.ensures after.result.usage after.result.entries
    after.ensures.usage after.ensures.entries after.ensures.small

pub replace-requires-clause-entries : goal.replace-requires-clause-entries
replace-requires-clause-entries g c =
    let s = c.args.self.now in
    let before = c.of-before in
    let after = c.of-after in
    entries_fit (meaning_of_core s) state_of s.shards.items (vec_len s.shards) c.shard_index-place.result c.index.result.now
    s.load.usage s.load.entries
    s.shards.ok.0 (omega (arith, s.shards.ok.1, s.shards.small)) c.shard_index-place.ensures.within c.index.ensures s.whole.summed
    before.result.usage before.result.entries before.ensures.usage before.ensures.entries
    c.emplace_piece-made.new.self c.index-2.result.now c.index-2.ensures after.result.usage after.result.entries
    after.ensures.usage after.ensures.entries after.ensures.small

pub returns : goal.returns
returns g c =
    let s = c.args.self.now in
    let x = c.index_mut.result.now in
    let y = c.emplace_piece-made.new.self in
    let m = at_moment c.args.now (meaning_of_core s) in
    let n = vec_len s.shards in
    let place = c.shard_index-place.result in
    let piece = c.args.piece in
    let hash = hashes_of s piece.kept.key in
    let is : c.hash-hash.result ≡ hash = c.hash-hash.ensures.hash ∙ ap (hashes_of s) c.key.ensures in
    let at : place ≡ hash % n = c.shard_index-place.ensures.index ∙ ap (λ (h : ℕ). h % n) is in
    let equal : (a b : g.row.K.Denot) → g.K.PartialEq.eq a b ≡ true → hashes_of s a ≡ hashes_of s b =
    λ a b same. ap (g.S.HashBuilder.hash_of s.hash_builder) (g.met.K.Hash.respects_eq a b same) in
    let laws = g.met.K.Eq.laws in
    let good = timed_lawful c.args.now g.E.Eviction.model g.met.E.Eviction.lawful in
    let recs = records_over (hashes_of s) state_of s.shards.items n place x s.shards.ok.0
    c.shard_index-place.ensures.within c.index_mut.ensures.value s.whole.belong s.whole.hashed in
    let went = rw is at c.emplace_piece-made.ensures.inserted in
    let weight = c.weight_under-weight.result in
    let answer = insertion_onto c.emplace_piece-made.result went.more in
    let more = 1 + waiting_for (opens_of x) (coming_under (state_of x) hash piece) in
    let new = core_over state_of s.capacity s.hash_builder s.rules.weighter s.rules.filter
    (slice_set s.shards.items place y) in
    let sound = core_sound_at c.args.now s laws g.met.E.Eviction.lawful equal in
    let weighs = g.W.Weighter.weighs s.rules.weighter piece.kept.key piece.kept.value in
    let there = shard_over state_of s.capacity s.hash_builder s.rules.weighter s.rules.filter s.shards.items hash n
    place x s.shards.ok.0 c.shard_index-place.ensures.within at c.index_mut.ensures.value in
    let weighed : is_known (state_of x) hash piece ≡ false → weighs weight =
    λ known. rw is at (c.weight_under-weight.ensures (state_of x)) there known
    (subst (λ (k : g.row.K.Denot). g.K.PartialEq.eq k piece.kept.key ≡ true) (sym c.key-2.ensures)
    (laws.refl piece.kept.key)) in
    let waits = λ (k : ℕ × g.row.K.Denot). 1 + length (waiters_of (open_in (fetches_of s) k)) in
    let under = coming_under (state_of x) hash piece in
    let here = under_at m laws good (hashes_of s) equal n place (state_of x) recs piece more (sym at) in
    let placed = opened_over opens_of s.shards.items under.0 n place x s.shards.ok.0
    c.shard_index-place.ensures.within (sym here.0) c.index_mut.ensures.value under.1 in
    let did = insert_weighed m (state_of x) (state_of y) hash piece weighs weight more weighed answer went.so in
    let step = at_over state_of s.capacity s.hash_builder s.rules.weighter s.rules.filter s.shards.items hash n place
    x s.shards.ok.0 c.shard_index-place.ensures.within at c.index_mut.ensures.value
    (λ a b. InsertsPiece m weighs hash piece (waits (coming_under a hash piece)) answer a b) y
    (subst
    (λ (o : Option (OpenFetch g.row.N.Denot g.row.R.Denot)). InsertsPiece m weighs hash piece
    (1 + length (waiters_of o)) answer (state_of x) (state_of y)) (sym placed) did) in
    record {
      inserted = record { more = went.more; told = went.told; so = step };
      fetches = answers_over m state_of opens_of s.capacity s.hash_builder s.rules.weighter s.rules.filter
          s.shards.items hash n place x y s.shards.ok.0 c.shard_index-place.ensures.within at
          c.index_mut.ensures.value c.emplace_piece-made.result
          (of_onto c.emplace_piece-made.result went.more (λ entry. entry.kept.hash % n ≡ place)
          (piece_here m laws good (hashes_of s) equal n place (state_of x) recs piece more (sym at) weighs answer
          (state_of y) did)) c.emplace_piece-made.ensures.answers c.emplace_piece-made.ensures.closed
          c.emplace_piece-made.ensures.opens;
      laws = record {
        more = went.more;
        told = went.told;
        so = laws_at (meaning_of_core s) c.args.now (hashes_of s) (hashes_of s) hash (core_of s) answer new
            (piece_laws m laws good (λ b k. g.S.HashBuilder.hash_of b (g.K.Hash.hash_input k)) (core_of s) new equal
            sound weighs piece (λ a. waits (coming_under a hash piece)) answer step);
      };
    }
