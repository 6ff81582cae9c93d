use Rattle.std.proofs.Common.{ap, ◌∙◌, ℕ, ◌%◌, vec_len, ◌≡◌, arith, subst, sym}
use Rattle.std.specs.Prelude.{Option, IsSomeAnd, is_some, slice_set}
use Rattle.foyer_core.specs.Bulk.{TakesRecordOut}
use Rattle.foyer_core.specs.Core.{AtShard}
use Rattle.foyer_core.specs.Cores.{core_of, hashes_of, meaning_of_core}
use Rattle.foyer_core.specs.ResidentPieces.{is_resident}
use Rattle.foyer_core.specs.Shards.{meaning_of, opens_of, state_of}
use Rattle.foyer_core.specs.State.{State}
use Rattle.foyer_core.proofs.CoreLemmas.{at_over, core_over, same_over, shard_over}
use Rattle.foyer_core.proofs.Hashing.{IsHashed, hashed_over}
use Rattle.foyer_core.proofs.Loads.{sums_set, usage_fits, entries_fit}
use Rattle.foyer_core.proofs.Origins.{belongs_over}
use Rattle.foyer_core.proofs.PutLemmas.{if_none, if_some, taken_from}
use Rattle.foyer_core.proofs.Zips.{map-write}
use Rattle.foyer_core.proofs.cache_core.CacheCore.remove_piece.Goals as goal

pub invariant_of-self-clause-whole : goal.invariant_of-self-clause-whole
invariant_of-self-clause-whole g c =
    let s = c.args.self.now in
    let x = c.index_mut.result.now in
    let y = c.remove_piece-removed.new.self in
    let before = c.of-before in
    let after = c.of-after in
    let at = c.shard_index-place.ensures.index ∙ ap (λ (n : ℕ). n % vec_len s.shards) c.hash.ensures in
    record {
      belong = belongs_over state_of s.shards.items c.args.piece.now.kept.hash (vec_len s.shards) c.shard_index-place.result x
          s.shards.ok.0 c.shard_index-place.ensures.within at c.index_mut.ensures.value
          y (taken_from (λ d. d.hash ≡ c.args.piece.now.kept.hash) (meaning_of x) (state_of x) c.args.piece.now.id
          c.remove_piece-removed.result (state_of y) c.remove_piece-removed.ensures.removed c.remove_piece-removed.ensures.none)
          s.whole.belong;
      hashed = hashed_over (hashes_of s) state_of s.shards.items
          (vec_len s.shards) c.shard_index-place.result x s.shards.ok.0 c.shard_index-place.ensures.within c.index_mut.ensures.value
          y (taken_from (IsHashed (hashes_of s)) (meaning_of x) (state_of x) c.args.piece.now.id
          c.remove_piece-removed.result (state_of y) c.remove_piece-removed.ensures.removed c.remove_piece-removed.ensures.none)
          s.whole.hashed;
      summed = sums_set (meaning_of_core s) state_of s.shards.items (vec_len s.shards) c.shard_index-place.result c.index.result.now
          s.load.usage s.load.entries
          s.shards.ok.0 (omega (arith, s.shards.ok.1, s.shards.small)) c.shard_index-place.ensures.within c.index.ensures s.whole.summed
          before.result.usage before.result.entries before.ensures.usage before.ensures.entries
          c.remove_piece-removed.new.self c.index-2.result.now c.index-2.ensures after.result.usage after.result.entries
          after.ensures.usage after.ensures.entries after.ensures.small
          c.replace.new.self.usage c.replace.new.self.entries c.replace.ensures.usage c.replace.ensures.entries;
    }

pub replace-requires-clause-usage : goal.replace-requires-clause-usage
replace-requires-clause-usage g c =
    let s = c.args.self.now in
    let before = c.of-before in
    let after = c.of-after in
    usage_fits (meaning_of_core s) state_of s.shards.items (vec_len s.shards) c.shard_index-place.result c.index.result.now
    s.load.usage s.load.entries
    s.shards.ok.0 (omega (arith, s.shards.ok.1, s.shards.small)) c.shard_index-place.ensures.within c.index.ensures s.whole.summed
    before.result.usage before.result.entries before.ensures.usage before.ensures.entries
    c.remove_piece-removed.new.self c.index-2.result.now c.index-2.ensures after.result.usage after.result.entries
    after.ensures.usage after.ensures.entries after.ensures.small

pub replace-requires-clause-entries : goal.replace-requires-clause-entries
replace-requires-clause-entries g c =
    let s = c.args.self.now in
    let before = c.of-before in
    let after = c.of-after in
    entries_fit (meaning_of_core s) state_of s.shards.items (vec_len s.shards) c.shard_index-place.result c.index.result.now
    s.load.usage s.load.entries
    s.shards.ok.0 (omega (arith, s.shards.ok.1, s.shards.small)) c.shard_index-place.ensures.within c.index.ensures s.whole.summed
    before.result.usage before.result.entries before.ensures.usage before.ensures.entries
    c.remove_piece-removed.new.self c.index-2.result.now c.index-2.ensures after.result.usage after.result.entries
    after.ensures.usage after.ensures.entries after.ensures.small

pub returns : goal.returns
returns g c =
    let s = c.args.self.now in
    let x = c.index_mut.result.now in
    let y = c.remove_piece-removed.new.self in
    let p = c.args.piece.now in
    let n = vec_len s.shards in
    let place = c.shard_index-place.result in
    let at = c.shard_index-place.ensures.index ∙ ap (λ (k : ℕ). k % n) c.hash.ensures in
    let here = shard_over state_of s.capacity s.hash_builder s.rules.weighter s.rules.filter s.shards.items p.kept.hash n
    place x s.shards.ok.0 c.shard_index-place.ensures.within at c.index_mut.ensures.value in
    let new = core_over state_of s.capacity s.hash_builder s.rules.weighter s.rules.filter
    (slice_set s.shards.items place y) in
    record {
      resident = subst (λ (o : Option (State g.row.K.Denot g.row.V.Denot g.row.P.Denot g.E.Eviction.View)). IsSomeAnd o
          (λ t. is_some c.remove_piece-removed.result ≡ is_resident t p)) (sym here) c.remove_piece-removed.ensures.resident;
      removed = if_some c.remove_piece-removed.result
          (λ left. TakesRecordOut (meaning_of x) (state_of x) p.id left (state_of y))
          (λ left. AtShard (λ a b. TakesRecordOut (meaning_of_core s) a p.id left b) p.kept.hash (core_of s) new)
          (λ left h. at_over state_of s.capacity s.hash_builder s.rules.weighter s.rules.filter s.shards.items p.kept.hash n
          place x s.shards.ok.0 c.shard_index-place.ensures.within at c.index_mut.ensures.value
          (λ a b. TakesRecordOut (meaning_of_core s) a p.id left b) y h)
          c.remove_piece-removed.ensures.removed;
      none = if_none c.remove_piece-removed.result (state_of y ≡ state_of x) (new ≡ core_of s)
          (λ h. same_over state_of s.capacity s.hash_builder s.rules.weighter s.rules.filter s.shards.items p.kept.hash n
          place x s.shards.ok.0 c.shard_index-place.ensures.within at c.index_mut.ensures.value y h)
          c.remove_piece-removed.ensures.none;
      fetches = map-write opens_of s.shards.items n place x y s.shards.ok.0
          c.shard_index-place.ensures.within c.index_mut.ensures.value c.remove_piece-removed.ensures.opens;
    }
