use Rattle.std.proofs.Common.{ap, ◌∙◌, ℕ, ◌%◌, vec_len, ◌≡◌, true, arith, sym, subst}
use Rattle.std.specs.Prelude.{Option, IsSomeAnd, is_some, slice_set}
use Rattle.foyer_core.specs.Bulk.{TakesRecordOut}
use Rattle.foyer_core.specs.Core.{AtShard}
use Rattle.foyer_core.specs.Cores.{core_of, hashes_of, meaning_of_core}
use Rattle.foyer_core.specs.Pieces.{is_in}
use Rattle.foyer_core.specs.Shards.{meaning_of, opens_of, state_of}
use Rattle.foyer_core.specs.State.{State}
use Rattle.foyer_core.proofs.CoreLaws.{stays_at}
use Rattle.foyer_core.proofs.CoreLemmas.{at_over, core_over, same_over, shard_over}
use Rattle.foyer_core.proofs.Named.{Taken, none_weaker, out_from, out_stay, some_weaker, taken_told}
use Rattle.foyer_core.proofs.Staying.{RecordsStay, nothing}
use Rattle.foyer_core.proofs.Hashing.{IsHashed, hashed_over}
use Rattle.foyer_core.proofs.Loads.{sums_set, usage_fits, entries_fit}
use Rattle.foyer_core.proofs.Origins.{belongs_over}
use Rattle.foyer_core.proofs.Sound.{core_sound}
use Rattle.foyer_core.proofs.Zips.{map-write}
use Rattle.foyer_core.proofs.cache_core.CacheCore.remove_this.Goals as goal

pub invariant_of-self-clause-whole : goal.invariant_of-self-clause-whole
invariant_of-self-clause-whole g c =
    let s = c.args.self.now in
    let e = c.args.hold in
    let x = c.index_mut.result.now in
    let y = c.remove_this-removed.new.self in
    let did = c.remove_this-removed.ensures in
    let before = c.of-before in
    let after = c.of-after in
    record {
      belong = belongs_over state_of s.shards.items e.hash (vec_len s.shards) c.shard_index-place.result x s.shards.ok.0
          c.shard_index-place.ensures.within c.shard_index-place.ensures.index c.index_mut.ensures.value
          y (out_from (meaning_of x) (state_of x) e.id c.remove_this-removed.result (state_of y) did.removed did.none
          (λ d. d.hash ≡ e.hash)) s.whole.belong;
      hashed = hashed_over (λ k. g.S.HashBuilder.hash_of s.hash_builder (g.K.Hash.hash_input k)) state_of s.shards.items
          (vec_len s.shards) c.shard_index-place.result x s.shards.ok.0 c.shard_index-place.ensures.within c.index_mut.ensures.value
          y (out_from (meaning_of x) (state_of x) e.id c.remove_this-removed.result (state_of y) did.removed did.none
          (IsHashed (λ k. g.S.HashBuilder.hash_of s.hash_builder (g.K.Hash.hash_input k)))) s.whole.hashed;
      summed = sums_set (meaning_of_core s) state_of s.shards.items (vec_len s.shards) c.shard_index-place.result c.index.result.now
          s.load.usage s.load.entries
          s.shards.ok.0 (omega (arith, s.shards.ok.1, s.shards.small)) c.shard_index-place.ensures.within c.index.ensures s.whole.summed
          before.result.usage before.result.entries before.ensures.usage before.ensures.entries
          c.remove_this-removed.new.self c.index-2.result.now c.index-2.ensures after.result.usage after.result.entries
          after.ensures.usage after.ensures.entries after.ensures.small
          c.replace.new.self.usage c.replace.new.self.entries c.replace.ensures.usage c.replace.ensures.entries;
    }

pub replace-requires-clause-usage : goal.replace-requires-clause-usage
replace-requires-clause-usage g c =
    let s = c.args.self.now in
    let before = c.of-before in
    let after = c.of-after in
    usage_fits (meaning_of_core s) state_of s.shards.items (vec_len s.shards) c.shard_index-place.result c.index.result.now
    s.load.usage s.load.entries
    s.shards.ok.0 (omega (arith, s.shards.ok.1, s.shards.small)) c.shard_index-place.ensures.within c.index.ensures s.whole.summed
    before.result.usage before.result.entries before.ensures.usage before.ensures.entries
    c.remove_this-removed.new.self c.index-2.result.now c.index-2.ensures after.result.usage after.result.entries
    after.ensures.usage after.ensures.entries after.ensures.small

pub replace-requires-clause-entries : goal.replace-requires-clause-entries
replace-requires-clause-entries g c =
    let s = c.args.self.now in
    let before = c.of-before in
    let after = c.of-after in
    entries_fit (meaning_of_core s) state_of s.shards.items (vec_len s.shards) c.shard_index-place.result c.index.result.now
    s.load.usage s.load.entries
    s.shards.ok.0 (omega (arith, s.shards.ok.1, s.shards.small)) c.shard_index-place.ensures.within c.index.ensures s.whole.summed
    before.result.usage before.result.entries before.ensures.usage before.ensures.entries
    c.remove_this-removed.new.self c.index-2.result.now c.index-2.ensures after.result.usage after.result.entries
    after.ensures.usage after.ensures.entries after.ensures.small

pub returns : goal.returns
returns g c =
    let s = c.args.self.now in
    let e = c.args.hold in
    let x = c.index_mut.result.now in
    let y = c.remove_this-removed.new.self in
    let did = c.remove_this-removed.ensures in
    let n = vec_len s.shards in
    let at = c.shard_index-place.ensures.index in
    let over = at_over state_of s.capacity s.hash_builder s.rules.weighter s.rules.filter s.shards.items e.hash n
    c.shard_index-place.result x s.shards.ok.0 c.shard_index-place.ensures.within at c.index_mut.ensures.value in
    let same = same_over state_of s.capacity s.hash_builder s.rules.weighter s.rules.filter s.shards.items e.hash n
    c.shard_index-place.result x s.shards.ok.0 c.shard_index-place.ensures.within at c.index_mut.ensures.value in
    let here = shard_over state_of s.capacity s.hash_builder s.rules.weighter s.rules.filter s.shards.items e.hash n
    c.shard_index-place.result x s.shards.ok.0 c.shard_index-place.ensures.within at c.index_mut.ensures.value in
    let new = core_over state_of s.capacity s.hash_builder s.rules.weighter s.rules.filter
    (slice_set s.shards.items c.shard_index-place.result y) in
    let m = meaning_of_core s in
    let equal : (a b : g.row.K.Denot) → g.K.PartialEq.eq a b ≡ true → hashes_of s a ≡ hashes_of s b =
    λ a b same. ap (g.S.HashBuilder.hash_of s.hash_builder) (g.met.K.Hash.respects_eq a b same) in
    let sound = core_sound s g.met.K.Eq.laws g.met.E.Eviction.lawful equal in
    let left = c.remove_this-removed.result in
    record {
      resident = subst (λ (o : Option (State g.row.K.Denot g.row.V.Denot g.row.P.Denot g.E.Eviction.View)). IsSomeAnd o
          (λ t. is_some left ≡ is_in (t.records e.id))) (sym here) did.resident;
      removed = some_weaker (λ gone. TakesRecordOut m (state_of x) e.id gone (state_of y))
          (λ gone. AtShard (λ a b. TakesRecordOut m a e.id gone b) e.hash (core_of s) new) left
          (λ gone out. over (λ a b. TakesRecordOut m a e.id gone b) y out) did.removed;
      none = none_weaker (state_of y ≡ state_of x) (new ≡ core_of s) left (same y) did.none;
      fetches = map-write opens_of s.shards.items n c.shard_index-place.result x y s.shards.ok.0
          c.shard_index-place.ensures.within c.index_mut.ensures.value did.opens;
      laws = record {
        stay = stays_at (core_of s) _ e.hash (over (RecordsStay nothing) y
            (out_stay m (state_of x) e.id left (state_of y) did.removed did.none));
        told = taken_told m g.met.K.Eq.laws g.met.E.Eviction.lawful (hashes_of s) equal (core_of s) new sound e.id e.hash
            left (over (λ a b. Taken m a e.id left b) y
            (record { resident = did.resident; removed = did.removed; none = did.none }));
      };
    }
