use Rattle.std.proofs.Common.{◌≡◌, ap, ◌∙◌, ℕ, ◌%◌, vec_len, true, []}
use Rattle.std.proofs.lemmas.Result.{IfOk-weaker, on_err_weaker}
use Rattle.std.specs.Prelude.{slice_set, ⊤}
use Rattle.std.specs.Option.{option_to_list}
use Rattle.foyer_core.specs.Observed.{IsTold}
use Rattle.foyer_core.specs.Cores.{core_of, hashes_of, meaning_of_core}
use Rattle.foyer_core.specs.Holds.{one_named}
use Rattle.foyer_core.specs.Shards.{meaning_of, opens_of, state_of}
use Rattle.foyer_core.specs.Steps.{GivesBack}
use Rattle.foyer_core.proofs.CallsTold.{give_back_told, laws_by, match_so, nothing_told}
use Rattle.foyer_core.proofs.CoreLemmas.{at_over, core_over, same_over}
use Rattle.foyer_core.proofs.Staying.{RecordsStay, one, given_back_stays}
use Rattle.foyer_core.proofs.Hashing.{IsHashed, hashed_over}
use Rattle.foyer_core.proofs.Loads.{sums_same, given_back_load}
use Rattle.foyer_core.proofs.Named.{given_alone, named_stay}
use Rattle.foyer_core.proofs.Origins.{belongs_over, given_back_from}
use Rattle.foyer_core.proofs.Sound.{core_sound}
use Rattle.foyer_core.proofs.Zips.{map-write}
use Rattle.foyer_core.proofs.cache_core.CacheCore.unhold.Goals as goal

pub invariant_of-self-clause-whole : goal.invariant_of-self-clause-whole
invariant_of-self-clause-whole g c =
    let s = c.args.self.now in
    let e = c.args.hold in
    let x = c.index_mut.result.now in
    let y = c.unhold.new.self in
    let taken = given_alone (λ leave. GivesBack (meaning_of x) (state_of x) e.id leave (state_of y)) c.unhold.result
    c.unhold.ensures.taken in
    record {
      belong = belongs_over state_of s.shards.items e.hash (vec_len s.shards) c.shard_index-place.result x s.shards.ok.0
          c.shard_index-place.ensures.within c.shard_index-place.ensures.index c.index_mut.ensures.value
          y (given_back_from (λ d. d.hash ≡ e.hash) (meaning_of x) (state_of x) e.id
          (λ _. ⊤) c.unhold.result (state_of y) taken c.unhold.ensures.err) s.whole.belong;
      hashed = hashed_over (λ k. g.S.HashBuilder.hash_of s.hash_builder (g.K.Hash.hash_input k)) state_of s.shards.items
          (vec_len s.shards) c.shard_index-place.result x s.shards.ok.0 c.shard_index-place.ensures.within c.index_mut.ensures.value
          y (given_back_from (IsHashed (λ k. g.S.HashBuilder.hash_of s.hash_builder (g.K.Hash.hash_input k))) (meaning_of x)
          (state_of x) e.id (λ _. ⊤) c.unhold.result (state_of y) taken c.unhold.ensures.err) s.whole.hashed;
      summed = sums_same (meaning_of_core s) state_of s.shards.items (vec_len s.shards) c.shard_index-place.result x s.load.usage
          s.load.entries s.shards.ok.0 c.shard_index-place.ensures.within c.index_mut.ensures.value s.whole.summed
          y (given_back_load (meaning_of x) g.met.E.Eviction.lawful (state_of x) (state_of y) e.id
          (λ _. ⊤) c.unhold.result x.store.sound taken c.unhold.ensures.err);
    }

pub returns-clause-taken : goal.returns-clause-taken
returns-clause-taken g c =
    let s = c.args.self.now in
    let e = c.args.hold in
    let x = c.index_mut.result.now in
    let over = at_over state_of s.capacity s.hash_builder s.rules.weighter s.rules.filter s.shards.items e.hash
    (vec_len s.shards) c.shard_index-place.result x
    s.shards.ok.0 c.shard_index-place.ensures.within
    c.shard_index-place.ensures.index c.index_mut.ensures.value in
    IfOk-weaker c.unhold.result _ _
    (λ leave given. over (λ a b. GivesBack (meaning_of x) a e.id leave b) c.unhold.new.self given)
    c.unhold.ensures.taken

pub returns-clause-foreign : goal.returns-clause-foreign
returns-clause-foreign g c =
    let s = c.args.self.now in
    let e = c.args.hold in
    let same = same_over state_of s.capacity s.hash_builder s.rules.weighter s.rules.filter s.shards.items e.hash
    (vec_len s.shards) c.shard_index-place.result c.index_mut.result.now
    s.shards.ok.0 c.shard_index-place.ensures.within
    c.shard_index-place.ensures.index c.index_mut.ensures.value in
    on_err_weaker c.unhold.result (same c.unhold.new.self) c.unhold.ensures.err

pub returns-clause-laws : goal.returns-clause-laws
returns-clause-laws g c =
    let s = c.args.self.now in
    let e = c.args.hold in
    let x = c.index_mut.result.now in
    let y = c.unhold.new.self in
    let over = at_over state_of s.capacity s.hash_builder s.rules.weighter s.rules.filter s.shards.items e.hash
    (vec_len s.shards) c.shard_index-place.result x
    s.shards.ok.0 c.shard_index-place.ensures.within
    c.shard_index-place.ensures.index c.index_mut.ensures.value in
    let same = same_over state_of s.capacity s.hash_builder s.rules.weighter s.rules.filter s.shards.items e.hash
    (vec_len s.shards) c.shard_index-place.result x
    s.shards.ok.0 c.shard_index-place.ensures.within
    c.shard_index-place.ensures.index c.index_mut.ensures.value in
    let new = core_over state_of s.capacity s.hash_builder s.rules.weighter s.rules.filter
    (slice_set s.shards.items c.shard_index-place.result y) in
    let m = meaning_of_core s in
    let equal : (a b : g.row.K.Denot) → g.K.PartialEq.eq a b ≡ true → hashes_of s a ≡ hashes_of s b =
    λ a b same. ap (g.S.HashBuilder.hash_of s.hash_builder) (g.met.K.Hash.respects_eq a b same) in
    let sound = core_sound s g.met.K.Eq.laws g.met.E.Eviction.lawful equal in
    laws_by m g.met.K.Eq.laws g.met.E.Eviction.lawful (hashes_of s) equal (core_of s) new sound
    (one_named (core_of s) e) c.unhold.result option_to_list
    (named_stay (core_of s) _ e (over (RecordsStay (one e.id)) y
    (given_back_stays (meaning_of x) (state_of x) e.id (λ _. ⊤) c.unhold.result
    (state_of y) (given_alone (λ leave. GivesBack (meaning_of x) (state_of x) e.id leave (state_of y)) c.unhold.result
    c.unhold.ensures.taken) c.unhold.ensures.err)))
    (match_so c.unhold.result (λ leave. GivesBack (meaning_of x) (state_of x) e.id leave (state_of y))
    (state_of y ≡ state_of x)
    (λ leave. IsTold m.same (hashes_of s) (core_of s) (option_to_list leave) new)
    (IsTold m.same (hashes_of s) (core_of s) [] new) c.unhold.ensures.taken c.unhold.ensures.err
    (λ leave given. give_back_told m g.met.K.Eq.laws g.met.E.Eviction.lawful (hashes_of s) equal (core_of s) new sound
    e.id e.hash leave (over (λ a b. GivesBack (meaning_of x) a e.id leave b) y given))
    (λ stays. nothing_told m g.met.K.Eq.laws g.met.E.Eviction.lawful (hashes_of s) equal (core_of s) new sound
    (same y stays)))

pub returns-clause-fetches : goal.returns-clause-fetches
returns-clause-fetches g c =
    let s = c.args.self.now in
    map-write opens_of s.shards.items (vec_len s.shards) c.shard_index-place.result c.index_mut.result.now
    c.unhold.new.self s.shards.ok.0 c.shard_index-place.ensures.within c.index_mut.ensures.value
    c.unhold.ensures.opens
