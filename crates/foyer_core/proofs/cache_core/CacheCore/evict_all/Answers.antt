use Rattle.std.proofs.Common.{map, refl, ◌≡◌, ap, true}
use Rattle.foyer_core.specs.Bulk.{EvictsUnpinned, EvictingUnpinned}
use Rattle.foyer_core.specs.CoreBulk.{InTurn, InTurnUntil}
use Rattle.foyer_core.specs.State.{at_moment}
use Rattle.foyer_core.specs.Cores.{core_of, hashes_of, meaning_of_core}
use Rattle.foyer_core.specs.Shards.{state_of}
use Rattle.foyer_core.proofs.CallsTold.{unpinned_core, unpinned_until_core}
use Rattle.foyer_core.proofs.CoreLemmas.{core_over}
use Rattle.foyer_core.proofs.Told.{goes_all}
use Rattle.foyer_core.proofs.TurnEnds.{all_evicted}
use Rattle.foyer_core.proofs.TurnLaws.{all_unpinned_stay, all_unpinned_until_stay}
use Rattle.foyer_core.proofs.Hashing.{all_unpinned_hashed, all_unpinned_until_hashed, told_hashed}
use Rattle.foyer_core.proofs.Origins.{all_unpinned_belong, all_unpinned_until_belong, told_belong}
use Rattle.foyer_core.proofs.Sound.{core_sound_at}
use Rattle.foyer_core.proofs.Moments.{timed_lawful}
use Rattle.foyer_core.proofs.cache_core.CacheCore.evict_all.Goals as goal

pub invariant_of-self-clause-whole : goal.invariant_of-self-clause-whole
invariant_of-self-clause-whole g c =
    let s = c.args.self.now in
    let m = at_moment c.args.now (meaning_of_core s) in
    let ss = map state_of s.shards.items in
    let ts = map state_of c.evict_each-done.new.shards.items in
    let hash = λ (k : g.row.K.Denot). g.S.HashBuilder.hash_of s.hash_builder (g.K.Hash.hash_input k) in
    record {
      belong = told_belong c.evict_each-done.result ss ts c.new-leaves.result.items c.evict_each-done.new.leaves.items
          (InTurn (EvictsUnpinned m)) (InTurnUntil (EvictsUnpinned m) (EvictingUnpinned m))
          c.evict_each-done.ensures.done c.evict_each-done.ensures.refused (λ ls. all_unpinned_belong m ss ls ts)
          (λ ls. all_unpinned_until_belong m ss ls ts) s.whole.belong;
      hashed = told_hashed hash c.evict_each-done.result ss ts c.new-leaves.result.items c.evict_each-done.new.leaves.items
          (InTurn (EvictsUnpinned m)) (InTurnUntil (EvictsUnpinned m) (EvictingUnpinned m))
          c.evict_each-done.ensures.done c.evict_each-done.ensures.refused (λ ls. all_unpinned_hashed hash m ss ls ts)
          (λ ls. all_unpinned_until_hashed hash m ss ls ts) s.whole.hashed;
      summed = rw c.deref.ensures.value at c.of_all-self.ensures;
    }

pub returns-in-Ok : goal.returns-in-Ok
returns-in-Ok g c =
    let s = c.args.self.now in
    let m = at_moment c.args.now (meaning_of_core s) in
    let laws = g.met.K.Eq.laws in
    let good = timed_lawful c.args.now g.E.Eviction.model g.met.E.Eviction.lawful in
    let equal : (a b : g.row.K.Denot) → g.K.PartialEq.eq a b ≡ true → hashes_of s a ≡ hashes_of s b =
    λ a b same. ap (g.S.HashBuilder.hash_of s.hash_builder) (g.met.K.Hash.respects_eq a b same) in
    let sound = core_sound_at c.args.now s laws g.met.E.Eviction.lawful equal in
    let new = c.evict_each-done.new.shards in
    let ls = c.evict_each-done.new.leaves.items in
    let now = core_over state_of s.capacity s.hash_builder s.rules.weighter s.rules.filter new.items in
    let done = goes_all ls (λ l. InTurn (EvictsUnpinned m) (map state_of s.shards.items) l (map state_of new.items))
    (rw c.new-leaves.ensures.items at c.in-Ok.ensures.done) in
    record {
      evicts = record { stepped = done; rest = refl };
      emptied = all_evicted m good (core_of s) ls now record { stepped = done; rest = refl };
      fetches = c.evict_each-done.ensures.opens;
      laws = record {
        stay = all_unpinned_stay m (core_of s) ls now record { stepped = done; rest = refl };
        told = unpinned_core m laws good (hashes_of s) equal (core_of s) now sound ls done;
      };
    }

pub returns-in-Err : goal.returns-in-Err
returns-in-Err g c =
    let s = c.args.self.now in
    let m = at_moment c.args.now (meaning_of_core s) in
    let laws = g.met.K.Eq.laws in
    let good = timed_lawful c.args.now g.E.Eviction.model g.met.E.Eviction.lawful in
    let equal : (a b : g.row.K.Denot) → g.K.PartialEq.eq a b ≡ true → hashes_of s a ≡ hashes_of s b =
    λ a b same. ap (g.S.HashBuilder.hash_of s.hash_builder) (g.met.K.Hash.respects_eq a b same) in
    let sound = core_sound_at c.args.now s laws g.met.E.Eviction.lawful equal in
    let new = c.evict_each-done.new.shards in
    let ls = c.evict_each-done.new.leaves.items in
    let now = core_over state_of s.capacity s.hash_builder s.rules.weighter s.rules.filter new.items in
    let part = goes_all ls
    (λ l. InTurnUntil (EvictsUnpinned m) (EvictingUnpinned m) (map state_of s.shards.items) l
    (map state_of new.items)) (rw c.new-leaves.ensures.items at c.in-Err.ensures.refused) in
    record {
      evicts = (c.in-Err.ensures.reason, record { stepped = part; rest = refl });
      emptied = tt;
      fetches = c.evict_each-done.ensures.opens;
      laws = record {
        stay = all_unpinned_until_stay m (core_of s) ls now record { stepped = part; rest = refl };
        told = unpinned_until_core m laws good (hashes_of s) equal (core_of s) now sound ls part;
      };
    }
