use Rattle.std.proofs.Common.{map, refl, ◌≡◌, ◌∙◌, ap, true}
use Rattle.foyer_core.specs.CoreBulk.{InTurn, InTurnUntil, EvictsToCapacity, EvictingToCapacity}
use Rattle.foyer_core.specs.State.{at_moment}
use Rattle.foyer_core.specs.Cores.{core_of, hashes_of, meaning_of_core}
use Rattle.foyer_core.specs.Shards.{state_of}
use Rattle.foyer_core.proofs.CallsTold.{resized_core, resized_until_core}
use Rattle.foyer_core.proofs.CoreLemmas.{core_over}
use Rattle.foyer_core.proofs.Told.{goes_all}
use Rattle.foyer_core.proofs.TurnEnds.{all_fit}
use Rattle.foyer_core.proofs.TurnLaws.{resized_stay, resized_until_stay}
use Rattle.foyer_core.proofs.Hashing.{all_evicted_hashed, all_evicted_until_hashed, shared_hashed, told_hashed}
use Rattle.foyer_core.proofs.Origins.{all_evicted_belong, all_evicted_until_belong, shared_belong, told_belong}
use Rattle.foyer_core.proofs.Sound.{core_sound_at}
use Rattle.foyer_core.proofs.Moments.{timed_lawful}
use Rattle.foyer_core.proofs.MomentLaws.{resized_at}
use Rattle.foyer_core.proofs.cache_core.CacheCore.resize.Goals as goal

pub invariant_of-self-clause-whole : goal.invariant_of-self-clause-whole
invariant_of-self-clause-whole g c =
    let s = c.args.self.now in
    let m = at_moment c.args.now (meaning_of_core s) in
    let ss = map state_of c.share_out.new.shards.items in
    let done = c.evict_each_to_capacity-done in
    let ts = map state_of done.new.shards.items in
    let hash = λ (k : g.row.K.Denot). g.S.HashBuilder.hash_of s.hash_builder (g.K.Hash.hash_input k) in
    record {
      belong = told_belong done.result ss ts c.new-evicted.result.items done.new.leaves.items (InTurn (EvictsToCapacity m))
          (InTurnUntil (EvictsToCapacity m) (EvictingToCapacity m))
          done.ensures.done done.ensures.refused (λ ls. all_evicted_belong m ss ls ts)
          (λ ls. all_evicted_until_belong m ss ls ts)
          (shared_belong (meaning_of_core s) c.args.capacity (map state_of s.shards.items) ss c.share_out.ensures.shares s.whole.belong);
      hashed = told_hashed hash done.result ss ts c.new-evicted.result.items done.new.leaves.items (InTurn (EvictsToCapacity m))
          (InTurnUntil (EvictsToCapacity m) (EvictingToCapacity m))
          done.ensures.done done.ensures.refused (λ ls. all_evicted_hashed hash m ss ls ts)
          (λ ls. all_evicted_until_hashed hash m ss ls ts)
          (shared_hashed hash (meaning_of_core s) c.args.capacity (map state_of s.shards.items) ss c.share_out.ensures.shares s.whole.hashed);
      summed = rw c.deref.ensures.value at c.of_all-self.ensures;
    }

pub returns-in-Ok : goal.returns-in-Ok
returns-in-Ok g c =
    let s = c.args.self.now in
    let m = at_moment c.args.now (meaning_of_core s) in
    let laws = g.met.K.Eq.laws in
    let good = timed_lawful c.args.now g.E.Eviction.model g.met.E.Eviction.lawful in
    let equal : (a b : g.row.K.Denot) → g.K.PartialEq.eq a b ≡ true → hashes_of s a ≡ hashes_of s b =
    λ a b same. ap (g.S.HashBuilder.hash_of s.hash_builder) (g.met.K.Hash.respects_eq a b same) in
    let sound = core_sound_at c.args.now s laws g.met.E.Eviction.lawful equal in
    let shared = map state_of c.share_out.new.shards.items in
    let new = c.evict_each_to_capacity-done.new.shards in
    let ls = c.evict_each_to_capacity-done.new.leaves.items in
    let now = core_over state_of c.args.capacity s.hash_builder s.rules.weighter s.rules.filter new.items in
    let done = goes_all ls (λ l. InTurn (EvictsToCapacity m) shared l (map state_of new.items))
    (rw (c.new-evicted.ensures.items, c.in-Ok.is) at c.evict_each_to_capacity-done.ensures.done) in
    let resized = resized_at (meaning_of_core s) c.args.now c.args.capacity (InTurn (EvictsToCapacity m)) (core_of s) ls now
    shared c.share_out.ensures.shares record { stepped = done; rest = refl } in
    record {
      resizes = record { shared = shared; shares = c.share_out.ensures.shares; evicted = record { stepped = done; rest = refl } };
      fits = all_fit m good (core_of s) ls now c.args.capacity resized;
      fetches = c.evict_each_to_capacity-done.ensures.opens ∙ c.share_out.ensures.opens;
      laws = record {
        stay = resized_stay m c.args.capacity (core_of s) ls now resized;
        told = resized_core m laws good (hashes_of s) equal (core_of s) now sound c.args.capacity ls resized;
      };
    }

pub returns-in-Err : goal.returns-in-Err
returns-in-Err g c =
    let s = c.args.self.now in
    let m = at_moment c.args.now (meaning_of_core s) in
    let laws = g.met.K.Eq.laws in
    let good = timed_lawful c.args.now g.E.Eviction.model g.met.E.Eviction.lawful in
    let equal : (a b : g.row.K.Denot) → g.K.PartialEq.eq a b ≡ true → hashes_of s a ≡ hashes_of s b =
    λ a b same. ap (g.S.HashBuilder.hash_of s.hash_builder) (g.met.K.Hash.respects_eq a b same) in
    let sound = core_sound_at c.args.now s laws g.met.E.Eviction.lawful equal in
    let shared = map state_of c.share_out.new.shards.items in
    let new = c.evict_each_to_capacity-done.new.shards in
    let ls = c.evict_each_to_capacity-done.new.leaves.items in
    let now = core_over state_of c.args.capacity s.hash_builder s.rules.weighter s.rules.filter new.items in
    let part = goes_all ls
    (λ l. InTurnUntil (EvictsToCapacity m) (EvictingToCapacity m) shared l (map state_of new.items))
    (rw (c.new-evicted.ensures.items, c.in-Err.is) at c.evict_each_to_capacity-done.ensures.refused) in
    let resized = resized_at (meaning_of_core s) c.args.now c.args.capacity
    (InTurnUntil (EvictsToCapacity m) (EvictingToCapacity m)) (core_of s) ls now shared c.share_out.ensures.shares
    record { stepped = part; rest = refl } in
    record {
      resizes = (
        rw c.in-Err.is at c.evict_each_to_capacity-done.ensures.reason,
        record { shared = shared; shares = c.share_out.ensures.shares; evicted = record { stepped = part; rest = refl } },
      );
      fits = tt;
      fetches = c.evict_each_to_capacity-done.ensures.opens ∙ c.share_out.ensures.opens;
      laws = record {
        stay = resized_until_stay m c.args.capacity (core_of s) ls now resized;
        told = resized_until_core m laws good (hashes_of s) equal (core_of s) now sound c.args.capacity ls resized;
      };
    }
