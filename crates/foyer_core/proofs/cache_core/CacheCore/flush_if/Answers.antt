use Rattle.std.proofs.Common.{◌≡◌, List, map, refl, ap, true}
use Rattle.foyer_core.specs.Bulk.{EvictsIf, Says}
use Rattle.foyer_core.specs.CoreBulk.{InTurn}
use Rattle.foyer_core.specs.Cores.{core_of, hashes_of, meaning_of_core}
use Rattle.foyer_core.specs.Shards.{state_of}
use Rattle.foyer_core.specs.State.{State}
use Rattle.foyer_core.proofs.Cases.{cases_of}
use Rattle.foyer_core.proofs.CallsTold.{picked_core, nothing_told}
use Rattle.foyer_core.proofs.CoreLemmas.{core_over}
use Rattle.foyer_core.proofs.TurnLaws.{all_picked_stay, stays_same}
use Rattle.foyer_core.proofs.Hashing.{all_picked_hashed, done_hashed}
use Rattle.foyer_core.proofs.Origins.{all_picked_belong, done_belong}
use Rattle.foyer_core.proofs.Sound.{core_sound}
use Rattle.foyer_core.proofs.cache_core.CacheCore.flush_if.Goals as goal

pub invariant_of-self-clause-whole : goal.invariant_of-self-clause-whole
invariant_of-self-clause-whole g c =
    let s = c.args.self.now in
    let m = meaning_of_core s in
    let says = Says g.F.Fn c.args.predicate.now in
    let ss = map state_of s.shards.items in
    let ts = map state_of c.evict_each_if-flushed.new.shards.items in
    let hash = λ (k : g.row.K.Denot). g.S.HashBuilder.hash_of s.hash_builder (g.K.Hash.hash_input k) in
    record {
      belong = done_belong c.evict_each_if-flushed.result ss ts (λ leaves. leaves.items) (InTurn (EvictsIf m says))
          c.evict_each_if-flushed.ensures.done c.evict_each_if-flushed.ensures.err
          (λ ls. all_picked_belong m ss ls ts says) s.whole.belong;
      hashed = done_hashed hash c.evict_each_if-flushed.result ss ts (λ leaves. leaves.items) (InTurn (EvictsIf m says))
          c.evict_each_if-flushed.ensures.done c.evict_each_if-flushed.ensures.err
          (λ ls. all_picked_hashed hash m ss ls ts says) s.whole.hashed;
      summed = rw c.deref.ensures.value at c.of_all-self.ensures;
    }

pub returns : goal.returns
returns g c =
    let s = c.args.self.now in
    let m = meaning_of_core s in
    let laws = g.met.K.Eq.laws in
    let good = g.met.E.Eviction.lawful in
    let equal : (a b : g.row.K.Denot) → g.K.PartialEq.eq a b ≡ true → hashes_of s a ≡ hashes_of s b =
    λ a b same. ap (g.S.HashBuilder.hash_of s.hash_builder) (g.met.K.Hash.respects_eq a b same) in
    let sound = core_sound s laws good equal in
    let says = Says g.F.Fn c.args.predicate.now in
    let did = c.evict_each_if-flushed in
    let now = core_over state_of s.capacity s.hash_builder s.rules.weighter s.rules.filter did.new.shards.items in
    let with_shards = λ (l : List (State g.row.K.Denot g.row.V.Denot g.row.P.Denot g.E.Eviction.View)).
    record (core_of s) { shards = l } in
    record {
      evicts = cases_of did.result did.ensures.done did.ensures.err did.ensures.refused
          (λ leaves h. record { stepped = h; rest = refl }) (λ e same is. (is, ap with_shards same));
      fetches = did.ensures.opens;
      laws = cases_of did.result did.ensures.done did.ensures.err did.ensures.refused
          (λ leaves h. record {
            stay = all_picked_stay m says (core_of s) leaves.items now record { stepped = h; rest = refl };
            told = picked_core m laws good (hashes_of s) equal (core_of s) now sound leaves.items says h;
          })
          (λ e same is. record {
            stay = stays_same (core_of s) now (ap with_shards same);
            told = nothing_told m laws good (hashes_of s) equal (core_of s) now sound (ap with_shards same);
          });
    }
