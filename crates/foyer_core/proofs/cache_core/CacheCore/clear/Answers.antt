use Rattle.std.proofs.Common.{◌≡◌, List, map, refl, ap, true}
use Rattle.foyer_core.specs.Bulk.{Clears}
use Rattle.foyer_core.specs.CoreBulk.{InTurn, IsEmptied}
use Rattle.foyer_core.specs.Cores.{core_of, hashes_of, meaning_of_core}
use Rattle.foyer_core.specs.Shards.{state_of}
use Rattle.foyer_core.specs.State.{State}
use Rattle.foyer_core.proofs.Cases.{cases_of}
use Rattle.foyer_core.proofs.CallsTold.{cleared_core, nothing_told}
use Rattle.foyer_core.proofs.CoreLemmas.{core_over}
use Rattle.foyer_core.proofs.TurnEnds.{all_cleared}
use Rattle.foyer_core.proofs.TurnLaws.{all_cleared_stay, stays_same, ok_so}
use Rattle.foyer_core.proofs.Hashing.{all_cleared_hashed, done_hashed}
use Rattle.foyer_core.proofs.Origins.{all_cleared_belong, done_belong}
use Rattle.foyer_core.proofs.Sound.{core_sound}
use Rattle.foyer_core.proofs.cache_core.CacheCore.clear.Goals as goal

pub invariant_of-self-clause-whole : goal.invariant_of-self-clause-whole
invariant_of-self-clause-whole g c =
    let s = c.args.self.now in
    let m = meaning_of_core s in
    let ss = map state_of s.shards.items in
    let ts = map state_of c.clear_each-cleared.new.shards.items in
    let hash = λ (k : g.row.K.Denot). g.S.HashBuilder.hash_of s.hash_builder (g.K.Hash.hash_input k) in
    record {
      belong = done_belong c.clear_each-cleared.result ss ts (λ leaves. leaves.items) (InTurn (Clears m))
          c.clear_each-cleared.ensures.done c.clear_each-cleared.ensures.err (λ ls. all_cleared_belong m ss ls ts)
          s.whole.belong;
      hashed = done_hashed hash c.clear_each-cleared.result ss ts (λ leaves. leaves.items) (InTurn (Clears m))
          c.clear_each-cleared.ensures.done c.clear_each-cleared.ensures.err (λ ls. all_cleared_hashed hash m ss ls ts)
          s.whole.hashed;
      summed = rw c.deref.ensures.value at c.of_all-self.ensures;
    }

pub returns : goal.returns
returns g c =
    let s = c.args.self.now in
    let m = meaning_of_core s in
    let laws = g.met.K.Eq.laws in
    let good = g.met.E.Eviction.lawful in
    let equal : (a b : g.row.K.Denot) → g.K.PartialEq.eq a b ≡ true → hashes_of s a ≡ hashes_of s b =
    λ a b same. ap (g.S.HashBuilder.hash_of s.hash_builder) (g.met.K.Hash.respects_eq a b same) in
    let sound = core_sound s laws good equal in
    let did = c.clear_each-cleared in
    let now = core_over state_of s.capacity s.hash_builder s.rules.weighter s.rules.filter did.new.shards.items in
    let with_shards = λ (l : List (State g.row.K.Denot g.row.V.Denot g.row.P.Denot g.E.Eviction.View)).
    record (core_of s) { shards = l } in
    record {
      clears = cases_of did.result did.ensures.done did.ensures.err did.ensures.refused
          (λ leaves h. record { stepped = h; rest = refl }) (λ e same is. (is, ap with_shards same));
      emptied = ok_so did.result
          (λ leaves. InTurn (Clears m) (map state_of s.shards.items) leaves.items now.shards) (IsEmptied m now)
          did.ensures.done
          (λ leaves h. all_cleared m good (core_of s) leaves.items now record { stepped = h; rest = refl });
      fetches = did.ensures.opens;
      laws = cases_of did.result did.ensures.done did.ensures.err did.ensures.refused
          (λ leaves h. record {
            stay = all_cleared_stay m (core_of s) leaves.items now record { stepped = h; rest = refl };
            told = cleared_core m laws good (hashes_of s) equal (core_of s) now sound leaves.items h;
          })
          (λ e same is. record {
            stay = stays_same (core_of s) now (ap with_shards same);
            told = nothing_told m laws good (hashes_of s) equal (core_of s) now sound (ap with_shards same);
          });
    }
