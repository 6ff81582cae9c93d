use Rattle.std.proofs.Common.{◌≡◌, map, refl, ap, true}
use Rattle.foyer_core.specs.Cores.{core_of, hashes_of, meaning_of_core}
use Rattle.foyer_core.specs.Shards.{state_of}
use Rattle.foyer_core.proofs.CoreLemmas.{core_over}
use Rattle.foyer_core.proofs.CoreTold.{configured_told}
use Rattle.foyer_core.proofs.Hashing.{configured_hashed}
use Rattle.foyer_core.proofs.Loads.{configured_sums}
use Rattle.foyer_core.proofs.Origins.{configured_belong}
use Rattle.foyer_core.proofs.TurnLaws.{configured_stay, stays_same}
use Rattle.foyer_core.proofs.cache_core.CacheCore.reconfigure.Goals as goal

pub invariant_of-self-clause-whole : goal.invariant_of-self-clause-whole
invariant_of-self-clause-whole g c =
    let s = c.args.self.now in
    record {
      belong = configured_belong (meaning_of_core s) c.args.config.now (map state_of s.shards.items)
          (map state_of c.configure_each.new.shards.items) c.configure_each.ensures.configured s.whole.belong;
      hashed = configured_hashed (hashes_of s) (meaning_of_core s) c.args.config.now (map state_of s.shards.items)
          (map state_of c.configure_each.new.shards.items) c.configure_each.ensures.configured s.whole.hashed;
      summed = configured_sums (meaning_of_core s) g.met.E.Eviction.lawful state_of s.shards.items
          (map state_of c.configure_each.new.shards.items) (λ x. x.store.sound) c.args.config.now
          c.configure_each.ensures.configured
          s.load.usage s.load.entries s.whole.summed;
    }

pub returns-in_err-check-clause-laws : goal.returns-in_err-check-clause-laws
returns-in_err-check-clause-laws g c =
    (let core = core_of c.args.self.now in record { stay = stays_same core core refl; told = λ k. refl })

pub returns-clause-laws : goal.returns-clause-laws
returns-clause-laws g c =
    let s = c.args.self.now in
    let equal : (a b : g.row.K.Denot) → g.K.PartialEq.eq a b ≡ true → hashes_of s a ≡ hashes_of s b =
    λ a b same. ap (g.S.HashBuilder.hash_of s.hash_builder) (g.met.K.Hash.respects_eq a b same) in
    let now = core_over state_of s.capacity s.hash_builder s.rules.weighter s.rules.filter
    c.configure_each.new.shards.items in
    record {
      stay = configured_stay (meaning_of_core s) c.args.config.now (core_of s) now
          record { shards = c.configure_each.ensures.configured; rest = refl };
      told = configured_told (meaning_of_core s) g.met.K.Eq.laws g.met.E.Eviction.lawful (hashes_of s) equal
          c.args.config.now (core_of s) now record { shards = c.configure_each.ensures.configured; rest = refl };
    }

pub returns-then-not-taken_by_each-clause-laws : goal.returns-then-not-taken_by_each-clause-laws
returns-then-not-taken_by_each-clause-laws g c =
    (let core = core_of c.args.self.now in record { stay = stays_same core core refl; told = λ k. refl })
