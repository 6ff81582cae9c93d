use Rattle.std.proofs.Common.{◌∙◌, refl, arith}
use Rattle.std.proofs.lemmas.List.{nil_from_length}
use Rattle.foyer_core.specs.Cores.{core_of, meaning_of_core}
use Rattle.foyer_core.proofs.Dropping.{dropped_all, dropped_more, dropped_none}
use Rattle.foyer_core.proofs.cache_core.CacheCore.drop_entries.Goals as goal

pub loop-entry-init : goal.loop-entry-init
loop-entry-init g c =
    let s = c.args.self.now in
    record {
      dropped = dropped_none (meaning_of_core s)
          (λ builder key. g.S.HashBuilder.hash_of builder (g.K.Hash.hash_input key)) c.args.entries.items (core_of s);
      fetches = refl;
    }

pub loop-entry-preserved : goal.loop-entry-preserved
loop-entry-preserved g c =
    let s = c.args.self.now in
    let mid = c.loop-entry.self in
    let drop = c.drop_entry in
    record {
      dropped = dropped_more (meaning_of_core s)
          (λ builder key. g.S.HashBuilder.hash_of builder (g.K.Hash.hash_input key)) c.args.entries.items
          c.loop-entry.entries.items c.pop.new.self.items c.in-Some.entry drop.result (core_of s) (core_of mid)
          (core_of drop.new.self)
          c.in-Some.ensures.items c.loop-entry.invariant.dropped
          (record { owned = drop.ensures.owned; foreign = drop.ensures.foreign }) drop.ensures.laws.told
          drop.ensures.laws.stay;
      fetches = drop.ensures.fetches ∙ c.loop-entry.invariant.fetches;
    }

pub returns-clause-dropped : goal.returns-clause-dropped
returns-clause-dropped g c =
    (dropped_all (meaning_of_core c.args.self.now)
    (λ builder key. g.S.HashBuilder.hash_of builder (g.K.Hash.hash_input key)) c.args.entries.items
    c.loop-entry.entries.items (core_of c.args.self.now) (core_of c.loop-entry.self)
    (nil_from_length c.loop-entry.entries.items
    (omega (arith, c.loop-entry.entries.ok.0, c.in_default.ensures.cases.0))) c.loop-entry.invariant.dropped).0

pub returns-clause-stay : goal.returns-clause-stay
returns-clause-stay g c =
    (dropped_all (meaning_of_core c.args.self.now)
    (λ builder key. g.S.HashBuilder.hash_of builder (g.K.Hash.hash_input key)) c.args.entries.items
    c.loop-entry.entries.items (core_of c.args.self.now) (core_of c.loop-entry.self)
    (nil_from_length c.loop-entry.entries.items
    (omega (arith, c.loop-entry.entries.ok.0, c.in_default.ensures.cases.0))) c.loop-entry.invariant.dropped).1
