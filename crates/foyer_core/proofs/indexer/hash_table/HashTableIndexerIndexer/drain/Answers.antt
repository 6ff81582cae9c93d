use Rattle.std.proofs.Common.{List, replicate, length, map, ap, sym, ◌∙◌}
use Rattle.foyer_core.specs.declared.indexer.chain.Pair.{Pair}
use Rattle.foyer_core.proofs.RoomLemmas.{all_of_none}
use Rattle.foyer_core.proofs.IndexLemmas.{shifted_as, none_distinct, are_numbers}
use Rattle.foyer_core.proofs.indexer.hash_table.HashTableIndexerIndexer.drain.Goals as goal

pub invariant_of-self : goal.invariant_of-self
invariant_of-self g c = record {
  shifted = shifted_as c.args.self.now.shift (length c.args.self.now.heads.items) (length c.fill.new.self.items)
      (sym c.fill.new.self.ok.0 ∙ c.fill.ensures.len ∙ c.args.self.now.heads.ok.0) c.args.self.now.shifted;
  linked = all_of_none c.args.self.now.shift c.fill.new.self.items _ c.clear.new.self.items
      (c.fill.ensures.items (λ y same. same) ∙ ap (replicate _) c.end.ensures) c.clear.ensures.items;
  distinct = none_distinct g.K.PartialEq.eq c.clear.new.self.items c.clear.ensures.items;
}

pub returns-clause-numbers : goal.returns-clause-numbers
returns-clause-numbers g c =
    are_numbers g.K.PartialEq.eq c.args.self.now.pairs.items c.in-Ok.ids.items c.args.self.now.distinct
    (c.in-Ok.ensures ∙ ap (λ (ps : List (Pair g.row.K.Denot)). map (λ (p : Pair g.row.K.Denot). p.number) ps)
    c.deref.ensures.value)
