use Rattle.std.proofs.Common.{length, ap, arith}
use Rattle.foyer_core.proofs.RoomLemmas.{all_of_none}
use Rattle.foyer_core.proofs.IndexLemmas.{none_distinct}
use Rattle.foyer_core.proofs.indexer.hash_table.HashTableIndexer.new.Goals as goal

pub invariant_of-result : goal.invariant_of-result
invariant_of-result g c = record {
  shifted = (omega arith, (λ more. absurd (omega (arith, ap length c.new.ensures.items))), (λ none. omega arith));
  linked = all_of_none 62 c.new.result.items 0 c.new-2.result.items c.new.ensures.items c.new-2.ensures.items;
  distinct = none_distinct g.K.PartialEq.eq c.new-2.result.items c.new-2.ensures.items;
}
