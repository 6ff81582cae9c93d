use Rattle.std.proofs.Common.{sym}
use Rattle.foyer_core.proofs.IndexLemmas.{lookup-read}
use Rattle.foyer_core.proofs.indexer.hash_table.HashTableIndexerIndexer.get.Goals as goal

pub returns : goal.returns
returns g c =
    let at = rw c.deref-2.ensures.value at c.in_ok-place.ensures.found in
    sym (lookup-read g.met.K.Eq.laws (c.args.hash, c.args.key.now) c.args.self.now.pairs.items c.in_ok-place.place
    c.index.result.now c.args.self.now.distinct at c.index.ensures)
