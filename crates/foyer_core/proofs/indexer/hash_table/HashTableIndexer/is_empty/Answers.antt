use Rattle.std.proofs.Common.{◌≡◌, length, sym, ap, ◌∙◌}
use Rattle.std.specs.Prelude.{◌==◌}
use Rattle.foyer_core.proofs.InflightLemmas.{empty_in, none_in}
use Rattle.foyer_core.proofs.indexer.hash_table.HashTableIndexer.is_empty.Goals as goal

pub returns : goal.returns
returns g c =
    let pairs = c.args.self.now.pairs.items in
    let counted : c.is_empty.result ≡ (length pairs == 0) = c.is_empty.ensures
    ∙ ap (λ ps. length ps == 0) c.as_slice.ensures.value in
    (λ yes. empty_in g.K.PartialEq.eq pairs (sym counted ∙ yes), λ none. counted ∙ none_in g.met.K.Eq.laws pairs none)
