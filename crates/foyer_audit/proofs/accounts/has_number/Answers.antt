use Rattle.std.proofs.Common.{rules}
use Rattle.std.proofs.lemmas.List.Sorted.{answers_always}
use Rattle.foyer_audit.specs.declared.receipt.Receipt.{Receipt}
use Rattle.foyer_audit.proofs.Counts.{count_by-searched}
use Rattle.foyer_audit.proofs.accounts.has_number.Goals as goal

pub returns : goal.returns
returns g c =
    let number = λ (r : Receipt g.row.K.Denot g.row.V.Denot g.row.P.Denot g.row.Q.Denot g.row.C.Denot). r.number in
    let found = c.binary_search_by_key.ensures in
    rw c.is_ok.ensures.value
    (count_by-searched number _ c.args.number c.requires _ found.bound
    (found.position number (answers_always _ _ _ (λ f a r f' called. search rules))))
