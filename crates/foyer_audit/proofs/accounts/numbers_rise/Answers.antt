use Rattle.std.proofs.Common.{nat_lt, rules}
use Rattle.std.proofs.lemmas.List.Sorted.{answers_always}
use Rattle.foyer_audit.specs.declared.receipt.Receipt.{Receipt}
use Rattle.foyer_audit.proofs.Counts.{rise_by_answer}
use Rattle.foyer_audit.proofs.accounts.numbers_rise.Goals as goal

pub returns : goal.returns
returns g c =
    let number = λ (r : Receipt g.row.K.Denot g.row.V.Denot g.row.P.Denot g.row.Q.Denot g.row.C.Denot). r.number in
    rise_by_answer number _ _
    (c.is_sorted_by.ensures.cases (λ one next. nat_lt one.number next.number)
    (answers_always _ _ _ (λ f a r f' called. search rules)))
