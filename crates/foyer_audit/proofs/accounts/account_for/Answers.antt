use Rattle.foyer_audit.specs.declared.receipt.Share.{Share}
use Rattle.foyer_audit.proofs.Accounted.{below_from_agree}
use Rattle.foyer_audit.proofs.accounts.account_for.Goals as goal

pub each_once-requires-clause-rise : goal.each_once-requires-clause-rise
each_once-requires-clause-rise g c k d lt = ((c.all_agree.ensures.0 c.if-all_agree.true) k d lt).rise

pub each_once-requires-clause-below : goal.each_once-requires-clause-below
each_once-requires-clause-below g c =
    let receipts = λ (s : Share g.row.G.Denot g.row.K.Denot g.row.V.Denot g.row.P.Denot g.row.Q.Denot g.row.C.Denot).
    s.receipts.items in
    below_from_agree receipts c.args.shares.now (c.all_agree.ensures.0 c.if-all_agree.true)

pub returns-then-all_agree : goal.returns-then-all_agree
returns-then-all_agree g c = (
  (λ yes. record { agree = c.all_agree.ensures.0 c.if-all_agree.true; once = c.each_once.ensures.0 yes }),
  λ account. c.each_once.ensures.1 account.once,
)
