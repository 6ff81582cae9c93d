use Rattle.std.proofs.Common.{All, take}
use Rattle.foyer_audit.specs.Accounts.{Stands}
use Rattle.foyer_audit.proofs.accounts.each_stands.Given as goal

-- those so far stand
abbrev pub invariant-loop-receipt : goal.invariant-loop-receipt
invariant-loop-receipt g l = All (Stands g.Q.Compared.same g.Q.Compared.alike l.history)
    (take l.receipt-index l.receipts)
