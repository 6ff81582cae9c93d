use Rattle.std.proofs.Common.{All, take}
use Rattle.foyer_audit.specs.Accounts.{Agree}
use Rattle.foyer_audit.proofs.accounts.all_agree.Given as goal

-- those of the shares so far agree
abbrev pub invariant-loop-share : goal.invariant-loop-share
invariant-loop-share g l = All (λ s. Agree g.Q.Compared.same g.Q.Compared.alike l.history s.receipts.items)
    (take l.share-index l.shares)
