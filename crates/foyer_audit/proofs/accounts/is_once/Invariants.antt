use Rattle.std.proofs.Common.{◌≡◌, if◌then◌else◌, take}
use Rattle.foyer_audit.specs.Accounts.{times}
use Rattle.foyer_audit.proofs.accounts.is_once.Given as goal

-- among the shares so far none has the number, or just one
abbrev pub invariant-loop-share : goal.invariant-loop-share
invariant-loop-share g l = times (λ s. s.receipts.items) l.number (take l.share-index l.shares)
    ≡ (if l.found then 1 else 0)
