use Rattle.std.proofs.Common.{◌≡◌, ℕ, ◌<◌}
use Rattle.foyer_audit.specs.Accounts.{times}
use Rattle.foyer_audit.proofs.accounts.each_once.Given as goal

-- each number so far is that of one receipt
abbrev pub invariant-loop-number : goal.invariant-loop-number
invariant-loop-number g l = (k : ℕ) → k < l.number → times (λ s. s.receipts.items) k l.shares ≡ 1
