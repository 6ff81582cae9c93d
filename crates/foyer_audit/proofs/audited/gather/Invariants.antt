use Rattle.std.proofs.Common.{◌≡◌, length, sum_by}
use Rattle.foyer_audit.proofs.audited.gather.Given as goal

-- what is gathered so far
abbrev pub invariant-loop-share : goal.invariant-loop-share
invariant-loop-share g l = record {
  parts : l.all.parts ≡ sum_by (λ share. share.mine.parts) l.yielded;
  amount : l.all.amount ≡ sum_by (λ share. length share.receipts.items) l.yielded;
}
