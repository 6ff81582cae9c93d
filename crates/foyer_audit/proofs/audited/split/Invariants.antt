use Rattle.std.proofs.Common.{◌≡◌, ◌+◌, [], All, length}
use Rattle.foyer_audit.proofs.audited.split.Given as goal

-- one part went into each share so far
abbrev pub invariant-loop-thread : goal.invariant-loop-thread
invariant-loop-thread g l = record {
  left : l.rest.parts + l._thread ≡ l.threads;
  nothing : l.rest.amount ≡ 0;
  many : length l.shares.items ≡ l._thread;
  parts : All (λ share. share.mine.parts ≡ 1) l.shares.items;
  receipts : All (λ share. share.receipts.items ≡ []) l.shares.items;
}
