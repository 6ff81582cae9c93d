use Rattle.std.proofs.Common.{◌<◌, ◌∙◌, ap, length, subst, sym}
use Rattle.foyer_session.specs.Sessions.{session_of}
use Rattle.foyer_audit.proofs.audited.AuditedShard.close.Goals as goal

pub returns-clause-yes : goal.returns-clause-yes
returns-clause-yes g c =
    rw c.as_slice.ensures.value at (rw c.as_slice-2.ensures.value at c.account_for-yes.ensures)

pub returns-clause-counts : goal.returns-clause-counts
returns-clause-counts g c parts =
    ap length c.into_history-history.ensures.history ∙ c.into_inner-book.result.counted
    ∙ sym (c.audit.ensures.whole (c.gather-all.ensures.parts ∙ parts)) ∙ c.gather-all.ensures.amount

pub returns-clause-legal : goal.returns-clause-legal
returns-clause-legal g c =
    let book = c.into_inner-book.result.book in (
      book.opening.value,
      book.shard,
      session_of book.session,
      subst (λ n. book.shard < n) book.sharded book.within,
      c.into_history-history.ensures.legal,
    )
