use Rattle.foyer_memory.proofs.Hits.{refused}
use Rattle.foyer_memory.proofs.fetch.GetOrFetchFuture.poll.Goals as goal

pub returns-in-Ready-Err-clause-hit : goal.returns-in-Ready-Err-clause-hit
returns-in-Ready-Err-clause-hit g c = λ hit.
    let poll = c.poll_inner in
    let arm = c.in-Ready-Err in
    refused _ _ poll.result arm.field-0 arm.error _ arm.is arm.field-0-is (poll.ensures.hit hit)
