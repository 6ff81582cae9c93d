use Rattle.std.proofs.Common.{Some, lit<}
use Rattle.foyer_policy.specs.Lists.{list_at}
use Rattle.foyer_policy.proofs.S3FifoNodes.{Counted, counted-found, counted-on}
use Rattle.foyer_policy.proofs.s3fifo.queues.count.Goals as goal

pub next-next-requires : goal.next-next-requires
next-next-requires c =
    let w : Counted (list_at c.args.queues.now.lists c.args.list) (Some c.in-Some.place) c.loop-next.count =
    rw c.in-Some.is at c.loop-next.invariant in (
      lit< tt,
      counted-found c.args.queues.now.lists c.front-next.ensures.apart c.args.list c.in-Some.place
          c.loop-next.count w,
    )

pub loop-next-preserved : goal.loop-next-preserved
loop-next-preserved c =
    let w : Counted (list_at c.args.queues.now.lists c.args.list) (Some c.in-Some.place) c.loop-next.count =
    rw c.in-Some.is at c.loop-next.invariant in
    counted-on (list_at c.args.queues.now.lists c.args.list) c.in-Some.place c.loop-next.count c.next-next.result w
    (λ xs ys v h. c.next-next.ensures.place c.args.list xs ys v h)
