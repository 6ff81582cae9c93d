use Rattle.std.proofs.Common.{arith, sym, ◌∙◌}
use Rattle.foyer_policy.specs.S3FifoLaws.{pop-shorter}
use Rattle.foyer_policy.specs.S3FifoQueues.{view_of}
use Rattle.foyer_policy.proofs.S3FifoClears.{still-over}
use Rattle.foyer_policy.proofs.S3FifoRare.{some-popped, pop_times-some}
use Rattle.foyer_policy.proofs.s3fifo.S3FifoEviction.clear.Goals as goal

pub loop-smaller : goal.loop-smaller
loop-smaller c =
    let v = view_of c.loop.self in
    let w = view_of c.pop_reserved.new.self in
    let p = some-popped v w c.pop_reserved.result (sym c.is_some.ensures ∙ c.loop-test.true)
    c.pop_reserved.ensures.pops in
    omega (arith, pop-shorter v w p.0 p.1)

pub loop-preserved : goal.loop-preserved
loop-preserved c =
    let v = view_of c.loop.self in
    let w = view_of c.pop_reserved.new.self in
    let p = some-popped v w c.pop_reserved.result (sym c.is_some.ensures ∙ c.loop-test.true)
    c.pop_reserved.ensures.pops in
    record {
      pops = sym (pop_times-some v w p.0 p.1) ∙ c.loop.invariant.pops;
      can_clear = λ over some.
          (let was = still-over v w p.0 p.1 over in let r =
          c.loop.invariant.can_clear was.0 (omega (arith, some, c.pop_reserved.ensures.ghost_capacity)) in
          omega (arith, r, was.1, c.pop_reserved.ensures.ghost_room));
      room = omega arith;
      span = c.pop_reserved.ensures.span ∙ c.loop.invariant.span;
    }
