use Rattle.std.proofs.Common.{refl, sym, arith}
use Rattle.foyer_policy.specs.GhostQueue.{ghost_of}
use Rattle.foyer_policy.specs.S3Fifo.{Setting}
use Rattle.foyer_policy.specs.S3FifoLaws.{s3fifo_lawful, few_looks}
use Rattle.foyer_policy.specs.S3FifoQueues.{view_with}
use Rattle.foyer_policy.proofs.S3FifoNodes.{few-frequencies}
use Rattle.foyer_policy.proofs.s3fifo.S3Fifo.pop_reserved.Goals as goal

pub returns-in-Some-clause-looked : goal.returns-in-Some-clause-looked
returns-in-Some-clause-looked c = rw (← c.self.view_is)
    (c.in-Some.ensures.looks
    (record {
      small_ratio = c.self.inside.small_ratio;
      ghost_ratio = c.self.inside.ghost_ratio;
      threshold =
          c.self.inside.threshold;
    }) refl)

pub returns-in-None-clause-pops : goal.returns-in-None-clause-pops
returns-in-None-clause-pops c = rw (← c.self.view_is)
    (c.in-None.ensures.pops
    (record {
      small_ratio = c.self.inside.small_ratio;
      ghost_ratio = c.self.inside.ghost_ratio;
      threshold =
          c.self.inside.threshold;
    }) refl)

pub returns-in-None-clause-looked : goal.returns-in-None-clause-looked
returns-in-None-clause-looked c =
    let s : Setting =
    record {
      small_ratio = c.self.inside.small_ratio;
      ghost_ratio = c.self.inside.ghost_ratio;
      threshold =
          c.self.inside.threshold;
    } in
    let v = view_with c.self.inside.queues.lists (ghost_of c.self.inside.ghost_queue) c.self.inside.limit s in
    rw (← c.self.view_is)
    (sym (s3fifo_lawful.none_looks v
    (c.in-None.ensures.pops
    (record {
      small_ratio = c.self.inside.small_ratio;
      ghost_ratio = c.self.inside.ghost_ratio;
      threshold = c.self.inside.threshold;
    }) refl).0))

pub returns-in-Some-clause-few : goal.returns-in-Some-clause-few
returns-in-Some-clause-few c =
    let s : Setting =
    record {
      small_ratio = c.self.inside.small_ratio;
      ghost_ratio = c.self.inside.ghost_ratio;
      threshold =
          c.self.inside.threshold;
    } in
    let old = c.self.inside.queues.lists in
    let v = view_with old (ghost_of c.self.inside.ghost_queue) c.self.inside.limit s in
    let w = view_with c.pop_victim-victim.new.queues.lists (ghost_of c.pop_victim-victim.new.ghost_queue)
    c.self.inside.limit s in
    let read = c.in-Some.ensures.looks s refl in
    rw (← c.self.view_is)
    (omega (
      arith,
      read,
      few_looks v w c.in-Some.victim.item (c.in-Some.ensures.pops s refl)
          (few-frequencies old c.self.invariant.queues),
    ))
