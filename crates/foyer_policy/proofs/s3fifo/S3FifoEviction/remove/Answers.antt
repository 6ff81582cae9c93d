use Rattle.std.proofs.Common.{arith, ap, sym, ◌∙◌}
use Rattle.foyer_policy.specs.GhostQueue.{ghost_of}
use Rattle.foyer_policy.specs.Items.{weight_of}
use Rattle.foyer_policy.specs.S3Fifo.{Setting, items}
use Rattle.foyer_policy.specs.S3FifoQueues.{view_with, item_at}
use Rattle.foyer_policy.proofs.S3FifoNodes.{out-places}
use Rattle.foyer_policy.proofs.S3FifoCalls.{member, remove-view, removed-queues, small-weight, main-weight, not-true, not-false}
use Rattle.foyer_policy.proofs.s3fifo.S3FifoEviction.remove.Goals as goal
use Rattle.foyer_policy.proofs.s3fifo.S3FifoEviction.remove.Goals.{After-remove-node}

abbrev setting : After-remove-node → Setting
setting c =
    record {
      small_ratio = c.self.inside.small_ratio;
      ghost_ratio = c.self.inside.ghost_ratio;
      threshold =
          c.self.inside.threshold;
    }

pub overflow_sub-self : goal.overflow_sub-self
overflow_sub-self c =
    let i = c.self.invariant in
    rw c.whole-item.ensures
    (omega (
      arith,
      i.weight,
      small-weight c.self.inside.queues.lists c.remove-node.ensures.apart i.queues c.args.place
          c.remove-node.result c.remove-node.ensures.value (not-true c.remove-node.result.state.is_main (rw c.state-state.ensures at c.if-not-state.true)),
    ))

pub invariant_of-self : goal.invariant_of-self
invariant_of-self c =
    let i = c.self.invariant in
    let ls = c.self.inside.queues.lists in
    let sound = c.remove-node.ensures.apart in
    let k = (goal.at.invariant_of-self c).After-remove-node in
    rw (c.remove-node.ensures.lists, c.whole-item.ensures) record {
      queues = removed-queues ls sound i.queues c.args.place c.remove-node.result c.remove-node.ensures.value
          (ghost_of c.self.inside.ghost_queue) (setting k);
      weight = omega (
        arith,
        i.weight,
        small-weight ls sound i.queues c.args.place c.remove-node.result c.remove-node.ensures.value
            (not-true c.remove-node.result.state.is_main (rw c.state-state.ensures at c.if-not-state.true)),
      );
      small_denominator = i.small_denominator;
      ghost_denominator = i.ghost_denominator;
    }

pub invariant_of-self-else-not-state : goal.invariant_of-self-else-not-state
invariant_of-self-else-not-state c =
    let i = c.self.invariant in
    let ls = c.self.inside.queues.lists in
    let sound = c.remove-node.ensures.apart in
    let k = (goal.at.invariant_of-self-else-not-state c).After-remove-node in
    rw c.remove-node.ensures.lists record {
      queues = removed-queues ls sound i.queues c.args.place c.remove-node.result c.remove-node.ensures.value
          (ghost_of c.self.inside.ghost_queue) (setting k);
      weight = i.weight ∙
          sym (ap (λ l. weight_of (items l))
          (main-weight ls sound i.queues c.args.place c.remove-node.result c.remove-node.ensures.value
          (not-false c.remove-node.result.state.is_main (rw c.state-state.ensures at c.if-not-state.false))));
      small_denominator = i.small_denominator;
      ghost_denominator = i.ghost_denominator;
    }

pub returns-then-not-state-clause-member : goal.returns-then-not-state-clause-member
returns-then-not-state-clause-member c = rw (← c.self.view_is, c.whole-item.ensures)
    (member c.self.inside.queues.lists c.remove-node.ensures.apart c.self.invariant.queues c.args.place c.remove-node.result
    c.remove-node.ensures.value)

pub returns-then-not-state-clause-view : goal.returns-then-not-state-clause-view
returns-then-not-state-clause-view c =
    let g = ghost_of c.self.inside.ghost_queue in
    let s = setting (goal.at.returns-then-not-state-clause-view c).After-remove-node in
    rw (← c.self.view_is, c.whole-item.ensures)
    (ap (λ l. view_with l g c.self.inside.limit s) c.remove-node.ensures.lists
    ∙ remove-view c.self.inside.queues.lists c.remove-node.ensures.apart c.self.invariant.queues c.args.place
    c.remove-node.result c.remove-node.ensures.value g c.self.inside.limit s)

pub returns-then-not-state-clause-places : goal.returns-then-not-state-clause-places
returns-then-not-state-clause-places c = rw (← c.self.view_is, c.whole-item.ensures)
    (λ q. ap (λ l. item_at l q) c.remove-node.ensures.lists
    ∙ out-places c.self.inside.queues.lists c.remove-node.ensures.apart c.self.invariant.queues c.args.place
    c.remove-node.result c.remove-node.ensures.value q)

pub returns-else-not-state-clause-member : goal.returns-else-not-state-clause-member
returns-else-not-state-clause-member c = rw (← c.self.view_is, c.whole-item.ensures)
    (member c.self.inside.queues.lists c.remove-node.ensures.apart c.self.invariant.queues c.args.place c.remove-node.result
    c.remove-node.ensures.value)

pub returns-else-not-state-clause-view : goal.returns-else-not-state-clause-view
returns-else-not-state-clause-view c =
    let g = ghost_of c.self.inside.ghost_queue in
    let s = setting (goal.at.returns-else-not-state-clause-view c).After-remove-node in
    rw (← c.self.view_is, c.whole-item.ensures)
    (ap (λ l. view_with l g c.self.inside.limit s) c.remove-node.ensures.lists
    ∙ remove-view c.self.inside.queues.lists c.remove-node.ensures.apart c.self.invariant.queues c.args.place
    c.remove-node.result c.remove-node.ensures.value g c.self.inside.limit s)

pub returns-else-not-state-clause-places : goal.returns-else-not-state-clause-places
returns-else-not-state-clause-places c = rw (← c.self.view_is, c.whole-item.ensures)
    (λ q. ap (λ l. item_at l q) c.remove-node.ensures.lists
    ∙ out-places c.self.inside.queues.lists c.remove-node.ensures.apart c.self.invariant.queues c.args.place
    c.remove-node.result c.remove-node.ensures.value q)
