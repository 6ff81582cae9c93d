use Rattle.std.proofs.Common.{◌≡◌, ◌+◌, Some, refl, arith, ap, sym, ◌∙◌}
use Rattle.std.specs.Prelude.{min}
use Rattle.std.specs.Option.{option_map}
use Rattle.foyer_policy.specs.GhostQueue.{ghost_of}
use Rattle.foyer_policy.specs.S3Fifo.{Setting}
use Rattle.foyer_policy.specs.S3FifoQueues.{Node, item_at}
use Rattle.foyer_policy.proofs.S3FifoNodes.{item_of, write-places}
use Rattle.foyer_policy.proofs.S3FifoCalls.{use-view, used-queues, use-weight}
use Rattle.foyer_policy.proofs.s3fifo.S3FifoEviction.acquire.Goals as goal
use Rattle.foyer_policy.proofs.s3fifo.S3FifoEviction.acquire.Goals.{After-min}

abbrev setting : After-min → Setting
setting c =
    record {
      small_ratio = c.self.inside.small_ratio;
      ghost_ratio = c.self.inside.ghost_ratio;
      threshold =
          c.self.inside.threshold;
    }

abbrev used_node : After-min → Node
used_node c =
    record {
      item = c.get.result.now.item;
      state =
          record { frequency = c.min.result; is_main = c.get.result.now.state.is_main };
    }

more : (c : After-min) → c.min.result ≡ min (c.get.result.now.state.frequency + 1) 3
more c = omega (arith, c.min.ensures, rw c.state-state.ensures at c.saturating_add.ensures)

pub invariant_of-self : goal.invariant_of-self
invariant_of-self c =
    let k = (goal.at.invariant_of-self c).After-min in
    let i = c.self.invariant in
    let ls = c.self.inside.queues.lists in
    let v = c.get.result.now in
    rw (rw c.state-state.ensures at c.set_state.ensures.lists v c.get.ensures.value) (record {
      queues = used-queues ls c.get.ensures.apart i.queues c.args.place v c.get.ensures.value
          (ghost_of c.self.inside.ghost_queue) (setting k) (used_node k) refl (more k) refl;
      weight = i.weight ∙
          sym (use-weight ls c.get.ensures.apart i.queues c.args.place v c.get.ensures.value
          (used_node k) refl);
      small_denominator = i.small_denominator;
      ghost_denominator = i.ghost_denominator;
    })

pub returns-clause-view : goal.returns-clause-view
returns-clause-view c =
    let k = (goal.at.returns-clause-view c).After-min in
    let ls = c.self.inside.queues.lists in
    let v = c.get.result.now in
    let at : item_at ls c.args.place ≡ Some v.item = ap (option_map item_of) c.get.ensures.value in
    rw (← c.self.view_is, at, rw c.state-state.ensures at c.set_state.ensures.lists v c.get.ensures.value)
    (use-view ls c.get.ensures.apart c.self.invariant.queues c.args.place v c.get.ensures.value
    (ghost_of c.self.inside.ghost_queue) c.self.inside.limit (setting k) (used_node k) refl (more k))

pub returns-clause-places : goal.returns-clause-places
returns-clause-places c =
    let k = (goal.at.returns-clause-places c).After-min in
    let ls = c.self.inside.queues.lists in
    let v = c.get.result.now in
    rw (← c.self.view_is, rw c.state-state.ensures at c.set_state.ensures.lists v c.get.ensures.value)
    (write-places ls c.get.ensures.apart c.self.invariant.queues c.args.place v
    c.get.ensures.value (used_node k) refl)
