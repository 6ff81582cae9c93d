use Rattle.std.proofs.Common.{◌≡◌, ◌+◌, ◌≤◌, length}
use Rattle.foyer_policy.specs.PopTimes.{pop_times}
use Rattle.foyer_policy.specs.S3Fifo.{s3fifo_pop}
use Rattle.foyer_policy.specs.S3FifoQueues.{small_of, main_of, view_of, CanClear}
use Rattle.foyer_policy.proofs.s3fifo.S3FifoEviction.clear.Given as goal

-- what is still to be popped leaves what was to be left
abbrev pub invariant-loop : goal.invariant-loop
invariant-loop l = record {
  pops : pop_times s3fifo_pop (length (view_of l.self).small + length (view_of l.self).main) (view_of l.self)
      ≡ pop_times s3fifo_pop (length (view_of l.initial.self).small + length (view_of l.initial.self).main)
      (view_of l.initial.self);
  can_clear : CanClear l.self;
  room : l.initial.self.nodes.room ≤ l.self.nodes.room;
  span : l.self.nodes.span ≡ l.initial.self.nodes.span;
}

abbrev pub decreases-loop : goal.decreases-loop
decreases-loop l = length (small_of l.self.nodes.lists) + length (main_of l.self.nodes.lists)
