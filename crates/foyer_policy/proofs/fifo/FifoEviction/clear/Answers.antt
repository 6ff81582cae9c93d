use Rattle.std.proofs.Common.{arith, ◌∙◌}
use Rattle.foyer_policy.proofs.FifoLemmas.{pop-keeps}
use Rattle.foyer_policy.proofs.fifo.FifoEviction.clear.Goals as goal

pub loop-self-preserved : goal.loop-self-preserved
loop-self-preserved c = record {
  once = pop-keeps c.loop-self.self-inside.queue.lists c.pop_front.new.self.lists c.pop_front.ensures.apart
      c.pop_front.ensures.lists c.loop-self.invariant.once;
  room = omega arith;
  span = c.pop_front.ensures.span ∙ c.loop-self.invariant.span;
}
