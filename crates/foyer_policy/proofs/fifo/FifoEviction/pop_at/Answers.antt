use Rattle.foyer_policy.proofs.FifoLemmas.{pop-places, pop-keeps}
use Rattle.foyer_policy.proofs.fifo.FifoEviction.pop_at.Goals as goal

pub invariant_of-self : goal.invariant_of-self
invariant_of-self c = pop-keeps c.self.inside.queue.lists c.pop_front_at.new.self.lists c.pop_front_at.ensures.apart
    c.pop_front_at.ensures.lists c.self.invariant

pub returns-clause-places : goal.returns-clause-places
returns-clause-places c = rw (← c.self.view_is, c.whole_found.ensures)
    (pop-places c.self.inside.queue.lists c.pop_front_at.new.self.lists c.pop_front_at.ensures.apart
    c.pop_front_at.ensures.lists c.self.invariant c.pop_front_at.result c.pop_front_at.ensures.entry)
