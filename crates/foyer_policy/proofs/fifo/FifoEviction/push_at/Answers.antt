use Rattle.foyer_policy.proofs.FifoLemmas.{push-here, push-others, push-once}
use Rattle.foyer_policy.proofs.fifo.FifoEviction.push_at.Goals as goal

pub invariant_of-self : goal.invariant_of-self
invariant_of-self c = push-once c.self.inside.queue.lists c.push_back_at.new.self.lists c.push_back_at.ensures.apart
    c.args.place c.args.item (rw c.of.ensures at c.push_back_at.ensures.lists) (rw (← c.self.view_is) at c.requires.free) c.self.invariant
    (rw c.self.view_is c.requires.new_id)

pub returns-clause-here : goal.returns-clause-here
returns-clause-here c = push-here c.self.inside.queue.lists c.push_back_at.new.self.lists c.push_back_at.ensures.apart
    c.args.place c.args.item (rw c.of.ensures at c.push_back_at.ensures.lists) (rw (← c.self.view_is) at c.requires.free)

pub returns-clause-others : goal.returns-clause-others
returns-clause-others c =
    let free = rw (← c.self.view_is) at c.requires.free in
    rw (← c.self.view_is)
    (push-others c.self.inside.queue.lists c.push_back_at.new.self.lists c.push_back_at.ensures.apart c.args.place
    c.args.item (rw c.of.ensures at c.push_back_at.ensures.lists) free)
