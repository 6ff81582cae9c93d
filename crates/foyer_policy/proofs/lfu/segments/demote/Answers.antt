use Rattle.foyer_policy.proofs.SegmentLemmas.{demoted-probation, demoted-others, first-weight}
use Rattle.foyer_policy.proofs.lfu.segments.demote.Goals as goal

pub returns-clause-probation : goal.returns-clause-probation
returns-clause-probation c = demoted-probation c.args.lists.now.lists c.front.ensures.apart c.args.from
    c.in-Some.place c.in-Some.ensures.place c.move_back.new.self.lists c.move_back.ensures.lists c.requires.other

pub returns-clause-weight : goal.returns-clause-weight
returns-clause-weight c = rw c.whole-weight.ensures (first-weight c.args.lists.now.lists c.front.ensures.apart c.args.from c.in-Some.place
    c.in-Some.ensures.place c.get.result.now c.get.ensures.value)

pub returns-clause-others : goal.returns-clause-others
returns-clause-others c = demoted-others c.args.lists.now.lists c.front.ensures.apart c.args.from c.in-Some.place
    c.in-Some.ensures.place c.move_back.new.self.lists c.move_back.ensures.lists c.requires.other
