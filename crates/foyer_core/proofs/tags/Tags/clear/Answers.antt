use Rattle.std.proofs.Common.{sym, arith}
use Rattle.foyer_core.specs.Probing.{tag_in, size_of}
use Rattle.foyer_core.proofs.BucketLemmas.{probed_none, once_none, before_none, part_none, count_none}
use Rattle.foyer_core.proofs.tags.Tags.clear.Goals as goal

pub invariant_of-self : goal.invariant_of-self
invariant_of-self c =
    let b = c.clear.new.self in
    let none = c.clear.ensures.tags in
    record {
      few = c.args.self.now.few;
      homes = omega arith;
      before = before_none (tag_in b) none c.homes_of-self.result;
      probed = probed_none (tag_in b) none c.args.self.now.bits;
      once = once_none (tag_in b) none;
      counted = sym (count_none (tag_in b) none (size_of b));
    }

pub returns-clause-slots : goal.returns-clause-slots
returns-clause-slots c = part_none (tag_in c.clear.new.self) c.clear.ensures.tags (size_of c.clear.new.self)
