use Rattle.std.proofs.Common.{◌∙◌, sym}
use Rattle.foyer_core.specs.Probing.{tag_in, IsProbed, IsOnce, IsBefore}
use Rattle.foyer_core.proofs.BucketLemmas.{along}
use Rattle.foyer_core.proofs.TagLemmas.{part_grown, count_grown}
use Rattle.foyer_core.proofs.tags.Tags.lengthen.Goals as goal

pub invariant_of-self : goal.invariant_of-self
invariant_of-self c =
    let t = c.args.self.now in
    let b = c.reserve.new.self in
    let same = c.reserve.ensures.tags in
    record {
      few = t.few;
      homes = t.homes;
      before = along (IsBefore t.end) (tag_in t.buckets) (tag_in b) same t.before;
      probed = along (IsProbed t.bits) (tag_in t.buckets) (tag_in b) same t.probed;
      once = along IsOnce (tag_in t.buckets) (tag_in b) same t.once;
      counted = t.counted ∙ sym (count_grown t.buckets b same c.reserve.ensures.more);
    }

pub returns-in_err-reserve-clause-slots : goal.returns-in_err-reserve-clause-slots
returns-in_err-reserve-clause-slots c =
    part_grown c.args.self.now.buckets c.reserve.new.self c.reserve.ensures.tags c.reserve.ensures.more

pub returns-in_ok-reserve-clause-slots : goal.returns-in_ok-reserve-clause-slots
returns-in_ok-reserve-clause-slots c =
    part_grown c.args.self.now.buckets c.reserve.new.self c.reserve.ensures.tags c.reserve.ensures.more
