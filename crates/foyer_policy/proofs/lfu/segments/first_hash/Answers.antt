use Rattle.std.proofs.Common.{sym, ap}
use Rattle.std.specs.Prelude.{option_map}
use Rattle.foyer_policy.specs.declared.types.Item.{Item}
use Rattle.foyer_policy.proofs.SegmentLemmas.{first-value}
use Rattle.foyer_policy.proofs.lfu.segments.first_hash.Goals as goal

pub returns : goal.returns
returns c =
    rw c.whole.ensures
    (sym (ap (option_map (λ (i : Item). i.hash))
    (first-value c.args.lists.now.lists c.front.ensures.apart c.args.list c.in_ok-place.place
    c.in_ok-place.ensures.place c.get.result.now c.get.ensures.value)))
