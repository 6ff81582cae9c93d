use Rattle.std.proofs.Common.{ap, ◌∙◌}
use Rattle.foyer_policy.specs.DateSlots.{on_of}
use Rattle.foyer_policy.specs.Lists.{drop_place}
use Rattle.foyer_policy.proofs.DatesWritten.{entry_gone}
use Rattle.foyer_policy.proofs.dates.slots.Slots.take_out.Goals as goal

pub returns : goal.returns
returns c =
    let s = c.self.inside in
    ap on_of c.empty.ensures.slots
    ∙ entry_gone s.row.slots c.self.invariant.apart c.args.place c.find-index.result c.find-index.ensures
    ∙ ap (drop_place c.args.place) c.self.view_is
