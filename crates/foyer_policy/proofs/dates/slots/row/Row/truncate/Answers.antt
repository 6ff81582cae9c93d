use Rattle.foyer_policy.proofs.RowLemmas.{slots_of-take}
use Rattle.foyer_policy.proofs.dates.slots.row.Row.truncate.Goals as goal

pub returns-clause-slots : goal.returns-clause-slots
returns-clause-slots c =
    let v = c.self.inside in
    rw (← c.self.view_is, c.truncate.ensures.items, c.truncate-2.ensures.items)
    (slots_of-take c.args.count v.dates.items v.places.items)
