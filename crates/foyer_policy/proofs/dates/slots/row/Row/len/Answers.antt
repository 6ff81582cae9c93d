use Rattle.std.proofs.Common.{◌∙◌, sym}
use Rattle.foyer_policy.proofs.RowLemmas.{slots_of-length}
use Rattle.foyer_policy.proofs.dates.slots.row.Row.len.Goals as goal

pub returns : goal.returns
returns c =
    let v = c.self.inside in
    rw (← c.self.view_is) (c.len.ensures ∙ v.dates.ok.0 ∙ sym (slots_of-length v.dates.items v.places.items c.self.invariant))
