use Rattle.std.proofs.Common.{◌≡◌, ℕ, Some, sym, ◌∙◌, ap}
use Rattle.foyer_core.specs.Values.{Gone}
use Rattle.foyer_core.specs.Records.{slot_in}
use Rattle.foyer_core.proofs.store.admission.give_way.Goals as goal

pub leave_way-weight-requires-clause-there : goal.leave_way-weight-requires-clause-there
leave_way-weight-requires-clause-there g c = (c.requires c.in-Some.slot c.in-Some.is).1

pub returns-clause-some : goal.returns-clause-some
returns-clause-some g c n s i was slot at =
    let same : c.in-Some.slot ≡ n = (let e : Some c.in-Some.slot ≡ Some n = sym c.in-Some.is ∙ was in cc) in
    let made = c.leave_way-weight.ensures.gone s i (ap (slot_in c.args.records.now) same ∙ slot)
    (ap (g.E.Eviction.at c.args.eviction.now) same ∙ at) in
    (ap (λ (r : ℕ × Gone g.row.K.Denot g.row.V.Denot g.row.P.Denot). (r.0, Some r.1)) made.0, made.1)
