use Rattle.std.proofs.Common.{ap, ◌∙◌, subst}
use Rattle.foyer_core.specs.Questions.{IsTold}
use Rattle.foyer_core.specs.Stores.{meaning_of}
use Rattle.foyer_core.specs.Values.{Rec}
use Rattle.foyer_core.proofs.Holdings.{holding}
use Rattle.foyer_core.proofs.Residents.{record_slot}
use Rattle.foyer_core.proofs.store.Store.tell_residents.Goals as goal

pub returns : goal.returns
returns g c id r there res =
    let s = c.args.self.now in
    let slot = record_slot (meaning_of s) g.met.K.Eq.laws g.met.E.Eviction.lawful (holding s) id r there in
    subst (λ (q : Rec g.row.K.Denot g.row.V.Denot g.row.P.Denot). IsTold g.F.Fn c.args.tell.now q.kept.key
    q.kept.value) slot.3
    (c.tell_by_slot.ensures slot.0 slot.1 slot.2
    (ap (λ (q : Rec g.row.K.Denot g.row.V.Denot g.row.P.Denot). q.resident) slot.3 ∙ res))
