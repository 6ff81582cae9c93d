use Rattle.std.proofs.Common.{◌≡◌, Some, sym, ◌∙◌, subst}
use Rattle.foyer_policy.specs.declared.types.Item.{Item}
use Rattle.foyer_core.specs.Bulk.{TakesRecordOut}
use Rattle.foyer_core.specs.Stores.{meaning_of, state_of}
use Rattle.foyer_core.proofs.Holdings.{holding}
use Rattle.foyer_core.proofs.LeftLemmas.{stood_counted}
use Rattle.foyer_core.proofs.store.Store.leave_due.Goals as goal

pub take_out-requires-after_bounds : goal.take_out-requires-after_bounds
take_out-requires-after_bounds g c κs within =
    let s = c.args.self.now in
    stood_counted (meaning_of s) g.met.K.Eq.laws g.met.E.Eviction.lawful (holding s) c.args.place c.item-item.result
    c.item-item.ensures

pub returns-clause-taken : goal.returns-clause-taken
returns-clause-taken g c i is =
    let s = c.args.self.now in
    let same : c.item-item.result ≡ i = (let e : Some c.item-item.result ≡ Some i = sym c.item-item.ensures ∙ is in cc) in
    subst (λ (j : Item). TakesRecordOut (meaning_of s) (state_of s) j.id c.take_out.result (state_of c.take_out.new.self))
    same c.take_out.ensures.taken
