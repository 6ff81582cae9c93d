use Rattle.std.proofs.Common.{◌≡◌, Some, sym, ◌∙◌}
use Rattle.foyer_policy.specs.Queued.{Queued}
use Rattle.foyer_policy.specs.declared.types.Item.{Item}
use Rattle.foyer_policy.proofs.DatedLists.Changes.{Knows-same, written-dates}
use Rattle.foyer_policy.proofs.dated_lists.states.DatedLists+Queued+S+N.set_state.Goals as goal

same_item : (S : Type 0) (v w : Queued S) → Some v ≡ Some w → v.item ≡ w.item
same_item S v w e = cc

pub invariant_of-self : goal.invariant_of-self
invariant_of-self g c =
    let i = c.self.inside in
    let old = c.get_mut.result.now in
    let item : Queued g.row.S.Denot → Item = λ h. h.item in
    rw c.set_state.ensures (Knows-same g.row.N _ _ i.dates
    (λ k lt. written-dates item g.row.N i.lists.lists c.get_mut.ensures.apart c.args.place
    (record { item = old.item; state = c.args.state })
    (λ v found. same_item g.row.S.Denot v old (sym found ∙ c.get_mut.ensures.value))
    k lt)
    c.self.invariant)
