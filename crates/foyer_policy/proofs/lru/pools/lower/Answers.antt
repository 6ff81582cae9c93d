use Rattle.std.proofs.Common.{◌≡◌, ◌∷◌, ◌++◌, [], false, ◌∙◌, ap}
use Rattle.std.specs.Prelude.{option_map}
use Rattle.foyer_policy.specs.Lists.{list_at, moved}
use Rattle.foyer_policy.specs.LruLists.{state}
use Rattle.foyer_policy.specs.Queued.{Queued, queued_at}
use Rattle.foyer_policy.specs.declared.types.Item.{Item}
use Rattle.foyer_policy.specs.declared.lru.LruState.{LruState}
use Rattle.foyer_policy.proofs.QueuedLemmas.{item_of, queued-write}
use Rattle.foyer_policy.proofs.PoolLemmas.{node_is, lowers}
use Rattle.foyer_policy.proofs.lru.pools.lower.Goals as goal

pub returns-clause-weight : goal.returns-clause-weight
returns-clause-weight c = λ e es h.
    ap (λ (i : Item). i.weight) c.whole-weight.ensures
    ∙ ap (λ (n : Queued LruState). n.item.weight)
    (node_is c.args.lists.now.lists c.front.ensures.apart c.in-Some.place c.get-node.result.now e es
    c.in-Some.ensures.place c.get-node.ensures.value h)

pub returns-clause-lists : goal.returns-clause-lists
returns-clause-lists c = λ e es h.
    let old = c.args.lists.now.lists in
    let n : Queued LruState = c.get-node.result.now in
    let same : n ≡ e.1 = node_is old c.front.ensures.apart c.in-Some.place n e es c.in-Some.ensures.place
    c.get-node.ensures.value h in
    c.move_back.ensures.lists
    ∙ ap (moved c.in-Some.place 0) (rw c.state-state.ensures at c.set_state.ensures.lists n c.get-node.ensures.value)
    ∙ lowers old c.front.ensures.apart c.in-Some.place n e es c.in-Some.ensures.place c.get-node.ensures.value h
    (record { item = n.item; state = state false n.state.pinned })
    ∙ ap (λ (x : Queued LruState).
    (list_at old 0 ++
    (e.0, (let y : Queued LruState = record { item = x.item; state = state false x.state.pinned } in y)) ∷ []) ∷
    es ∷ list_at old 2 ∷ []) same

pub returns-clause-places : goal.returns-clause-places
returns-clause-places c = λ q.
    let n : Queued LruState = c.get-node.result.now in
    ap (option_map item_of) (c.move_back.ensures.places q)
    ∙ ap (queued_at q) (rw c.state-state.ensures at c.set_state.ensures.lists n c.get-node.ensures.value)
    ∙ queued-write c.in-Some.place q n (state false n.state.pinned) c.args.lists.now.lists
    c.get-node.ensures.value
