use Rattle.std.proofs.Common.{lit<, ◌∙◌, ap}
use Rattle.std.specs.Prelude.{option_map}
use Rattle.foyer_policy.specs.Lists.{moved}
use Rattle.foyer_policy.specs.Queued.{Queued, queued_at}
use Rattle.foyer_policy.specs.declared.lru.LruState.{LruState}
use Rattle.foyer_policy.proofs.FoundLemmas.{write_found}
use Rattle.foyer_policy.proofs.ListsLemmas.{is_in}
use Rattle.foyer_policy.proofs.QueuedLemmas.{item_of, queued-write}
use Rattle.foyer_policy.proofs.lru.pools.relist.Goals as goal

pub move_back-requires : goal.move_back-requires
move_back-requires c =
    let at = is_in c.args.place c.args.lists.now.lists c.requires.there in
    let n : Queued LruState = at.value in (
      lit< tt,
      (
        c.requires.list,
        rw (c.set_state.ensures.lists n at.found) (write_found c.args.place c.args.place
            (record { item = n.item; state = c.args.state }) c.args.lists.now.lists c.requires.there),
      ),
    )

pub returns-clause-lists : goal.returns-clause-lists
returns-clause-lists c = λ n found.
    c.move_back.ensures.lists ∙ ap (moved c.args.place c.args.list) (c.set_state.ensures.lists n found)

pub returns-clause-places : goal.returns-clause-places
returns-clause-places c = λ q.
    let at = is_in c.args.place c.args.lists.now.lists c.requires.there in
    let n : Queued LruState = at.value in
    ap (option_map item_of) (c.move_back.ensures.places q)
    ∙ ap (queued_at q) (c.set_state.ensures.lists n at.found)
    ∙ queued-write c.args.place q n c.args.state c.args.lists.now.lists at.found
