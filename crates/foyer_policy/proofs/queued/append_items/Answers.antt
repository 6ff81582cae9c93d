use Rattle.std.proofs.Common.{◌<◌, Some, length, rules, arith, sym, ◌∙◌}
use Rattle.foyer_policy.specs.Lists.{list_at}
use Rattle.foyer_policy.specs.declared.types.Item.{Item}
use Rattle.foyer_policy.proofs.ListsLemmas.{find-at}
use Rattle.foyer_policy.proofs.WalkLemmas.{Walk, walk-stop, walk-on}
use Rattle.foyer_policy.proofs.queued.append_items.Goals as goal

pub get-requires : goal.get-requires
get-requires g c =
    let ls = c.args.lists.now.lists in
    let apart = c.front-next.ensures.apart in
    let lt : c.args.list < length ls = omega (arith, apart.count, c.requires) in
    let item : g.row.T.Denot → Item = g.T.HasItem.item_of in
    let walk : Walk item c.args.items.now.items (list_at ls c.args.list) (Some c.in-Some.place)
    c.loop-next.items.items = rw (← c.in-Some.is) c.loop-next.invariant in
    let stop = walk-stop item c.args.items.now.items (list_at ls c.args.list) c.in-Some.place c.loop-next.items.items
    (apart.within c.args.list lt) walk in
    rw (find-at g.row.N ls c.args.list c.in-Some.place stop.value apart lt stop.found) (search rules)

pub loop-next-preserved : goal.loop-next-preserved
loop-next-preserved g c =
    let ls = c.args.lists.now.lists in
    let apart = c.front-next.ensures.apart in
    let lt : c.args.list < length ls = omega (arith, apart.count, c.requires) in
    let item : g.row.T.Denot → Item = g.T.HasItem.item_of in
    let walk : Walk item c.args.items.now.items (list_at ls c.args.list) (Some c.in-Some.place)
    c.loop-next.items.items = rw (← c.in-Some.is) c.loop-next.invariant in
    let stop = walk-stop item c.args.items.now.items (list_at ls c.args.list) c.in-Some.place c.loop-next.items.items
    (apart.within c.args.list lt) walk in
    let found = find-at g.row.N ls c.args.list c.in-Some.place stop.value apart lt stop.found in
    rw (c.in-Ok.ensures.items, c.item-item.ensures)
    (walk-on item c.args.items.now.items (list_at ls c.args.list) c.in-Some.place c.next-next.result
    c.loop-next.items.items c.get.result.now stop
    (stop.found ∙ (sym found ∙ c.get.ensures.value)) (λ xs ys v h. c.next-next.ensures.place c.args.list xs ys v h))
