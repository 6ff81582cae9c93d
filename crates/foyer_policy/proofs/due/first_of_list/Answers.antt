use Rattle.std.proofs.Common.{◌≡◌, ◌<◌, Bool, true, false, Some, length, rules, arith, sym, ◌∙◌, ap}
use Rattle.foyer_policy.specs.Lists.{list_at}
use Rattle.foyer_policy.specs.Moments.{is_due}
use Rattle.foyer_policy.specs.declared.types.Item.{Item}
use Rattle.foyer_policy.proofs.ListsLemmas.{find-at}
use Rattle.foyer_policy.proofs.DueLemmas.{Seen, seen-stop, seen-due, seen-on, seen-left}
use Rattle.foyer_policy.proofs.due.first_of_list.Goals as goal

pub get-requires : goal.get-requires
get-requires g c =
    let ls = c.args.lists.now.lists in
    let apart = c.front-next.ensures.apart in
    let lt : c.args.list < length ls = omega (arith, apart.count, c.requires) in
    let item : g.row.T.Denot → Item = g.T.HasItem.item_of in
    let due : Item → Bool = is_due c.args.now in
    let all = list_at ls c.args.list in
    let seen : Seen due item all (Some c.in-Some.place) = rw (← c.in-Some.is) c.loop-next.invariant in
    let stop = seen-stop due item all (apart.within c.args.list lt) c.in-Some.place seen in
    rw (find-at g.row.N ls c.args.list c.in-Some.place stop.value apart lt stop.found) (search rules)

pub returns-then-due_at-clause-first : goal.returns-then-due_at-clause-first
returns-then-due_at-clause-first g c =
    let ls = c.args.lists.now.lists in
    let apart = c.front-next.ensures.apart in
    let lt : c.args.list < length ls = omega (arith, apart.count, c.requires) in
    let item : g.row.T.Denot → Item = g.T.HasItem.item_of in
    let due : Item → Bool = is_due c.args.now in
    let all = list_at ls c.args.list in
    let seen : Seen due item all (Some c.in-Some.place) = rw (← c.in-Some.is) c.loop-next.invariant in
    let stop = seen-stop due item all (apart.within c.args.list lt) c.in-Some.place seen in
    let found = find-at g.row.N ls c.args.list c.in-Some.place stop.value apart lt stop.found in
    let is : due (item c.get.result.now) ≡ true =
    ap due (sym c.item.ensures) ∙ (sym c.due_at.ensures ∙ c.if-due_at.true) in
    rw c.get.ensures.value
    (sym (seen-due due item all (apart.within c.args.list lt) c.in-Some.place seen c.get.result.now
    (stop.found ∙ (sym found ∙ c.get.ensures.value)) is))

pub loop-next-smaller : goal.loop-next-smaller
loop-next-smaller g c =
    let ls = c.args.lists.now.lists in
    let apart = c.front-next.ensures.apart in
    let lt : c.args.list < length ls = omega (arith, apart.count, c.requires) in
    let item : g.row.T.Denot → Item = g.T.HasItem.item_of in
    let due : Item → Bool = is_due c.args.now in
    let all = list_at ls c.args.list in
    let seen : Seen due item all (Some c.in-Some.place) = rw (← c.in-Some.is) c.loop-next.invariant in
    let less = seen-left due item all (apart.within c.args.list lt) c.in-Some.place seen c.next-next.result
    (λ xs ys v h. c.next-next.ensures.place c.args.list xs ys v h) in
    rw c.in-Some.is (omega (arith, less))

pub loop-next-preserved : goal.loop-next-preserved
loop-next-preserved g c =
    let ls = c.args.lists.now.lists in
    let apart = c.front-next.ensures.apart in
    let lt : c.args.list < length ls = omega (arith, apart.count, c.requires) in
    let item : g.row.T.Denot → Item = g.T.HasItem.item_of in
    let due : Item → Bool = is_due c.args.now in
    let all = list_at ls c.args.list in
    let seen : Seen due item all (Some c.in-Some.place) = rw (← c.in-Some.is) c.loop-next.invariant in
    let stop = seen-stop due item all (apart.within c.args.list lt) c.in-Some.place seen in
    let found = find-at g.row.N ls c.args.list c.in-Some.place stop.value apart lt stop.found in
    let is : due (item c.get.result.now) ≡ false =
    ap due (sym c.item.ensures) ∙ (sym c.due_at.ensures ∙ c.if-due_at.false) in
    seen-on due item all (apart.within c.args.list lt) c.in-Some.place seen c.get.result.now c.next-next.result
    (stop.found ∙ (sym found ∙ c.get.ensures.value)) is (λ xs ys v h. c.next-next.ensures.place c.args.list xs ys v h)
