use Rattle.std.proofs.Common.{◌≡◌, ◌<◌, Bool, true, None, Some, length, arith, rules, ap, sym, ◌∙◌}
use Rattle.std.specs.Prelude.{option_and_then, option_map}
use Rattle.foyer_policy.specs.Dates.{first_by}
use Rattle.foyer_policy.specs.DatedLists.{Knows, dates_at}
use Rattle.foyer_policy.specs.Dues.{first_item}
use Rattle.foyer_policy.specs.Lists.{find, list_at}
use Rattle.foyer_policy.specs.Moments.{is_due}
use Rattle.foyer_policy.specs.declared.types.Item.{Item}
use Rattle.foyer_policy.proofs.ListsLemmas.{find-at}
use Rattle.foyer_policy.proofs.DueLemmas.{Seen, seen-start, seen-stop, seen-due}
use Rattle.foyer_policy.specs.declared.dated_lists.tracking.Tracking.TheVariants.{Plain, Tracked}
use Rattle.foyer_policy.proofs.DatedLists.Entries.{FirstDue, first-due, none-due}
use Rattle.foyer_policy.proofs.DatedLists.Changes.{due-first, due-there}
use Rattle.foyer_policy.proofs.dated_lists.DatedLists.first_due.Goals as goal

pub returns-in-Plain-clause-first : goal.returns-in-Plain-clause-first
returns-in-Plain-clause-first g c =
    let item = g.T.HasItem.item_of in
    let i = c.self.inside in
    let known : Knows g.row.N (dates_at item i.lists.lists) Plain = rw c.in-Plain.is at c.self.invariant in
    rw (← c.self.view_is)
    (sym (ap first_item (none-due item c.args.now (list_at i.lists.lists c.args.list)
    (known c.args.list c.requires))))

pub returns-else-due_at-clause-there : goal.returns-else-due_at-clause-there
returns-else-due_at-clause-there g c =
    let item = g.T.HasItem.item_of in
    let i = c.self.inside in
    let known : Knows g.row.N (dates_at item i.lists.lists) (Tracked c.in-Tracked.dates) =
    rw c.in-Tracked.is at c.self.invariant in
    let apart = c.front.ensures.apart in
    let lt : c.args.list < length i.lists.lists = omega (arith, apart.count, c.requires) in
    let due : FirstDue item c.args.now (first_by c.args.now (dates_at item i.lists.lists c.args.list))
    (list_at i.lists.lists c.args.list) =
    first-due item c.args.now (list_at i.lists.lists c.args.list) (apart.within c.args.list lt) in
    let less : c.args.list < c.in-Tracked.dates.lists = omega arith in
    rw (← c.self.view_is, c.first.ensures, known.same c.args.list less)
    (due-there item g.row.N i.lists.lists apart c.args.now c.args.list
    (first_by c.args.now (dates_at item i.lists.lists c.args.list)) c.requires due)

pub returns-else-due_at-clause-first : goal.returns-else-due_at-clause-first
returns-else-due_at-clause-first g c =
    let item = g.T.HasItem.item_of in
    let i = c.self.inside in
    let known : Knows g.row.N (dates_at item i.lists.lists) (Tracked c.in-Tracked.dates) =
    rw c.in-Tracked.is at c.self.invariant in
    let apart = c.front.ensures.apart in
    let lt : c.args.list < length i.lists.lists = omega (arith, apart.count, c.requires) in
    let due : FirstDue item c.args.now (first_by c.args.now (dates_at item i.lists.lists c.args.list))
    (list_at i.lists.lists c.args.list) =
    first-due item c.args.now (list_at i.lists.lists c.args.list) (apart.within c.args.list lt) in
    let less : c.args.list < c.in-Tracked.dates.lists = omega arith in
    rw (← c.self.view_is, c.first.ensures, known.same c.args.list less)
    (due-first item g.row.N i.lists.lists apart c.args.now c.args.list
    (first_by c.args.now (dates_at item i.lists.lists c.args.list)) c.requires due)

pub returns-then-are_behind-clause-first : goal.returns-then-are_behind-clause-first
returns-then-are_behind-clause-first g c =
    let item = g.T.HasItem.item_of in
    let i = c.self.inside in
    let known : Knows g.row.N (dates_at item i.lists.lists) (Tracked c.in-Tracked.dates) =
    rw c.in-Tracked.is at c.self.invariant in
    let apart = c.front.ensures.apart in
    let lt : c.args.list < length i.lists.lists = omega (arith, apart.count, c.requires) in
    let none : first_by c.args.now (dates_at item i.lists.lists c.args.list) ≡ None =
    rw (← known.same c.args.list (omega arith)) (c.are_behind.ensures (search rules)) in
    let due : FirstDue item c.args.now (first_by c.args.now (dates_at item i.lists.lists c.args.list))
    (list_at i.lists.lists c.args.list) =
    first-due item c.args.now (list_at i.lists.lists c.args.list) (apart.within c.args.list lt) in
    rw (← c.self.view_is)
    (ap (λ o. option_and_then (λ p. option_map item (find p i.lists.lists)) o) (sym none)
    ∙ due-first item g.row.N i.lists.lists apart c.args.now c.args.list
    (first_by c.args.now (dates_at item i.lists.lists c.args.list)) c.requires due)

pub returns-then-due_at-clause-first : goal.returns-then-due_at-clause-first
returns-then-due_at-clause-first g c =
    let item : g.row.T.Denot → Item = g.T.HasItem.item_of in
    let i = c.self.inside in
    let apart = c.front.ensures.apart in
    let lt : c.args.list < length i.lists.lists = omega (arith, apart.count, c.requires) in
    let due : Item → Bool = is_due c.args.now in
    let all = list_at i.lists.lists c.args.list in
    let is : due (item c.get.result.now) ≡ true =
    ap due (sym c.item.ensures) ∙ (sym c.due_at.ensures ∙ c.if-due_at.true) in
    let front = c.in_ok-front-in-Tracked.front in
    let seen : Seen due item all (Some front) = rw c.in_ok-front-in-Tracked.ensures.place (seen-start due item all) in
    let stop = seen-stop due item all (apart.within c.args.list lt) front seen in
    let found = find-at g.row.N i.lists.lists c.args.list front stop.value apart lt stop.found in
    rw (← c.self.view_is, c.get.ensures.value)
    (sym (seen-due due item all (apart.within c.args.list lt) front seen c.get.result.now
    (stop.found ∙ (sym found ∙ c.get.ensures.value)) is))
