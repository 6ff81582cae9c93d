use Rattle.std.proofs.Common.{sym, subst, List, ℕ}
use Rattle.foyer_policy.specs.DatedLists.{Knows, dates_at}
use Rattle.foyer_policy.specs.Lists.{list_at}
use Rattle.foyer_policy.proofs.ListsLemmas.{pop-some}
use Rattle.foyer_policy.proofs.PlaceLemmas.{begins}
use Rattle.foyer_policy.proofs.dated_lists.following.pop_date.Goals as goal

pub returns-in-Some : goal.returns-in-Some
returns-in-Some g c =
    let item = g.T.HasItem.item_of in
    let ls = c.args.lists.now.lists in
    let first = begins c.in-Some.place (list_at ls c.args.list) (sym c.in-Some.ensures.place) in
    let popped = pop-some g.row.N ls c.front.ensures.apart c.args.list c.in-Some.place first.value first.back first.is in
    subst
    (λ (x : List (List (ℕ × g.row.T.Denot))). Knows g.row.N (dates_at item x) c.remove_date.new.dates)
    (sym popped) c.remove_date.ensures
