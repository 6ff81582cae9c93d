use Rattle.foyer_policy.specs.DatedLists.{Knows, dates_at}
use Rattle.foyer_policy.specs.declared.dated_lists.tracking.Tracking.TheVariants.{Plain}
use Rattle.foyer_policy.proofs.ListsLemmas.{is_in}
use Rattle.foyer_policy.proofs.DatedLists.Changes.{moved-plain}
use Rattle.foyer_policy.proofs.dated_lists.following.follow_move.Goals as goal

pub returns-in-Plain-clause-known : goal.returns-in-Plain-clause-known
returns-in-Plain-clause-known g c =
    let item = g.T.HasItem.item_of in
    let ls = c.args.lists.now.lists in
    let known : Knows g.row.N (dates_at item ls) Plain = rw c.in-Plain.is at c.requires.known in
    let v = is_in c.args.place ls c.requires.there in
    rw c.in-Plain.is
    (moved-plain item g.row.N ls c.args.place c.args.list v.value c.count.ensures.apart.count v.found c.requires.list known)
