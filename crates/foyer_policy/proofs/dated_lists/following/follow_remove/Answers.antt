use Rattle.foyer_policy.specs.DatedLists.{Knows, dates_at}
use Rattle.foyer_policy.specs.declared.dated_lists.tracking.Tracking.TheVariants.{Plain}
use Rattle.foyer_policy.proofs.DatedLists.Changes.{dropped-plain}
use Rattle.foyer_policy.proofs.dated_lists.following.follow_remove.Goals as goal

pub returns-in-Plain : goal.returns-in-Plain
returns-in-Plain g c =
    let item = g.T.HasItem.item_of in
    let ls = c.args.lists.now.lists in
    let known : Knows g.row.N (dates_at item ls) Plain = rw c.in-Plain.is at c.requires.known in
    rw c.in-Plain.is (dropped-plain item g.row.N ls known c.args.place)
