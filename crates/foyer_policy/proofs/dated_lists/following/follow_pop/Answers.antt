use Rattle.std.proofs.Common.{◌<◌, length, arith}
use Rattle.foyer_policy.specs.DatedLists.{Knows, dates_at}
use Rattle.foyer_policy.specs.declared.dated_lists.tracking.Tracking.TheVariants.{Plain}
use Rattle.foyer_policy.proofs.DatedLists.Changes.{popped-plain}
use Rattle.foyer_policy.proofs.dated_lists.following.follow_pop.Goals as goal

pub returns-in-Plain : goal.returns-in-Plain
returns-in-Plain g c =
    let item = g.T.HasItem.item_of in
    let ls = c.args.lists.now.lists in
    let lt : c.args.list < length ls = omega (arith, c.count.ensures.apart.count, c.requires.list) in
    let known : Knows g.row.N (dates_at item ls) Plain = rw c.in-Plain.is at c.requires.known in
    rw c.in-Plain.is (λ k less. popped-plain item g.row.N ls known c.args.list k lt less)
