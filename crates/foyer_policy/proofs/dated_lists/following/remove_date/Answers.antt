use Rattle.std.proofs.Common.{◌≡◌, Some, None, ap, sym, ◌∙◌}
use Rattle.foyer_policy.specs.DatedLists.{dates_at}
use Rattle.foyer_policy.proofs.DatedLists.Changes.{CanRemove-found, Knows-same, dropped-dates, dropped-none, not_some}
use Rattle.foyer_policy.proofs.dated_lists.following.remove_date.Goals as goal

pub remove-requires : goal.remove-requires
remove-requires g c =
    let item = g.T.HasItem.item_of in
    let is : (item c.get.result.now).expires ≡ Some c.in-Some.date =
    ap (λ i. i.expires) (sym c.item.ensures) ∙ c.in-Some.is in
    CanRemove-found item g.row.N c.args.lists.now.lists c.get.ensures.apart c.args.place c.get.result.now
    c.get.ensures.value c.in-Some.date c.going-list.result.0 c.args.dates.now c.requires.known is
    c.going-list.ensures.within c.going-list.ensures.stands

pub returns-in-Some : goal.returns-in-Some
returns-in-Some g c =
    let item = g.T.HasItem.item_of in
    let ls = c.args.lists.now.lists in
    Knows-same g.row.N _ _ c.remove.new.self
    (λ k lt. dropped-dates item g.row.N ls c.get.ensures.apart c.args.place k lt)
    (c.remove.ensures g.row.N (dates_at item ls) c.requires.known)

pub returns-in_default : goal.returns-in_default
returns-in_default g c =
    let item = g.T.HasItem.item_of in
    let ls = c.args.lists.now.lists in
    let is : (item c.get.result.now).expires ≡ None =
    ap (λ i. i.expires) (sym c.item.ensures) ∙ not_some c.item.result.expires c.in_default.not-Some in
    Knows-same g.row.N _ _ c.args.dates.now
    (λ k lt. dropped-none item g.row.N ls c.get.ensures.apart c.args.place c.get.result.now c.get.ensures.value is k lt)
    c.requires.known
