use Rattle.std.proofs.Common.{◌≡◌, ◌<◌, Some, None, length, arith, ap, sym, ◌∙◌}
use Rattle.foyer_policy.proofs.DatedLists.Changes.{Knows-same, not_some, pushed-date, pushed-none}
use Rattle.foyer_policy.proofs.dated_lists.following.follow_push.Goals as goal

pub returns-in-Some-clause-known : goal.returns-in-Some-clause-known
returns-in-Some-clause-known g c =
    let item = g.T.HasItem.item_of in
    let ls = c.args.lists.now.lists in
    let lt : c.args.list < length ls = omega (arith, c.count.ensures.apart.count, c.requires.list) in
    let is : (item c.args.value.now).expires ≡ Some c.in-Some.date =
    ap (λ i. i.expires) (sym c.item.ensures) ∙ c.in-Some.is in
    Knows-same g.row.N _ _ c.push_date-slot.new.dates
    (λ k less. pushed-date item ls c.args.list c.args.place c.in-Some.date c.args.value.now is lt k)
    c.push_date-slot.ensures.known

pub returns-in_default-clause-known : goal.returns-in_default-clause-known
returns-in_default-clause-known g c =
    let item = g.T.HasItem.item_of in
    let ls = c.args.lists.now.lists in
    let lt : c.args.list < length ls = omega (arith, c.count.ensures.apart.count, c.requires.list) in
    let is : (item c.args.value.now).expires ≡ None =
    ap (λ i. i.expires) (sym c.item.ensures) ∙ not_some c.item.result.expires c.in_default.not-Some in
    Knows-same g.row.N _ _ c.args.dates.now
    (λ k less. pushed-none item ls c.args.list c.args.place c.args.value.now is lt k) c.requires.known
