use Rattle.std.proofs.Common.{◌≡◌, Some, None, rules, ap, sym, ◌∙◌}
use Rattle.foyer_policy.specs.DatedLists.{dates_at}
use Rattle.foyer_policy.specs.Lists.{drop_place}
use Rattle.foyer_policy.proofs.DatedLists.Changes.{CanPush-free, CanRemove-found, Knows-same, dropped-free, moved-date, moved-none, not_some}
use Rattle.foyer_policy.proofs.dated_lists.following.move_date.Goals as goal

pub remove-requires : goal.remove-requires
remove-requires g c =
    let item = g.T.HasItem.item_of in
    let is : (item c.get.result.now).expires ≡ Some c.in-Some.date =
    ap (λ i. i.expires) (sym c.item.ensures) ∙ c.in-Some.is in
    CanRemove-found item g.row.N c.args.lists.now.lists c.get.ensures.apart c.args.place c.get.result.now
    c.get.ensures.value c.in-Some.date c.going-from.result.0 c.args.dates.now c.requires.known is
    c.going-from.ensures.within c.going-from.ensures.stands

pub push-slot-requires : goal.push-slot-requires
push-slot-requires g c =
    let item = g.T.HasItem.item_of in
    let ls = c.args.lists.now.lists in
    let p = c.args.place in (
      search rules,
      CanPush-free g.row.N (λ k. drop_place p (dates_at item ls k)) p c.remove.new.self
          (c.remove.ensures g.row.N (dates_at item ls) c.requires.known)
          (λ k lt. dropped-free item g.row.N ls c.get.ensures.apart p k lt),
    )

pub returns-in-Some-clause-known : goal.returns-in-Some-clause-known
returns-in-Some-clause-known g c =
    let item = g.T.HasItem.item_of in
    let ls = c.args.lists.now.lists in
    let p = c.args.place in
    let is : (item c.get.result.now).expires ≡ Some c.in-Some.date =
    ap (λ i. i.expires) (sym c.item.ensures) ∙ c.in-Some.is in
    Knows-same g.row.N _ _ c.push-slot.new.self
    (λ k lt. moved-date item g.row.N ls c.get.ensures.apart p c.get.result.now c.get.ensures.value c.in-Some.date is
    c.args.list c.requires.list k lt)
    (c.push-slot.ensures.known g.row.N (λ k. drop_place p (dates_at item ls k)) c.requires.list
    (c.remove.ensures g.row.N (dates_at item ls) c.requires.known))

pub returns-in_default-clause-known : goal.returns-in_default-clause-known
returns-in_default-clause-known g c =
    let item = g.T.HasItem.item_of in
    let ls = c.args.lists.now.lists in
    let is : (item c.get.result.now).expires ≡ None =
    ap (λ i. i.expires) (sym c.item.ensures) ∙ not_some c.item.result.expires c.in_default.not-Some in
    Knows-same g.row.N _ _ c.args.dates.now
    (λ k lt. moved-none item g.row.N ls c.get.ensures.apart c.args.place c.get.result.now c.get.ensures.value is
    c.args.list c.requires.list k lt)
    c.requires.known
