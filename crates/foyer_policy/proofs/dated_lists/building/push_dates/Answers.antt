use Rattle.std.proofs.Common.{◌≡◌, ◌<◌, Some, None, length, rules, arith, ap, sym, ◌∙◌, IsSome}
use Rattle.foyer_policy.specs.Lists.{list_at}
use Rattle.foyer_policy.proofs.DatedLists.Changes.{not_some}
use Rattle.foyer_policy.proofs.DatedLists.Walk.{met-left}
use Rattle.foyer_policy.proofs.DatedLists.Collects.{Collects, collects-date, collects-found, collects-free, collects-none}
use Rattle.foyer_policy.proofs.ListsLemmas.{find-at}
use Rattle.foyer_policy.proofs.dated_lists.building.push_dates.Goals as goal
use Rattle.foyer_policy.proofs.dated_lists.building.push_dates.Goals.{in-Some-expires+in-Some-push, in_default-expires}

pub get-requires : goal.get-requires
get-requires g c =
    let item = g.T.HasItem.item_of in
    let ls = c.args.lists.now.lists in
    let apart = c.front-next.ensures.apart in
    let lt : c.args.list < length ls = omega (arith, apart.count, c.requires.list, c.requires.within) in
    let w : Collects item c.args.dates.now.lists ls c.args.list (Some c.in-Some.place) c.loop-next.dates =
    rw (← c.in-Some.is) c.loop-next.invariant.collects in
    let at = collects-found item c.args.dates.now.lists ls c.args.list g.row.N apart
    c.requires.within c.requires.list c.in-Some.place c.loop-next.dates w in
    rw (c.loop-next.invariant.lists, find-at g.row.N ls c.args.list c.in-Some.place at.0 apart lt at.1) (search rules)

pub push-requires : goal.push-requires
push-requires g c =
    let item = g.T.HasItem.item_of in
    let ls = c.args.lists.now.lists in
    let w : Collects item c.args.dates.now.lists ls c.args.list (Some c.in-Some.place) c.loop-next.dates =
    rw (← c.in-Some.is) c.loop-next.invariant.collects in (
      search rules,
      collects-free item c.args.dates.now.lists ls c.args.list g.row.N c.front-next.ensures.apart
          c.requires.within c.requires.list c.in-Some.place c.loop-next.dates w,
    )

pub loop-next-smaller : goal.loop-next-smaller
loop-next-smaller g c =
    let item = g.T.HasItem.item_of in
    let ls = c.args.lists.now.lists in
    let apart = c.front-next.ensures.apart in
    let lt : c.args.list < length ls = omega (arith, apart.count, c.requires.list, c.requires.within) in
    let w : Collects item c.args.dates.now.lists ls c.args.list (Some c.in-Some.place) c.loop-next.dates =
    rw (← c.in-Some.is) c.loop-next.invariant.collects in
    let same : c.match-item.lists ≡ c.args.lists.now = elim c.match-item.branch [
      | in-Some-expires+in-Some-push b ↦
          b.lists-is ∙ (b.note_slot.ensures ∙ (b.push.ensures.lists ∙ c.loop-next.invariant.lists))
      | in_default-expires b ↦ b.lists-is ∙ c.loop-next.invariant.lists
    ] in
    let after = rw same at c.next-next.ensures.place in
    let less = met-left item (list_at ls c.args.list) (apart.within c.args.list lt) c.in-Some.place _ w.met
    c.next-next.result (λ xs ys v h. after c.args.list xs ys v h) in
    rw c.in-Some.is (omega (arith, less))

pub loop-next-preserved : goal.loop-next-preserved
loop-next-preserved g c =
    let item = g.T.HasItem.item_of in
    let ls = c.args.lists.now.lists in
    let apart = c.front-next.ensures.apart in
    let lt : c.args.list < length ls = omega (arith, apart.count, c.requires.list, c.requires.within) in
    let w : Collects item c.args.dates.now.lists ls c.args.list (Some c.in-Some.place) c.loop-next.dates =
    rw (← c.in-Some.is) c.loop-next.invariant.collects in
    let at = collects-found item c.args.dates.now.lists ls c.args.list g.row.N apart
    c.requires.within c.requires.list c.in-Some.place c.loop-next.dates w in
    let v = c.get.result.now in
    let same : c.match-item.lists ≡ c.args.lists.now = elim c.match-item.branch [
      | in-Some-expires+in-Some-push b ↦
          b.lists-is ∙ (b.note_slot.ensures ∙ (b.push.ensures.lists ∙ c.loop-next.invariant.lists))
      | in_default-expires b ↦ b.lists-is ∙ c.loop-next.invariant.lists
    ] in
    let after = rw same at c.next-next.ensures.place in
    let got = rw c.loop-next.invariant.lists at c.get.ensures.value in
    let found = at.1 ∙ (sym (find-at g.row.N ls c.args.list c.in-Some.place at.0 apart lt at.1) ∙ got) in
    record {
      collects = elim c.match-item.branch [
        | in-Some-expires+in-Some-push b ↦
            let is : (item v).expires ≡ Some b.in-Some-expires.date =
            ap (λ i. i.expires) (sym c.item.ensures) ∙ b.in-Some-expires.is in
            let kept : IsSome b.push.result = rw b.in-Some-push.is (search rules) in
            rw b.dates-is
            (collects-date item c.args.dates.now.lists ls c.args.list g.row.N apart
            c.requires.within c.requires.list c.in-Some.place c.loop-next.dates w v
            c.next-next.result found (λ xs ys u h. after c.args.list xs ys u h)
            b.in-Some-expires.date is b.push.new.self b.push.ensures.count
            (b.push.ensures.pushed kept))
        | in_default-expires b ↦
            let is : (item v).expires ≡ None =
            ap (λ i. i.expires) (sym c.item.ensures) ∙ not_some c.item.result.expires b.in_default-expires.not-Some in
            rw b.dates-is
            (collects-none item c.args.dates.now.lists ls c.args.list g.row.N apart
            c.requires.within c.requires.list c.in-Some.place c.loop-next.dates w v
            c.next-next.result found (λ xs ys u h. after c.args.list xs ys u h) is)
      ];
      lists = same;
    }
