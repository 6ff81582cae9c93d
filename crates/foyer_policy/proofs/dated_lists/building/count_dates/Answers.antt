use Rattle.std.proofs.Common.{◌≡◌, ◌<◌, Some, Bool, true, false, refl, length, rules, arith, ap, sym, ◌∙◌}
use Rattle.std.specs.Prelude.{is_some}
use Rattle.foyer_policy.specs.Lists.{list_at}
use Rattle.foyer_policy.proofs.DatedLists.Walk.{Counts, counts-on, met-left, met-stands}
use Rattle.foyer_policy.proofs.ListsLemmas.{find-at}
use Rattle.foyer_policy.proofs.dated_lists.building.count_dates.Goals as goal

pub get-requires : goal.get-requires
get-requires g c =
    let item = g.T.HasItem.item_of in
    let ls = c.args.lists.now.lists in
    let apart = c.front-next.ensures.apart in
    let lt : c.args.list < length ls = omega (arith, apart.count, c.requires) in
    let w : Counts item (list_at ls c.args.list) (Some c.in-Some.place) c.loop-next.count =
    rw (← c.in-Some.is) c.loop-next.invariant in
    let s = met-stands item (list_at ls c.args.list) (apart.within c.args.list lt) c.in-Some.place w.dates w.walk in
    rw (find-at g.row.N ls c.args.list c.in-Some.place s.value apart lt s.found) (search rules)

pub loop-next-smaller : goal.loop-next-smaller
loop-next-smaller g c =
    let item = g.T.HasItem.item_of in
    let ls = c.args.lists.now.lists in
    let apart = c.front-next.ensures.apart in
    let lt : c.args.list < length ls = omega (arith, apart.count, c.requires) in
    let w : Counts item (list_at ls c.args.list) (Some c.in-Some.place) c.loop-next.count =
    rw (← c.in-Some.is) c.loop-next.invariant in
    let less = met-left item (list_at ls c.args.list) (apart.within c.args.list lt) c.in-Some.place w.dates w.walk
    c.next-next.result (λ xs ys v h. c.next-next.ensures.place c.args.list xs ys v h) in
    rw c.in-Some.is (omega (arith, less))

pub loop-next-preserved : goal.loop-next-preserved
loop-next-preserved g c =
    let item = g.T.HasItem.item_of in
    let ls = c.args.lists.now.lists in
    let apart = c.front-next.ensures.apart in
    let lt : c.args.list < length ls = omega (arith, apart.count, c.requires) in
    let w : Counts item (list_at ls c.args.list) (Some c.in-Some.place) c.loop-next.count =
    rw (← c.in-Some.is) c.loop-next.invariant in
    let s = met-stands item (list_at ls c.args.list) (apart.within c.args.list lt) c.in-Some.place w.dates w.walk in
    let found = s.found
    ∙ (sym (find-at g.row.N ls c.args.list c.in-Some.place s.value apart lt s.found) ∙ c.get.ensures.value) in
    let has : is_some (item c.get.result.now).expires ≡ c.is_some-expires.result =
    ap (λ i. is_some i.expires) (sym c.item.ensures) ∙ sym c.is_some-expires.ensures in
    counts-on item (list_at ls c.args.list) (apart.within c.args.list lt) c.in-Some.place c.loop-next.count
    c.saturating_add-count.result w c.get.result.now c.next-next.result found
    (λ xs ys v h. c.next-next.ensures.place c.args.list xs ys v h)
    (λ h. (omega arith, has ∙ none c.is_some-expires.result refl h)) where
      none : (b : Bool) → c.is_some-expires.result ≡ b → c.saturating_add-count.result ≡ 0 → b ≡ false
      none false is h = refl
      none true is h =
          let one : c.from.result ≡ 1 = c.from.ensures ∙ (rw is refl) in
          absurd (omega (arith, c.saturating_add-count.ensures))
