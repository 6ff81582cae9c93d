use Rattle.std.proofs.Common.{Some, arith, refl}
use Rattle.std.proofs.lemmas.Option.{slice_get_within}
use Rattle.foyer_policy.proofs.DatesFirst.{stands}
use Rattle.foyer_policy.proofs.dates.slots.search.Goals as goal

pub unreachable-requires : goal.unreachable-requires
unreachable-requires c =
    let slots = c.args.row.now.slots in
    let p = c.args.place in
    let w = stands p slots c.requires in
    c.loop-index.invariant w.0 (p, w.1.date) w.1.is
    (omega (arith, slice_get_within slots w.0 (Some (p, w.1.date)) w.1.is, c.len-index-end.ensures, c.loop-index-test.false))
    refl
