use Rattle.std.proofs.Common.{Some, arith}
use Rattle.std.proofs.lemmas.Option.{slice_get_within}
use Rattle.foyer_policy.proofs.DatesFirst.{first_by-at}
use Rattle.foyer_policy.proofs.dates.slots.first_between.Goals as goal

pub returns-then-date-now-clause-some : goal.returns-then-date-now-clause-some
returns-then-date-now-clause-some c =
    first_by-at c.args.now c.args.start c.loop-index.index c.args.row.now.slots _ (omega arith) c.in-Some.ensures.is
    c.if-date-now.true c.loop-index.invariant

pub returns-clause-none : goal.returns-clause-none
returns-clause-none c = λ j e is low high. c.loop-index.invariant j e is low
    (omega (arith, slice_get_within c.args.row.now.slots j (Some e) is, c.min-index-end.ensures, c.len.ensures))
