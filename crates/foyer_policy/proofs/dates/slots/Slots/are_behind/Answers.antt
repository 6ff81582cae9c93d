use Rattle.std.proofs.Common.{◌<◌, arith}
use Rattle.std.proofs.lemmas.Bool.Decides.{nat_tests}
use Rattle.foyer_policy.proofs.DatesFirst.{first_by-none, late_slots}
use Rattle.foyer_policy.proofs.dates.slots.Slots.are_behind.Goals as goal

pub returns : goal.returns
returns c = λ behind.
    let s = c.self.inside in
    let d = c.self.invariant in
    let late : c.args.now < c.least.result = grind (arith, nat_tests) in
    rw (← c.self.view_is)
    (first_by-none c.args.now s.row.slots
    (late_slots c.args.now s.limit s.row.slots s.tree d.above d.leaves d.within
    (λ b within. omega (arith, late, c.least.ensures.below b within))))
