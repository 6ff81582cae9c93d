use Rattle.std.proofs.Common.{length-take, ap, ◌∙◌, arith}
use Rattle.foyer_policy.specs.DateSlots.{on_of}
use Rattle.foyer_policy.proofs.DatesLemmas.{on_of-take}
use Rattle.foyer_policy.proofs.DatesWritten.{AreApart-take}
use Rattle.foyer_policy.proofs.dates.slots.Slots.close_up.Goals as goal

pub refresh_all-requires-clause-leaves : goal.refresh_all-requires-clause-leaves
refresh_all-requires-clause-leaves g c =
    let i = c.self.invariant in
    omega (arith, c.len.ensures, i.within, i.leaves)

pub refresh_all-requires-clause-within : goal.refresh_all-requires-clause-within
refresh_all-requires-clause-within g c =
    let e = c.gather-taken.ensures in
    rw c.truncate.ensures.slots
    (omega (arith, length-take c.gather-taken.result c.gather-taken.new.row.slots, e.long, c.len.ensures))

pub invariant_of-self : goal.invariant_of-self
invariant_of-self g c =
    let i = c.self.invariant in
    let e = c.gather-taken.ensures in
    let n = c.gather-taken.result in
    let slots = c.gather-taken.new.row.slots in
    record {
      room = omega (arith, c.truncate.ensures.capacity, e.capacity, i.room);
      few = i.few;
      within = rw c.truncate.ensures.slots (omega (arith, length-take n slots, e.long, i.within));
      apart = rw c.truncate.ensures.slots (AreApart-take n slots e.apart);
      leaves = omega (arith, c.refresh_all.ensures.length, i.leaves);
      above = c.refresh_all.ensures.above;
    }

pub returns-clause-same : goal.returns-clause-same
returns-clause-same g c =
    let e = c.gather-taken.ensures in
    rw (← c.self.view_is)
    (ap on_of c.truncate.ensures.slots
    ∙ on_of-take c.gather-taken.result c.gather-taken.new.row.slots e.rest
    ∙ e.same)
