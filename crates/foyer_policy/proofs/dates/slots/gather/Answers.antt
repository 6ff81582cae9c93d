use Rattle.std.proofs.Common.{None, refl, ◌∙◌, arith, length-set}
use Rattle.std.proofs.lemmas.Option.{slice_get_within}
use Rattle.foyer_policy.proofs.DatesGathered.{AreGathered-init, passed, moved_on, all_moved}
use Rattle.foyer_policy.proofs.dates.slots.gather.Goals as goal
use Rattle.foyer_policy.proofs.dates.slots.gather.Goals.{in-Some, in_default}

pub loop-from-init : goal.loop-from-init
loop-from-init g c = record {
  gathered = AreGathered-init c.args.row.now.slots c.requires;
  long = refl;
  capacity = refl;
  lists = refl;
}

pub set-requires-clause-within : goal.set-requires-clause-within
set-requires-clause-within g c =
    let slots = c.loop-from.row.slots in
    rw c.empty.ensures.slots (omega (
      arith,
      length-set slots c.loop-from.from None,
      c.loop-from.invariant.gathered.behind,
      slice_get_within slots c.loop-from.from _ c.get.ensures.is,
    ))

pub loop-from-preserved : goal.loop-from-preserved
loop-from-preserved g c =
    let row = c.loop-from.row in
    let from = c.loop-from.from in
    let i = c.loop-from.invariant in
    elim c.match-get.branch [
      | in-Some w ↦
          rw (w.row-is, w.lists-is, w.to-is)
          (record {
            gathered = rw (w.set.ensures.slots, w.empty.ensures.slots)
                (moved_on c.args.row.now.slots row.slots c.loop-from.to from i.gathered _ w.in-Some.ensures.is);
            long = rw (w.set.ensures.slots, w.empty.ensures.slots)
                (length-set _ _ _ ∙ length-set row.slots from None ∙ i.long);
            capacity = w.set.ensures.capacity ∙ w.empty.ensures.capacity ∙ i.capacity;
            lists = w.note_slot.ensures ∙ i.lists;
          })
      | in_default w ↦ rw (w.row-is, w.lists-is, w.to-is)
          (record {
            gathered = passed c.args.row.now.slots row.slots c.loop-from.to from i.gathered w.in_default.ensures.is;
            long = i.long;
            capacity = i.capacity;
            lists = i.lists;
          })
    ]

pub returns-clause-rest : goal.returns-clause-rest
returns-clause-rest g c = λ j e is.
    let i = c.loop-from.invariant in
    all_moved c.args.row.now.slots c.loop-from.row.slots c.loop-from.to c.loop-from.from i.gathered
    (omega (arith, i.long, c.len-from-end.ensures, c.loop-from-test.false)) j e is
