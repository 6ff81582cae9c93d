use Rattle.std.proofs.Common.{◌≡◌, arith, subst, take}
use Rattle.std.proofs.lemmas.List.{take_all}
use Rattle.foyer_trace.proofs.Columns.{columns_are}
use Rattle.foyer_trace.specs.declared.trace.Part.{Part}
use Rattle.foyer_trace.proofs.trace.Part.new.Goals as goal

pub returns : goal.returns
returns c =
    let records = c.args.records.now in
    let inv = c.loop-place.invariant in
    let all : take c.loop-place.place records ≡ records = take_all c.loop-place.place records (omega (arith, c.loop-place-test.false)) in
    let part : Part = record {
      keys = c.loop-place.keys;
      times = c.in_ok-of.field-0;
      sizes = c.in_ok-of-2.field-0;
      ttls = c.in_ok-of-3.field-0;
      operations = c.in_ok-operations_of.field-0;
    } in
    columns_are part records (rw all at inv.keys) (rw (inv.times, all) at c.in_ok-of.ensures)
    (rw (inv.sizes, all) at c.in_ok-of-2.ensures) (rw (inv.ttls, all) at c.in_ok-of-3.ensures) c.in_ok-operations_of.ensures
