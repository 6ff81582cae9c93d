use Rattle.std.proofs.Common.{ap, true, length, arith}
use Rattle.std.proofs.lemmas.List.{length-replicate, replicate_more}
use Rattle.foyer_core.specs.Values.{Held}
use Rattle.foyer_core.proofs.slot.Slot.entries.Goals as goal

pub push_reserved-requires : goal.push_reserved-requires
push_reserved-requires g c =
    let entry : Held g.row.K.Denot g.row.V.Denot g.row.P.Denot =
    record {
      number = c.args.number;
      id = c.args.self.now.id;
      kept = c.args.self.now.kept;
      source = c.args.source;
      left = true;
    } in
    omega (
      arith,
      c.loop-made.entries.ok,
      ap length c.loop-made.invariant.made,
      length-replicate c.loop-made._made entry,
      c.loop-made.invariant.room,
      c.loop-made-test.true,
    )

pub loop-made-preserved : goal.loop-made-preserved
loop-made-preserved g c =
    let entry : Held g.row.K.Denot g.row.V.Denot g.row.P.Denot =
    record {
      number = c.args.number;
      id = c.args.self.now.id;
      kept = c.args.self.now.kept;
      source = c.args.source;
      left = true;
    } in
    record {
      made = rw (c.push_reserved.ensures.items, c.in-Some.ensures, c.loop-made.invariant.made)
          (replicate_more c.loop-made._made entry);
      room = omega (arith, c.push_reserved.ensures.capacity, c.loop-made.invariant.room);
    }
