use Rattle.std.proofs.Common.{arith, length-drop, take-add}
use Rattle.std.proofs.KnownBytes.{Appends-trans, Appends-kept}
use Rattle.std.proofs.lemmas.List.{take_rest}
use Rattle.foyer_session.proofs.text.print.write_out.Goals as goal
use Rattle.foyer_session.proofs.text.print.write_out.Goals.{in-Ok, in-Err+else-ne}

pub loop-turn-preserved : goal.loop-turn-preserved
loop-turn-preserved g c =
    let text = c.args.text.now in
    let at = c.loop-turn.at in
    let so_far = c.loop-turn.invariant in
    elim c.match-write.branch [
      | in-Ok w ↦
          let e = rw (take_rest text at) at w.in-Ok.ensures in
          rw w.at-is record {
            within = omega (arith, e.bound, length-drop at text, so_far.within);
            written = rw (take-add at w.in-Ok.n text)
                (Appends-trans (g.W.Write.contents c.args.writer.now) (g.W.Write.contents c.loop-turn.writer)
                (g.W.Write.contents c.write.new.self) _ _ so_far.written e.bytes);
          }
      | in-Err+else-ne w ↦ rw w.at-is record {
        within = so_far.within;
        written = Appends-kept (g.W.Write.contents c.args.writer.now) (g.W.Write.contents c.loop-turn.writer)
            (g.W.Write.contents c.write.new.self) _ so_far.written w.in-Err.ensures.bytes;
      }
    ]
