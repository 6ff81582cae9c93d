use Rattle.std.proofs.Common.{subst}
use Rattle.std.proofs.KnownBytes.{Keeps-refl, Keeps-trans}
use Rattle.foyer_session.specs.Reading.{TakesPart}
use Rattle.foyer_session.proofs.ReadLemmas.{so_far-none, so_far-kept, so_far-more, line-closed, line-ended, IsLine-same}
use Rattle.foyer_session.proofs.text.scan.Lines.read_by_parts.Goals as goal
use Rattle.foyer_session.proofs.text.scan.Lines.read_by_parts.Goals.{in-Nothing, in-Open}

pub returns-in-Closed-clause-line : goal.returns-in-Closed-clause-line
returns-in-Closed-clause-line g c =
    let (text, whole, consumes, stands) = subst (TakesPart _ _ _ _) c.in-Closed.is c.in-Ok.ensures.taken in
    IsLine-same (g.R.Read.remaining c.args.reader.now) c.line.ensures
    (line-closed _ _ _ _ _ _ text c.loop-turn.invariant.so_far whole consumes stands).line

pub returns-in-Closed-clause-rest : goal.returns-in-Closed-clause-rest
returns-in-Closed-clause-rest g c =
    let (text, whole, consumes, stands) = subst (TakesPart _ _ _ _) c.in-Closed.is c.in-Ok.ensures.taken in
    (line-closed _ _ _ _ _ _ text c.loop-turn.invariant.so_far whole consumes stands).rest

pub returns-in-End-clause-line : goal.returns-in-End-clause-line
returns-in-End-clause-line g c =
    let (end, keeps, same) = subst (TakesPart _ _ _ _) c.in-End.is c.in-Ok.ensures.taken in
    IsLine-same (g.R.Read.remaining c.args.reader.now) c.line-in-End.ensures
    (line-ended _ _ _ _ _ _ c.loop-turn.invariant.so_far c.if-is_started.true end keeps same).line

pub returns-in-End-clause-rest : goal.returns-in-End-clause-rest
returns-in-End-clause-rest g c =
    let (end, keeps, same) = subst (TakesPart _ _ _ _) c.in-End.is c.in-Ok.ensures.taken in
    (line-ended _ _ _ _ _ _ c.loop-turn.invariant.so_far c.if-is_started.true end keeps same).rest

pub loop-turn-init : goal.loop-turn-init
loop-turn-init g c =
    record {
      so_far = rw c.new-kept.ensures (so_far-none (g.R.Read.remaining c.args.reader.now));
      written =
          Keeps-refl (g.W.Write.contents c.args.writer.now);
    }

pub returns-in-Closed-clause-written : goal.returns-in-Closed-clause-written
returns-in-Closed-clause-written g c =
    Keeps-trans (g.W.Write.contents c.args.writer.now) (g.W.Write.contents c.loop-turn.writer)
    (g.W.Write.contents c.read_part.new.writer) c.loop-turn.invariant.written c.read_part.ensures.written

pub returns-in-End-clause-written : goal.returns-in-End-clause-written
returns-in-End-clause-written g c =
    Keeps-trans (g.W.Write.contents c.args.writer.now) (g.W.Write.contents c.loop-turn.writer)
    (g.W.Write.contents c.read_part.new.writer) c.loop-turn.invariant.written c.read_part.ensures.written

pub loop-turn-preserved : goal.loop-turn-preserved
loop-turn-preserved g c =
    let written = Keeps-trans (g.W.Write.contents c.args.writer.now) (g.W.Write.contents c.loop-turn.writer)
    (g.W.Write.contents c.read_part.new.writer) c.loop-turn.invariant.written c.read_part.ensures.written in
    elim c.match-part.branch [
      | in-Nothing w ↦
          let (keeps, same) = subst (TakesPart _ _ _ _) w.in-Nothing.is c.in-Ok.ensures.taken in
          rw w.is_started-is
          record { so_far = so_far-kept _ _ _ _ _ _ c.loop-turn.invariant.so_far keeps same; written = written }
      | in-Open w ↦
          let (text, more, whole, consumes, stands) = subst (TakesPart _ _ _ _) w.in-Open.is c.in-Ok.ensures.taken in
          rw w.is_started-is
          record {
            so_far = so_far-more _ _ _ _ _ _ text c.loop-turn.invariant.so_far more whole consumes stands;
            written = written;
          }
    ]
