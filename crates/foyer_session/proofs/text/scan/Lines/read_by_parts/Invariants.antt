-- What is kept stands for the bytes of the line that were read so far.
use Rattle.std.specs.Io.KnownBytes.{Keeps}
use Rattle.foyer_session.proofs.ReadLemmas.{ReadSoFar}
use Rattle.foyer_session.proofs.text.scan.Lines.read_by_parts.Given as goal

abbrev pub invariant-loop-turn : goal.invariant-loop-turn
invariant-loop-turn g l = record {
  so_far : ReadSoFar (g.R.Read.remaining l.fn.reader) (g.R.Read.remaining l.reader) l.kept l.is_started;
  written : Keeps (g.W.Write.contents l.fn.writer) (g.W.Write.contents l.writer);
}
