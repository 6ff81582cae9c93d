use Rattle.std.proofs.Common.{◌<◌, length, subst, arith}
use Rattle.std.specs.Io.BufRead.{FillKeeps}
use Rattle.std.proofs.KnownBytes.{Keeps-trans}
use Rattle.foyer_session.proofs.ReadLemmas.{IsLine-same, line-whole, stops_later}
use Rattle.foyer_session.proofs.text.scan.Lines.read.Goals as goal

pub returns-then-eq-clause-err : goal.returns-then-eq-clause-err
returns-then-eq-clause-err g c = stops_later _ _ _ c.read_by_parts.result c.fill_buf.follows.holds-at-none.0
    c.read_by_parts.ensures.err

pub returns-clause-line : goal.returns-clause-line
returns-clause-line g c =
    let chunk = c.in-Ok.chunk.now in
    let end = c.len_before-end in
    let rested = c.fill_buf.follows.lender-at-none in
    let filled = subst (FillKeeps _ (g.R.Read.remaining rested) (g.R.BufRead.consumable_len rested)) c.in-Ok.is
    c.fill_buf.follows.holds-at-none in
    let inside : end.result < length chunk = omega (arith, end.ensures.within, c.if-end-chunk.false) in
    IsLine-same (g.R.Read.remaining c.args.reader.now) c.line_of-line.ensures
    (line-whole _ _ _ _ chunk end.result c.in-Ok.ensures.front c.in-Ok.ensures.end filled.0 filled.1
    end.ensures.before inside (end.ensures.end inside) c.consume.ensures.bytes).line

pub returns-clause-rest : goal.returns-clause-rest
returns-clause-rest g c =
    let chunk = c.in-Ok.chunk.now in
    let end = c.len_before-end in
    let rested = c.fill_buf.follows.lender-at-none in
    let filled = subst (FillKeeps _ (g.R.Read.remaining rested) (g.R.BufRead.consumable_len rested)) c.in-Ok.is
    c.fill_buf.follows.holds-at-none in
    let inside : end.result < length chunk = omega (arith, end.ensures.within, c.if-end-chunk.false) in
    (line-whole _ _ _ _ chunk end.result c.in-Ok.ensures.front c.in-Ok.ensures.end filled.0 filled.1
    end.ensures.before inside (end.ensures.end inside) c.consume.ensures.bytes).rest

pub returns-then-eq-clause-written : goal.returns-then-eq-clause-written
returns-then-eq-clause-written g c =
    Keeps-trans (g.W.Write.contents c.args.writer.now) (g.W.Write.contents c.hand_on.new.writer)
    (g.W.Write.contents c.read_by_parts.new.writer) c.hand_on.ensures.written c.read_by_parts.ensures.written

pub returns-then-end-chunk-clause-written : goal.returns-then-end-chunk-clause-written
returns-then-end-chunk-clause-written g c =
    Keeps-trans (g.W.Write.contents c.args.writer.now) (g.W.Write.contents c.hand_on.new.writer)
    (g.W.Write.contents c.read_by_parts-then-end-chunk.new.writer) c.hand_on.ensures.written
    c.read_by_parts-then-end-chunk.ensures.written
