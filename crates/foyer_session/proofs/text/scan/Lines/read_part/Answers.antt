use Rattle.std.proofs.Common.{◌<◌, ◌+◌, take, length, length-take-le, subst, arith}
use Rattle.std.specs.Io.KnownBytes.{Consumes}
use Rattle.std.specs.Io.BufRead.{FillKeeps}
use Rattle.std.proofs.BufReadLemmas.{Consumes_shown}
use Rattle.foyer_session.proofs.ReadLemmas.{take_closed}
use Rattle.foyer_session.proofs.WordLemmas.{some_from_test}
use Rattle.foyer_session.proofs.text.scan.Lines.read_part.Goals as goal

pub returns-then-end-len-clause-taken : goal.returns-then-end-len-clause-taken
returns-then-end-len-clause-taken g c =
    let chunk = c.in-Ok.chunk.now in
    let end = c.len_before-end in
    let rested = c.fill_buf.follows.lender-at-none in
    let filled = subst (FillKeeps _ (g.R.Read.remaining rested) (g.R.BufRead.consumable_len rested)) c.in-Ok.is
    c.fill_buf.follows.holds-at-none in
    let moved = Consumes_shown _ _ _ _ chunk end.result end.ensures.within c.in-Ok.ensures.front c.in-Ok.ensures.end
    filled.0 filled.1 c.consume.ensures.bytes in
    let some = some_from_test chunk c.is_empty.result c.is_empty.ensures c.if-is_empty.false in (
      take end.result chunk,
      omega (arith, length-take-le end.result chunk end.ensures.within, c.if-end-len.true),
      end.ensures.before,
      moved.0,
      c.push_all.ensures,
    )

pub returns-clause-taken : goal.returns-clause-taken
returns-clause-taken g c =
    let chunk = c.in-Ok.chunk.now in
    let end = c.len_before-end in
    let rested = c.fill_buf.follows.lender-at-none in
    let filled = subst (FillKeeps _ (g.R.Read.remaining rested) (g.R.BufRead.consumable_len rested)) c.in-Ok.is
    c.fill_buf.follows.holds-at-none in
    let inside : end.result < length chunk = omega (arith, end.ensures.within, c.if-end-len.false) in
    let moved = Consumes_shown _ _ _ _ chunk (end.result + 1) (omega arith) c.in-Ok.ensures.front c.in-Ok.ensures.end
    filled.0 filled.1 c.consume-2.ensures.bytes in (
      take end.result chunk,
      end.ensures.before,
      subst (Consumes _ _) (take_closed chunk end.result inside (end.ensures.end inside)) moved.0,
      c.push_all.ensures,
    )
