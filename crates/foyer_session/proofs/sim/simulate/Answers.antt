use Rattle.std.specs.Hash.{u64 as u64_input}
use Rattle.foyer_session.specs.Sessions.{session_of, meaning_of_session}
use Rattle.foyer_session.specs.Simulated.{LineTold}
use Rattle.foyer_session.proofs.Joins.{SoFar-none, SoFar-more, SoFar-ends, SoFar-stops, SoFar-breaks, OnErr-always, SoFar-at-end, SoFar-flushed}
use Rattle.foyer_session.proofs.sim.simulate.Goals as goal

pub loop-turn-init : goal.loop-turn-init
loop-turn-init g c =
    let answers = LineTold (meaning_of_session c.args.session.now)
    (λ builder key. g.S.HashBuilder.hash_of builder (u64_input key)) in
    SoFar-none answers (record { now = 0; session = session_of c.args.session.now }) (g.R.Read.remaining c.args.reader.now)
    (g.W.Write.contents c.args.writer.now)

pub returns-in_err-line-clause-part : goal.returns-in_err-line-clause-part
returns-in_err-line-clause-part g c =
    let answers = LineTold (meaning_of_session c.args.session.now)
    (λ builder key. g.S.HashBuilder.hash_of builder (u64_input key)) in
    let so_far = SoFar-flushed answers (record { now = 0; session = session_of c.args.session.now })
    (record { now = c.loop-turn.moment; session = session_of c.loop-turn.session })
    (g.R.Read.remaining c.args.reader.now) (g.R.Read.remaining c.loop-turn.reader)
    (g.W.Write.contents c.args.writer.now) (g.W.Write.contents c.loop-turn.writer)
    (g.W.Write.contents c.read.new.writer) c.loop-turn.invariant c.read.ensures.written in
    OnErr-always c.from_residual.result (
      c.loop-turn.moment,
      SoFar-stops answers (record { now = 0; session = session_of c.args.session.now })
          (record { now = c.loop-turn.moment; session = session_of c.loop-turn.session })
          (g.R.Read.remaining c.args.reader.now) (g.R.Read.remaining c.loop-turn.reader)
          (g.W.Write.contents c.args.writer.now) (g.W.Write.contents c.read.new.writer) so_far,
    )

pub returns-in_default-clause-all : goal.returns-in_default-clause-all
returns-in_default-clause-all g c =
    let answers = LineTold (meaning_of_session c.args.session.now)
    (λ builder key. g.S.HashBuilder.hash_of builder (u64_input key)) in
    let so_far = SoFar-flushed answers (record { now = 0; session = session_of c.args.session.now })
    (record { now = c.loop-turn.moment; session = session_of c.loop-turn.session })
    (g.R.Read.remaining c.args.reader.now) (g.R.Read.remaining c.loop-turn.reader)
    (g.W.Write.contents c.args.writer.now) (g.W.Write.contents c.loop-turn.writer)
    (g.W.Write.contents c.read.new.writer) c.loop-turn.invariant c.read.ensures.written in (
      c.loop-turn.moment,
      SoFar-ends answers (record { now = 0; session = session_of c.args.session.now })
          (record { now = c.loop-turn.moment; session = session_of c.loop-turn.session })
          (g.R.Read.remaining c.args.reader.now) (g.R.Read.remaining c.loop-turn.reader)
          (g.W.Write.contents c.args.writer.now) (g.W.Write.contents c.read.new.writer) so_far
          (rw c.in_default.is at c.in_ok-line.ensures.line),
    )

pub returns-in_default-clause-at_end : goal.returns-in_default-clause-at_end
returns-in_default-clause-at_end g c =
    let answers = LineTold (meaning_of_session c.args.session.now)
    (λ builder key. g.S.HashBuilder.hash_of builder (u64_input key)) in
    let so_far = SoFar-flushed answers (record { now = 0; session = session_of c.args.session.now })
    (record { now = c.loop-turn.moment; session = session_of c.loop-turn.session })
    (g.R.Read.remaining c.args.reader.now) (g.R.Read.remaining c.loop-turn.reader)
    (g.W.Write.contents c.args.writer.now) (g.W.Write.contents c.loop-turn.writer)
    (g.W.Write.contents c.read.new.writer) c.loop-turn.invariant c.read.ensures.written in
    SoFar-at-end answers (record { now = 0; session = session_of c.args.session.now })
    (record { now = c.loop-turn.moment; session = session_of c.loop-turn.session })
    (g.R.Read.remaining c.args.reader.now) (g.R.Read.remaining c.loop-turn.reader)
    (g.R.Read.remaining c.read.new.reader) (g.W.Write.contents c.args.writer.now)
    (g.W.Write.contents c.read.new.writer) so_far
    (rw c.in_default.is at c.in_ok-line.ensures.line) c.in_ok-line.ensures.rest

pub returns-in_err-tell-clause-part : goal.returns-in_err-tell-clause-part
returns-in_err-tell-clause-part g c =
    let answers = LineTold (meaning_of_session c.args.session.now)
    (λ builder key. g.S.HashBuilder.hash_of builder (u64_input key)) in
    let so_far = SoFar-flushed answers (record { now = 0; session = session_of c.args.session.now })
    (record { now = c.loop-turn.moment; session = session_of c.loop-turn.session })
    (g.R.Read.remaining c.args.reader.now) (g.R.Read.remaining c.loop-turn.reader)
    (g.W.Write.contents c.args.writer.now) (g.W.Write.contents c.loop-turn.writer)
    (g.W.Write.contents c.read.new.writer) c.loop-turn.invariant c.read.ensures.written in
    OnErr-always c.from_residual-in_err-tell.result (
      c.tell.new.now,
      SoFar-breaks answers (record { now = 0; session = session_of c.args.session.now })
          (record { now = c.loop-turn.moment; session = session_of c.loop-turn.session })
          (record { now = c.tell.new.now; session = session_of c.tell.new.session })
          (g.R.Read.remaining c.args.reader.now) (g.R.Read.remaining c.loop-turn.reader)
          (g.R.Read.remaining c.read.new.reader)
          (g.W.Write.contents c.args.writer.now) (g.W.Write.contents c.read.new.writer)
          (g.W.Write.contents c.tell.new.writer) c.in-Some.line c.in_err-tell.ensures.0
          so_far (rw c.in-Some.is at c.in_ok-line.ensures.line) c.in_ok-line.ensures.rest c.in_err-tell.ensures.1
          c.in_err-tell.ensures.2,
    )

pub loop-turn-preserved : goal.loop-turn-preserved
loop-turn-preserved g c =
    let answers = LineTold (meaning_of_session c.args.session.now)
    (λ builder key. g.S.HashBuilder.hash_of builder (u64_input key)) in
    let so_far = SoFar-flushed answers (record { now = 0; session = session_of c.args.session.now })
    (record { now = c.loop-turn.moment; session = session_of c.loop-turn.session })
    (g.R.Read.remaining c.args.reader.now) (g.R.Read.remaining c.loop-turn.reader)
    (g.W.Write.contents c.args.writer.now) (g.W.Write.contents c.loop-turn.writer)
    (g.W.Write.contents c.read.new.writer) c.loop-turn.invariant c.read.ensures.written in
    SoFar-more answers (record { now = 0; session = session_of c.args.session.now })
    (record { now = c.loop-turn.moment; session = session_of c.loop-turn.session })
    (record { now = c.tell.new.now; session = session_of c.tell.new.session })
    (g.R.Read.remaining c.args.reader.now) (g.R.Read.remaining c.loop-turn.reader)
    (g.R.Read.remaining c.read.new.reader)
    (g.W.Write.contents c.args.writer.now) (g.W.Write.contents c.read.new.writer)
    (g.W.Write.contents c.tell.new.writer) c.in-Some.line c.in_ok-tell.ensures.0
    so_far (rw c.in-Some.is at c.in_ok-line.ensures.line) c.in_ok-line.ensures.rest c.in_ok-tell.ensures.1
    c.in_ok-tell.ensures.2

pub returns-clause-part : goal.returns-clause-part
returns-clause-part g c =
    let answers = LineTold (meaning_of_session c.args.session.now)
    (λ builder key. g.S.HashBuilder.hash_of builder (u64_input key)) in (
      c.loop-turn.moment,
      SoFar-stops answers (record { now = 0; session = session_of c.args.session.now })
          (record { now = c.loop-turn.moment; session = session_of c.loop-turn.session })
          (g.R.Read.remaining c.args.reader.now) (g.R.Read.remaining c.loop-turn.reader)
          (g.W.Write.contents c.args.writer.now) (g.W.Write.contents c.loop-turn.writer) c.loop-turn.invariant,
    )
