use Rattle.std.proofs.Math.Logic.{∥∥₁_map}
use Rattle.std.proofs.Common.{length, refl, ap, arith}
use Rattle.foyer_core.specs.Cores.{core_of, fetches_of, hashes_of}
use Rattle.foyer_core.specs.Waited.{ending_of}
use Rattle.foyer_session.specs.Sessions.{session_of}
use Rattle.foyer_session.specs.Step.{entries_by}
use Rattle.foyer_session.proofs.CoreLemmas.{alike_at, open_at}
use Rattle.foyer_session.proofs.EndOwns.{same_owns}
use Rattle.foyer_session.proofs.EndTells.{asked_counted, ended_waiting, tells_end}
use Rattle.foyer_session.proofs.session.Session.end.Goals as goal

pub tell_ended-requires-clause-counted : goal.tell_ended-requires-clause-counted
tell_ended-requires-clause-counted g c =
    let s = c.args.self.now in
    let so = c.end_in-ended.ensures.answering in
    let few = asked_counted g.K.PartialEq.eq (fetches_of s.core) (open_at s.core)
    (alike_at g.met.K.Eq.laws s.core)
    (hashes_of s.core c.args.key.now, c.args.key.now) c.args.fetch s.waiting _ refl s.waits in
    omega (arith, few, ap length so.waiters, c.end_in-ended.result.answers.waiters.ok.0)

pub tell_ended-requires-clause-room : goal.tell_ended-requires-clause-room
tell_ended-requires-clause-room g c =
    let s = c.args.self.now in
    let so = c.end_in-ended.ensures.answering in
    let few = asked_counted g.K.PartialEq.eq (fetches_of s.core) (open_at s.core)
    (alike_at g.met.K.Eq.laws s.core)
    (hashes_of s.core c.args.key.now, c.args.key.now) c.args.fetch s.waiting _ refl s.waits in
    omega (arith, few, ap length so.waiters, c.end_in-ended.result.answers.waiters.ok.0, s.room)

pub tell_ended-requires-clause-each : goal.tell_ended-requires-clause-each
tell_ended-requires-clause-each g c =
    let so = c.end_in-ended.ensures.answering in
    omega (arith, so.each, ap length so.waiters, c.end_in-ended.result.answers.waiters.ok.0)

pub tell_ended-requires-clause-alike : goal.tell_ended-requires-clause-alike
tell_ended-requires-clause-alike g c = c.end_in-ended.ensures.answering.alike

pub invariant_of-self-clause-owns : goal.invariant_of-self-clause-owns
invariant_of-self-clause-owns g c =
    let s = c.args.self.now in
    rw c.tell_ended.ensures.handles (∥∥₁_map s.owns (λ o.
    same_owns (core_of s.core) (core_of c.end_in-ended.new.core) s.handles.items
    (entries_by (ending_of c.end_in-ended.result).outcome) c.end_in-ended.ensures.nothing
    c.end_in-ended.ensures.«core» o))

pub invariant_of-self-clause-waits : goal.invariant_of-self-clause-waits
invariant_of-self-clause-waits g c =
    let s = c.args.self.now in
    let so = c.end_in-ended.ensures.answering in
    ended_waiting g.K.PartialEq.eq (fetches_of s.core) (open_at s.core)
    (alike_at g.met.K.Eq.laws s.core)
    (hashes_of s.core c.args.key.now, c.args.key.now) c.args.fetch s.waiting _ refl
    (fetches_of c.end_in-ended.new.core) c.tell_ended.new.waiting so.closes
    (omega (arith, c.tell_ended.ensures.waiting, ap length so.waiters, c.end_in-ended.result.answers.waiters.ok.0))
    s.waits

pub returns-clause-step : goal.returns-clause-step
returns-clause-step g c =
    let ended = ending_of c.end_in-ended.result in
    let told = c.tell_ended.ensures in (
      ended,
      c.end_in-ended.ensures.ended,
      c.end_in-ended.ensures.«core»,
      tells_end (session_of c.args.self.now)
          record {
            core = core_of c.end_in-ended.new.core;
            fetches = fetches_of c.end_in-ended.new.core;
            handles =
                c.tell_ended.new.handles.items;
            pieces = c.args.self.now.pieces.items;
          } ended c.tell_ended.result.answer
          c.tell_ended.result.leaves told.answered told.lost c.end_in-ended.ensures.answering.lost_is
          told.leaves told.handles refl,
    )
