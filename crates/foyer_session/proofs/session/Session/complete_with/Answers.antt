use Rattle.std.proofs.Math.Logic.{∥∥₁_elim, ∥∥₁_map}
use Rattle.std.proofs.Props.{props}
use Rattle.std.proofs.Common.{◌≡◌, ℕ, Some, length, refl, ap, arith}
use Rattle.foyer_core.specs.CoreFetches.{open_in}
use Rattle.foyer_core.specs.Core.{shard_of}
use Rattle.foyer_core.specs.Cores.{core_of, fetches_of, hashes_of}
use Rattle.foyer_core.specs.Inflight.{asked}
use Rattle.foyer_core.specs.State.{coming_in, at_moment}
use Rattle.foyer_core.specs.Waited.{ending_of}
use Rattle.foyer_session.specs.Sessions.{session_of, meaning_of_session}
use Rattle.foyer_session.proofs.CoreLemmas.{alike_at, kept_at, open_at}
use Rattle.foyer_session.proofs.EndOwns.{completed_owns}
use Rattle.foyer_session.proofs.EndTells.{asked_counted, ended_waiting, tells_end}
use Rattle.foyer_session.proofs.FoundLemmas.{next_unused}
use Rattle.foyer_session.proofs.session.Session.complete_with.Goals as goal

pub tell_ended-requires-clause-counted : goal.tell_ended-requires-clause-counted
tell_ended-requires-clause-counted g c =
    let s = c.args.self.now in
    let so = c.complete_in-ended.ensures.answering in
    let few = asked_counted g.K.PartialEq.eq (fetches_of s.core) (open_at s.core)
    (alike_at g.met.K.Eq.laws s.core)
    (hashes_of s.core c.args.key.now, c.args.key.now) c.args.fetch s.waiting _ refl s.waits in
    omega (arith, few, ap length so.waiters, c.complete_in-ended.result.answers.waiters.ok.0)

pub tell_ended-requires-clause-room : goal.tell_ended-requires-clause-room
tell_ended-requires-clause-room g c =
    let s = c.args.self.now in
    let so = c.complete_in-ended.ensures.answering in
    let few = asked_counted g.K.PartialEq.eq (fetches_of s.core) (open_at s.core)
    (alike_at g.met.K.Eq.laws s.core)
    (hashes_of s.core c.args.key.now, c.args.key.now) c.args.fetch s.waiting _ refl s.waits in
    omega (arith, few, ap length so.waiters, c.complete_in-ended.result.answers.waiters.ok.0, s.room)

pub tell_ended-requires-clause-each : goal.tell_ended-requires-clause-each
tell_ended-requires-clause-each g c =
    let so = c.complete_in-ended.ensures.answering in
    omega (arith, so.each, ap length so.waiters, c.complete_in-ended.result.answers.waiters.ok.0)

pub tell_ended-requires-clause-alike : goal.tell_ended-requires-clause-alike
tell_ended-requires-clause-alike g c = c.complete_in-ended.ensures.answering.alike

pub invariant_of-self-clause-owns : goal.invariant_of-self-clause-owns
invariant_of-self-clause-owns g c =
    let s = c.args.self.now in
    let m = at_moment c.args.now (meaning_of_session s) in
    let t = c.complete_in-ended.new.core in
    let k : ℕ × g.row.K.Denot = (hashes_of s.core c.args.key.now, c.args.key.now) in
    rw c.tell_ended.ensures.handles (∥∥₁_map s.owns (λ o.
    completed_owns m (core_of s.core) (fetches_of s.core) (core_of t) (fetches_of t) k
    (ending_of c.complete_in-ended.result) s.handles.items o
    (λ x there. s.core.whole.belong (shard_of (core_of s.core) k.0) x there)
    (λ x there. ∥∥₁_elim (kept_at s.core k.0 x there) (hlevel props) (λ kept. next_unused (meaning_of_session s) x kept))
    record {
      hash = hashes_of s.core;
      weighs = g.W.Weighter.weighs s.core.rules.weighter;
      admits = g.A.Filter.admits s.core.rules.filter;
      properties = λ p admitted. coming_in g.P.Properties.location_of g.P.Properties.with_phantom_of admitted p;
    }
    c.args.source c.args.target (asked (Some c.args.fetch) (open_in (fetches_of s.core) k))
    c.complete_in-ended.ensures.completed))

pub invariant_of-self-clause-waits : goal.invariant_of-self-clause-waits
invariant_of-self-clause-waits g c =
    let s = c.args.self.now in
    let so = c.complete_in-ended.ensures.answering in
    ended_waiting g.K.PartialEq.eq (fetches_of s.core) (open_at s.core)
    (alike_at g.met.K.Eq.laws s.core)
    (hashes_of s.core c.args.key.now, c.args.key.now) c.args.fetch s.waiting _ refl
    (fetches_of c.complete_in-ended.new.core) c.tell_ended.new.waiting so.closes
    (omega (
      arith,
      c.tell_ended.ensures.waiting,
      ap length so.waiters,
      c.complete_in-ended.result.answers.waiters.ok.0,
    )) s.waits

pub returns-clause-step : goal.returns-clause-step
returns-clause-step g c =
    let ended = ending_of c.complete_in-ended.result in
    let told = c.tell_ended.ensures in (
      ended,
      c.complete_in-ended.ensures.completed,
      tells_end (session_of c.args.self.now)
          record {
            core = core_of c.complete_in-ended.new.core;
            fetches = fetches_of c.complete_in-ended.new.core;
            handles = c.tell_ended.new.handles.items;
            pieces = c.args.self.now.pieces.items;
          } ended
          c.tell_ended.result.answer c.tell_ended.result.leaves told.answered told.lost
          c.complete_in-ended.ensures.answering.lost_is told.leaves told.handles refl,
    )
