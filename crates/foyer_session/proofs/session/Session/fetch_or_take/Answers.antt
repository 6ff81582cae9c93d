use Rattle.std.proofs.Common.{◌≡◌, ◌∙◌, ℕ, Some, length, refl, ap, sym, arith}
use Rattle.foyer_core.specs.CoreFetches.{at_hash, open_in}
use Rattle.foyer_core.specs.Cores.{core_of, fetches_of, hashes_of}
use Rattle.foyer_core.specs.Inflight.{after_nothing, asked}
use Rattle.foyer_session.specs.Sessions.{session_of}
use Rattle.foyer_session.specs.Tokens.{numbers_of}
use Rattle.foyer_session.proofs.CoreLemmas.{alike_at, open_at}
use Rattle.foyer_session.proofs.EndTells.{asked_counted, nothing_waiting, some_so, taken_waiting}
use Rattle.foyer_session.proofs.StepLemmas.{owns_still}
use Rattle.foyer_session.proofs.WaitsLemmas.{still_waiting}
use Rattle.foyer_session.proofs.session.Session.fetch_or_take.Goals as goal

pub invariant_of-self-in-Fetch-1 : goal.invariant_of-self-in-Fetch-1
invariant_of-self-in-Fetch-1 g c =
    let s = c.args.self.now in
    let k : ℕ × g.row.K.Denot = (hashes_of s.core c.args.key.now, c.args.key.now) in
    let t = c.fetch_or_take.new.self in
    let so = some_so (asked (Some c.args.fetch) (open_in (fetches_of s.core) k))
    (rw c.in-Some-Fetch.field-0-is at c.in-Some-Fetch.ensures.answer) in
    record {
      owns = owns_still (core_of s.core) (core_of t) s.handles.items c.fetch_or_take.ensures.«core» s.owns;
      waits = taken_waiting g.K.PartialEq.eq (fetches_of s.core) (open_at s.core)
          (alike_at g.met.K.Eq.laws s.core) k c.args.fetch s.waiting so.0
          c.in-Some-Fetch.label so.1 so.2 (fetches_of t) c.in-Some-Fetch.ensures.opens s.waits;
      room = s.room;
    }

pub overflow_sub-self : goal.overflow_sub-self
overflow_sub-self g c =
    let s = c.args.self.now in
    let k : ℕ × g.row.K.Denot = (hashes_of s.core c.args.key.now, c.args.key.now) in
    let so = some_so (asked (Some c.args.fetch) (open_in (fetches_of s.core) k))
    (rw c.in-Some-Notifiers.field-0-is at c.in-Some-Notifiers.ensures.answer) in
    let few = asked_counted g.K.PartialEq.eq (fetches_of s.core) (open_at s.core)
    (alike_at g.met.K.Eq.laws s.core) k c.args.fetch s.waiting (Some so.0)
    so.1 s.waits in
    omega (arith, few, ap length so.2.1, c.in-Some-Notifiers.waiters.ok.0)

pub invariant_of-self-in-Some-Notifiers : goal.invariant_of-self-in-Some-Notifiers
invariant_of-self-in-Some-Notifiers g c =
    let s = c.args.self.now in
    let k : ℕ × g.row.K.Denot = (hashes_of s.core c.args.key.now, c.args.key.now) in
    let t = c.fetch_or_take.new.self in
    let so = some_so (asked (Some c.args.fetch) (open_in (fetches_of s.core) k))
    (rw c.in-Some-Notifiers.field-0-is at c.in-Some-Notifiers.ensures.answer) in
    let few = asked_counted g.K.PartialEq.eq (fetches_of s.core) (open_at s.core)
    (alike_at g.met.K.Eq.laws s.core) k c.args.fetch s.waiting (Some so.0)
    so.1 s.waits in
    record {
      owns = owns_still (core_of s.core) (core_of t) s.handles.items c.fetch_or_take.ensures.«core» s.owns;
      waits = nothing_waiting g.K.PartialEq.eq (fetches_of s.core) (open_at s.core)
          (alike_at g.met.K.Eq.laws s.core) k c.args.fetch s.waiting so.0 so.1
          so.2.0 (fetches_of t) _ c.in-Some-Notifiers.ensures.opens
          (omega (arith, few, ap length so.2.1, c.in-Some-Notifiers.waiters.ok.0)) s.waits;
      room = omega (arith, s.room);
    }
