use Rattle.std.proofs.Common.{◌≡◌, ◌∙◌, ℕ, ap, length, refl, arith}
use Rattle.std.proofs.Math.Logic.{∥∥₁_elim, ∥∥₁_map}
use Rattle.std.proofs.Props.{props}
use Rattle.foyer_core.specs.Cores.{core_of, fetches_of, hashes_of}
use Rattle.foyer_session.specs.Sessions.{session_of, meaning_of_session}
use Rattle.foyer_session.specs.Step.{given}
use Rattle.foyer_session.proofs.CoreLemmas.{alike_at, fetches_long, kept_at, open_at}
use Rattle.foyer_session.proofs.FoundLemmas.{found_hash}
use Rattle.foyer_session.proofs.HandLemmas.{one_longer}
use Rattle.foyer_session.proofs.LookLemmas.{led_core, led_waits, looked_hit, looked_refused, waited_core, waited_waits}
use Rattle.foyer_session.proofs.StepLemmas.{got_owns, owns_still, session_same}
use Rattle.foyer_session.proofs.WaitsLemmas.{still_waiting}
use Rattle.foyer_session.proofs.session.Session.get_or_fetch.Goals as goal

pub invariant_of-self : goal.invariant_of-self
invariant_of-self g c =
    let s = c.args.self.now in
    let k : ℕ × g.row.K.Denot = (hashes_of s.core c.args.key.now, c.args.key.now) in
    let t = c.get_or_enqueue.new.self in
    let same = looked_refused (meaning_of_session s) c.args.now (core_of s.core) (fetches_of s.core) (core_of t) (fetches_of t) k
    c.args.later c.in-Err.error c.in-Err.ensures.looked_up in
    record {
      owns = owns_still (core_of s.core) (core_of t) s.handles.items same.0 s.owns;
      waits = still_waiting (fetches_of s.core) (fetches_of t) s.waiting same.1 s.waits;
      room = s.room;
    }

pub returns-in-Err-clause-step : goal.returns-in-Err-clause-step
returns-in-Err-clause-step g c =
    let s = c.args.self.now in
    let k : ℕ × g.row.K.Denot = (hashes_of s.core c.args.key.now, c.args.key.now) in
    let t = c.get_or_enqueue.new.self in
    let same = looked_refused (meaning_of_session s) c.args.now (core_of s.core) (fetches_of s.core) (core_of t) (fetches_of t) k
    c.args.later c.in-Err.error c.in-Err.ensures.looked_up in
    rw (c.new-in-Err.ensures.answer, c.new-in-Err.ensures.leaves) (
      c.in-Err.ensures.looked_up,
      c.new.ensures.items,
      session_same (session_of s) (core_of t) (fetches_of t) same.0 same.1,
    )

pub invariant_of-self-in-Hit : goal.invariant_of-self-in-Hit
invariant_of-self-in-Hit g c =
    let s = c.args.self.now in
    let m = meaning_of_session s in
    let k : ℕ × g.row.K.Denot = (hashes_of s.core c.args.key.now, c.args.key.now) in
    let t = c.get_or_enqueue.new.self in
    let looked = looked_hit m c.args.now (core_of s.core) (fetches_of s.core) (core_of t) (fetches_of t) k c.args.later
    c.in-Hit.entry (rw c.in-Hit.is at c.in-Ok.ensures.looked_up) in
    let at = looked.0 in
    record {
      owns = rw c.hand_out-handle.ensures.handles
          (∥∥₁_elim (kept_at s.core k.0 at.before at.there) (hlevel props) (λ kept. ∥∥₁_map s.owns (λ o.
          got_owns m (core_of s.core) (core_of t) s.handles.items o c.args.now k c.in-Hit.entry at
          (found_hash m at.before kept c.args.now k c.in-Hit.entry at.after at.stepped))));
      waits = still_waiting (fetches_of s.core) (fetches_of t) s.waiting looked.1 s.waits;
      room = omega (
        arith,
        c.requires.room,
        ap length c.hand_out-handle.ensures.handles,
        one_longer s.handles.items (given c.in-Hit.entry),
        c.hand_out-handle.ensures.capacity,
        s.handles.ok.0,
        c.hand_out-handle.new.handles.ok.0,
      );
    }

pub returns-in-Hit-clause-step : goal.returns-in-Hit-clause-step
returns-in-Hit-clause-step g c =
    let s = c.args.self.now in
    let k : ℕ × g.row.K.Denot = (hashes_of s.core c.args.key.now, c.args.key.now) in
    let t = c.get_or_enqueue.new.self in
    let at = rw c.in-Hit.is at c.in-Ok.ensures.looked_up in
    let looked = looked_hit (meaning_of_session s) c.args.now (core_of s.core) (fetches_of s.core) (core_of t) (fetches_of t) k
    c.args.later c.in-Hit.entry at in
    rw (c.new-in-Hit-2.ensures.answer, c.new-in-Hit-2.ensures.leaves) (
      c.in-Hit.entry,
      at,
      record {
        numbered = c.hand_out-handle.ensures.number;
        tells = c.hand_out-handle.ensures.«record»;
        handles = c.hand_out-handle.ensures.handles;
        pieces = refl;
        fetches = looked.1;
      },
      c.new-in-Hit.ensures.items,
    )

pub invariant_of-self-in-Lead : goal.invariant_of-self-in-Lead
invariant_of-self-in-Lead g c =
    let s = c.args.self.now in
    let m = meaning_of_session s in
    let k : ℕ × g.row.K.Denot = (hashes_of s.core c.args.key.now, c.args.key.now) in
    let t = c.get_or_enqueue.new.self in
    let lead = c.in-Lead in
    let at = rw lead.is at c.in-Ok.ensures.looked_up in
    record {
      owns = owns_still (core_of s.core) (core_of t) s.handles.items
          (led_core m c.args.now (core_of s.core) (fetches_of s.core) (core_of t) (fetches_of t) k c.args.later lead.fetch
          lead.token _ at) s.owns;
      waits = led_waits m c.args.now (core_of s.core) (fetches_of s.core) (core_of t) (fetches_of t) k c.args.later
          g.met.K.Eq.laws (open_at s.core) (alike_at g.met.K.Eq.laws s.core) (fetches_long s.core) s.waiting s.waits
          lead.fetch lead.token _ at;
      room = omega (arith, c.requires.room);
    }

pub returns-in-Lead-clause-step : goal.returns-in-Lead-clause-step
returns-in-Lead-clause-step g c =
    rw (c.new-in-Lead-2.ensures.answer, c.new-in-Lead-2.ensures.leaves)
    (_, rw c.in-Lead.is at c.in-Ok.ensures.looked_up, (refl, refl), c.new-in-Lead.ensures.items)

pub invariant_of-self-in-Wait : goal.invariant_of-self-in-Wait
invariant_of-self-in-Wait g c =
    let s = c.args.self.now in
    let m = meaning_of_session s in
    let k : ℕ × g.row.K.Denot = (hashes_of s.core c.args.key.now, c.args.key.now) in
    let t = c.get_or_enqueue.new.self in
    let wait = c.in-Wait in
    let at = rw wait.is at c.in-Ok.ensures.looked_up in
    record {
      owns = owns_still (core_of s.core) (core_of t) s.handles.items
          (waited_core m c.args.now (core_of s.core) (fetches_of s.core) (core_of t) (fetches_of t) k c.args.later wait.token at)
          s.owns;
      waits = waited_waits m c.args.now (core_of s.core) (fetches_of s.core) (core_of t) (fetches_of t) k c.args.later
          g.met.K.Eq.laws (open_at s.core) (alike_at g.met.K.Eq.laws s.core) (fetches_long s.core) s.waiting s.waits
          wait.token at;
      room = omega (arith, c.requires.room);
    }

pub returns-in-Wait-clause-step : goal.returns-in-Wait-clause-step
returns-in-Wait-clause-step g c =
    rw (c.new-in-Wait-2.ensures.answer, c.new-in-Wait-2.ensures.leaves)
    (rw c.in-Wait.is at c.in-Ok.ensures.looked_up, (refl, refl), c.new-in-Wait.ensures.items)
