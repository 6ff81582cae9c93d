use Rattle.std.proofs.Common.{ap, arith, length, refl}
use Rattle.std.proofs.Math.Logic.{∥∥₁_map}
use Rattle.foyer_core.specs.Cores.{core_of, fetches_of}
use Rattle.foyer_session.specs.Sessions.{session_of, meaning_of_session}
use Rattle.foyer_session.specs.Step.{given}
use Rattle.foyer_session.proofs.HandLemmas.{one_longer}
use Rattle.foyer_session.proofs.OwnLemmas.{owned_held}
use Rattle.foyer_session.proofs.StepLemmas.{cloned_owns, clone_refused, session_same, owns_still}
use Rattle.foyer_session.proofs.WaitsLemmas.{still_waiting}
use Rattle.foyer_session.proofs.session.Session.clone_handle.Goals as goal

pub clone_held-requires-clause-owned : goal.clone_held-requires-clause-owned
clone_held-requires-clause-owned g c κs within =
    let s = c.args.self.now in
    owned_held (core_of s.core) s.handles.items c.args.number c.in-Some.entry.now s.owns
    (rw c.as_slice.ensures.value at c.in-Some.ensures.some)

pub invariant_of-self-in-Ok : goal.invariant_of-self-in-Ok
invariant_of-self-in-Ok g c =
    let s = c.args.self.now in
    let there = rw c.as_slice.ensures.value at c.in-Some.ensures.some in
    record {
      owns = rw c.hand_out-handle.ensures.handles (∥∥₁_map s.owns (λ o.
          cloned_owns (meaning_of_session s) (core_of s.core) (core_of c.clone_held.new.core) s.handles.items o
          c.args.number c.in-Some.entry.now c.in-Ok.clone there c.in-Ok.ensures.clones));
      waits = (let s = c.args.self.now in still_waiting (fetches_of s.core) (fetches_of c.clone_held.new.core)
          s.waiting c.clone_held.ensures.fetches s.waits);
      room = omega (
        arith,
        c.requires.room,
        ap length c.hand_out-handle.ensures.handles,
        one_longer s.handles.items (given c.in-Ok.clone),
        c.hand_out-handle.ensures.capacity,
        s.handles.ok.0,
        c.hand_out-handle.new.handles.ok.0,
      );
    }

pub invariant_of-self-in-Err-1 : goal.invariant_of-self-in-Err-1
invariant_of-self-in-Err-1 g c =
    let s = c.args.self.now in
    let same = clone_refused (core_of s.core) (core_of c.clone_held.new.core) c.in-Some.entry.now c.in-Err.error
    c.in-Err.ensures.clones in
    record {
      owns = owns_still (core_of s.core) (core_of c.clone_held.new.core) s.handles.items same s.owns;
      waits = (let s = c.args.self.now in still_waiting (fetches_of s.core) (fetches_of c.clone_held.new.core)
          s.waiting c.clone_held.ensures.fetches s.waits);
      room = s.room;
    }

pub returns-in-Ok-clause-step : goal.returns-in-Ok-clause-step
returns-in-Ok-clause-step g c =
    rw (c.new-in-Ok-2.ensures.answer, c.new-in-Ok-2.ensures.leaves) (
      c.in-Some.entry.now,
      c.in-Ok.clone,
      rw c.as_slice.ensures.value at c.in-Some.ensures.some,
      c.in-Ok.ensures.clones,
      record {
        numbered = c.hand_out-handle.ensures.number;
        tells = c.hand_out-handle.ensures.«record»;
        handles = c.hand_out-handle.ensures.handles;
        pieces = refl;
        fetches = c.clone_held.ensures.fetches;
      },
      c.new-in-Ok.ensures.items,
    )

pub returns-in-Err-clause-step : goal.returns-in-Err-clause-step
returns-in-Err-clause-step g c =
    let s = c.args.self.now in
    let same = clone_refused (core_of s.core) (core_of c.clone_held.new.core) c.in-Some.entry.now c.in-Err.error
    c.in-Err.ensures.clones in
    rw (c.new-in-Err-2.ensures.answer, c.new-in-Err-2.ensures.leaves) (
      c.in-Some.entry.now,
      rw c.as_slice.ensures.value at c.in-Some.ensures.some,
      c.in-Err.ensures.clones,
      c.new-in-Err.ensures.items,
      session_same (session_of s) (core_of c.clone_held.new.core) (fetches_of c.clone_held.new.core) same
          c.clone_held.ensures.fetches,
    )
