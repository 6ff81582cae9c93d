use Rattle.std.proofs.Common.{arith, refl}
use Rattle.std.proofs.Math.Logic.{∥∥₁_elim, ∥∥₁_map}
use Rattle.std.proofs.Props.{props}
use Rattle.foyer_core.specs.Cores.{core_of, fetches_of}
use Rattle.foyer_session.specs.Sessions.{session_of, meaning_of_session}
use Rattle.foyer_session.proofs.CoreLemmas.{kept_at}
use Rattle.foyer_session.proofs.FoundLemmas.{removed_hash}
use Rattle.foyer_session.proofs.StepLemmas.{removed_owns, remove_missing, remove_refused, session_same, owns_still, empty_of}
use Rattle.foyer_session.proofs.WaitsLemmas.{still_waiting}
use Rattle.foyer_session.proofs.session.Session.remove.Goals as goal

pub invariant_of-self-clause-owns : goal.invariant_of-self-clause-owns
invariant_of-self-clause-owns g c =
    let s = c.args.self.now in
    let m = meaning_of_session s in
    let hash = g.S.HashBuilder.hash_of s.core.hash_builder (g.K.Hash.hash_input c.args.key.now) in
    let at = rw c.in-Ok-Some.field-0-is at c.in-Ok-Some.ensures.removes in
    rw c.hand_out-handle.ensures.handles
    (∥∥₁_elim (kept_at s.core hash at.before at.there) (hlevel props) (λ k. ∥∥₁_map s.owns (λ o.
    removed_owns m (core_of s.core) (core_of c.remove.new.self) s.handles.items o (hash, c.args.key.now)
    c.in-Ok-Some.entry c.in-Ok-Some.left at
    (removed_hash m at.before k (hash, c.args.key.now) c.in-Ok-Some.entry c.in-Ok-Some.left at.after at.stepped))))

pub invariant_of-self-clause-waits : goal.invariant_of-self-clause-waits
invariant_of-self-clause-waits g c =
    (let s = c.args.self.now in still_waiting (fetches_of s.core) (fetches_of c.remove.new.self) s.waiting
    c.remove.ensures.fetches s.waits)

pub returns-in-Ok-Some-clause-step : goal.returns-in-Ok-Some-clause-step
returns-in-Ok-Some-clause-step g c =
    let at = rw c.in-Ok-Some.field-0-is at c.in-Ok-Some.ensures.removes in
    rw (c.new.ensures.answer, c.new.ensures.leaves) (
      c.in-Ok-Some.entry,
      c.in-Ok-Some.left,
      at,
      record {
        numbered = c.hand_out-handle.ensures.number;
        tells = c.hand_out-handle.ensures.«record»;
        handles = c.hand_out-handle.ensures.handles;
        pieces = refl;
        fetches = c.remove.ensures.fetches;
      },
      c.with_leave-leaves.ensures,
    )

pub invariant_of-self-in-Ok-None : goal.invariant_of-self-in-Ok-None
invariant_of-self-in-Ok-None g c =
    let s = c.args.self.now in
    let hash = g.S.HashBuilder.hash_of s.core.hash_builder (g.K.Hash.hash_input c.args.key.now) in
    let gone = remove_missing (meaning_of_session s) (core_of s.core) (core_of c.remove.new.self)
    (hash, c.args.key.now) (rw c.in-Ok-None.field-0-is at c.in-Ok-None.ensures.removes) in
    record {
      owns = owns_still (core_of s.core) (core_of c.remove.new.self) s.handles.items gone.1 s.owns;
      waits = (let s = c.args.self.now in still_waiting (fetches_of s.core) (fetches_of c.remove.new.self) s.waiting
          c.remove.ensures.fetches s.waits);
      room = s.room;
    }

pub invariant_of-self-in-Err-1 : goal.invariant_of-self-in-Err-1
invariant_of-self-in-Err-1 g c =
    let s = c.args.self.now in
    let hash = g.S.HashBuilder.hash_of s.core.hash_builder (g.K.Hash.hash_input c.args.key.now) in
    let same = remove_refused (meaning_of_session s) (core_of s.core) (core_of c.remove.new.self)
    (hash, c.args.key.now) c.in-Err.error c.in-Err.ensures.removes in
    record {
      owns = owns_still (core_of s.core) (core_of c.remove.new.self) s.handles.items same s.owns;
      waits = (let s = c.args.self.now in still_waiting (fetches_of s.core) (fetches_of c.remove.new.self) s.waiting
          c.remove.ensures.fetches s.waits);
      room = s.room;
    }

pub returns-in-Ok-None-clause-step : goal.returns-in-Ok-None-clause-step
returns-in-Ok-None-clause-step g c =
    let s = c.args.self.now in
    let hash = g.S.HashBuilder.hash_of s.core.hash_builder (g.K.Hash.hash_input c.args.key.now) in
    let gone = remove_missing (meaning_of_session s) (core_of s.core) (core_of c.remove.new.self)
    (hash, c.args.key.now) (rw c.in-Ok-None.field-0-is at c.in-Ok-None.ensures.removes) in
    rw (c.new-in-Ok-None.ensures.answer, c.new-in-Ok-None.ensures.leaves) (
      gone.0,
      empty_of c.args.leaves.items (omega (arith, c.args.leaves.ok.0, c.requires.empty)),
      session_same (session_of s) (core_of c.remove.new.self) (fetches_of c.remove.new.self) gone.1
          c.remove.ensures.fetches,
    )

pub returns-in-Err-clause-step : goal.returns-in-Err-clause-step
returns-in-Err-clause-step g c =
    let s = c.args.self.now in
    let hash = g.S.HashBuilder.hash_of s.core.hash_builder (g.K.Hash.hash_input c.args.key.now) in
    let same = remove_refused (meaning_of_session s) (core_of s.core) (core_of c.remove.new.self)
    (hash, c.args.key.now) c.in-Err.error c.in-Err.ensures.removes in
    rw (c.new-in-Err.ensures.answer, c.new-in-Err.ensures.leaves) (
      c.in-Err.ensures.removes,
      empty_of c.args.leaves.items (omega (arith, c.args.leaves.ok.0, c.requires.empty)),
      session_same (session_of s) (core_of c.remove.new.self) (fetches_of c.remove.new.self) same
          c.remove.ensures.fetches,
    )
