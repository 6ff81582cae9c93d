use Rattle.std.proofs.Common.{refl}
use Rattle.std.proofs.Math.Logic.{∥∥₁_elim, ∥∥₁_map}
use Rattle.std.proofs.Props.{props}
use Rattle.foyer_core.specs.Cores.{core_of, fetches_of}
use Rattle.foyer_session.specs.Sessions.{session_of, meaning_of_session}
use Rattle.foyer_session.proofs.CoreLemmas.{kept_at}
use Rattle.foyer_session.proofs.FoundLemmas.{found_hash}
use Rattle.foyer_session.proofs.StepLemmas.{got_owns, get_missing, get_refused, session_same, owns_still}
use Rattle.foyer_session.proofs.WaitsLemmas.{still_waiting}
use Rattle.foyer_session.proofs.session.Session.get.Goals as goal

pub invariant_of-self-clause-owns : goal.invariant_of-self-clause-owns
invariant_of-self-clause-owns g c =
    let s = c.args.self.now in
    let m = meaning_of_session s in
    let hash = g.S.HashBuilder.hash_of s.core.hash_builder (g.K.Hash.hash_input c.args.key.now) in
    let at = rw c.in-Ok-Some.field-0-is at c.in-Ok-Some.ensures.gets in
    rw c.hand_out-handle.ensures.handles
    (∥∥₁_elim (kept_at s.core hash at.before at.there) (hlevel props) (λ k. ∥∥₁_map s.owns (λ o.
    got_owns m (core_of s.core) (core_of c.get.new.self) s.handles.items o c.args.now (hash, c.args.key.now) c.in-Ok-Some.entry at
    (found_hash m at.before k c.args.now (hash, c.args.key.now) c.in-Ok-Some.entry at.after at.stepped))))

pub invariant_of-self-clause-waits : goal.invariant_of-self-clause-waits
invariant_of-self-clause-waits g c =
    (let s = c.args.self.now in still_waiting (fetches_of s.core) (fetches_of c.get.new.self) s.waiting
    c.get.ensures.fetches s.waits)

pub returns-in-Ok-Some-clause-step : goal.returns-in-Ok-Some-clause-step
returns-in-Ok-Some-clause-step g c =
    let at = rw c.in-Ok-Some.field-0-is at c.in-Ok-Some.ensures.gets in
    rw (c.new-in-Ok-Some.ensures.answer, c.new-in-Ok-Some.ensures.leaves) (
      c.in-Ok-Some.entry,
      at,
      record {
        numbered = c.hand_out-handle.ensures.number;
        tells = c.hand_out-handle.ensures.«record»;
        handles = c.hand_out-handle.ensures.handles;
        pieces = refl;
        fetches = c.get.ensures.fetches;
      },
      c.new.ensures.items,
    )

pub invariant_of-self-in-Ok-None : goal.invariant_of-self-in-Ok-None
invariant_of-self-in-Ok-None g c =
    let s = c.args.self.now in
    let hash = g.S.HashBuilder.hash_of s.core.hash_builder (g.K.Hash.hash_input c.args.key.now) in
    let gone = get_missing (meaning_of_session s) c.args.now (core_of s.core) (core_of c.get.new.self) (hash, c.args.key.now)
    (rw c.in-Ok-None.field-0-is at c.in-Ok-None.ensures.gets) in
    record {
      owns = owns_still (core_of s.core) (core_of c.get.new.self) s.handles.items gone.1 s.owns;
      waits = (let s = c.args.self.now in still_waiting (fetches_of s.core) (fetches_of c.get.new.self) s.waiting
          c.get.ensures.fetches s.waits);
      room = s.room;
    }

pub invariant_of-self-in-Err-1 : goal.invariant_of-self-in-Err-1
invariant_of-self-in-Err-1 g c =
    let s = c.args.self.now in
    let hash = g.S.HashBuilder.hash_of s.core.hash_builder (g.K.Hash.hash_input c.args.key.now) in
    let same = get_refused (meaning_of_session s) c.args.now (core_of s.core) (core_of c.get.new.self) (hash, c.args.key.now)
    c.in-Err.error c.in-Err.ensures.gets in
    record {
      owns = owns_still (core_of s.core) (core_of c.get.new.self) s.handles.items same s.owns;
      waits = (let s = c.args.self.now in still_waiting (fetches_of s.core) (fetches_of c.get.new.self) s.waiting
          c.get.ensures.fetches s.waits);
      room = s.room;
    }

pub returns-in-Ok-None-clause-step : goal.returns-in-Ok-None-clause-step
returns-in-Ok-None-clause-step g c =
    let s = c.args.self.now in
    let hash = g.S.HashBuilder.hash_of s.core.hash_builder (g.K.Hash.hash_input c.args.key.now) in
    let gone = get_missing (meaning_of_session s) c.args.now (core_of s.core) (core_of c.get.new.self) (hash, c.args.key.now)
    (rw c.in-Ok-None.field-0-is at c.in-Ok-None.ensures.gets) in
    rw (c.new-in-Ok-None-2.ensures.answer, c.new-in-Ok-None-2.ensures.leaves) (
      gone.0,
      c.new-in-Ok-None.ensures.items,
      session_same (session_of s) (core_of c.get.new.self)
          (fetches_of c.get.new.self) gone.1 c.get.ensures.fetches,
    )

pub returns-in-Err-clause-step : goal.returns-in-Err-clause-step
returns-in-Err-clause-step g c =
    let s = c.args.self.now in
    let hash = g.S.HashBuilder.hash_of s.core.hash_builder (g.K.Hash.hash_input c.args.key.now) in
    let same = get_refused (meaning_of_session s) c.args.now (core_of s.core) (core_of c.get.new.self) (hash, c.args.key.now)
    c.in-Err.error c.in-Err.ensures.gets in
    rw (c.new-in-Err-2.ensures.answer, c.new-in-Err-2.ensures.leaves) (
      c.in-Err.ensures.gets,
      c.new-in-Err.ensures.items,
      session_same (session_of s) (core_of c.get.new.self) (fetches_of c.get.new.self) same c.get.ensures.fetches,
    )
