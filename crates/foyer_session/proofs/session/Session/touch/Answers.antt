use Rattle.std.proofs.Common.{refl}
use Rattle.std.proofs.Math.Logic.{∥∥₁_map}
use Rattle.foyer_core.specs.Cores.{core_of, fetches_of}
use Rattle.foyer_session.specs.Sessions.{session_of, meaning_of_session}
use Rattle.foyer_session.proofs.StepLemmas.{touched_owns, touch_missing, touch_refused, session_same}
use Rattle.foyer_session.proofs.WaitsLemmas.{still_waiting}
use Rattle.foyer_session.proofs.session.Session.touch.Goals as goal

pub invariant_of-self-clause-owns : goal.invariant_of-self-clause-owns
invariant_of-self-clause-owns g c =
    let s = c.args.self.now in
    let hash = g.S.HashBuilder.hash_of s.core.hash_builder (g.K.Hash.hash_input c.args.key.now) in
    ∥∥₁_map s.owns
    (λ o. touched_owns (meaning_of_session s) (core_of s.core) (core_of c.touch.new.self) s.handles.items o c.args.now
    (hash, c.args.key.now) c.touch.result c.touch.ensures.touches)

pub invariant_of-self-clause-waits : goal.invariant_of-self-clause-waits
invariant_of-self-clause-waits g c =
    (let s = c.args.self.now in still_waiting (fetches_of s.core) (fetches_of c.touch.new.self) s.waiting
    c.touch.ensures.fetches s.waits)

pub returns-in-Ok-true-clause-step : goal.returns-in-Ok-true-clause-step
returns-in-Ok-true-clause-step g c =
    rw (c.new-in-Ok-true.ensures.answer, c.new-in-Ok-true.ensures.leaves) (
      rw c.in-Ok-true.field-0-test at c.in-Ok-true.ensures.touches,
      c.new.ensures.items,
      ((refl, refl), c.touch.ensures.fetches),
    )

pub returns-in-Ok-false-clause-step : goal.returns-in-Ok-false-clause-step
returns-in-Ok-false-clause-step g c =
    let s = c.args.self.now in
    let hash = g.S.HashBuilder.hash_of s.core.hash_builder (g.K.Hash.hash_input c.args.key.now) in
    let gone = touch_missing (meaning_of_session s) c.args.now (core_of s.core) (core_of c.touch.new.self) (hash, c.args.key.now)
    (rw c.in-Ok-false.field-0-test at c.in-Ok-false.ensures.touches) in
    rw (c.new-in-Ok-false-2.ensures.answer, c.new-in-Ok-false-2.ensures.leaves) (
      gone.0,
      c.new-in-Ok-false.ensures.items,
      session_same (session_of s) (core_of c.touch.new.self) (fetches_of c.touch.new.self) gone.1
          c.touch.ensures.fetches,
    )

pub returns-in-Err-clause-step : goal.returns-in-Err-clause-step
returns-in-Err-clause-step g c =
    let s = c.args.self.now in
    let hash = g.S.HashBuilder.hash_of s.core.hash_builder (g.K.Hash.hash_input c.args.key.now) in
    let same = touch_refused (meaning_of_session s) c.args.now (core_of s.core) (core_of c.touch.new.self) (hash, c.args.key.now)
    c.in-Err.error c.in-Err.ensures.touches in
    rw (c.new-in-Err-2.ensures.answer, c.new-in-Err-2.ensures.leaves) (
      c.in-Err.ensures.touches,
      c.new-in-Err.ensures.items,
      session_same (session_of s) (core_of c.touch.new.self) (fetches_of c.touch.new.self) same
          c.touch.ensures.fetches,
    )
