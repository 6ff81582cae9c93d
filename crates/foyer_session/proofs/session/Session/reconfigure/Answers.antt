use Rattle.std.proofs.Common.{refl, ap}
use Rattle.std.proofs.Math.Logic.{∥∥₁_map}
use Rattle.std.specs.Prelude.{is_ok}
use Rattle.foyer_core.specs.Cores.{core_of, fetches_of}
use Rattle.foyer_session.specs.Sessions.{meaning_of_session, session_of}
use Rattle.foyer_session.proofs.BulkLemmas.{configured_done, configured_owns, configured_refused, of_match}
use Rattle.foyer_session.proofs.StepLemmas.{owns_still, session_same}
use Rattle.foyer_session.proofs.WaitsLemmas.{still_waiting}
use Rattle.foyer_session.proofs.session.Session.reconfigure.Goals as goal

pub invariant_of-self-clause-owns : goal.invariant_of-self-clause-owns
invariant_of-self-clause-owns g c =
    let s = c.args.self.now in
    let new = core_of c.reconfigure.new.self in
    of_match c.reconfigure.result c.reconfigure.ensures.configured
    (λ _ done. ∥∥₁_map s.owns
    (λ o. configured_owns (meaning_of_session s) c.args.config.now (core_of s.core) new s.handles.items done o))
    (λ _ same. owns_still (core_of s.core) new s.handles.items same s.owns)

pub invariant_of-self-clause-waits : goal.invariant_of-self-clause-waits
invariant_of-self-clause-waits g c =
    (let s = c.args.self.now in still_waiting (fetches_of s.core) (fetches_of c.reconfigure.new.self) s.waiting
    c.reconfigure.ensures.fetches s.waits)

pub returns-in-Ok-clause-step : goal.returns-in-Ok-clause-step
returns-in-Ok-clause-step g c =
    let s = c.args.self.now in
    let did = c.reconfigure.ensures in
    rw (c.new-in-Ok.ensures.answer, c.new-in-Ok.ensures.leaves) (
      configured_done (meaning_of_session s) c.args.config.now (core_of s.core).shards c.reconfigure.result did.wrong
          did.accepted did.refused (ap is_ok c.in-Ok.is),
      c.in-Ok.ensures.configured,
      c.new.ensures.items,
      ((refl, refl), did.fetches),
    )

pub returns-in-Err-clause-step : goal.returns-in-Err-clause-step
returns-in-Err-clause-step g c =
    let s = c.args.self.now in
    let did = c.reconfigure.ensures in
    rw (c.new-in-Err-2.ensures.answer, c.new-in-Err-2.ensures.leaves) (
      configured_refused (meaning_of_session s) c.args.config.now (core_of s.core).shards c.reconfigure.result did.wrong
          did.accepted did.refused c.in-Err.error c.in-Err.is,
      c.new-in-Err.ensures.items,
      session_same (session_of s) (core_of c.reconfigure.new.self) (fetches_of c.reconfigure.new.self)
          c.in-Err.ensures.configured did.fetches,
    )
