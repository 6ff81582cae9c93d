use Rattle.std.proofs.Common.{refl}
use Rattle.std.proofs.Math.Logic.{∥∥₁_map}
use Rattle.foyer_core.specs.Cores.{core_of, fetches_of}
use Rattle.foyer_session.specs.Sessions.{meaning_of_session}
use Rattle.foyer_session.proofs.BulkLemmas.{cleared_owns, of_match}
use Rattle.foyer_session.proofs.StepLemmas.{owns_still}
use Rattle.foyer_session.proofs.WaitsLemmas.{still_waiting}
use Rattle.foyer_session.proofs.session.Session.clear.Goals as goal

pub invariant_of-self-clause-owns : goal.invariant_of-self-clause-owns
invariant_of-self-clause-owns g c =
    let s = c.args.self.now in
    let new = core_of c.clear.new.self in
    of_match c.clear.result c.clear.ensures.clears
    (λ leaves done. ∥∥₁_map s.owns
    (λ o. cleared_owns (meaning_of_session s) (core_of s.core) leaves.items new s.handles.items done o))
    (λ error kept. owns_still (core_of s.core) new s.handles.items kept.1 s.owns)

pub invariant_of-self-clause-waits : goal.invariant_of-self-clause-waits
invariant_of-self-clause-waits g c =
    (let s = c.args.self.now in still_waiting (fetches_of s.core) (fetches_of c.clear.new.self) s.waiting
    c.clear.ensures.fetches s.waits)

pub returns-in-Ok-clause-step : goal.returns-in-Ok-clause-step
returns-in-Ok-clause-step g c = rw (c.new.ensures.answer, c.new.ensures.leaves)
    (c.in-Ok.ensures.clears, ((refl, refl), c.clear.ensures.fetches))
