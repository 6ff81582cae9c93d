use Rattle.std.proofs.Common.{refl}
use Rattle.std.proofs.Math.Logic.{∥∥₁_map}
use Rattle.foyer_core.specs.Cores.{core_of, fetches_of}
use Rattle.foyer_session.specs.Sessions.{meaning_of_session}
use Rattle.foyer_session.proofs.BulkLemmas.{evicted_owns, some_evicted_owns, of_match}
use Rattle.foyer_session.proofs.WaitsLemmas.{still_waiting}
use Rattle.foyer_session.proofs.session.Session.evict_all.Goals as goal
use Rattle.foyer_core.specs.State.{at_moment}

pub invariant_of-self-clause-owns : goal.invariant_of-self-clause-owns
invariant_of-self-clause-owns g c =
    let s = c.args.self.now in
    let new = core_of c.evict_all.new.self in
    of_match c.evict_all.result c.evict_all.ensures.evicts
    (λ leaves done. ∥∥₁_map s.owns
    (λ o. evicted_owns (at_moment c.args.now (meaning_of_session s)) (core_of s.core) leaves.items new s.handles.items done o))
    (λ refused some. ∥∥₁_map s.owns
    (λ o. some_evicted_owns (at_moment c.args.now (meaning_of_session s)) (core_of s.core) refused.leaves.items new s.handles.items
    some.1 o))

pub invariant_of-self-clause-waits : goal.invariant_of-self-clause-waits
invariant_of-self-clause-waits g c =
    (let s = c.args.self.now in still_waiting (fetches_of s.core) (fetches_of c.evict_all.new.self) s.waiting
    c.evict_all.ensures.fetches s.waits)

pub returns-in-Ok-clause-step : goal.returns-in-Ok-clause-step
returns-in-Ok-clause-step g c = rw (c.new.ensures.answer, c.new.ensures.leaves)
    (c.in-Ok.ensures.evicts, ((refl, refl), c.evict_all.ensures.fetches))

pub returns-in-Err-clause-step : goal.returns-in-Err-clause-step
returns-in-Err-clause-step g c = rw
    (c.new-in-Err.ensures.answer, c.new-in-Err.ensures.leaves, c.in-Err.ensures.evicts.0)
    (c.in-Err.ensures.evicts.1, ((refl, refl), c.evict_all.ensures.fetches))
