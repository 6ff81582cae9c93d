use Rattle.std.proofs.Common.{refl}
use Rattle.std.proofs.Math.Logic.{∥∥₁_map}
use Rattle.foyer_core.specs.Cores.{core_of, fetches_of}
use Rattle.foyer_session.specs.Sessions.{meaning_of_session}
use Rattle.foyer_session.proofs.BulkLemmas.{resized_owns, some_resized_owns, of_match}
use Rattle.foyer_session.proofs.WaitsLemmas.{still_waiting}
use Rattle.foyer_session.proofs.session.Session.resize.Goals as goal
use Rattle.foyer_core.specs.State.{at_moment}
use Rattle.foyer_core.specs.CoreBulk.{InTurn, InTurnUntil, EvictsToCapacity, EvictingToCapacity}
use Rattle.foyer_core.proofs.MomentLaws.{resized_at}

pub invariant_of-self-clause-owns : goal.invariant_of-self-clause-owns
invariant_of-self-clause-owns g c =
    let s = c.args.self.now in
    let m = at_moment c.args.now (meaning_of_session s) in
    let new = core_of c.resize.new.self in
    of_match c.resize.result c.resize.ensures.resizes
    (λ leaves done. ∥∥₁_map s.owns
    (λ o. resized_owns m c.args.capacity (core_of s.core) leaves.items new s.handles.items
    (resized_at (meaning_of_session s) c.args.now c.args.capacity (InTurn (EvictsToCapacity m)) (core_of s.core)
    leaves.items new done.shared done.shares done.evicted) o))
    (λ refused some. ∥∥₁_map s.owns
    (λ o. some_resized_owns m c.args.capacity (core_of s.core) refused.leaves.items new s.handles.items
    (resized_at (meaning_of_session s) c.args.now c.args.capacity
    (InTurnUntil (EvictsToCapacity m) (EvictingToCapacity m)) (core_of s.core) refused.leaves.items new
    some.1.shared some.1.shares some.1.evicted) o))

pub invariant_of-self-clause-waits : goal.invariant_of-self-clause-waits
invariant_of-self-clause-waits g c =
    (let s = c.args.self.now in still_waiting (fetches_of s.core) (fetches_of c.resize.new.self) s.waiting
    c.resize.ensures.fetches s.waits)

pub returns-in-Ok-clause-step : goal.returns-in-Ok-clause-step
returns-in-Ok-clause-step g c = rw (c.new.ensures.answer, c.new.ensures.leaves)
    (c.in-Ok.ensures.resizes, ((refl, refl), c.resize.ensures.fetches))

pub returns-in-Err-clause-step : goal.returns-in-Err-clause-step
returns-in-Err-clause-step g c = rw
    (c.new-in-Err.ensures.answer, c.new-in-Err.ensures.leaves, c.in-Err.ensures.resizes.0)
    (c.in-Err.ensures.resizes.1, ((refl, refl), c.resize.ensures.fetches))
