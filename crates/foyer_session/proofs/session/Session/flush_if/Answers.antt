use Rattle.std.proofs.Common.{refl, rules}
use Rattle.std.proofs.Math.Logic.{∥∥₁_map}
use Rattle.foyer_core.specs.Cores.{core_of, fetches_of}
use Rattle.foyer_session.specs.Sessions.{meaning_of_session}
use Rattle.foyer_session.proofs.BulkLemmas.{flushed_owns, flushes_more, of_match}
use Rattle.foyer_session.proofs.StepLemmas.{owns_still}
use Rattle.foyer_session.proofs.WaitsLemmas.{still_waiting}
use Rattle.foyer_session.proofs.session.Session.flush_if.Goals as goal

pub invariant_of-self-clause-owns : goal.invariant_of-self-clause-owns
invariant_of-self-clause-owns g c =
    let s = c.args.self.now in
    let new = core_of c.flush_if.new.self in
    of_match c.flush_if.result c.flush_if.ensures.evicts
    (λ leaves done. ∥∥₁_map s.owns
    (λ o. flushed_owns (meaning_of_session s) (core_of s.core) leaves.items new s.handles.items _ done o))
    (λ error kept. owns_still (core_of s.core) new s.handles.items kept.1 s.owns)

pub invariant_of-self-clause-waits : goal.invariant_of-self-clause-waits
invariant_of-self-clause-waits g c =
    (let s = c.args.self.now in still_waiting (fetches_of s.core) (fetches_of c.flush_if.new.self) s.waiting
    c.flush_if.ensures.fetches s.waits)

pub returns-in-Ok-clause-step : goal.returns-in-Ok-clause-step
returns-in-Ok-clause-step g c =
    let s = c.args.self.now in
    let done = flushes_more (meaning_of_session s) _ (g.Q.Predicate.picks c.args.predicate.now)
    (λ key value answer said. let met = said.says.met in let shows = said.shows in search rules)
    (core_of s.core) c.in-Ok.leaves.items (core_of c.flush_if.new.self) c.in-Ok.ensures.evicts in
    rw (c.new.ensures.answer, c.new.ensures.leaves) (done, ((refl, refl), c.flush_if.ensures.fetches))
