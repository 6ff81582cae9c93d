use Rattle.foyer_core.specs.Cores.{core_of, fetches_of}
use Rattle.foyer_session.proofs.OwnLemmas.{owns_none}
use Rattle.foyer_session.proofs.WaitsLemmas.{none_wait}
use Rattle.foyer_session.proofs.session.Session.new.Goals as goal

pub invariant_of-result-clause-owns : goal.invariant_of-result-clause-owns
invariant_of-result-clause-owns g c = rw c.new.ensures.items (∣ owns_none (core_of c.args.core) ∣₁)

pub invariant_of-result-clause-waits : goal.invariant_of-result-clause-waits
invariant_of-result-clause-waits g c = ∣ none_wait (fetches_of c.args.core) c.requires.idle ∣₁
